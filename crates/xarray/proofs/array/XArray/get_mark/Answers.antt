use Rattle.xarray.specs.MarkedArray.{entry_at, is_marked}
use Rattle.xarray.proofs.ArrayLemmas.{told}
use Rattle.xarray.proofs.array.XArray.get_mark.Goals as goal

pub returns : goal.returns
returns c = told c.self.inside.ranged c.self.inside.ready c.args.self.now c.self.view_is (λ m. is_marked c.args.mark (entry_at m c.args.index)) c.get_mark.result c.get_mark.ensures
