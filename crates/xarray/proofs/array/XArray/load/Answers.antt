use Rattle.std.proofs.Common.{option_map}
use Rattle.xarray.specs.MarkedArray.{entry_at}
use Rattle.xarray.proofs.ArrayLemmas.{told}
use Rattle.xarray.proofs.array.XArray.load.Goals as goal

pub returns : goal.returns
returns c = told c.self.inside.ranged c.self.inside.ready c.args.self.now c.self.view_is (λ m. option_map (λ e. e.1.value) (entry_at m c.args.index)) c.load.result c.load.ensures
