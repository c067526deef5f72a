use Rattle.std.proofs.Common.{false}
use Rattle.xarray.specs.MarkedArray.{remarked}
use Rattle.xarray.proofs.ArrayLemmas.{changed-is}
use Rattle.xarray.proofs.array.XArray.clear_mark.Goals as goal

pub returns : goal.returns
returns c = changed-is c.self.inside.ranged c.self.inside.ready c.args.self.now c.self.view_is (λ m. remarked m c.args.index c.args.mark false) c.clear_mark.new.self c.clear_mark.ensures
