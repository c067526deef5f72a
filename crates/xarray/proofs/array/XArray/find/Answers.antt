use Rattle.std.proofs.Common.{option_map}
use Rattle.xarray.specs.MarkedArray.{found_of, is_any, lowest}
use Rattle.xarray.proofs.ArrayLemmas.{told}
use Rattle.xarray.proofs.array.XArray.find.Goals as goal

pub returns : goal.returns
returns c = told c.self.inside.ranged c.self.inside.ready c.args.self.now c.self.view_is (λ m. option_map found_of (lowest is_any m c.args.from c.args.to)) c.find.result c.find.ensures
