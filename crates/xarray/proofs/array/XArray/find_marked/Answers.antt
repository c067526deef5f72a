use Rattle.std.proofs.Common.{option_map}
use Rattle.xarray.specs.MarkedArray.{found_of, has_mark, lowest}
use Rattle.xarray.proofs.ArrayLemmas.{told}
use Rattle.xarray.proofs.array.XArray.find_marked.Goals as goal

pub returns : goal.returns
returns c = told c.self.inside.ranged c.self.inside.ready c.args.self.now c.self.view_is (λ m. option_map found_of (lowest (has_mark c.args.mark) m c.args.from c.args.to)) c.find_marked.result c.find_marked.ensures
