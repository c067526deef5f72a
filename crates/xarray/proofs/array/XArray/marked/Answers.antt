use Rattle.std.specs.List.{list_any}
use Rattle.std.specs.FinMap as map
use Rattle.xarray.specs.MarkedArray.{has_mark}
use Rattle.xarray.proofs.ArrayLemmas.{told}
use Rattle.xarray.proofs.array.XArray.marked.Goals as goal

pub returns : goal.returns
returns c = told c.self.inside.ranged c.self.inside.ready c.args.self.now c.self.view_is (λ m. list_any (has_mark c.args.mark) (map.values m)) c.marked.result c.marked.ensures
