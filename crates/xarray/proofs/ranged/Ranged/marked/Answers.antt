use Rattle.xarray.proofs.SearchLemmas.{any_marked}
use Rattle.xarray.specs.View.{ranges_of}
use Rattle.xarray.proofs.ranged.Ranged.marked.Goals as goal

pub returns : goal.returns
returns c = let s = c.self.inside.nodes in rw (c.self.view_is) at (any_marked s (ranges_of s) c.self.invariant.stands c.args.mark c.number.result c.number.ensures c.marked.result c.marked.ensures)
