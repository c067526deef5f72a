use Rattle.xarray.specs.View.{ranges_of}
use Rattle.xarray.proofs.SearchLemmas.{walked_none}
use Rattle.xarray.proofs.ranged.Ranged.spot_recent.Goals as goal

pub returns-in-None-clause-spot : goal.returns-in-None-clause-spot
returns-in-None-clause-spot c = let s = c.self.inside.nodes in rw (c.self.view_is) at (walked_none s (ranges_of s) c.self.invariant.stands c.args.index c.in-None.ensures.found)
