use Rattle.std.proofs.Common.{sym}
use Rattle.xarray.specs.View.{ranges_of}
use Rattle.xarray.proofs.SearchLemmas.{start_none, start_spot, walked_none}
use Rattle.xarray.proofs.ranged.Ranged.start.Goals as goal

pub returns-in_default : goal.returns-in_default
returns-in_default c = let s = c.self.inside.nodes in rw (c.self.view_is) at (start_none s (ranges_of s) c.self.invariant.stands c.args.index (walked_none s (ranges_of s) c.self.invariant.stands c.args.index c.in_default.ensures.found))

pub returns-in-Some-spot_in : goal.returns-in-Some-spot_in
returns-in-Some-spot_in c = let s = c.self.inside.nodes in rw (c.self.view_is) at (start_spot s (ranges_of s) c.self.invariant.stands c.args.index c.in-Some-spot_in.spot.first c.in-Some-spot_in.spot.level c.in-Some-spot_in.spot.value (rw (sym c.self.view_is) at c.in-Some-spot_in.ensures.spot))

pub returns-in-None : goal.returns-in-None
returns-in-None c = let s = c.self.inside.nodes in rw (c.self.view_is) at (start_none s (ranges_of s) c.self.invariant.stands c.args.index (rw (sym c.self.view_is) at c.in-None.ensures.spot))
