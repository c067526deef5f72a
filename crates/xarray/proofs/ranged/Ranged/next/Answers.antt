use Rattle.std.proofs.Common.{sym, refl, arith}
use Rattle.xarray.specs.MarkedArray.{is_any}
use Rattle.xarray.specs.View.{ranges_of}
use Rattle.xarray.proofs.CallLemmas.{none_past}
use Rattle.xarray.proofs.SearchLemmas.{spot_here, start_none, walked_none}
use Rattle.xarray.proofs.ranged.Ranged.next.Goals as goal

pub returns-then-from-to-clause-spot : goal.returns-then-from-to-clause-spot
returns-then-from-to-clause-spot c = none_past (ranges_of c.args.self.now) is_any c.args.from c.args.to c.if-from-to.true

pub next_far-requires-clause-outside : goal.next_far-requires-clause-outside
next_far-requires-clause-outside c =
    let s = c.self.inside.nodes in
    rw (c.self.view_is) at (start_none s (ranges_of s) c.self.invariant.stands c.args.from (walked_none s (ranges_of s) c.self.invariant.stands c.args.from c.in_default.ensures.found)).outside

pub next_far-requires-then-level-gt0-clause-outside : goal.next_far-requires-then-level-gt0-clause-outside
next_far-requires-then-level-gt0-clause-outside c =
    let s = c.self.inside.nodes in
    rw (c.self.view_is) at (start_none s (ranges_of s) c.self.invariant.stands c.args.from (rw (sym c.self.view_is) at c.in_default-spot_in.ensures.spot)).outside

pub next_in-requires-clause-outside : goal.next_in-requires-clause-outside
next_in-requires-clause-outside c =
    let s = c.self.inside.nodes in
    rw (c.self.view_is) at (start_none s (ranges_of s) c.self.invariant.stands c.args.from (rw (sym c.self.view_is) at c.in_default-spot_in.ensures.spot)).outside

pub returns-in-Some-spot_in-clause-spot : goal.returns-in-Some-spot_in-clause-spot
returns-in-Some-spot_in-clause-spot c =
    let s = c.self.inside.nodes in
    rw (c.self.view_is) at (spot_here s (ranges_of s) c.self.invariant.stands is_any c.args.from c.args.to c.in-Some-spot_in.spot.first c.in-Some-spot_in.spot.level c.in-Some-spot_in.spot.value (omega (arith, c.if-from-to.false)) (rw (sym c.self.view_is) at c.in-Some-spot_in.ensures.spot) refl)
