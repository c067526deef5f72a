use Rattle.std.proofs.Common.{sym, arith}
use Rattle.xarray.specs.View.{ranges_of}
use Rattle.xarray.proofs.CallLemmas.{leaf_low}
use Rattle.xarray.proofs.SearchLemmas.{any_none, any_past, any_spot, leaf_some}
use Rattle.xarray.proofs.ranged.Ranged.next_far.Goals as goal

pub returns-in_default-clause-spot : goal.returns-in_default-clause-spot
returns-in_default-clause-spot c = let s = c.self.inside.nodes in rw (c.self.view_is) at (any_none s (ranges_of s) c.self.invariant.stands c.args.from c.args.to (rw (sym c.self.view_is) at c.requires.outside) (rw (sym c.self.view_is) at c.in_default.ensures.next))

pub spot_at-spot-requires-clause-low : goal.spot_at-spot-requires-clause-low
spot_at-spot-requires-clause-low c =
    let s = c.self.inside.nodes in
    let leaf = leaf_some s (ranges_of s) c.self.invariant.stands c.in-Some.next.level c.in-Some.next.place (rw (sym c.self.view_is) at c.in-Some.ensures.next.leaf) in
    (leaf_low s c.self.invariant c.in-Some.next.level c.in-Some.next.place leaf.0 leaf.1).0

pub spot_at-spot-requires-clause-fits : goal.spot_at-spot-requires-clause-fits
spot_at-spot-requires-clause-fits c =
    let s = c.self.inside.nodes in
    let leaf = leaf_some s (ranges_of s) c.self.invariant.stands c.in-Some.next.level c.in-Some.next.place (rw (sym c.self.view_is) at c.in-Some.ensures.next.leaf) in
    (leaf_low s c.self.invariant c.in-Some.next.level c.in-Some.next.place leaf.0 leaf.1).1

pub returns-then-spot-to-clause-spot : goal.returns-then-spot-to-clause-spot
returns-then-spot-to-clause-spot c =
    let s = c.self.inside.nodes in
    let t = rw (sym c.self.view_is) at c.spot_at-spot.ensures.entry in
    rw (c.self.view_is) at (any_past s (ranges_of s) c.self.invariant.stands c.args.from c.args.to (rw (sym c.self.view_is) at c.requires.outside) c.in-Some.next.level c.in-Some.next.place c.spot_at-spot.result.value t (rw (sym c.self.view_is) at c.in-Some.ensures.next) (omega (arith, c.spot_at-spot.ensures.place.0, t.first_is, c.if-spot-to.true)))

pub returns-clause-spot : goal.returns-clause-spot
returns-clause-spot c =
    let s = c.self.inside.nodes in
    let t = rw (sym c.self.view_is) at c.spot_at-spot.ensures.entry in
    rw (c.spot_at-spot.ensures.place.1) (rw (c.self.view_is) at (any_spot s (ranges_of s) c.self.invariant.stands c.args.from c.args.to (rw (sym c.self.view_is) at c.requires.outside) c.in-Some.next.level c.in-Some.next.place c.spot_at-spot.result.value t (rw (sym c.self.view_is) at c.in-Some.ensures.next) c.requires.le (omega (arith, c.spot_at-spot.ensures.place.0, t.first_is, c.if-spot-to.false)) c.spot_at-spot.result.first (omega (arith, c.spot_at-spot.ensures.place.0, t.first_is))))
