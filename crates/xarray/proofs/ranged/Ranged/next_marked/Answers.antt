use Rattle.std.proofs.Common.{sym, arith, subst}
use Rattle.radix.specs.Entries.{HasNoHeld, HasNoNext, IsLeaf, IsNextHeld}
use Rattle.xarray.specs.MarkedArray.{has_mark}
use Rattle.xarray.specs.View.{ranges_of}
use Rattle.xarray.proofs.CallLemmas.{leaf_low, none_past}
use Rattle.xarray.proofs.HeldLemmas.{held_leaf, held_none, held_past, held_spot}
use Rattle.xarray.proofs.ranged.Ranged.next_marked.Goals as goal

pub returns-then-from-to-clause-spot : goal.returns-then-from-to-clause-spot
returns-then-from-to-clause-spot c = none_past (ranges_of c.args.self.now) (has_mark c.args.mark) c.args.from c.args.to c.if-from-to.true

pub returns-in_default-clause-spot : goal.returns-in_default-clause-spot
returns-in_default-clause-spot c =
    let s = c.self.inside.nodes in
    let none = subst (λ n. HasNoNext s n c.args.from × HasNoHeld s n c.args.from) c.number.ensures c.in_default.ensures.next in
    rw (c.self.view_is) at (held_none s (ranges_of s) c.self.invariant.stands c.args.mark c.args.from c.args.to none)

pub spot_at-spot-requires-clause-leaf : goal.spot_at-spot-requires-clause-leaf
spot_at-spot-requires-clause-leaf c =
    let s = c.self.inside.nodes in
    let next = subst (λ n. IsNextHeld s n c.args.from c.in-Some.next.level c.in-Some.next.place) c.number.ensures c.in-Some.ensures.next in
    let leaf = held_leaf s (ranges_of s) c.self.invariant.stands c.args.mark c.args.from c.args.to c.in-Some.next.level c.in-Some.next.place next in
    rw (c.self.view_is) at (subst IsLeaf (sym leaf.1) tt)

pub spot_at-spot-requires-clause-low : goal.spot_at-spot-requires-clause-low
spot_at-spot-requires-clause-low c =
    let s = c.self.inside.nodes in
    let next = subst (λ n. IsNextHeld s n c.args.from c.in-Some.next.level c.in-Some.next.place) c.number.ensures c.in-Some.ensures.next in
    let leaf = held_leaf s (ranges_of s) c.self.invariant.stands c.args.mark c.args.from c.args.to c.in-Some.next.level c.in-Some.next.place next in
    (leaf_low s c.self.invariant c.in-Some.next.level c.in-Some.next.place leaf.0 leaf.1).0

pub spot_at-spot-requires-clause-fits : goal.spot_at-spot-requires-clause-fits
spot_at-spot-requires-clause-fits c =
    let s = c.self.inside.nodes in
    let next = subst (λ n. IsNextHeld s n c.args.from c.in-Some.next.level c.in-Some.next.place) c.number.ensures c.in-Some.ensures.next in
    let leaf = held_leaf s (ranges_of s) c.self.invariant.stands c.args.mark c.args.from c.args.to c.in-Some.next.level c.in-Some.next.place next in
    (leaf_low s c.self.invariant c.in-Some.next.level c.in-Some.next.place leaf.0 leaf.1).1

pub returns-then-spot-to-clause-spot : goal.returns-then-spot-to-clause-spot
returns-then-spot-to-clause-spot c =
    let s = c.self.inside.nodes in
    let next = subst (λ n. IsNextHeld s n c.args.from c.in-Some.next.level c.in-Some.next.place) c.number.ensures c.in-Some.ensures.next in
    let t = rw (sym c.self.view_is) at c.spot_at-spot.ensures.entry in
    rw (c.self.view_is) at (held_past s (ranges_of s) c.self.invariant.stands c.args.mark c.args.from c.args.to c.in-Some.next.level c.in-Some.next.place c.spot_at-spot.result.value t next (omega (arith, c.if-from-to.false)) (omega (arith, c.spot_at-spot.ensures.place.0, t.first_is, c.if-spot-to.true)))

pub returns-clause-spot : goal.returns-clause-spot
returns-clause-spot c =
    let s = c.self.inside.nodes in
    let next = subst (λ n. IsNextHeld s n c.args.from c.in-Some.next.level c.in-Some.next.place) c.number.ensures c.in-Some.ensures.next in
    let t = rw (sym c.self.view_is) at c.spot_at-spot.ensures.entry in
    rw (c.spot_at-spot.ensures.place.1) (rw (c.self.view_is) at (held_spot s (ranges_of s) c.self.invariant.stands c.args.mark c.args.from c.args.to c.in-Some.next.level c.in-Some.next.place c.spot_at-spot.result.value t next (omega (arith, c.if-from-to.false)) (omega (arith, c.spot_at-spot.ensures.place.0, t.first_is, c.if-spot-to.false)) c.spot_at-spot.result.first (omega (arith, c.spot_at-spot.ensures.place.0, t.first_is))))
