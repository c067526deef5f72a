use Rattle.std.proofs.Common.{Some, sym, arith, subst, refl}
use Rattle.radix.specs.Entries.{HasNoNext, IsLeaf}
use Rattle.xarray.specs.MarkedArray.{has_mark}
use Rattle.xarray.specs.View.{ranges_of}
use Rattle.xarray.proofs.CallLemmas.{hit_ends, hit_fits, hit_low, hit_order, hit_past, hit_spot, hit_stands, hit_value, marked_ranged, spot_first, spot_leaf_at, tags}
use Rattle.xarray.proofs.SearchLemmas.{mark_none, outside_past}
use Rattle.xarray.proofs.WalkLemmas.{slot_after}
use Rattle.xarray.proofs.ranged.Ranged.tag_far.Goals as goal

pub returns-in_default-clause-tags : goal.returns-in_default-clause-tags
returns-in_default-clause-tags c = let s = c.self.inside.nodes in (rw (c.self.view_is) at (mark_none s (ranges_of s) c.self.invariant.stands c.args.mark c.args.from c.args.to (outside_past (ranges_of s) (has_mark c.args.mark) c.args.from (rw (sym c.self.view_is) at c.requires.outside)) (subst (λ n. HasNoNext s n c.args.from) c.number.ensures (rw (sym c.self.view_is) at c.in_default.ensures.next))), refl)

pub first_at-first-requires-clause-level : goal.first_at-first-requires-clause-level
first_at-first-requires-clause-level c = hit_low c.self.inside.nodes c.self.invariant c.args.from c.args.to c.args.mark c.number.result c.number.ensures (rw (sym c.self.view_is) at c.requires.outside) c.in-Some.next.level c.in-Some.next.place 0 (rw (sym c.self.view_is) at c.in-Some.ensures.next)

pub first_at-first-requires-clause-fits : goal.first_at-first-requires-clause-fits
first_at-first-requires-clause-fits c = hit_fits c.self.inside.nodes c.self.invariant c.args.from c.args.to c.args.mark c.number.result c.number.ensures (rw (sym c.self.view_is) at c.requires.outside) c.in-Some.next.level c.in-Some.next.place 0 (rw (sym c.self.view_is) at c.in-Some.ensures.next)

pub returns-then-first-to-clause-tags : goal.returns-then-first-to-clause-tags
returns-then-first-to-clause-tags c = (rw (c.self.view_is) at (hit_past c.self.inside.nodes c.self.invariant c.args.from c.args.to c.args.mark c.number.result c.number.ensures (rw (sym c.self.view_is) at c.requires.outside) c.in-Some.next.level c.in-Some.next.place c.first_at-first.result (rw (sym c.self.view_is) at c.in-Some.ensures.next) c.first_at-first.ensures c.if-first-to.true), refl)

pub order_beside-requires-clause-there : goal.order_beside-requires-clause-there
order_beside-requires-clause-there c = rw (c.self.view_is) at (spot_first c.self.inside.nodes c.self.invariant _ c.first_at-first.result c.in-Some.next.level (hit_value c.self.inside.nodes c.self.invariant c.args.from c.args.to c.args.mark c.number.result c.number.ensures (rw (sym c.self.view_is) at c.requires.outside) c.in-Some.next.level c.in-Some.next.place c.first_at-first.result (rw (sym c.self.view_is) at c.in-Some.ensures.next)) (hit_spot c.self.inside.nodes c.self.invariant c.args.from c.args.to c.args.mark c.number.result c.number.ensures (rw (sym c.self.view_is) at c.requires.outside) c.in-Some.next.level c.in-Some.next.place c.first_at-first.result (rw (sym c.self.view_is) at c.in-Some.ensures.next) c.first_at-first.ensures c.requires.le (omega (arith, c.if-first-to.false))))

pub invariant_of-self : goal.invariant_of-self
invariant_of-self c = marked_ranged c.self.inside.nodes c.self.invariant _ c.first_at-first.result c.in-Some.next.level (hit_value c.self.inside.nodes c.self.invariant c.args.from c.args.to c.args.mark c.number.result c.number.ensures (rw (sym c.self.view_is) at c.requires.outside) c.in-Some.next.level c.in-Some.next.place c.first_at-first.result (rw (sym c.self.view_is) at c.in-Some.ensures.next)) (hit_spot c.self.inside.nodes c.self.invariant c.args.from c.args.to c.args.mark c.number.result c.number.ensures (rw (sym c.self.view_is) at c.requires.outside) c.in-Some.next.level c.in-Some.next.place c.first_at-first.result (rw (sym c.self.view_is) at c.in-Some.ensures.next) c.first_at-first.ensures c.requires.le (omega (arith, c.if-first-to.false))) c.set_bit.new.self c.number-2.result 1 c.args.other c.number-2.ensures c.set_bit.ensures.puts

pub returns-clause-tags : goal.returns-clause-tags
returns-clause-tags c =
    let spot = (hit_spot c.self.inside.nodes c.self.invariant c.args.from c.args.to c.args.mark c.number.result c.number.ensures (rw (sym c.self.view_is) at c.requires.outside) c.in-Some.next.level c.in-Some.next.place c.first_at-first.result (rw (sym c.self.view_is) at c.in-Some.ensures.next) c.first_at-first.ensures c.requires.le (omega (arith, c.if-first-to.false))) in
    rw (c.self.view_is) at (tags c.self.inside.nodes c.self.invariant c.args.from c.args.to c.args.mark c.args.other c.first_at-first.result c.in-Some.next.level (hit_value c.self.inside.nodes c.self.invariant c.args.from c.args.to c.args.mark c.number.result c.number.ensures (rw (sym c.self.view_is) at c.requires.outside) c.in-Some.next.level c.in-Some.next.place c.first_at-first.result (rw (sym c.self.view_is) at c.in-Some.ensures.next)) spot c.set_bit.new.self c.number-2.result c.last_of-last.result c.order_beside.result c.number-2.ensures c.set_bit.ensures.puts (hit_order c.self.inside.nodes c.self.invariant c.args.from c.args.to c.args.mark c.number.result c.number.ensures (rw (sym c.self.view_is) at c.requires.outside) c.in-Some.next.level c.in-Some.next.place c.first_at-first.result (rw (sym c.self.view_is) at c.in-Some.ensures.next) c.first_at-first.ensures c.args.self.now c.self.view_is c.requires.le (omega (arith, c.if-first-to.false)) c.order_beside.result c.order_beside.ensures) c.last_of-last.ensures)

pub order_beside-requires-clause-stands : goal.order_beside-requires-clause-stands
order_beside-requires-clause-stands c = rw (c.self.view_is) at (hit_stands c.self.inside.nodes c.self.invariant c.args.from c.args.to c.args.mark c.number.result c.number.ensures (rw (sym c.self.view_is) at c.requires.outside) c.in-Some.next.level c.in-Some.next.place c.first_at-first.result (rw (sym c.self.view_is) at c.in-Some.ensures.next) c.first_at-first.ensures c.in-Some.next.cursor (rw (sym c.self.view_is) at c.in-Some.ensures.stands))

pub last_of-last-requires-clause-order : goal.last_of-last-requires-clause-order
last_of-last-requires-clause-order c = (hit_ends c.self.inside.nodes c.self.invariant c.args.from c.args.to c.args.mark c.number.result c.number.ensures (rw (sym c.self.view_is) at c.requires.outside) c.in-Some.next.level c.in-Some.next.place c.first_at-first.result (rw (sym c.self.view_is) at c.in-Some.ensures.next) c.first_at-first.ensures c.args.self.now c.self.view_is c.requires.le (omega (arith, c.if-first-to.false)) c.order_beside.result c.order_beside.ensures).0

pub last_of-last-requires-clause-within : goal.last_of-last-requires-clause-within
last_of-last-requires-clause-within c = (hit_ends c.self.inside.nodes c.self.invariant c.args.from c.args.to c.args.mark c.number.result c.number.ensures (rw (sym c.self.view_is) at c.requires.outside) c.in-Some.next.level c.in-Some.next.place c.first_at-first.result (rw (sym c.self.view_is) at c.in-Some.ensures.next) c.first_at-first.ensures c.args.self.now c.self.view_is c.requires.le (omega (arith, c.if-first-to.false)) c.order_beside.result c.order_beside.ensures).1

pub set_bit-requires-clause-stands : goal.set_bit-requires-clause-stands
set_bit-requires-clause-stands c = hit_stands c.self.inside.nodes c.self.invariant c.args.from c.args.to c.args.mark c.number.result c.number.ensures (rw (sym c.self.view_is) at c.requires.outside) c.in-Some.next.level c.in-Some.next.place c.first_at-first.result (rw (sym c.self.view_is) at c.in-Some.ensures.next) c.first_at-first.ensures c.in-Some.next.cursor (rw (sym c.self.view_is) at c.in-Some.ensures.stands)

pub set_bit-requires-clause-leaf : goal.set_bit-requires-clause-leaf
set_bit-requires-clause-leaf c = subst IsLeaf (sym (spot_leaf_at c.self.inside.nodes c.self.invariant _ c.first_at-first.result c.in-Some.next.level (hit_value c.self.inside.nodes c.self.invariant c.args.from c.args.to c.args.mark c.number.result c.number.ensures (rw (sym c.self.view_is) at c.requires.outside) c.in-Some.next.level c.in-Some.next.place c.first_at-first.result (rw (sym c.self.view_is) at c.in-Some.ensures.next)) (hit_spot c.self.inside.nodes c.self.invariant c.args.from c.args.to c.args.mark c.number.result c.number.ensures (rw (sym c.self.view_is) at c.requires.outside) c.in-Some.next.level c.in-Some.next.place c.first_at-first.result (rw (sym c.self.view_is) at c.in-Some.ensures.next) c.first_at-first.ensures c.requires.le (omega (arith, c.if-first-to.false))))) tt

pub returns-clause-after : goal.returns-clause-after
returns-clause-after c =
    let spot = (hit_spot c.self.inside.nodes c.self.invariant c.args.from c.args.to c.args.mark c.number.result c.number.ensures (rw (sym c.self.view_is) at c.requires.outside) c.in-Some.next.level c.in-Some.next.place c.first_at-first.result (rw (sym c.self.view_is) at c.in-Some.ensures.next) c.first_at-first.ensures c.requires.le (omega (arith, c.if-first-to.false))) in
    slot_after (ranges_of c.self.inside.nodes) c.self.invariant.stands.shape (Some c.args.mark) c.args.from c.args.to c.first_at-first.result c.in-Some.next.level _ spot c.order_beside.result c.last_of-last.result
    (hit_order c.self.inside.nodes c.self.invariant c.args.from c.args.to c.args.mark c.number.result c.number.ensures (rw (sym c.self.view_is) at c.requires.outside) c.in-Some.next.level c.in-Some.next.place c.first_at-first.result (rw (sym c.self.view_is) at c.in-Some.ensures.next) c.first_at-first.ensures c.args.self.now c.self.view_is c.requires.le (omega (arith, c.if-first-to.false)) c.order_beside.result c.order_beside.ensures) c.last_of-last.ensures
    c.set_bit.new.self c.in-Some.next.cursor c.set_bit.ensures.stands c.place_at-place.result c.place_at-place.ensures

pub above-requires : goal.above-requires
above-requires c =
    let spot = (hit_spot c.self.inside.nodes c.self.invariant c.args.from c.args.to c.args.mark c.number.result c.number.ensures (rw (sym c.self.view_is) at c.requires.outside) c.in-Some.next.level c.in-Some.next.place c.first_at-first.result (rw (sym c.self.view_is) at c.in-Some.ensures.next) c.first_at-first.ensures c.requires.le (omega (arith, c.if-first-to.false))) in
    (slot_after (ranges_of c.self.inside.nodes) c.self.invariant.stands.shape (Some c.args.mark) c.args.from c.args.to c.first_at-first.result c.in-Some.next.level _ spot c.order_beside.result c.last_of-last.result
    (hit_order c.self.inside.nodes c.self.invariant c.args.from c.args.to c.args.mark c.number.result c.number.ensures (rw (sym c.self.view_is) at c.requires.outside) c.in-Some.next.level c.in-Some.next.place c.first_at-first.result (rw (sym c.self.view_is) at c.in-Some.ensures.next) c.first_at-first.ensures c.args.self.now c.self.view_is c.requires.le (omega (arith, c.if-first-to.false)) c.order_beside.result c.order_beside.ensures) c.last_of-last.ensures
    c.set_bit.new.self c.in-Some.next.cursor c.set_bit.ensures.stands c.place_at-place.result c.place_at-place.ensures).stands

pub place_at-place-requires : goal.place_at-place-requires
place_at-place-requires c = hit_low c.self.inside.nodes c.self.invariant c.args.from c.args.to c.args.mark c.number.result c.number.ensures (rw (sym c.self.view_is) at c.requires.outside) c.in-Some.next.level c.in-Some.next.place 0 (rw (sym c.self.view_is) at c.in-Some.ensures.next)
