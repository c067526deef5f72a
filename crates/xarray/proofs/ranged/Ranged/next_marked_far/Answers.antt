use Rattle.std.proofs.Common.{sym, arith, subst}
use Rattle.radix.specs.Entries.{HasNoNext, IsNext}
use Rattle.xarray.specs.MarkedArray.{has_mark}
use Rattle.xarray.specs.View.{ranges_of}
use Rattle.xarray.proofs.CallLemmas.{hit_fits, hit_low}
use Rattle.xarray.proofs.SearchLemmas.{mark_none, mark_past, mark_spot, outside_past}
use Rattle.xarray.proofs.ranged.Ranged.next_marked_far.Goals as goal

pub returns-in_default-clause-spot : goal.returns-in_default-clause-spot
returns-in_default-clause-spot c =
    let s = c.self.inside.nodes in
    let past = outside_past (ranges_of s) (has_mark c.args.mark) c.args.from (rw (sym c.self.view_is) at c.requires.outside) in
    rw (c.self.view_is) at (mark_none s (ranges_of s) c.self.invariant.stands c.args.mark c.args.from c.args.to past (subst (λ n. HasNoNext s n c.args.from) c.number.ensures (rw (sym c.self.view_is) at c.in_default.ensures.next)))

pub spot_at-spot-requires-clause-low : goal.spot_at-spot-requires-clause-low
spot_at-spot-requires-clause-low c = hit_low c.self.inside.nodes c.self.invariant c.args.from c.args.to c.args.mark c.number.result c.number.ensures (rw (sym c.self.view_is) at c.requires.outside) c.in-Some.next.level c.in-Some.next.place 0 (rw (sym c.self.view_is) at c.in-Some.ensures.next)

pub spot_at-spot-requires-clause-fits : goal.spot_at-spot-requires-clause-fits
spot_at-spot-requires-clause-fits c = hit_fits c.self.inside.nodes c.self.invariant c.args.from c.args.to c.args.mark c.number.result c.number.ensures (rw (sym c.self.view_is) at c.requires.outside) c.in-Some.next.level c.in-Some.next.place 0 (rw (sym c.self.view_is) at c.in-Some.ensures.next)

pub returns-then-spot-to-clause-spot : goal.returns-then-spot-to-clause-spot
returns-then-spot-to-clause-spot c =
    let s = c.self.inside.nodes in
    let next = subst (λ n. IsNext s n c.args.from c.in-Some.next.level c.in-Some.next.place) c.number.ensures (rw (sym c.self.view_is) at c.in-Some.ensures.next) in
    let past = outside_past (ranges_of s) (has_mark c.args.mark) c.args.from (rw (sym c.self.view_is) at c.requires.outside) in
    let t = rw (sym c.self.view_is) at c.spot_at-spot.ensures.entry in
    rw (c.self.view_is) at (mark_past s (ranges_of s) c.self.invariant.stands c.args.mark c.args.from c.args.to past c.in-Some.next.level c.in-Some.next.place c.spot_at-spot.result.value t next (omega (arith, c.spot_at-spot.ensures.place.0, t.first_is, c.if-spot-to.true)))

pub returns-clause-spot : goal.returns-clause-spot
returns-clause-spot c =
    let s = c.self.inside.nodes in
    let next = subst (λ n. IsNext s n c.args.from c.in-Some.next.level c.in-Some.next.place) c.number.ensures (rw (sym c.self.view_is) at c.in-Some.ensures.next) in
    let past = outside_past (ranges_of s) (has_mark c.args.mark) c.args.from (rw (sym c.self.view_is) at c.requires.outside) in
    let t = rw (sym c.self.view_is) at c.spot_at-spot.ensures.entry in
    rw (c.spot_at-spot.ensures.place.1) (rw (c.self.view_is) at (mark_spot s (ranges_of s) c.self.invariant.stands c.args.mark c.args.from c.args.to past c.in-Some.next.level c.in-Some.next.place c.spot_at-spot.result.value t next c.requires.le (omega (arith, c.spot_at-spot.ensures.place.0, t.first_is, c.if-spot-to.false)) c.spot_at-spot.result.first (omega (arith, c.spot_at-spot.ensures.place.0, t.first_is))))
