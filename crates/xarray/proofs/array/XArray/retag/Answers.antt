use Rattle.std.proofs.Common.{◌≡◌, ◌+◌, None, ap, sym, ◌∙◌, subst, refl, arith}
use Rattle.xarray.specs.MarkedArray.{Array}
use Rattle.xarray.specs.View.{ranges_of}
use Rattle.xarray.proofs.RetagLemmas.{count-end, retag-end}
use Rattle.xarray.proofs.RetagLoop.{Goes, all_counted, all_done, array_at, ends_later, goes-on, left, outside_next, past_end, right, starts}
use Rattle.xarray.proofs.array.XArray.retag.Goals as goal

pub returns-in_default-clause-count : goal.returns-in_default-clause-count
returns-in_default-clause-count c = all_counted (ranges_of c.entries.self-inside.ranged) c.args.self.now.ranges c.entries.next c.args.from c.args.to c.entries.count c.args.mark c.args.other c.entries.invariant.goes (left (c.in_default.ensures.tags)) c.entries.invariant.small

pub returns-in_default-clause-retags : goal.returns-in_default-clause-retags
returns-in_default-clause-retags c = array_at c.entries.self-inside.ranged c.tag_next.new.self c.entries.self-inside.ready _ (right (c.in_default.ensures.tags)) c.entries.invariant.idle (all_done (ranges_of c.entries.self-inside.ranged) c.args.self.now.ranges c.entries.next c.args.from c.args.to c.entries.count c.args.mark c.args.other c.entries.invariant.goes (left (c.in_default.ensures.tags)))

pub returns-then-tagged-to-clause-count : goal.returns-then-tagged-to-clause-count
returns-then-tagged-to-clause-count c = all_counted (ranges_of c.tag_next.new.self) c.args.self.now.ranges (c.in-Some.tagged.last + 1) c.args.from c.args.to c.saturating_add-count.result c.args.mark c.args.other (goes-on (ranges_of c.entries.self-inside.ranged) (ranges_of c.tag_next.new.self) c.args.self.now.ranges c.entries.next c.args.from c.args.to c.entries.count c.saturating_add-count.result c.in-Some.tagged.last c.args.mark c.args.other c.in-Some.ensures.tags c.saturating_add-count.ensures c.entries.invariant.goes) (past_end (ranges_of c.tag_next.new.self) (c.in-Some.tagged.last + 1) c.args.to c.args.mark (omega (arith, c.if-tagged-to.true))) (omega (arith, c.saturating_add-count.ensures))

pub returns-then-tagged-to-clause-retags : goal.returns-then-tagged-to-clause-retags
returns-then-tagged-to-clause-retags c = array_at c.tag_next.new.self c.tag_next.new.self c.entries.self-inside.ready _ refl c.entries.invariant.idle (all_done (ranges_of c.tag_next.new.self) c.args.self.now.ranges (c.in-Some.tagged.last + 1) c.args.from c.args.to c.saturating_add-count.result c.args.mark c.args.other (goes-on (ranges_of c.entries.self-inside.ranged) (ranges_of c.tag_next.new.self) c.args.self.now.ranges c.entries.next c.args.from c.args.to c.entries.count c.saturating_add-count.result c.in-Some.tagged.last c.args.mark c.args.other c.in-Some.ensures.tags c.saturating_add-count.ensures c.entries.invariant.goes) (past_end (ranges_of c.tag_next.new.self) (c.in-Some.tagged.last + 1) c.args.to c.args.mark (omega (arith, c.if-tagged-to.true))))

pub entries-smaller : goal.entries-smaller
entries-smaller c = let later = ends_later (ranges_of c.entries.self-inside.ranged) (ranges_of c.tag_next.new.self) c.entries.next c.args.to c.args.mark c.args.other c.in-Some.tagged.last c.in-Some.ensures.tags in omega (arith, later, c.if-tagged-to.false)

pub entries-preserved : goal.entries-preserved
entries-preserved c = record {
  idle = c.entries.invariant.idle;
  goes = (goes-on (ranges_of c.entries.self-inside.ranged) (ranges_of c.tag_next.new.self) c.args.self.now.ranges c.entries.next c.args.from c.args.to c.entries.count c.saturating_add-count.result c.in-Some.tagged.last c.args.mark c.args.other c.in-Some.ensures.tags c.saturating_add-count.ensures c.entries.invariant.goes);
  within = omega (arith, c.if-tagged-to.false);
  outside = outside_next (ranges_of c.entries.self-inside.ranged) (ranges_of c.tag_next.new.self) c.entries.next c.args.to c.args.mark c.args.other c.in-Some.tagged.last c.in-Some.ensures.tags;
  small = omega (arith, c.saturating_add-count.ensures);
  after = c.in-Some.ensures.after;
  above = c.in-Some.ensures.above;
}

pub returns-then-from-to-clause-count : goal.returns-then-from-to-clause-count
returns-then-from-to-clause-count c =
    let e = count-end c.args.self.now.ranges c.args.from c.args.to c.args.mark (past_end c.args.self.now.ranges c.args.from c.args.to c.args.mark c.if-from-to.true) in
    omega (arith, e)

pub returns-then-from-to-clause-retags : goal.returns-then-from-to-clause-retags
returns-then-from-to-clause-retags c =
    array_at c.self.inside.ranged c.self.inside.ranged None _ refl refl
    (ap (λ (a : Array). a.ranges) c.self.view_is ∙ sym (retag-end c.args.self.now.ranges c.args.from c.args.to c.args.mark c.args.other (past_end c.args.self.now.ranges c.args.from c.args.to c.args.mark c.if-from-to.true)))

pub entries-init : goal.entries-init
entries-init c =
    let same : ranges_of c.self.inside.ranged ≡ c.args.self.now.ranges = ap (λ (a : Array). a.ranges) c.self.view_is in
    let low = c.start-next.ensures.low in
    record {
      idle = refl;
      goes = subst (λ m. Goes (ranges_of c.self.inside.ranged) c.start-next.result m c.args.from c.args.to c.args.mark c.args.other 0) same (starts (ranges_of c.self.inside.ranged) c.args.from c.start-next.result c.args.to c.args.mark c.args.other (omega (arith, c.if-from-to.false)) c.start-next.ensures);
      within = omega (arith, low, c.if-from-to.false);
      outside = c.start-next.ensures.outside;
      small = omega arith;
      after = tt;
      above = tt;
    }
