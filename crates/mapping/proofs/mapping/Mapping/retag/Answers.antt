use Rattle.std.proofs.Common.{◌+◌, ◌≤◌, ap, sym, ◌∙◌, arith}
use Rattle.mapping.proofs.RetagLemmas.{start_pages, start_count, step, ends, were_numbered}
use Rattle.mapping.proofs.mapping.Mapping.retag.Goals as goal

pub loop-found-init : goal.loop-found-init
loop-found-init c = record {
  low = omega arith;
  pages = ap (λ pages. record c.args.self.now { pages = pages }) (sym (start_pages c.args.tag c.args.other c.args.from.0 c.args.to.0 c.args.self.now.pages));
  counts = sym (start_count c.args.tag c.args.other c.args.from.0 c.args.to.0 c.args.self.now.pages);
}

pub overflow_add-tagged : goal.overflow_add-tagged
overflow_add-tagged c =
    let low : c.args.from.0 ≤ c.loop-found.next.0 = omega (arith, c.loop-found.invariant.low) in
    let one = step c.args.tag c.args.other c.args.from.0 c.args.to.0 c.args.self.now c.loop-found.next.0 low c.loop-found.self c.loop-found.invariant.pages c.in-Some.found (sym c.in-Some.is ∙ c.find_tagged.ensures.lowest) in
    omega (arith, one.reached, c.loop-found.invariant.low, c.in-Some.ensures.numbered)

pub loop-found-smaller : goal.loop-found-smaller
loop-found-smaller c =
    let low : c.args.from.0 ≤ c.loop-found.next.0 = omega (arith, c.loop-found.invariant.low) in
    let one = step c.args.tag c.args.other c.args.from.0 c.args.to.0 c.args.self.now c.loop-found.next.0 low c.loop-found.self c.loop-found.invariant.pages c.in-Some.found (sym c.in-Some.is ∙ c.find_tagged.ensures.lowest) in
    omega (arith, one.reached, c.in-Some.ensures.numbered)

pub loop-found-preserved : goal.loop-found-preserved
loop-found-preserved c =
    let low : c.args.from.0 ≤ c.loop-found.next.0 = omega (arith, c.loop-found.invariant.low) in
    let one = step c.args.tag c.args.other c.args.from.0 c.args.to.0 c.args.self.now c.loop-found.next.0 low c.loop-found.self c.loop-found.invariant.pages c.in-Some.found (sym c.in-Some.is ∙ c.find_tagged.ensures.lowest) in
    record {
      low = omega (arith, one.reached, c.loop-found.invariant.low);
      pages = c.put_tag.ensures ∙ one.pages;
      counts = ap (λ n. n + 1) c.loop-found.invariant.counts ∙ sym one.counts;
    }

pub returns-clause-count : goal.returns-clause-count
returns-clause-count c =
    let low : c.args.from.0 ≤ c.loop-found.next.0 = omega (arith, c.loop-found.invariant.low) in
    c.loop-found.invariant.counts ∙ (ends c.args.tag c.args.other c.args.from.0 c.args.to.0 c.args.self.now c.loop-found.next.0 low c.loop-found.self c.loop-found.invariant.pages (sym c.in_default.is ∙ c.find_tagged.ensures.lowest)).1

pub returns-clause-retagged : goal.returns-clause-retagged
returns-clause-retagged c =
    let low : c.args.from.0 ≤ c.loop-found.next.0 = omega (arith, c.loop-found.invariant.low) in
    (ends c.args.tag c.args.other c.args.from.0 c.args.to.0 c.args.self.now c.loop-found.next.0 low c.loop-found.self c.loop-found.invariant.pages (sym c.in_default.is ∙ c.find_tagged.ensures.lowest)).0

pub returns-clause-below : goal.returns-clause-below
returns-clause-below c =
    let low : c.args.from.0 ≤ c.loop-found.next.0 = omega (arith, c.loop-found.invariant.low) in
    were_numbered c.args.tag c.args.other c.args.from.0 c.args.to.0 c.args.self.now c.loop-found.next.0 low c.loop-found.self c.loop-found.invariant.pages c.find_tagged.ensures.below
