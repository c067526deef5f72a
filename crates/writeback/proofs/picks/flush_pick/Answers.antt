use Rattle.std.proofs.Common.{sym, ◌∙◌, arith}
use Rattle.writeback.proofs.PickLemmas.{flush_starts, flush_reaches, flush_skips, flush_found, flush_ends}
use Rattle.writeback.proofs.picks.flush_pick.Goals as goal

pub loop-found-init : goal.loop-found-init
loop-found-init c = flush_starts c.args.mapping.now.pages

pub loop-found-smaller : goal.loop-found-smaller
loop-found-smaller c =
    let low = flush_reaches c.args.mapping.now.pages c.loop-found.from.0 c.find_tagged.ensures.below
    c.loop-found.invariant c.in-Some.found (sym c.in-Some.is ∙ c.find_tagged.ensures.lowest) in
    omega (arith, low, c.in-Some.ensures.numbered)

pub loop-found-preserved : goal.loop-found-preserved
loop-found-preserved c = flush_skips c.args.mapping.now.pages c.loop-found.from.0 c.find_tagged.ensures.below
    c.loop-found.invariant c.in-Some.found (sym c.in-Some.is ∙ c.find_tagged.ensures.lowest)
    (sym c.has_tag.ensures ∙ c.if-not-has_tag.false)

pub returns-then-not-has_tag-clause-pick : goal.returns-then-not-has_tag-clause-pick
returns-then-not-has_tag-clause-pick c = flush_found c.args.mapping.now.pages c.loop-found.from.0
    c.find_tagged.ensures.below c.loop-found.invariant c.in-Some.found (sym c.in-Some.is ∙ c.find_tagged.ensures.lowest)
    (sym c.has_tag.ensures ∙ c.if-not-has_tag.true)

pub returns-clause-pick : goal.returns-clause-pick
returns-clause-pick c = flush_ends c.args.mapping.now.pages c.loop-found.from.0 c.find_tagged.ensures.below
    c.loop-found.invariant (sym c.in_default.is ∙ c.find_tagged.ensures.lowest)
