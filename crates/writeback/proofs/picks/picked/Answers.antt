use Rattle.std.proofs.Common.{sym, ◌∙◌}
use Rattle.writeback.specs.Slots.{sync_of}
use Rattle.writeback.proofs.PickLemmas.{pick_held, pick_starts}
use Rattle.writeback.proofs.picks.picked.Goals as goal

pub returns-then-has_tag-clause-step : goal.returns-then-has_tag-clause-step
returns-then-has_tag-clause-step c = pick_held c.args.mapping.now.pages (sync_of c.args.progress.now) c.in-Some.found
    (sym c.in-Some.is ∙ c.sync_pick.ensures.pick) c.args.file.0 c.args.requests.now
    (sym c.has_tag.ensures ∙ c.if-has_tag.true)

pub returns-else-has_tag-clause-step : goal.returns-else-has_tag-clause-step
returns-else-has_tag-clause-step c = pick_starts c.args.mapping.now.pages (sync_of c.args.progress.now) c.in-Some.found
    (sym c.in-Some.is ∙ c.sync_pick.ensures.pick) c.args.file.0 c.args.requests.now
    (sym c.has_tag.ensures ∙ c.if-has_tag.false)
