use Rattle.std.proofs.Common.{◌∙◌}
use Rattle.writeback.specs.Slots.{sync_of}
use Rattle.writeback.proofs.PickLemmas.{sync_picks}
use Rattle.writeback.proofs.picks.sync_pick.Goals as goal

pub returns-clause-pick : goal.returns-clause-pick
returns-clause-pick c = c.find_tagged.ensures.lowest
    ∙ sync_picks c.args.mapping.now.pages (sync_of c.args.progress.now) c.cursor.result.0 c.cursor.ensures
    c.find_tagged.ensures.below
