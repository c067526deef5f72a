use Rattle.std.proofs.Common.{◌∙◌, ap, true}
use Rattle.pc_types.specs.declared.tags.Tag.TheVariants.{Writeback}
use Rattle.pc_types.specs.TagBits.{tag_set}
use Rattle.pc_types.specs.Tags.{put}
use Rattle.writeback.proofs.PickLemmas.{ended_tags}
use Rattle.writeback.proofs.picks.end_write.Goals as goal

pub returns-clause-tags : goal.returns-clause-tags
returns-clause-tags c =
    c.change_tags.ensures.tagged
    ∙ ended_tags c.args.mapping.now c.args.page.0 c.args.failed (tag_set c.with-clear.result) (tag_set c.dirty_if.result)
    (c.with-clear.ensures ∙ ap (λ t. put t Writeback true) c.none.ensures) c.dirty_if.ensures
