use Rattle.std.proofs.Common.{◌∙◌, ap, true}
use Rattle.pc_types.specs.declared.tags.Tag.TheVariants.{Dirty, Towrite, Writeback}
use Rattle.pc_types.specs.TagBits.{tag_set}
use Rattle.pc_types.specs.Tags.{put}
use Rattle.writeback.proofs.PickLemmas.{through_tags}
use Rattle.writeback.proofs.picks.write_through.Goals as goal

pub returns-clause-tags : goal.returns-clause-tags
returns-clause-tags c =
    let one = c.with.ensures ∙ ap (λ t. put t Dirty true) c.none.ensures in
    let two = c.with-2.ensures ∙ ap (λ t. put t Writeback true) one in
    let three = c.with-all.ensures ∙ ap (λ t. put t Towrite true) two in
    c.change_tags.ensures.tagged
    ∙ through_tags c.args.mapping.now c.args.page.0 c.args.failed (tag_set c.with-all.result) (tag_set c.dirty_if.result)
    three c.dirty_if.ensures
