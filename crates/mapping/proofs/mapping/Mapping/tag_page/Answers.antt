use Rattle.std.proofs.Common.{◌≡◌, ap, ◌∙◌, true}
use Rattle.pc_types.specs.TagBits.{tag_set}
use Rattle.pc_types.specs.Tags.{TagSet, no_tags, put}
use Rattle.maps.specs.Maps.{change_at}
use Rattle.mapping.specs.Pages.{FilePages, Mapped, with_tags_after}
use Rattle.mapping.proofs.PageLemmas.{tagging}
use Rattle.mapping.proofs.mapping.Mapping.tag_page.Goals as goal

pub returns-clause-tagged : goal.returns-clause-tagged
returns-clause-tagged c =
    let set : tag_set c.with.result ≡ put no_tags c.args.tag true = c.with.ensures ∙ ap (λ (t : TagSet). put t c.args.tag true) c.none-empty.ensures in
    let after : (Mapped → Mapped) → FilePages = λ change. record c.args.self.now { pages = change_at c.args.index.0 change c.args.self.now.pages } in
    c.change_tags.ensures.tagged
    ∙ (λ i. after (with_tags_after (c.none-empty.ensures i) (set i)))
    ∙ ap after (tagging c.args.tag)
