use Rattle.std.proofs.Common.{ap, ◌∙◌, ◌≡◌, ◌-◌, not}
use Rattle.std.specs.Prelude.{count_by, nat_lt}
use Rattle.std.specs.List.{range_with_len}
use Rattle.std.proofs.lemmas.List.{get_or_read}
use Rattle.mapping.specs.Pages.{has_at}
use Rattle.pc_types.specs.declared.tags.Tag.TheVariants.{Dirty}
use Rattle.pagestore.specs.declared.kept.KeptFile.{KeptFile}
use Rattle.machine.specs.State.{tags_of}
use Rattle.pagestore.specs.Store.{none_kept, kept_at, stored_page}
use Rattle.pagestore.proofs.StoreLaws.{dirty_at}
use Rattle.pagestore.proofs.StoreFacts.{here_kept}
use Rattle.pagestore.proofs.pages.Pages.has_more_clean.Goals as goal

pub returns : goal.returns
returns c =
    let t = c.self.inside.frames in
    let up = c.self.inside.uptodate.items in
    let files = c.self.inside.files.items in
    let f = c.args.file in
    let here = here_kept t up files f c.args.self.now c.self.view_is c.requires.here in
    let entry : c.index.result.now ≡ kept_at files f = get_or_read files f c.index.result.now here c.index.ensures
    none_kept in
    let range = range_with_len c.args.first (c.args.end - c.args.first) in
    c.has_more_clean.ensures ∙ ap (λ (k : KeptFile). nat_lt c.args.room (count_by (λ p. not (has_at k.mapping.pages p Dirty)) range)) entry
    ∙ (λ i. nat_lt c.args.room (count_by (λ p. not (dirty_at t up files f p (c.self.invariant.bare f p) i)) range))
    ∙ ap (λ s. nat_lt c.args.room (count_by (λ p. not ((tags_of (stored_page s f p)).dirty)) range)) c.self.view_is
