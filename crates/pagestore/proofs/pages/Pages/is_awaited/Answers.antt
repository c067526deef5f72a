use Rattle.std.proofs.Common.{ap, sym, ◌∙◌, ◌≡◌}
use Rattle.std.specs.FinMap as map
use Rattle.std.proofs.lemmas.List.{get_or_read}
use Rattle.pagestore.specs.Store.{awaits, is_awaited, none_kept, kept_at}
use Rattle.pagestore.proofs.StoreLaws.{waits_at}
use Rattle.pagestore.proofs.StoreFacts.{here_kept}
use Rattle.pagestore.proofs.pages.Pages.is_awaited.Goals as goal

pub returns : goal.returns
returns c =
    let t = c.self.inside.frames in
    let up = c.self.inside.uptodate.items in
    let files = c.self.inside.files.items in
    let f = c.args.file in
    let here = here_kept t up files f c.args.self.now c.self.view_is c.requires in
    let entry : c.index.result.now ≡ kept_at files f = get_or_read files f c.index.result.now here c.index.ensures
    none_kept in
    c.is_awaited.ensures ∙ (λ i. awaits (c.deref.ensures.value i) (map.get (entry i).mapping.pages c.args.page))
    ∙ sym (waits_at t up files f c.args.page) ∙ ap (λ s. is_awaited s f c.args.page) c.self.view_is
