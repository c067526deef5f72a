use Rattle.std.proofs.Common.{ap, sym, ◌∙◌, ◌≡◌, List, Bool}
use Rattle.std.specs.Prelude.{Some, option_map}
use Rattle.std.specs.Option.{option_and_then}
use Rattle.std.specs.FinMap as map
use Rattle.std.proofs.lemmas.List.{get_or_read}
use Rattle.mapping.specs.Pages.{seen}
use Rattle.pc_types.specs.TagBits.{tag_set}
use Rattle.pagestore.specs.declared.kept.KeptFile.{KeptFile}
use Rattle.machine.specs.State.{Page}
use Rattle.pagestore.specs.Store.{Store, is_uptodate, page_of, none_kept, kept_at, stored_page}
use Rattle.pagestore.proofs.StoreLaws.{seen_at, page_seen, none_seen}
use Rattle.pagestore.proofs.StoreFacts.{here_kept}
use Rattle.pagestore.proofs.pages.Pages.tags.Goals as goal

pub returns-in_err-mapped : goal.returns-in_err-mapped
returns-in_err-mapped c =
    let t = c.self.inside.frames in
    let up = c.self.inside.uptodate.items in
    let files = c.self.inside.files.items in
    let f = c.args.file in
    let p = c.args.page in
    let here = here_kept t up files f c.args.self.now c.self.view_is c.requires in
    let entry : c.index.result.now ≡ kept_at files f = get_or_read files f c.index.result.now here c.index.ensures
    none_kept in
    ap (option_map tag_set) c.from_residual.ensures
    ∙ (λ i. option_map (λ (page : Page). page.tags) (option_and_then (page_of t up) (c.in_err-mapped.ensures i)))
    ∙ ap (λ (k : KeptFile). option_map (λ (page : Page). page.tags)
    (option_and_then (page_of t up) (map.get k.mapping.pages p))) entry
    ∙ ap (option_map (λ (page : Page). page.tags))
    (sym (seen_at t up files f p) ∙ ap (λ (s : Store). stored_page s f p) c.self.view_is)

pub returns-then-not-is_uptodate : goal.returns-then-not-is_uptodate
returns-then-not-is_uptodate c =
    let t = c.self.inside.frames in
    let up = c.self.inside.uptodate.items in
    let files = c.self.inside.files.items in
    let f = c.args.file in
    let p = c.args.page in
    let here = here_kept t up files f c.args.self.now c.self.view_is c.requires in
    let entry : c.index.result.now ≡ kept_at files f = get_or_read files f c.index.result.now here c.index.ensures
    none_kept in
    let x = seen c.in_ok-mapped.mapped in
    let there : map.get (kept_at files f).mapping.pages p ≡ Some x =
    sym (c.in_ok-mapped.ensures ∙ ap (λ (k : KeptFile). map.get k.mapping.pages p) entry) in
    let flag : is_uptodate up x ≡ c.is_uptodate.result =
    sym (c.is_uptodate.ensures ∙ ap (λ (u : List Bool). is_uptodate u x) c.deref.ensures.value) in
    ap (option_map (λ (page : Page). page.tags))
    (sym (none_seen t up files f p x there (flag ∙ c.if-not-is_uptodate.true))
    ∙ ap (λ (s : Store). stored_page s f p) c.self.view_is)

pub returns : goal.returns
returns c =
    let t = c.self.inside.frames in
    let up = c.self.inside.uptodate.items in
    let files = c.self.inside.files.items in
    let f = c.args.file in
    let p = c.args.page in
    let here = here_kept t up files f c.args.self.now c.self.view_is c.requires in
    let entry : c.index.result.now ≡ kept_at files f = get_or_read files f c.index.result.now here c.index.ensures
    none_kept in
    let x = seen c.in_ok-mapped.mapped in
    let there : map.get (kept_at files f).mapping.pages p ≡ Some x =
    sym (c.in_ok-mapped.ensures ∙ ap (λ (k : KeptFile). map.get k.mapping.pages p) entry) in
    let flag : is_uptodate up x ≡ c.is_uptodate.result =
    sym (c.is_uptodate.ensures ∙ ap (λ (u : List Bool). is_uptodate u x) c.deref.ensures.value) in
    ap (option_map (λ (page : Page). page.tags))
    (sym (page_seen t up files f p x there (flag ∙ c.if-not-is_uptodate.false))
    ∙ ap (λ (s : Store). stored_page s f p) c.self.view_is)
