use Rattle.std.proofs.Common.{ap, arith, sym, subst, ◌∙◌, ◌≡◌, ◌≤◌, true}
use Rattle.std.specs.Prelude.{is_some, ◌||◌}
use Rattle.std.proofs.lemmas.List.{get_or_read}
use Rattle.pagestore.specs.declared.kept.KeptFile.{KeptFile}
use Rattle.pagestore.specs.Store.{Store, none_kept, kept_at, is_awaited, stored_page}
use Rattle.pagestore.proofs.FirstFrom.{if_none, none_from, no_entry_from, some_from}
use Rattle.machine.specs.PageLists.{cut_off}
use Rattle.pagestore.proofs.Owners.{none_cut}
use Rattle.pagestore.proofs.StoreFacts.{here_kept}
use Rattle.pagestore.proofs.pages.Pages.one_from.Goals as goal

pub returns-in_err-found-clause-none : goal.returns-in_err-found-clause-none
returns-in_err-found-clause-none c =
    let t = c.self.inside.frames in
    let up = c.self.inside.uptodate.items in
    let files = c.self.inside.files.items in
    let f = c.args.file in
    let here = here_kept t up files f c.args.self.now c.self.view_is c.requires in
    let entry : c.index.result.now ≡ kept_at files f = get_or_read files f c.index.result.now here c.index.ensures
    none_kept in
    if_none c.from_residual.result _
    (λ q low. ap (λ (s : Store). is_some (stored_page s f q) || is_awaited s f q) (sym c.self.view_is)
    ∙ none_from t up files f c.args.page c.index.result.now.mapping.pages
    (ap (λ (k : KeptFile). k.mapping.pages) entry) c.in_err-found.ensures.lowest q low)

pub returns-clause-found : goal.returns-clause-found
returns-clause-found c =
    let t = c.self.inside.frames in
    let up = c.self.inside.uptodate.items in
    let files = c.self.inside.files.items in
    let f = c.args.file in
    let here = here_kept t up files f c.args.self.now c.self.view_is c.requires in
    let entry : c.index.result.now ≡ kept_at files f = get_or_read files f c.index.result.now here c.index.ensures
    none_kept in
    subst (λ (s : Store). (c.args.page ≤ c.in_ok-found.found.page.0)
    × ((is_some (stored_page s f c.in_ok-found.found.page.0) || is_awaited s f c.in_ok-found.found.page.0) ≡ true))
    c.self.view_is
    (some_from t up files f c.args.page c.index.result.now.mapping.pages c.in_ok-found.found
    (ap (λ (k : KeptFile). k.mapping.pages) entry) c.in_ok-found.ensures.lowest)

pub returns-in_err-found-clause-unlisted : goal.returns-in_err-found-clause-unlisted
returns-in_err-found-clause-unlisted c =
    let t = c.self.inside.frames in
    let up = c.self.inside.uptodate.items in
    let files = c.self.inside.files.items in
    let f = c.args.file in
    let here = here_kept t up files f c.args.self.now c.self.view_is c.requires in
    let entry : c.index.result.now ≡ kept_at files f = get_or_read files f c.index.result.now here c.index.ensures
    none_kept in
    let none = no_entry_from t up files f c.args.page c.index.result.now.mapping.pages
    (ap (λ (k : KeptFile). k.mapping.pages) entry) c.in_err-found.ensures.lowest in
    if_none c.from_residual.result _
    (subst (λ (s : Store). cut_off f c.args.page s.lists ≡ s.lists) c.self.view_is
    (none_cut t up files c.self.inside.dirty c.self.invariant f c.args.page none))

pub returns-in-Some-clause-found : goal.returns-in-Some-clause-found
returns-in-Some-clause-found c =
    let t = c.self.inside.frames in
    let up = c.self.inside.uptodate.items in
    let files = c.self.inside.files.items in
    let f = c.args.file in
    let here = here_kept t up files f c.args.self.now c.self.view_is c.requires in
    let entry : c.index.result.now ≡ kept_at files f = get_or_read files f c.index.result.now here c.index.ensures
    none_kept in
    let one = some_from t up files f c.max.result c.index.result.now.mapping.pages c.in-Some.found
    (ap (λ (k : KeptFile). k.mapping.pages) entry) c.in-Some.ensures.lowest in
    subst (λ (s : Store). (c.args.page ≤ c.in-Some.found.page.0)
    × ((is_some (stored_page s f c.in-Some.found.page.0) || is_awaited s f c.in-Some.found.page.0) ≡ true))
    c.self.view_is (omega (arith, one.0, c.max.ensures), one.1)
