use Rattle.std.proofs.Common.{ap, arith, sym, subst, length, ◌∙◌, ◌≡◌, ◌≤◌, ◌<◌, ◌+◌, true}
use Rattle.std.specs.Prelude.{is_some, ◌||◌}
use Rattle.std.specs.FinMap as map
use Rattle.std.specs.FinSet as set
use Rattle.machine.specs.PageLists.{cut_off, left}
use Rattle.pagestore.specs.Store.{Store, is_awaited, stored_at, stored_page, with_lists, with_pages}
use Rattle.pagestore.proofs.pages.Pages.leave_one.Goals as goal

pub returns-then-leave_if_there-clause-found : goal.returns-then-leave_if_there-clause-found
returns-then-leave_if_there-clause-found c = (omega (arith, c.max-at.ensures), sym c.leave_if_there.ensures.there ∙ c.if-leave_if_there.true)

pub one_from-requires : goal.one_from-requires
one_from-requires c = subst (λ (s : Store). c.args.file < length s.files) (sym (c.leave_if_there.ensures.same c.if-leave_if_there.false)) c.requires

pub leave-requires-clause-here : goal.leave-requires-clause-here
leave-requires-clause-here c = subst (λ (s : Store). c.args.file < length s.files) (sym (c.leave_if_there.ensures.same c.if-leave_if_there.false)) c.requires

pub leave-requires-clause-there : goal.leave-requires-clause-there
leave-requires-clause-there c = c.in-Some.ensures.found.1

pub returns-clause-found : goal.returns-clause-found
returns-clause-found c =
    let f = c.args.file in
    let q = c.in-Some.found in
    subst (λ (s : Store). (c.args.page ≤ q) × ((is_some (stored_page s f q) || is_awaited s f q) ≡ true))
    (c.leave_if_there.ensures.same c.if-leave_if_there.false) c.in-Some.ensures.found

pub returns-clause-page : goal.returns-clause-page
returns-clause-page c =
    let f = c.args.file in
    let q = c.in-Some.found in
    subst (λ (s : Store). is_some (stored_page s f q) ≡ true
    → c.leave.new.self ≡ with_lists (with_pages s f (map.remove (stored_at s f).pages q) (s.free + 1)) (left f q s.lists))
    (c.leave_if_there.ensures.same c.if-leave_if_there.false) c.leave.ensures.page

pub returns-clause-fill : goal.returns-clause-fill
returns-clause-fill c =
    let f = c.args.file in
    let q = c.in-Some.found in
    subst (λ (s : Store). is_awaited s f q ≡ true
    → c.leave.new.self ≡ record s { filling = set.remove s.filling (f, q); free = s.free + 1; lists = left f q s.lists })
    (c.leave_if_there.ensures.same c.if-leave_if_there.false) c.leave.ensures.fill

pub returns-in_default-clause-none : goal.returns-in_default-clause-none
returns-in_default-clause-none c = λ q low.
    ap (λ (s : Store). is_some (stored_page s c.args.file q) || is_awaited s c.args.file q)
    (sym (c.leave_if_there.ensures.same c.if-leave_if_there.false))
    ∙ c.in_default.ensures.none q low

pub returns-in_default-clause-unlisted : goal.returns-in_default-clause-unlisted
returns-in_default-clause-unlisted c =
    subst (λ (s : Store). cut_off c.args.file c.args.page s.lists ≡ s.lists)
    (c.leave_if_there.ensures.same c.if-leave_if_there.false) c.in_default.ensures.unlisted

pub returns-in_default-clause-same : goal.returns-in_default-clause-same
returns-in_default-clause-same c = c.leave_if_there.ensures.same c.if-leave_if_there.false
