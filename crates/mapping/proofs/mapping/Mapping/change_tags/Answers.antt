use Rattle.std.proofs.Common.{◌≡◌, Some, ap, sym, subst, ◌∙◌, arith}
use Rattle.std.specs.Prelude.{option_map}
use Rattle.std.specs.FinMap as finmap
use Rattle.pc_types.specs.TagBits.{tag_set}
use Rattle.xarray.specs.MarkedArray.{Array}
use Rattle.maps.specs.Maps.{change_at}
use Rattle.mapping.specs.declared.totals.Totals.{Totals}
use Rattle.mapping.specs.Pages.{FilePages, Mapped, Pages, seen, tags_after, with_tags_after}
use Rattle.mapping.specs.Totals.{with_page}
use Rattle.mapping.specs.View.{pages_of, tags_of, IsCounted}
use Rattle.mapping.proofs.ArrayLemmas.{few_pages, marked_frame, marked_none, marked_there, pages_of-changed}
use Rattle.mapping.proofs.CountedLemmas.{counted_changed, counted_unchanged}
use Rattle.mapping.proofs.TotalLemmas.{one_of, total-le-len}
use Rattle.mapping.proofs.mapping.Mapping.change_tags.Goals as goal

pub invariant_of-self : goal.invariant_of-self
invariant_of-self c =
    let none = marked_none c.self.inside.pages.ranges c.self.invariant.each c.args.index.0 c.in_err-entry.ensures.before in
    subst (λ (a : Array). IsCounted a.ranges c.self.inside.page_count c.self.inside.totals) (sym c.change_marks.ensures.changes)
    (counted_unchanged c.self.inside.pages.ranges c.self.inside.page_count c.self.inside.totals c.self.invariant c.args.index.0 c.marks_from-cleared.result c.marks_from-given.result none)

pub returns-in_err-entry-clause-page : goal.returns-in_err-entry-clause-page
returns-in_err-entry-clause-page c =
    ap (option_map seen) c.from_residual.ensures ∙ sym (marked_none c.self.inside.pages.ranges c.self.invariant.each c.args.index.0 c.in_err-entry.ensures.before)
    ∙ ap (λ (f : FilePages). finmap.get f.pages c.args.index.0) c.self.view_is

pub returns-in_err-entry-clause-tagged : goal.returns-in_err-entry-clause-tagged
returns-in_err-entry-clause-tagged c =
    let file : Pages → FilePages = λ pages. record { size = c.self.inside.size; pages = pages } in
    ap (λ (a : Array). file (pages_of a.ranges)) c.change_marks.ensures.changes
    ∙ ap file (pages_of-changed c.self.inside.pages.ranges c.self.invariant.each c.args.index.0 c.marks_from-cleared.result c.marks_from-given.result)
    ∙ ap (λ (f : FilePages). record f { pages = change_at c.args.index.0 (with_tags_after (tags_of c.marks_from-cleared.result) (tags_of c.marks_from-given.result)) f.pages }) c.self.view_is
    ∙ (λ i. record c.args.self.now { pages = change_at c.args.index.0 (with_tags_after (c.marks_from-cleared.ensures i) (c.marks_from-given.ensures i)) c.args.self.now.pages })

pub mapped_page-page-requires : goal.mapped_page-page-requires
mapped_page-page-requires c = marked_frame c.self.inside.pages.ranges c.self.invariant.each c.args.index.0 c.in_ok-entry.entry c.in_ok-entry.ensures.before

pub exchange-requires-clause-counted : goal.exchange-requires-clause-counted
exchange-requires-clause-counted c =
    let some = marked_there c.self.inside.pages.ranges c.self.invariant.each c.args.index.0 c.in_ok-entry.entry c.in_ok-entry.ensures.before ∙ ap (λ page. Some page) (sym c.mapped_page-page.ensures) in
    one_of c.self.inside.totals (pages_of c.self.inside.pages.ranges) c.self.invariant.tags c.args.index.0 (seen c.mapped_page-page.result) some

pub exchange-requires-clause-room : goal.exchange-requires-clause-room
exchange-requires-clause-room c = λ tag. omega (arith, total-le-len c.self.inside.totals (pages_of c.self.inside.pages.ranges) c.self.invariant.tags tag, few_pages c.self.inside.pages.ranges c.self.invariant.each)

pub invariant_of-self-2 : goal.invariant_of-self-2
invariant_of-self-2 c =
    let m = c.self.inside.pages.ranges in
    let cleared = c.marks_from-cleared.result in
    let given = c.marks_from-given.result in
    let before = tag_set c.mapped_page-page.result.tags in
    let some = marked_there m c.self.invariant.each c.args.index.0 c.in_ok-entry.entry c.in_ok-entry.ensures.before ∙ ap (λ page. Some page) (sym c.mapped_page-page.ensures) in
    let kept = counted_changed m c.self.inside.page_count c.self.inside.totals c.self.invariant c.args.index.0 cleared given (seen c.mapped_page-page.result) some in
    let tags : tags_after (tags_of cleared) (tags_of given) before ≡ tag_set c.tags_from-tags.result =
    ap (λ (p : Mapped). tags_after (tags_of cleared) (tags_of given) p.tags) c.mapped_page-page.ensures ∙ sym (c.tags_from-tags.ensures ∙ ap tags_of c.after.ensures) in
    let totals : with_page c.self.inside.totals before (tags_after (tags_of cleared) (tags_of given) before) ≡ c.exchange.new.self = ap (with_page c.self.inside.totals before) tags ∙ sym c.exchange.ensures in
    subst (λ (totals : Totals). IsCounted c.change_marks.new.self.ranges c.self.inside.page_count totals) totals
    (subst (λ (a : Array). IsCounted a.ranges c.self.inside.page_count (with_page c.self.inside.totals before (tags_after (tags_of cleared) (tags_of given) before))) (sym c.change_marks.ensures.changes) kept)

pub returns-clause-page : goal.returns-clause-page
returns-clause-page c =
    let some = marked_there c.self.inside.pages.ranges c.self.invariant.each c.args.index.0 c.in_ok-entry.entry c.in_ok-entry.ensures.before ∙ ap (λ page. Some page) (sym c.mapped_page-page.ensures) in
    sym some ∙ ap (λ (f : FilePages). finmap.get f.pages c.args.index.0) c.self.view_is

pub returns-clause-tagged : goal.returns-clause-tagged
returns-clause-tagged c =
    let file : Pages → FilePages = λ pages. record { size = c.self.inside.size; pages = pages } in
    ap (λ (a : Array). file (pages_of a.ranges)) c.change_marks.ensures.changes
    ∙ ap file (pages_of-changed c.self.inside.pages.ranges c.self.invariant.each c.args.index.0 c.marks_from-cleared.result c.marks_from-given.result)
    ∙ ap (λ (f : FilePages). record f { pages = change_at c.args.index.0 (with_tags_after (tags_of c.marks_from-cleared.result) (tags_of c.marks_from-given.result)) f.pages }) c.self.view_is
    ∙ (λ i. record c.args.self.now { pages = change_at c.args.index.0 (with_tags_after (c.marks_from-cleared.ensures i) (c.marks_from-given.ensures i)) c.args.self.now.pages })
