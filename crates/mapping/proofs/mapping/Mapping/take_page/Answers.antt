use Rattle.std.proofs.Common.{◌-◌, Some, ap, sym, subst, ◌∙◌, arith}
use Rattle.std.specs.Prelude.{option_map}
use Rattle.std.specs.FinMap as finmap
use Rattle.pc_types.specs.TagBits.{tag_set}
use Rattle.xarray.specs.MarkedArray.{Array}
use Rattle.mapping.specs.declared.totals.Totals.{Totals}
use Rattle.mapping.specs.Pages.{FilePages, Pages, seen}
use Rattle.mapping.specs.Totals.{without_page}
use Rattle.mapping.specs.View.{pages_of, IsCounted}
use Rattle.mapping.proofs.ArrayLemmas.{marked_frame, marked_none, marked_there, pages_of-erased}
use Rattle.mapping.proofs.CountedLemmas.{counted_erased, counted_unerased}
use Rattle.mapping.proofs.MapLemmas.{len_remove_old}
use Rattle.mapping.proofs.TotalLemmas.{one_of}
use Rattle.mapping.proofs.mapping.Mapping.take_page.Goals as goal

pub invariant_of-self : goal.invariant_of-self
invariant_of-self c =
    let none = marked_none c.self.inside.pages.ranges c.self.invariant.each c.args.index.0 c.in_err-entry.ensures.before in
    subst (λ (a : Array). IsCounted a.ranges c.self.inside.page_count c.self.inside.totals) (sym c.take.ensures.takes) (counted_unerased c.self.inside.pages.ranges c.self.inside.page_count c.self.inside.totals c.self.invariant c.args.index.0 none)

pub returns-in_err-entry-clause-page : goal.returns-in_err-entry-clause-page
returns-in_err-entry-clause-page c =
    ap (option_map seen) c.from_residual.ensures ∙ sym ((marked_none c.self.inside.pages.ranges c.self.invariant.each c.args.index.0 c.in_err-entry.ensures.before))
    ∙ ap (λ (f : FilePages). finmap.get f.pages c.args.index.0) c.self.view_is

pub returns-in_err-entry-clause-gone : goal.returns-in_err-entry-clause-gone
returns-in_err-entry-clause-gone c =
    let file : Pages → FilePages = λ pages. record { size = c.self.inside.size; pages = pages } in
    ap (λ (a : Array). file (pages_of a.ranges)) c.take.ensures.takes ∙ ap file (pages_of-erased c.self.inside.pages.ranges c.self.invariant.each c.args.index.0)
    ∙ ap (λ (f : FilePages). record f { pages = finmap.remove f.pages c.args.index.0 }) c.self.view_is

pub mapped_page-page-requires : goal.mapped_page-page-requires
mapped_page-page-requires c = marked_frame c.self.inside.pages.ranges c.self.invariant.each c.args.index.0 c.in_ok-entry.entry c.in_ok-entry.ensures.before

pub overflow_sub-self : goal.overflow_sub-self
overflow_sub-self c =
    let some = marked_there c.self.inside.pages.ranges c.self.invariant.each c.args.index.0 c.in_ok-entry.entry c.in_ok-entry.ensures.before ∙ ap (λ page. Some page) (sym c.mapped_page-page.ensures) in
    omega (arith, c.self.invariant.pages, len_remove_old (pages_of c.self.inside.pages.ranges) c.args.index.0 (seen c.mapped_page-page.result) some)

pub forget-requires : goal.forget-requires
forget-requires c =
    let some = marked_there c.self.inside.pages.ranges c.self.invariant.each c.args.index.0 c.in_ok-entry.entry c.in_ok-entry.ensures.before ∙ ap (λ page. Some page) (sym c.mapped_page-page.ensures) in
    one_of c.self.inside.totals (pages_of c.self.inside.pages.ranges) c.self.invariant.tags c.args.index.0 (seen c.mapped_page-page.result) some

pub invariant_of-self-2 : goal.invariant_of-self-2
invariant_of-self-2 c =
    let some = marked_there c.self.inside.pages.ranges c.self.invariant.each c.args.index.0 c.in_ok-entry.entry c.in_ok-entry.ensures.before ∙ ap (λ page. Some page) (sym c.mapped_page-page.ensures) in
    let kept = counted_erased c.self.inside.pages.ranges c.self.inside.page_count c.self.inside.totals c.self.invariant c.args.index.0 (seen c.mapped_page-page.result) some in
    subst (λ (totals : Totals). IsCounted c.take.new.self.ranges (c.self.inside.page_count - 1) totals) (sym c.forget.ensures)
    (subst (λ (a : Array). IsCounted a.ranges (c.self.inside.page_count - 1) (without_page c.self.inside.totals (tag_set c.mapped_page-page.result.tags))) (sym c.take.ensures.takes) kept)

pub returns-clause-page : goal.returns-clause-page
returns-clause-page c =
    let some = marked_there c.self.inside.pages.ranges c.self.invariant.each c.args.index.0 c.in_ok-entry.entry c.in_ok-entry.ensures.before ∙ ap (λ page. Some page) (sym c.mapped_page-page.ensures) in
    sym some ∙ ap (λ (f : FilePages). finmap.get f.pages c.args.index.0) c.self.view_is

pub returns-clause-gone : goal.returns-clause-gone
returns-clause-gone c =
    let file : Pages → FilePages = λ pages. record { size = c.self.inside.size; pages = pages } in
    ap (λ (a : Array). file (pages_of a.ranges)) c.take.ensures.takes ∙ ap file (pages_of-erased c.self.inside.pages.ranges c.self.invariant.each c.args.index.0)
    ∙ ap (λ (f : FilePages). record f { pages = finmap.remove f.pages c.args.index.0 }) c.self.view_is
