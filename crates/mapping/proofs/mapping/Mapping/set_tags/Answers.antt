use Rattle.std.proofs.Common.{◌≡◌, refl, ap, sym, subst, ◌∙◌, arith}
use Rattle.std.specs.Prelude.{is_some}
use Rattle.std.specs.FinMap as finmap
use Rattle.std.proofs.lemmas.Bool.{false≢true}
use Rattle.pc_types.specs.Tags.{TagSet, has}
use Rattle.xarray.specs.MarkedArray.{Array, marks_of}
use Rattle.maps.specs.Maps.{change_at}
use Rattle.mapping.specs.declared.totals.Totals.{Totals}
use Rattle.mapping.specs.Pages.{FilePages, Pages, with_tags}
use Rattle.mapping.specs.Totals.{one, with_page}
use Rattle.mapping.specs.View.{pages_of, tags_of, IsCounted}
use Rattle.mapping.proofs.ArrayLemmas.{few_pages, marks_there, pages_of-given, told_none}
use Rattle.mapping.proofs.CountedLemmas.{counted_given, counted_ungiven}
use Rattle.mapping.proofs.TotalLemmas.{one_of, total-le-len}
use Rattle.mapping.proofs.mapping.Mapping.set_tags.Goals as goal

pub invariant_of-self : goal.invariant_of-self
invariant_of-self c =
    let none = told_none c.self.inside.pages.ranges c.self.invariant.each (λ e. marks_of e.1) c.args.index.0 c.in_default.ensures.before in
    subst (λ (a : Array). IsCounted a.ranges c.self.inside.page_count c.self.inside.totals) (sym c.swap_marks.ensures.gives) (counted_ungiven c.self.inside.pages.ranges c.self.inside.page_count c.self.inside.totals c.self.invariant c.args.index.0 c.marks_from.result none)

pub returns-in_default-clause-cached : goal.returns-in_default-clause-cached
returns-in_default-clause-cached c =
    let none = told_none c.self.inside.pages.ranges c.self.invariant.each (λ e. marks_of e.1) c.args.index.0 c.in_default.ensures.before in
    (λ ok. absurd (false≢true ok), λ some. absurd (false≢true (sym (ap (λ (f : FilePages). is_some (finmap.get f.pages c.args.index.0)) (sym c.self.view_is) ∙ ap (λ o. is_some o) none) ∙ some)))

pub returns-in_default-clause-tagged : goal.returns-in_default-clause-tagged
returns-in_default-clause-tagged c =
    let file : Pages → FilePages = λ pages. record { size = c.self.inside.size; pages = pages } in
    ap (λ (a : Array). file (pages_of a.ranges)) c.swap_marks.ensures.gives ∙ ap file (pages_of-given c.self.inside.pages.ranges c.self.invariant.each c.args.index.0 c.marks_from.result)
    ∙ ap (λ (f : FilePages). record f { pages = change_at c.args.index.0 (with_tags (tags_of c.marks_from.result)) f.pages }) c.self.view_is
    ∙ ap (λ tags. record c.args.self.now { pages = change_at c.args.index.0 (with_tags tags) c.args.self.now.pages }) c.marks_from.ensures

pub exchange-requires-clause-counted : goal.exchange-requires-clause-counted
exchange-requires-clause-counted c =
    let page = marks_there c.self.inside.pages.ranges c.self.invariant.each c.args.index.0 c.in-Some.were c.in-Some.ensures.before in
    λ tag. omega (arith, one_of c.self.inside.totals (pages_of c.self.inside.pages.ranges) c.self.invariant.tags c.args.index.0 page.0 page.1.0 tag, ap (λ (tags : TagSet). one (has tags tag)) (page.1.1 ∙ sym c.tags_from.ensures))

pub exchange-requires-clause-room : goal.exchange-requires-clause-room
exchange-requires-clause-room c = λ tag. omega (arith, total-le-len c.self.inside.totals (pages_of c.self.inside.pages.ranges) c.self.invariant.tags tag, few_pages c.self.inside.pages.ranges c.self.invariant.each)

pub invariant_of-self-2 : goal.invariant_of-self-2
invariant_of-self-2 c =
    let page = marks_there c.self.inside.pages.ranges c.self.invariant.each c.args.index.0 c.in-Some.were c.in-Some.ensures.before in
    let kept = counted_given c.self.inside.pages.ranges c.self.inside.page_count c.self.inside.totals c.self.invariant c.args.index.0 c.marks_from.result page.0 page.1.0 in
    let totals : with_page c.self.inside.totals page.0.tags (tags_of c.marks_from.result) ≡ c.exchange.new.self = (λ i. with_page c.self.inside.totals ((page.1.1 ∙ sym c.tags_from.ensures) i) (c.marks_from.ensures i)) ∙ sym c.exchange.ensures in
    subst (λ (totals : Totals). IsCounted c.swap_marks.new.self.ranges c.self.inside.page_count totals) totals
    (subst (λ (a : Array). IsCounted a.ranges c.self.inside.page_count (with_page c.self.inside.totals page.0.tags (tags_of c.marks_from.result))) (sym c.swap_marks.ensures.gives) kept)

pub returns-clause-cached : goal.returns-clause-cached
returns-clause-cached c =
    let page = marks_there c.self.inside.pages.ranges c.self.invariant.each c.args.index.0 c.in-Some.were c.in-Some.ensures.before in
    (λ ok. sym (ap (λ (f : FilePages). is_some (finmap.get f.pages c.args.index.0)) c.self.view_is) ∙ ap (λ o. is_some o) page.1.0, λ some. refl)

pub returns-clause-tagged : goal.returns-clause-tagged
returns-clause-tagged c =
    let file : Pages → FilePages = λ pages. record { size = c.self.inside.size; pages = pages } in
    ap (λ (a : Array). file (pages_of a.ranges)) c.swap_marks.ensures.gives ∙ ap file (pages_of-given c.self.inside.pages.ranges c.self.invariant.each c.args.index.0 c.marks_from.result)
    ∙ ap (λ (f : FilePages). record f { pages = change_at c.args.index.0 (with_tags (tags_of c.marks_from.result)) f.pages }) c.self.view_is
    ∙ ap (λ tags. record c.args.self.now { pages = change_at c.args.index.0 (with_tags tags) c.args.self.now.pages }) c.marks_from.ensures
