use Rattle.std.proofs.Common.{◌≡◌, ◌+◌, true, refl, ap, sym, subst, ◌∙◌, arith}
use Rattle.std.specs.Prelude.{is_some}
use Rattle.std.specs.FinMap as finmap
use Rattle.std.proofs.lemmas.Bool.{false≢true}
use Rattle.xarray.specs.MarkedArray.{Array, Ranges, has_mark, remarked}
use Rattle.maps.specs.Maps.{change_at}
use Rattle.mapping.specs.declared.totals.Totals.{Totals}
use Rattle.mapping.specs.Pages.{FilePages, Pages, with_tag}
use Rattle.mapping.specs.Totals.{total, with_total}
use Rattle.mapping.specs.View.{pages_of, IsCounted}
use Rattle.mapping.proofs.ArrayLemmas.{few_pages, mark_there, pages_of-remarked, told_none}
use Rattle.mapping.proofs.CountedLemmas.{counted_raised, counted_same, counted_unraised}
use Rattle.mapping.proofs.TotalLemmas.{total-le-len}
use Rattle.mapping.proofs.mapping.Mapping.tag.Goals.{then-not-was, else-not-was}
use Rattle.mapping.proofs.mapping.Mapping.tag.Goals as goal

pub invariant_of-self : goal.invariant_of-self
invariant_of-self c =
    let m = c.self.inside.pages.ranges in
    let none = told_none m c.self.invariant.each (λ e. has_mark c.mark_of.result e.1) c.args.index.0 c.in_default.ensures.before in
    let ranges = ap (λ (a : Array). a.ranges) c.swap_mark.ensures.sets ∙ ap (λ mark. remarked m c.args.index.0 mark true) c.mark_of.ensures in
    subst (λ (ranges : Ranges). IsCounted ranges c.self.inside.page_count c.self.inside.totals) (sym ranges) (counted_unraised m c.self.inside.page_count c.self.inside.totals c.self.invariant c.args.index.0 c.args.tag none)

pub returns-in_default-clause-cached : goal.returns-in_default-clause-cached
returns-in_default-clause-cached c =
    let none = told_none c.self.inside.pages.ranges c.self.invariant.each (λ e. has_mark c.mark_of.result e.1) c.args.index.0 c.in_default.ensures.before in
    (λ ok. absurd (false≢true ok), λ some. absurd (false≢true (sym (ap (λ (f : FilePages). is_some (finmap.get f.pages c.args.index.0)) (sym c.self.view_is) ∙ ap (λ o. is_some o) none) ∙ some)))

pub returns-in_default-clause-tagged : goal.returns-in_default-clause-tagged
returns-in_default-clause-tagged c =
    let m = c.self.inside.pages.ranges in
    let file : Pages → FilePages = λ pages. record { size = c.self.inside.size; pages = pages } in
    ap (λ (a : Array). file (pages_of a.ranges)) c.swap_mark.ensures.sets ∙ ap (λ mark. file (pages_of (remarked m c.args.index.0 mark true))) c.mark_of.ensures
    ∙ ap file (pages_of-remarked m c.self.invariant.each c.args.index.0 c.args.tag true) ∙ ap (λ (f : FilePages). record f { pages = change_at c.args.index.0 (with_tag c.args.tag true) f.pages }) c.self.view_is

pub raise-requires : goal.raise-requires
raise-requires c = omega (arith, total-le-len c.self.inside.totals (pages_of c.self.inside.pages.ranges) c.self.invariant.tags c.args.tag, few_pages c.self.inside.pages.ranges c.self.invariant.each)

pub invariant_of-self-then-not-was : goal.invariant_of-self-then-not-was
invariant_of-self-then-not-was c =
    let m = c.self.inside.pages.ranges in
    let page = mark_there m c.self.invariant.each c.args.index.0 c.args.tag c.mark_of.result c.in-Some.was c.mark_of.ensures c.in-Some.ensures.before in
    let kept = counted_raised m c.self.inside.page_count c.self.inside.totals c.self.invariant c.args.index.0 c.args.tag page.0 page.1.0 (page.1.1 ∙ c.if-not-was.true) in
    let ranges = ap (λ (a : Array). a.ranges) c.swap_mark.ensures.sets ∙ ap (λ mark. remarked m c.args.index.0 mark true) c.mark_of.ensures in
    subst (λ (totals : Totals). IsCounted c.swap_mark.new.self.ranges c.self.inside.page_count totals) (sym c.raise.ensures) (subst (λ (ranges : Ranges). IsCounted ranges c.self.inside.page_count (with_total c.self.inside.totals c.args.tag (total c.self.inside.totals c.args.tag + 1))) (sym ranges) kept)

pub invariant_of-self-else-not-was : goal.invariant_of-self-else-not-was
invariant_of-self-else-not-was c =
    let m = c.self.inside.pages.ranges in
    let page = mark_there m c.self.invariant.each c.args.index.0 c.args.tag c.mark_of.result c.in-Some.was c.mark_of.ensures c.in-Some.ensures.before in
    let kept = counted_same m c.self.inside.page_count c.self.inside.totals c.self.invariant c.args.index.0 c.args.tag page.0 page.1.0 (page.1.1 ∙ c.if-not-was.false) in
    let ranges = ap (λ (a : Array). a.ranges) c.swap_mark.ensures.sets ∙ ap (λ mark. remarked m c.args.index.0 mark true) c.mark_of.ensures in
    subst (λ (ranges : Ranges). IsCounted ranges c.self.inside.page_count c.self.inside.totals) (sym ranges) kept

pub returns-clause-cached : goal.returns-clause-cached
returns-clause-cached c =
    let page = mark_there c.self.inside.pages.ranges c.self.invariant.each c.args.index.0 c.args.tag c.mark_of.result c.in-Some.was c.mark_of.ensures c.in-Some.ensures.before in
    (λ ok. sym (ap (λ (f : FilePages). is_some (finmap.get f.pages c.args.index.0)) c.self.view_is) ∙ ap (λ o. is_some o) page.1.0, λ some. refl)

pub returns-clause-tagged : goal.returns-clause-tagged
returns-clause-tagged c =
    let m = c.self.inside.pages.ranges in
    let file : Pages → FilePages = λ pages. record { size = c.self.inside.size; pages = pages } in
    let marked : file (pages_of c.swap_mark.new.self.ranges) ≡ record c.args.self.now { pages = change_at c.args.index.0 (with_tag c.args.tag true) c.args.self.now.pages } =
    ap (λ (a : Array). file (pages_of a.ranges)) c.swap_mark.ensures.sets ∙ ap (λ mark. file (pages_of (remarked m c.args.index.0 mark true))) c.mark_of.ensures
    ∙ ap file (pages_of-remarked m c.self.invariant.each c.args.index.0 c.args.tag true) ∙ ap (λ (f : FilePages). record f { pages = change_at c.args.index.0 (with_tag c.args.tag true) f.pages }) c.self.view_is in
    elim c.if-not-was.branch [ then-not-was w ↦ w.self-is ∙ marked | else-not-was w ↦ w.self-is ∙ marked ]
