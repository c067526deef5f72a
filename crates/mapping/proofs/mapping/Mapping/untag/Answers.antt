use Rattle.std.proofs.Common.{◌-◌, false, ap, sym, subst, ◌∙◌, arith}
use Rattle.xarray.specs.MarkedArray.{Array, Ranges, remarked}
use Rattle.maps.specs.Maps.{change_at}
use Rattle.mapping.specs.declared.totals.Totals.{Totals}
use Rattle.mapping.specs.Pages.{FilePages, Pages, with_tag}
use Rattle.mapping.specs.Totals.{total, with_total}
use Rattle.mapping.specs.View.{pages_of, IsCounted}
use Rattle.mapping.proofs.ArrayLemmas.{had_mark, pages_of-remarked}
use Rattle.mapping.proofs.CountedLemmas.{counted_lowered, counted_unlowered}
use Rattle.mapping.proofs.PageLemmas.{tagged_page}
use Rattle.mapping.proofs.TotalLemmas.{positive}
use Rattle.mapping.proofs.mapping.Mapping.untag.Goals as goal

pub lower-requires : goal.lower-requires
lower-requires c =
    let m = c.self.inside.pages.ranges in
    let has = sym (had_mark m c.self.invariant.each c.args.index.0 c.args.tag c.mark_of.result c.swap_mark-was.result c.mark_of.ensures c.swap_mark-was.ensures.before) ∙ sym c.unwrap_or.ensures ∙ c.if-unwrap_or.true in
    let page = tagged_page c.args.index.0 c.args.tag (pages_of m) has in
    omega (arith, positive c.self.inside.totals (pages_of m) c.self.invariant.tags c.args.index.0 page.0 page.1.0 c.args.tag page.1.1)

pub invariant_of-self : goal.invariant_of-self
invariant_of-self c =
    let m = c.self.inside.pages.ranges in
    let has = sym (had_mark m c.self.invariant.each c.args.index.0 c.args.tag c.mark_of.result c.swap_mark-was.result c.mark_of.ensures c.swap_mark-was.ensures.before) ∙ sym c.unwrap_or.ensures ∙ c.if-unwrap_or.true in
    let kept = counted_lowered m c.self.inside.page_count c.self.inside.totals c.self.invariant c.args.index.0 c.args.tag has in
    let ranges = ap (λ (a : Array). a.ranges) c.swap_mark-was.ensures.sets ∙ ap (λ mark. remarked m c.args.index.0 mark false) c.mark_of.ensures in
    subst (λ (totals : Totals). IsCounted c.swap_mark-was.new.self.ranges c.self.inside.page_count totals) (sym c.lower.ensures) (subst (λ (ranges : Ranges). IsCounted ranges c.self.inside.page_count (with_total c.self.inside.totals c.args.tag (total c.self.inside.totals c.args.tag - 1))) (sym ranges) kept)

pub invariant_of-self-else-unwrap_or : goal.invariant_of-self-else-unwrap_or
invariant_of-self-else-unwrap_or c =
    let m = c.self.inside.pages.ranges in
    let isnt = sym (had_mark m c.self.invariant.each c.args.index.0 c.args.tag c.mark_of.result c.swap_mark-was.result c.mark_of.ensures c.swap_mark-was.ensures.before) ∙ sym c.unwrap_or.ensures ∙ c.if-unwrap_or.false in
    let ranges = ap (λ (a : Array). a.ranges) c.swap_mark-was.ensures.sets ∙ ap (λ mark. remarked m c.args.index.0 mark false) c.mark_of.ensures in
    subst (λ (ranges : Ranges). IsCounted ranges c.self.inside.page_count c.self.inside.totals) (sym ranges) (counted_unlowered m c.self.inside.page_count c.self.inside.totals c.self.invariant c.args.index.0 c.args.tag isnt)

pub returns-then-unwrap_or : goal.returns-then-unwrap_or
returns-then-unwrap_or c =
    let m = c.self.inside.pages.ranges in
    let file : Pages → FilePages = λ pages. record { size = c.self.inside.size; pages = pages } in
    ap (λ (a : Array). file (pages_of a.ranges)) c.swap_mark-was.ensures.sets ∙ ap (λ mark. file (pages_of (remarked m c.args.index.0 mark false))) c.mark_of.ensures
    ∙ ap file (pages_of-remarked m c.self.invariant.each c.args.index.0 c.args.tag false) ∙ ap (λ (f : FilePages). record f { pages = change_at c.args.index.0 (with_tag c.args.tag false) f.pages }) c.self.view_is

pub returns-else-unwrap_or : goal.returns-else-unwrap_or
returns-else-unwrap_or c =
    let m = c.self.inside.pages.ranges in
    let file : Pages → FilePages = λ pages. record { size = c.self.inside.size; pages = pages } in
    ap (λ (a : Array). file (pages_of a.ranges)) c.swap_mark-was.ensures.sets ∙ ap (λ mark. file (pages_of (remarked m c.args.index.0 mark false))) c.mark_of.ensures
    ∙ ap file (pages_of-remarked m c.self.invariant.each c.args.index.0 c.args.tag false) ∙ ap (λ (f : FilePages). record f { pages = change_at c.args.index.0 (with_tag c.args.tag false) f.pages }) c.self.view_is
