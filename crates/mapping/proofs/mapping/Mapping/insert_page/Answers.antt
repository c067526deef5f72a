use Rattle.std.proofs.Common.{◌≡◌, ◌+◌, ◌^◌, ◌<◌, ap, sym, subst, ◌∙◌, arith}
use Rattle.std.specs.Prelude.{IfErr, is_some}
use Rattle.std.specs.FinMap as finmap
use Rattle.pc_types.specs.declared.refusal.Refusal.{Refusal}
use Rattle.pc_types.specs.declared.refusal.Refusal.TheVariants.{Memory}
use Rattle.xarray.specs.MarkedArray.{Array, unmarked}
use Rattle.mapping.specs.Pages.{FilePages, Pages, untagged}
use Rattle.mapping.specs.View.{pages_of, IsCounted}
use Rattle.mapping.proofs.ArrayLemmas.{err_is, few_pages, no_entry, not_there, pages_of-insert, stands}
use Rattle.mapping.proofs.CountedLemmas.{counted_insert}
use Rattle.mapping.proofs.mapping.Mapping.insert_page.Goals as goal

pub returns-in_err-insert-clause-busy : goal.returns-in_err-insert-clause-busy
returns-in_err-insert-clause-busy c = λ there.
    let small : c.args.frame.0 < 2 ^ 63 = omega arith in
    err_is c.from_residual.result c.in_err-insert.field-0.0 c.from_residual.ensures.1
    ∙ c.in_err-insert.ensures.busy small (stands c.self.inside.pages.ranges c.self.invariant.each c.args.index.0 ∙ ap (λ (f : FilePages). is_some (finmap.get f.pages c.args.index.0)) c.self.view_is ∙ there)

pub returns-in_err-insert-clause-memory : goal.returns-in_err-insert-clause-memory
returns-in_err-insert-clause-memory c = λ none.
    let small : c.args.frame.0 < 2 ^ 63 = omega arith in
    subst (λ r. IfErr r (λ (x : Refusal). x ≡ Memory)) (sym (err_is c.from_residual.result c.in_err-insert.field-0.0 c.from_residual.ensures.1))
    (c.in_err-insert.ensures.memory small (no_entry c.self.inside.pages.ranges c.self.invariant.each c.args.index.0 (ap (λ (f : FilePages). finmap.get f.pages c.args.index.0) c.self.view_is ∙ none)))

pub overflow_add-self : goal.overflow_add-self
overflow_add-self c = omega (arith, c.self.invariant.pages, few_pages c.self.inside.pages.ranges c.self.invariant.each)

pub invariant_of-self-2 : goal.invariant_of-self-2
invariant_of-self-2 c =
    let small : c.args.frame.0 < 2 ^ 63 = omega arith in
    let fits : c.args.frame.0 < 2 ^ 32 = omega arith in
    let none = not_there c.self.inside.pages.ranges c.self.invariant.each c.args.index.0 (λ some. let e = c.in_ok-insert.ensures.busy small some in cc) in
    subst (λ (a : Array). IsCounted a.ranges (c.self.inside.page_count + 1) c.self.inside.totals) (sym c.in_ok-insert.ensures.inserts)
    (counted_insert c.self.inside.pages.ranges c.self.inside.page_count c.self.inside.totals c.self.invariant c.args.index.0 c.args.frame.0 none fits c.requires)

pub returns-clause-busy : goal.returns-clause-busy
returns-clause-busy c = λ there.
    let small : c.args.frame.0 < 2 ^ 63 = omega arith in
    c.in_ok-insert.ensures.busy small (stands c.self.inside.pages.ranges c.self.invariant.each c.args.index.0 ∙ ap (λ (f : FilePages). is_some (finmap.get f.pages c.args.index.0)) c.self.view_is ∙ there)

pub returns-clause-done : goal.returns-clause-done
returns-clause-done c =
    let file : Pages → FilePages = λ pages. record { size = c.self.inside.size; pages = pages } in
    ap (λ (a : Array). file (pages_of a.ranges)) c.in_ok-insert.ensures.inserts ∙ ap file (pages_of-insert c.self.inside.pages.ranges c.args.index.0 (unmarked 0 c.args.frame.0))
    ∙ ap (λ (f : FilePages). record f { pages = finmap.insert f.pages c.args.index.0 (untagged c.args.frame.0) }) c.self.view_is
