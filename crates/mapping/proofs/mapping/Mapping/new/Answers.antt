use Rattle.std.proofs.Common.{ap, sym, subst, ◌∙◌}
use Rattle.xarray.specs.MarkedArray.{Array}
use Rattle.mapping.specs.declared.totals.Totals.{Totals}
use Rattle.mapping.specs.Pages.{FilePages, Pages}
use Rattle.mapping.specs.View.{pages_of, IsCounted}
use Rattle.mapping.proofs.ArrayLemmas.{pages_of-empty}
use Rattle.mapping.proofs.CountedLemmas.{counted_empty}
use Rattle.mapping.proofs.mapping.Mapping.new.Goals as goal

pub invariant_of-result : goal.invariant_of-result
invariant_of-result c =
    let none : Totals = record { dirty = 0; writeback = 0; towrite = 0 } in
    subst (λ (totals : Totals). IsCounted c.new.result.ranges 0 totals) (sym c.zero.ensures) (subst (λ (a : Array). IsCounted a.ranges 0 none) (sym c.new.ensures) counted_empty)

pub returns : goal.returns
returns c =
    let file : Pages → FilePages = λ pages. record { size = 0; pages = pages } in
    ap (λ (a : Array). file (pages_of a.ranges)) c.new.ensures ∙ ap file pages_of-empty
