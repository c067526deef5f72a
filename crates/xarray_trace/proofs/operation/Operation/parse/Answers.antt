use Rattle.std.proofs.Common.{◌≡◌, sym, ap, subst, ◌∙◌, MatchOption}
use Rattle.xarray_trace.specs.declared.operation.Operation.{Operation}
use Rattle.xarray_trace.specs.Lines.{Means}
use Rattle.xarray_trace.specs.Operations.{with_numbers}
use Rattle.xarray_trace.proofs.OperationLemmas.{means_with}
use Rattle.xarray_trace.proofs.operation.Operation.parse.Goals as goal

pub returns-in-Some-2 : goal.returns-in-Some-2
returns-in-Some-2 c =
    let e = sym c.new-words.ensures ∙ c.in-Some.ensures in
    let are = rw c.in-Some-2.is at c.in_ok-numbers.ensures in
    let same : with_numbers c.in-Some-of.keyword c.in-Some-2.numbers.items ≡ c.operation_with.result =
    ap (with_numbers c.in-Some-of.keyword) (sym c.as_slice.ensures.value) ∙ sym c.operation_with.ensures in
    subst (λ r. MatchOption r ((operation : Operation) → ¬ (Means c.args.line.now operation)) (Means c.args.line.now)) same
    (means_with c.args.line.now c.in-Some.name.now _ c.in-Some-of.keyword c.in-Some-2.numbers.items e c.in-Some-of.ensures are)
