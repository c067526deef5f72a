use Rattle.xarray_trace.proofs.SumLemmas.{Sums}
use Rattle.xarray_trace.proofs.entries.count_and_hash.Given as goal

abbrev pub invariant-loop-found : goal.invariant-loop-found
invariant-loop-found l =
    (goal.iterator-loop-found).can_next l.found-iterator ×
    (goal.iterator-loop-found).is_finite l.found-iterator ×
    Sums l.array.ranges l.found-iterator l.count l.hash
