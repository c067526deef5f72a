use Rattle.xarray_trace.proofs.SumLemmas.{Printed}
use Rattle.xarray_trace.proofs.run.print_entries.Given as goal

abbrev pub invariant-loop-found : goal.invariant-loop-found
invariant-loop-found g l =
    (goal.iterator-loop-found g).can_next l.found-iterator ×
    (goal.iterator-loop-found g).is_finite l.found-iterator ×
    Printed l.array.ranges l.found-iterator (g.W.Write.contents l.initial.out.writer) (g.W.Write.contents l.out.writer)
