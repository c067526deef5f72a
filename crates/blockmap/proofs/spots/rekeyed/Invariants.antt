use Rattle.blockmap.proofs.MoveLemmas.{IsMoving}
use Rattle.blockmap.proofs.spots.rekeyed.Given as goal

abbrev pub invariant-loop-found : goal.invariant-loop-found
invariant-loop-found l =
    (goal.iterator-loop-found).can_next l.found-iterator ×
    (goal.iterator-loop-found).is_finite l.found-iterator ×
    IsMoving l.from.bits l.to.bits l.array.ranges l.wide.ranges l.found-iterator
