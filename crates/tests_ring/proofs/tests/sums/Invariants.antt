use Rattle.ring.specs.Serving.{Serves}
use Rattle.tests_ring.proofs.tests.sums.Given as goal

abbrev pub invariant-loop-count : goal.invariant-loop-count
invariant-loop-count g l = Serves l.ring l.pass
