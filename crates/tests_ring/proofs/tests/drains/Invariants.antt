use Rattle.ring.specs.Serving.{Serves}
use Rattle.tests_ring.proofs.tests.drains.Given as goal

abbrev pub invariant-loop-serial : goal.invariant-loop-serial
invariant-loop-serial g l = Serves l.ring l.pass
