use Rattle.std.proofs.Common.{◌≤◌}
use Rattle.ring.specs.Serving.{Serves}
use Rattle.tests_ring.proofs.tests.work.Given as goal

abbrev pub invariant-loop : goal.invariant-loop
invariant-loop g l = Serves l.ring l.pass × (l.moved ≤ 100000)
