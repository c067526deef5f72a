use Rattle.std.proofs.Common.{◌≡◌}
use Rattle.torture.proofs.desk.create_all.Given as goal

abbrev pub invariant-loop : goal.invariant-loop
invariant-loop g l = l.solo.world.core.name ≡ l.fn.solo.world.core.name
