use Rattle.std.proofs.Common.{◌≡◌}
use Rattle.tests_shared.proofs.worker_rows.writes_each_time.Given as goal

abbrev pub invariant-loop-round : goal.invariant-loop-round
invariant-loop-round g l = l.caller.table ≡ l.fn.caller.table
