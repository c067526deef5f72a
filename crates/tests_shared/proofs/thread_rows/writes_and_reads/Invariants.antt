use Rattle.std.proofs.Common.{◌≡◌}
use Rattle.tests_shared.proofs.thread_rows.writes_and_reads.Given as goal

abbrev pub invariant-loop : goal.invariant-loop
invariant-loop g l = l.seat.table ≡ g.B.Naming.table
