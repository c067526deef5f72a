use Rattle.std.proofs.Common.{◌≡◌}
use Rattle.tests_shared.proofs.thread_rows.overfills.Given as goal

abbrev pub invariant-loop-page : goal.invariant-loop-page
invariant-loop-page g l = l.seat.table ≡ l.fn.seat.table
