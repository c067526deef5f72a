use Rattle.std.proofs.Common.{◌≡◌}
use Rattle.tests_shared.proofs.space_rows.takes_blocks.Given as goal

abbrev pub invariant-loop-call : goal.invariant-loop-call
invariant-loop-call g l = l.seat.table ≡ l.fn.seat.table
