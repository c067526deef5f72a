use Rattle.std.proofs.Common.{◌≡◌}
use Rattle.tests_shared.proofs.long_rows.reads_from.Given as goal

abbrev pub invariant-loop-part : goal.invariant-loop-part
invariant-loop-part g l = l.seat.table ≡ l.fn.seat.table
