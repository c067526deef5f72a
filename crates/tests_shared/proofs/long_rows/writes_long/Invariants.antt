use Rattle.std.proofs.Common.{◌≡◌}
use Rattle.tests_shared.proofs.long_rows.writes_long.Given as goal

abbrev pub invariant-loop-part : goal.invariant-loop-part
invariant-loop-part g l = l.seat.table ≡ l.fn.seat.table
