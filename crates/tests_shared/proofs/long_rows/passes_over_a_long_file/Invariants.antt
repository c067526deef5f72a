use Rattle.std.proofs.Common.{◌≡◌}
use Rattle.tests_shared.proofs.long_rows.passes_over_a_long_file.Given as goal

abbrev pub invariant-loop-round : goal.invariant-loop-round
invariant-loop-round g l = l.seat.table ≡ l.fn.seat.table
