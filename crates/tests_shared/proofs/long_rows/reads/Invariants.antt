use Rattle.std.proofs.Common.{◌≡◌}
use Rattle.tests_shared.proofs.long_rows.reads.Given as goal

abbrev pub invariant-tries : goal.invariant-tries
invariant-tries g l = l.seat.table ≡ l.fn.seat.table
