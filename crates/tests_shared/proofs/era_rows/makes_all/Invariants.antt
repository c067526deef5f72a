use Rattle.std.proofs.Common.{◌≡◌}
use Rattle.tests_shared.proofs.era_rows.makes_all.Given as goal

abbrev pub invariant-loop : goal.invariant-loop
invariant-loop g l = l.seat.table ≡ l.fn.seat.table
