use Rattle.std.proofs.Common.{◌≡◌, ◌+◌, ◌-◌}
use Rattle.tests_shared.proofs.era_rows.reads_all.Given as goal

abbrev pub invariant-loop-offset : goal.invariant-loop-offset
invariant-loop-offset g l = l.seat.table ≡ l.fn.seat.table

abbrev pub decreases-loop-offset : goal.decreases-loop-offset
decreases-loop-offset g l = 533 - l.offset
