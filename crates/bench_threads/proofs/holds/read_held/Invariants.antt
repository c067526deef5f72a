use Rattle.std.proofs.Common.{◌≡◌}
use Rattle.bench_threads.proofs.holds.read_held.Given as goal

abbrev pub invariant-loop-index : goal.invariant-loop-index
invariant-loop-index g l = record { seat : l.seat.table ≡ l.fn.seat.table }
