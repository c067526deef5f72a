use Rattle.std.proofs.Common.{◌≡◌}
use Rattle.bench_threads.proofs.holds.time_holds.Given as goal

abbrev pub invariant-loop-round : goal.invariant-loop-round
invariant-loop-round g l = record { seat : l.seat.table ≡ l.fn.seat.table }
