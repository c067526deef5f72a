use Rattle.std.proofs.Common.{◌≡◌}
use Rattle.bench_threads.proofs.holds.write_held.Given as goal

abbrev pub invariant-loop-page : goal.invariant-loop-page
invariant-loop-page g l = record { seat : l.seat.table ≡ l.fn.seat.table }
