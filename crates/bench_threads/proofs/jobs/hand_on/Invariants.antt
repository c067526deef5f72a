use Rattle.std.proofs.Common.{◌≤◌}
use Rattle.ring.specs.Serving.{Carries, Serves}
use Rattle.bench_threads.proofs.jobs.hand_on.Given as goal

abbrev pub invariant-loop : goal.invariant-loop
invariant-loop g l =
    Serves l.from l.taking × Carries 7 64 l.page g.B.NamesDeeds.deeds l.taking
    × Serves l.to l.giving × Carries 7 64 l.page g.B.NamesDeeds.deeds l.giving
    × (l.handed ≤ 65536)
