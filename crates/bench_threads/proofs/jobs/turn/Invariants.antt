use Rattle.ring.specs.Order.{IsParcelFor}
use Rattle.ring.specs.Serving.{Carries, Serves}
use Rattle.bench_threads.proofs.jobs.turn.Given as goal

abbrev pub invariant-loop : goal.invariant-loop
invariant-loop g l =
    Serves l.ring l.pass × Carries 7 64 l.page g.B.NamesDeeds.deeds l.pass
    × IsParcelFor 7 64 l.page g.B.NamesDeeds.deeds l.parcel
