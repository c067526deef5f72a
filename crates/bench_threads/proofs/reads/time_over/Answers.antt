use Rattle.shared.proofs.Seating.{fresh_seated}
use Rattle.bench_threads.proofs.reads.time_over.Goals as goal

pub time_rounds-done-requires-after_bounds : goal.time_rounds-done-requires-after_bounds
time_rounds-done-requires-after_bounds g c κs within =
    fresh_seated g.B.Naming.table g.B.Naming.name c.args.seats.items c.requires.seats
