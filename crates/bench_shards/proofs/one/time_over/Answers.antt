use Rattle.shared.proofs.Seating.{fresh_seated}
use Rattle.bench_shards.proofs.one.time_over.Goals as goal

pub time_files-done-requires-after_bounds : goal.time_files-done-requires-after_bounds
time_files-done-requires-after_bounds g c κs within =
    fresh_seated g.B.Naming.table g.B.Naming.name c.args.seats.items c.requires.seats
