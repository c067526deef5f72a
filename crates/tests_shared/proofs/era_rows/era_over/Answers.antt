use Rattle.shared.proofs.Seating.{fresh_seated}
use Rattle.tests_shared.proofs.era_rows.era_over.Goals as goal

pub lives-requires-clause-seats : goal.lives-requires-clause-seats
lives-requires-clause-seats g c κs within = fresh_seated g.B.Naming.table g.B.Naming.name c.args.seats.items c.requires.seats
