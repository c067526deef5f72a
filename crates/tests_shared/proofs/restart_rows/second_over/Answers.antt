use Rattle.shared.proofs.Seating.{fresh_seated}
use Rattle.tests_shared.proofs.restart_rows.second_over.Goals as goal

pub finds-requires-clause-seats : goal.finds-requires-clause-seats
finds-requires-clause-seats g c = fresh_seated g.B.Naming.table g.B.Naming.name c.args.seats.items c.requires.seats
