use Rattle.shared.proofs.Seating.{fresh_seated}
use Rattle.tests_shared.proofs.restart_rows.first_over.Goals as goal

pub leaves-requires-clause-seats : goal.leaves-requires-clause-seats
leaves-requires-clause-seats g c = fresh_seated g.B.Naming.table g.B.Naming.name c.args.seats.items c.requires.seats
