use Rattle.shared.proofs.Seating.{fresh_seated}
use Rattle.tests_shared.proofs.stop_rows.runs_over.Goals as goal

pub two_of-requires : goal.two_of-requires
two_of-requires g c = fresh_seated g.B.Naming.table g.B.Naming.name c.args.seats.items c.requires.seats
