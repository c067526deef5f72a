use Rattle.shared.proofs.Seating.{fresh_seated}
use Rattle.tests_shared.proofs.rows.runs_over.Goals as goal

pub reads_beside_a_write-requires-clause-seats : goal.reads_beside_a_write-requires-clause-seats
reads_beside_a_write-requires-clause-seats g c κs within =
    fresh_seated g.B.Naming.table g.B.Naming.name c.args.seats.items c.requires.seats

pub closes-requires-clause-seats : goal.closes-requires-clause-seats
closes-requires-clause-seats g c = fresh_seated g.B.Naming.table g.B.Naming.name c.args.seats.items c.requires.seats

pub closes_with_a_full_ring-requires-clause-seats : goal.closes_with_a_full_ring-requires-clause-seats
closes_with_a_full_ring-requires-clause-seats g c = fresh_seated g.B.Naming.table g.B.Naming.name c.args.seats.items c.requires.seats

pub leaves_a_history-requires-clause-seats : goal.leaves_a_history-requires-clause-seats
leaves_a_history-requires-clause-seats g c = fresh_seated g.B.Naming.table g.B.Naming.name c.args.seats.items c.requires.seats

pub stops_with_a_full_ring-requires-clause-seats : goal.stops_with_a_full_ring-requires-clause-seats
stops_with_a_full_ring-requires-clause-seats g c = fresh_seated g.B.Naming.table g.B.Naming.name c.args.seats.items c.requires.seats

pub wakes-requires-clause-seats : goal.wakes-requires-clause-seats
wakes-requires-clause-seats g c κs within =
    fresh_seated g.B.Naming.table g.B.Naming.name c.args.seats.items c.requires.seats

pub two_of-requires : goal.two_of-requires
two_of-requires g c = fresh_seated g.B.Naming.table g.B.Naming.name c.args.seats.items c.requires.seats

pub fills_the_device-requires-clause-seats : goal.fills_the_device-requires-clause-seats
fills_the_device-requires-clause-seats g c κs within =
    fresh_seated g.B.Naming.table g.B.Naming.name c.args.seats.items c.requires.seats
