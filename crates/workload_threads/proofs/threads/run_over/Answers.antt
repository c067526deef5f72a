use Rattle.shared.proofs.Seating.{fresh_seated}
use Rattle.workload_threads.proofs.threads.run_over.Goals as goal

pub members_of-members-requires : goal.members_of-members-requires
members_of-members-requires g c = fresh_seated g.B.Naming.table g.B.Naming.name c.args.seats.items c.requires.seats
