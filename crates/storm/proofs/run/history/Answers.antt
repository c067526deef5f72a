use Rattle.storm.proofs.Seating.{all_seated}
use Rattle.storm.proofs.run.history.Goals as goal

pub members_of-members-requires : goal.members_of-members-requires
members_of-members-requires g c = all_seated g.B.Naming.table g.B.Naming.name c.args.seats.items c.requires.seats
