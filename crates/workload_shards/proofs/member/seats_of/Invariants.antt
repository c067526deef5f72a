use Rattle.std.specs.Prelude.{All}
use Rattle.shared.specs.ShardSeats.{AreSeated}
use Rattle.workload_shards.proofs.member.seats_of.Given as goal

abbrev pub invariant-loop-member : goal.invariant-loop-member
invariant-loop-member g l = All (AreSeated g.B.ShardNaming.names) l.seats.items
