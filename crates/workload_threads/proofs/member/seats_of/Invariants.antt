use Rattle.std.proofs.Common.{◌≡◌}
use Rattle.std.specs.Prelude.{All}
use Rattle.workload_threads.proofs.member.seats_of.Given as goal

abbrev pub invariant-loop-member : goal.invariant-loop-member
invariant-loop-member g l = All (λ s. s.table ≡ g.B.Naming.table) l.seats.items
