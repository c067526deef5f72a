use Rattle.std.proofs.Common.{◌≡◌}
use Rattle.radix.specs.Tree.{run_slots}
use Rattle.radix.proofs.growth.write_slots.Given as goal

abbrev pub invariant-rest : goal.invariant-rest
invariant-rest l = l.node ≡ record l.fn.node { slots = run_slots l.fn.node.slots l.first l.value l.j }
