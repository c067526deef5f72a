use Rattle.radix.proofs.VoidLemmas.{whole_at}
use Rattle.radix.proofs.nodes.Nodes.reserve_nodes.Goals as goal

pub invariant_of-self : goal.invariant_of-self
invariant_of-self c = whole_at c.self.inside.slab c.reserve.new.self c.self.inside.head c.reserve.ensures.rest_kept c.self.invariant

pub invariant_of-self-then-capacity-ge4611686018427387904 : goal.invariant_of-self-then-capacity-ge4611686018427387904
invariant_of-self-then-capacity-ge4611686018427387904 c = whole_at c.self.inside.slab c.reserve.new.self c.self.inside.head c.reserve.ensures.rest_kept c.self.invariant

pub invariant_of-self-2 : goal.invariant_of-self-2
invariant_of-self-2 c = whole_at c.self.inside.slab c.reserve.new.self c.self.inside.head c.reserve.ensures.rest_kept c.self.invariant
