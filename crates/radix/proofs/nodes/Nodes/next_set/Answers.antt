use Rattle.radix.proofs.VoidLemmas.{void_at, void_no_next}
use Rattle.radix.proofs.nodes.Nodes.next_set.Goals as goal

pub returns-in-None-clause-next : goal.returns-in-None-clause-next
returns-in-None-clause-next c = void_no_next c.args.self.now (void_at c.self.inside.slab c.args.self.now c.self.inside.head c.self.invariant.sound c.in-None.is c.self.view_is) c.args.mark c.args.index
