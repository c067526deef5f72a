use Rattle.radix.proofs.VoidLemmas.{void_at, void_no_found}
use Rattle.radix.proofs.nodes.Nodes.walk.Goals as goal

pub returns-in-None-clause-found : goal.returns-in-None-clause-found
returns-in-None-clause-found c = void_no_found c.args.self.now (void_at c.self.inside.slab c.args.self.now c.self.inside.head c.self.invariant.sound c.in-None.is c.self.view_is) c.args.index
