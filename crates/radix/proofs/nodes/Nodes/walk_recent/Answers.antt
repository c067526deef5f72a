use Rattle.radix.proofs.VoidLemmas.{void_at, void_no_found}
use Rattle.radix.proofs.nodes.Nodes.walk_recent.Goals as goal

pub returns-in_default-clause-found : goal.returns-in_default-clause-found
returns-in_default-clause-found c = void_no_found c.args.self.now (void_at c.self.inside.slab c.args.self.now c.self.inside.head c.self.invariant.sound c.in_default.is c.self.view_is) c.args.index
