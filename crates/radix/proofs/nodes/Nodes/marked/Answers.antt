use Rattle.std.proofs.Common.{arith}
use Rattle.radix.proofs.VoidLemmas.{void_at}
use Rattle.radix.proofs.MarkedLemmas.{tells_at, void_not_marked}
use Rattle.radix.proofs.nodes.Nodes.marked.Goals as goal

pub returns-in-Some : goal.returns-in-Some
returns-in-Some c = tells_at c.self.inside.slab c.args.self.now c.self.inside.head c.in-Some.head c.args.mark c.index.result.now c.self.invariant.sound c.in-Some.is c.self.view_is (omega (arith, c.requires)) c.index.ensures

pub returns-in-None : goal.returns-in-None
returns-in-None c = void_not_marked c.args.self.now (void_at c.self.inside.slab c.args.self.now c.self.inside.head c.self.invariant.sound c.in-None.is c.self.view_is) c.args.mark
