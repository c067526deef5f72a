use Rattle.std.proofs.Common.{◌/◌, ◌^◌}
use Rattle.radix.proofs.VoidLemmas.{void_at}
use Rattle.radix.proofs.MarkedLemmas.{void_not_under}
use Rattle.radix.proofs.nodes.Nodes.marked_under.Goals as goal

pub returns-in-None : goal.returns-in-None
returns-in-None c = void_not_under c.args.self.now (void_at c.self.inside.slab c.args.self.now c.self.inside.head c.self.invariant.sound c.in-None.is c.self.view_is) c.args.mark c.args.level (c.args.index / 64 ^ c.args.level)
