use Rattle.std.proofs.Common.{◌/◌, ◌^◌, sym}
use Rattle.radix.proofs.VoidLemmas.{void_at, void_entry}
use Rattle.radix.proofs.nodes.Nodes.get.Goals as goal

pub returns-in-None : goal.returns-in-None
returns-in-None c = sym (void_entry c.args.self.now (void_at c.self.inside.slab c.args.self.now c.self.inside.head c.self.invariant.sound c.in-None.is c.self.view_is) c.args.level (c.args.index / 64 ^ c.args.level))
