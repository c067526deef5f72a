use Rattle.std.proofs.Common.{◌/◌, ◌^◌}
use Rattle.radix.proofs.RunLemmas.{free_after, put_unmarked}
use Rattle.radix.proofs.DescentLemmas.{SameSlots-refl}
use Rattle.radix.proofs.nodes.Nodes.fill.Goals as goal

pub returns-clause-unmarked : goal.returns-clause-unmarked
returns-clause-unmarked c =
    put_unmarked c.self.inside.slab c.fill.new.nodes c.args.level (c.args.index / 64 ^ c.args.level)
    (free_after c.self.inside.slab c.args.self.now c.self.inside.slab c.args.level (c.args.index / 64 ^ c.args.level) c.self.view_is (SameSlots-refl c.self.inside.slab) c.requires.free)
    c.fill.ensures.puts.marks
