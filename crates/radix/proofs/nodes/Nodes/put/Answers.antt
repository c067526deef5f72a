use Rattle.std.proofs.Common.{◌/◌, ◌^◌}
use Rattle.radix.proofs.RunLemmas.{free_after, put_unmarked}
use Rattle.radix.proofs.nodes.Nodes.put.Goals as goal

pub returns-clause-unmarked : goal.returns-clause-unmarked
returns-clause-unmarked c =
    put_unmarked c.head_for-head.new.nodes c.put.new.nodes c.args.level (c.args.index / 64 ^ c.args.level)
    (free_after c.self.inside.slab c.args.self.now c.head_for-head.new.nodes c.args.level (c.args.index / 64 ^ c.args.level) c.self.view_is c.head_for-head.ensures.entries c.requires.free)
    c.put.ensures.puts.marks
