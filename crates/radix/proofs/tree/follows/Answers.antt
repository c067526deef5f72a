use Rattle.std.proofs.Common.{◌/◌, ◌%◌, ◌^◌}
use Rattle.radix.proofs.RunLemmas.{follows_is}
use Rattle.radix.proofs.tree.follows.Goals as goal

pub returns : goal.returns
returns c = follows_is c.args.nodes.now c.args.head c.requires.tree c.args.level (c.args.index / 64 ^ c.args.level) c.args.key c.args.offset (c.args.index / 64 ^ c.args.level % 64) c.index.result.now c.requires.stands c.index.ensures c.requires.within c.follows.result (rw (c.offset_at.ensures) at c.follows.ensures)
