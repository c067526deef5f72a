use Rattle.std.proofs.Common.{◌/◌, ◌^◌, ◌∙◌}
use Rattle.radix.proofs.RunLemmas.{beside_is}
use Rattle.radix.proofs.tree.beside.Goals as goal

pub returns : goal.returns
returns c = c.entry_of.ensures ∙ rw (c.read.ensures) (beside_is c.args.nodes.now c.args.head c.requires.tree c.args.level (c.args.index / 64 ^ c.args.level) c.args.key c.args.offset c.index.result.now c.requires.stands c.index.ensures c.requires.within)
