use Rattle.std.proofs.Common.{◌/◌, ◌^◌}
use Rattle.radix.proofs.RunLemmas.{not_further}
use Rattle.radix.proofs.marks.begins.Goals as goal

pub returns : goal.returns
returns c = not_further c.args.nodes.now c.args.head c.requires.sound c.args.level (c.args.index / 64 ^ c.args.level) c.args.key c.args.offset c.index.result.now c.requires.stands c.index.ensures c.requires.within c.has_bit.result c.has_bit.ensures
