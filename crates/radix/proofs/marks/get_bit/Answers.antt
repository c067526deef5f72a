use Rattle.std.proofs.Common.{◌/◌, ◌^◌, arith}
use Rattle.radix.proofs.BitLemmas.{bit_read}
use Rattle.radix.proofs.marks.get_bit.Goals as goal

pub offset_at-requires : goal.offset_at-requires
offset_at-requires c =
    let s = c.requires.stands in
    let low = (c.requires.tree.nodes c.args.key s.node s.there).level in
    omega (arith, low, s.level_is)

pub returns : goal.returns
returns c = bit_read c.args.nodes.now c.args.head c.requires.tree c.args.mark c.args.level (c.args.index / 64 ^ c.args.level) c.args.key c.index.result.now c.offset_at.result c.has_bit.result c.requires.stands c.index.ensures c.requires.leaf c.offset_at.ensures c.has_bit.ensures
