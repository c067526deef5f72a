use Rattle.std.proofs.Common.{arith}
use Rattle.radix.proofs.ReplaceLemmas.{replace_sound, replace_writes, replace_stands}
use Rattle.radix.proofs.removal.replace.Goals as goal

pub offset_at-requires : goal.offset_at-requires
offset_at-requires c =
    let s = c.requires.stands in
    let low = (c.requires.sound.tree.nodes c.args.key s.node s.there).level in
    omega (arith, low, s.level_is)

pub returns-clause-sound : goal.returns-clause-sound
returns-clause-sound c = rw (c.leaf.ensures) (replace_sound c.args.nodes.now c.args.head c.args.level c.args.index c.args.key c.offset_at.result c.index_mut-node.result.now c.args.value c.requires.sound c.requires.leaf c.requires.stands c.index_mut-node.ensures.value c.offset_at.ensures)

pub returns-clause-writes : goal.returns-clause-writes
returns-clause-writes c = rw (c.leaf.ensures) (replace_writes c.args.nodes.now c.args.head c.args.level c.args.index c.args.key c.offset_at.result c.index_mut-node.result.now c.args.value c.requires.sound c.requires.leaf c.requires.stands c.index_mut-node.ensures.value c.offset_at.ensures)

pub returns-clause-stands : goal.returns-clause-stands
returns-clause-stands c = rw (c.leaf.ensures) (replace_stands c.args.nodes.now c.args.head c.args.level c.args.index c.args.key c.offset_at.result c.index_mut-node.result.now c.args.value c.requires.sound c.requires.leaf c.requires.stands c.index_mut-node.ensures.value c.offset_at.ensures)
