use Rattle.std.proofs.Common.{arith, cond}
use Rattle.radix.specs.Entries.{bits}
use Rattle.radix.proofs.MarkLemmas.{same_test_not}
use Rattle.radix.proofs.BitLemmas.{set_tree, set_above, set_sound, set_puts, set_stands, set_kept, carried_sound, carried_kept, carried_puts, carried_stands}
use Rattle.radix.proofs.marks.change_bit.Goals as goal

pub offset_at-offset-requires : goal.offset_at-offset-requires
offset_at-offset-requires c =
    let s = c.requires.stands in
    let low = (c.requires.sound.tree.nodes c.args.key s.node s.there).level in
    omega (arith, low, s.level_is)

pub carry-requires-clause-tree : goal.carry-requires-clause-tree
carry-requires-clause-tree c = set_tree c.args.nodes.now c.args.head c.args.level c.args.index c.args.key c.index_mut-node.result.now c.args.mark c.offset_at-offset.result c.put_bit-now.result (cond c.args.is_set 1 0)
    c.requires.mark c.put_bit-now.type_inv c.requires.sound c.requires.leaf c.requires.stands c.index_mut-node.ensures.value c.offset_at-offset.ensures c.put_bit-now.ensures

pub carry-requires-clause-exact : goal.carry-requires-clause-exact
carry-requires-clause-exact c = set_above c.args.nodes.now c.args.head c.args.level c.args.index c.args.key c.index_mut-node.result.now c.args.mark c.offset_at-offset.result c.put_bit-now.result (cond c.args.is_set 1 0)
    c.requires.mark c.put_bit-now.type_inv c.requires.sound c.requires.leaf c.requires.stands c.index_mut-node.ensures.value c.offset_at-offset.ensures c.put_bit-now.ensures

pub returns-then-bits-now-clause-sound : goal.returns-then-bits-now-clause-sound
returns-then-bits-now-clause-sound c = carried_sound c.args.nodes.now c.args.head c.args.level c.args.index c.args.key c.index_mut-node.result.now c.args.mark c.offset_at-offset.result c.put_bit-now.result (cond c.args.is_set 1 0)
    c.requires.mark c.put_bit-now.type_inv c.requires.sound c.requires.leaf c.requires.stands c.index_mut-node.ensures.value c.offset_at-offset.ensures c.put_bit-now.ensures
    c.carry.new.nodes c.carry.ensures.tree c.carry.ensures.exact c.carry.ensures.remarks

pub returns-then-bits-now-clause-writes : goal.returns-then-bits-now-clause-writes
returns-then-bits-now-clause-writes c = carried_puts c.args.nodes.now c.args.head c.args.level c.args.index c.args.key c.index_mut-node.result.now c.args.mark c.offset_at-offset.result c.put_bit-now.result (cond c.args.is_set 1 0)
    c.requires.mark c.put_bit-now.type_inv c.requires.sound c.requires.leaf c.requires.stands c.index_mut-node.ensures.value c.offset_at-offset.ensures c.put_bit-now.ensures
    c.carry.new.nodes c.carry.ensures.tree c.carry.ensures.exact c.carry.ensures.remarks

pub returns-else-bits-now-clause-sound : goal.returns-else-bits-now-clause-sound
returns-else-bits-now-clause-sound c = set_sound c.args.nodes.now c.args.head c.args.level c.args.index c.args.key c.index_mut-node.result.now c.args.mark c.offset_at-offset.result c.put_bit-now.result (cond c.args.is_set 1 0)
    c.requires.mark c.put_bit-now.type_inv c.requires.sound c.requires.leaf c.requires.stands c.index_mut-node.ensures.value c.offset_at-offset.ensures c.put_bit-now.ensures
    (same_test_not (bits c.index_mut-node.result.now c.args.mark) c.put_bit-now.result c.if-bits-now.false)

pub returns-else-bits-now-clause-writes : goal.returns-else-bits-now-clause-writes
returns-else-bits-now-clause-writes c = set_puts c.args.nodes.now c.args.head c.args.level c.args.index c.args.key c.index_mut-node.result.now c.args.mark c.offset_at-offset.result c.put_bit-now.result (cond c.args.is_set 1 0)
    c.requires.mark c.put_bit-now.type_inv c.requires.sound c.requires.leaf c.requires.stands c.index_mut-node.ensures.value c.offset_at-offset.ensures c.put_bit-now.ensures

pub returns-then-bits-now-clause-stands : goal.returns-then-bits-now-clause-stands
returns-then-bits-now-clause-stands c = carried_stands c.args.nodes.now c.args.head c.args.level c.args.index c.args.key c.index_mut-node.result.now c.args.mark c.offset_at-offset.result c.put_bit-now.result (cond c.args.is_set 1 0)
    c.requires.mark c.put_bit-now.type_inv c.requires.sound c.requires.leaf c.requires.stands c.index_mut-node.ensures.value c.offset_at-offset.ensures c.put_bit-now.ensures
    c.carry.new.nodes c.carry.ensures.tree c.carry.ensures.exact c.carry.ensures.remarks

pub returns-else-bits-now-clause-stands : goal.returns-else-bits-now-clause-stands
returns-else-bits-now-clause-stands c = set_stands c.args.nodes.now c.args.head c.args.level c.args.index c.args.key c.index_mut-node.result.now c.args.mark c.offset_at-offset.result c.put_bit-now.result (cond c.args.is_set 1 0)
    c.requires.mark c.put_bit-now.type_inv c.requires.sound c.requires.leaf c.requires.stands c.index_mut-node.ensures.value c.offset_at-offset.ensures c.put_bit-now.ensures

pub returns-then-bits-now-clause-kept : goal.returns-then-bits-now-clause-kept
returns-then-bits-now-clause-kept c = carried_kept c.args.nodes.now c.args.head c.args.level c.args.index c.args.key c.index_mut-node.result.now c.args.mark c.offset_at-offset.result c.put_bit-now.result (cond c.args.is_set 1 0)
    c.requires.mark c.put_bit-now.type_inv c.requires.sound c.requires.leaf c.requires.stands c.index_mut-node.ensures.value c.offset_at-offset.ensures c.put_bit-now.ensures
    c.carry.new.nodes c.carry.ensures.tree c.carry.ensures.exact c.carry.ensures.remarks

pub returns-else-bits-now-clause-kept : goal.returns-else-bits-now-clause-kept
returns-else-bits-now-clause-kept c = set_kept c.args.nodes.now c.args.head c.args.level c.args.index c.args.key c.index_mut-node.result.now c.args.mark c.offset_at-offset.result c.put_bit-now.result (cond c.args.is_set 1 0)
    c.requires.mark c.put_bit-now.type_inv c.requires.sound c.requires.leaf c.requires.stands c.index_mut-node.ensures.value c.offset_at-offset.ensures c.put_bit-now.ensures
