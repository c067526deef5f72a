use Rattle.radix.proofs.RemovalLemmas.{some_used, erase_sound, erase_writes, erase_stands}
use Rattle.radix.proofs.removal.erase_slot.Goals as goal

pub returns-clause-sound : goal.returns-clause-sound
returns-clause-sound c = rw (c.empty.ensures) (erase_sound c.args.nodes.now c.args.head c.args.level c.args.place c.args.key c.index_mut-node.result.now c.requires.sound c.requires.entry c.requires.unmarked c.requires.stands c.index_mut-node.ensures.value)

pub returns-clause-writes : goal.returns-clause-writes
returns-clause-writes c = rw (c.empty.ensures) (erase_writes c.args.nodes.now c.args.head c.args.level c.args.place c.args.key c.index_mut-node.result.now c.requires.sound c.requires.entry c.requires.unmarked c.requires.stands c.index_mut-node.ensures.value)

pub returns-clause-stands : goal.returns-clause-stands
returns-clause-stands c = rw (c.empty.ensures) (erase_stands c.args.nodes.now c.args.head c.args.level c.args.place c.args.key c.index_mut-node.result.now c.requires.sound c.requires.entry c.requires.unmarked c.requires.stands c.index_mut-node.ensures.value)

pub overflow_sub-node : goal.overflow_sub-node
overflow_sub-node c = some_used c.args.nodes.now c.args.head c.args.level c.args.place c.args.key c.index_mut-node.result.now c.requires.sound c.requires.entry c.requires.unmarked c.requires.stands c.index_mut-node.ensures.value
