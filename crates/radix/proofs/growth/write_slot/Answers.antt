use Rattle.radix.proofs.PutLemmas.{fill_sound, fill_puts, fill_stands}
use Rattle.radix.proofs.growth.write_slot.Goals as goal

pub returns-clause-sound : goal.returns-clause-sound
returns-clause-sound c = rw (c.of.ensures) (fill_sound c.args.nodes.now c.args.head c.args.key c.index_mut-node.result.now c.args.level c.args.place c.args.slot c.requires.entry c.requires.sound c.requires.stands c.index_mut-node.ensures.value c.requires.free)

pub returns-clause-writes : goal.returns-clause-writes
returns-clause-writes c = rw (c.of.ensures) (fill_puts c.args.nodes.now c.args.head c.args.key c.index_mut-node.result.now c.args.level c.args.place c.args.slot c.requires.entry c.requires.sound c.requires.stands c.index_mut-node.ensures.value c.requires.free)

pub returns-clause-stands : goal.returns-clause-stands
returns-clause-stands c = rw (c.of.ensures) (fill_stands c.args.nodes.now c.args.head c.args.key c.index_mut-node.result.now c.args.level c.args.place c.args.slot c.requires.entry c.requires.sound c.requires.stands c.index_mut-node.ensures.value c.requires.free)
