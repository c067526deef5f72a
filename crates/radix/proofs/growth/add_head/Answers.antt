use Rattle.std.proofs.Common.{arith}
use Rattle.radix.proofs.HeadLemmas.{head_sound, head_entries, level_known}
use Rattle.radix.proofs.growth.add_head.Goals as goal

pub returns-clause-sound : goal.returns-clause-sound
returns-clause-sound c = rw (c.of-top.ensures) (head_sound c.args.nodes.now c.insert_reserved-above.new.self c.args.head c.index.result.now c.index_mut-top.result.now c.over-over.result c.insert_reserved-above.result c.requires.sound c.index.ensures (level_known c.args.nodes.now c.args.head c.index.result.now c.index.ensures c.requires.low) c.insert_reserved-above.ensures.was_vacant (let h = c.insert_reserved-above.ensures in omega (arith, h.key_in_range, h.capacity, c.requires.small)) c.insert_reserved-above.ensures.updates c.over-over.ensures c.index_mut-top.ensures.value)

pub returns-clause-entries : goal.returns-clause-entries
returns-clause-entries c = rw (c.of-top.ensures) (head_entries c.args.nodes.now c.insert_reserved-above.new.self c.args.head c.index.result.now c.index_mut-top.result.now c.over-over.result c.insert_reserved-above.result c.requires.sound c.index.ensures (level_known c.args.nodes.now c.args.head c.index.result.now c.index.ensures c.requires.low) c.insert_reserved-above.ensures.was_vacant (let h = c.insert_reserved-above.ensures in omega (arith, h.key_in_range, h.capacity, c.requires.small)) c.insert_reserved-above.ensures.updates c.over-over.ensures c.index_mut-top.ensures.value)
