use Rattle.std.proofs.Common.{arith}
use Rattle.radix.proofs.HeadLemmas.{plant_sound, plant_entries, updates_at}
use Rattle.radix.proofs.growth.plant.Goals as goal

pub returns-clause-sound : goal.returns-clause-sound
returns-clause-sound c = plant_sound c.args.nodes.now c.insert_reserved.new.self c.insert_reserved.result c.height_for-height.result c.requires.void (let h = c.insert_reserved.ensures in omega (arith, h.key_in_range, h.capacity, c.requires.room.keys)) c.height_for-height.ensures.high (updates_at c.args.nodes.now c.insert_reserved.new.self c.insert_reserved.result c.blank_at.result c.height_for-height.result c.blank_at.ensures c.insert_reserved.ensures.updates)

pub returns-clause-entries : goal.returns-clause-entries
returns-clause-entries c = plant_entries c.args.nodes.now c.insert_reserved.new.self c.insert_reserved.result c.height_for-height.result c.requires.void (let h = c.insert_reserved.ensures in omega (arith, h.key_in_range, h.capacity, c.requires.room.keys)) c.height_for-height.ensures.high (updates_at c.args.nodes.now c.insert_reserved.new.self c.insert_reserved.result c.blank_at.result c.height_for-height.result c.blank_at.ensures c.insert_reserved.ensures.updates)
