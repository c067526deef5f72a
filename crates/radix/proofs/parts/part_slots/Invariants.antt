use Rattle.std.proofs.Common.{◌≡◌, slice_index_or}
use Rattle.radix.specs.declared.slot.Slot.TheVariants.{Empty}
use Rattle.radix.specs.Parts.{PartsSlots}
use Rattle.radix.proofs.parts.part_slots.Given as goal

abbrev pub invariant-slots : goal.invariant-slots
invariant-slots l = record { parts : PartsSlots l.fn.slots l.slots l.at l.j l.step; first : l.first ≡ slice_index_or l.fn.slots l.at Empty }
