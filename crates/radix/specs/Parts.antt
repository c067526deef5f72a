-- An entry that becomes several of fewer indexes each, with its value and its marks.
use Rattle.std.specs.Prelude.{◌≡◌, ◌≢◌, ℕ, ◌+◌, ◌-◌, ◌%◌, ◌^◌, ◌<◌, ◌≤◌, ◌==◌, cond, min, List, length, Some, None, slice_index_or}
use Rattle.std.specs.Int.{bit_at}
use Rattle.slab.specs.Slab.{Slab, HasRoomFor}
use Rattle.radix.specs.declared.node.Node.{Node}
use Rattle.radix.specs.declared.slot.Slot.{Slot}
use Rattle.radix.specs.declared.slot.Slot.TheVariants.{Empty, Sibling}
use Rattle.radix.specs.declared.entry.Entry.{Entry}
use Rattle.radix.specs.declared.entry.Entry.TheVariants as entry
use Rattle.radix.specs.Entries.{slot, bits, entry_at, mark_at, IsElsewhere}

-- what a slot has, so many after the first, where each 2 ^ step slots from `base` on are an entry with this value
abbrev pub part_of : ℕ → ℕ → ℕ → ℕ → Entry
part_of value base step j = cond (j % 2 ^ step == 0) (entry.Leaf value) (entry.Sibling ((base + (j - j % 2 ^ step)) % 64))

-- an entry's range is `count` slots of a level from `base` on now, each 2 ^ step of them an entry with its value and marks,
-- and nothing else changes
pub record Parts (old new : Slab Node) (level place low base count step : ℕ) : Type 0 where
  pub slots : (value j : ℕ) → entry_at old level place ≡ Some (entry.Leaf value) → j < count → entry_at new low (base + j) ≡ Some (part_of value base step j)
  pub marks : (mark j : ℕ) → mark < 3 → j < count → mark_at mark new low (base + j) ≡ cond (j % 2 ^ step == 0) (mark_at mark old level place) 0
  pub gone : low ≢ level → entry_at new level place ≡ None
  pub others : (other at : ℕ) → (other ≡ low → base ≤ at → at < base + count → ⊥) → IsElsewhere level place other at → entry_at new other at ≡ entry_at old other at
  pub other_marks : (mark other at : ℕ) → mark < 3 → (other ≡ low → base ≤ at → at < base + count → ⊥) → IsElsewhere level place other at → mark_at mark new other at ≡ mark_at mark old other at

-- so many more nodes need no memory
pub record HasNodeRoom (s : Slab Node) (more : ℕ) : Type 0 where
  pub room : HasRoomFor s more
  pub keys : s.capacity < 2 ^ 62

-- ---- in the nodes: the rest is for the proofs alone

-- what a slot of a node has, so many after the first at `at`, where each 2 ^ step slots are an entry with this first slot
abbrev pub part_slot : Slot → ℕ → ℕ → ℕ → Slot
part_slot x at step j = cond (j % 2 ^ step == 0) x (Sibling (at + (j - j % 2 ^ step)))

-- `count` slots from `at` on are such entries now
pub record PartsSlots (old new : List Slot) (at count step : ℕ) : Type 0 where
  pub length_kept : length new ≡ length old
  pub slots : (j : ℕ) → j < count → slice_index_or new (at + j) Empty ≡ part_slot (slice_index_or old at Empty) at step j
  pub others : (o : ℕ) → (at ≤ o → o < at + count → ⊥) → slice_index_or new o Empty ≡ slice_index_or old o Empty

-- all slots of a node are such entries
pub record AllParts (first : Slot) (step : ℕ) (slots : List Slot) : Type 0 where
  pub length_is : length slots ≡ 64
  pub each : (j : ℕ) → j < 64 → slice_index_or slots j Empty ≡ part_slot first 0 step j

-- the bits of their first slots
pub record AreFirsts (firsts at count step : ℕ) : Type 0 where
  pub inside : (j : ℕ) → j < count → bit_at firsts (at + j) ≡ cond (j % 2 ^ step == 0) 1 0
  pub outside : (o : ℕ) → o < 64 → (at ≤ o → o < at + count → ⊥) → bit_at firsts o ≡ 0

-- an entry of a node is several there now, with its marks
pub record IsCut (at count step : ℕ) (old new : Node) : Type 0 where
  pub level : new.level ≡ old.level
  pub prefix : new.prefix ≡ old.prefix
  pub parent : new.parent ≡ old.parent
  pub count_kept : new.count ≡ old.count
  pub slots_length : length new.slots ≡ length old.slots
  pub marks_length : length new.marks ≡ length old.marks
  pub slots : PartsSlots old.slots new.slots at count step
  pub marks : (mark j : ℕ) → mark < 4 → j < count → bit_at (bits new mark) (at + j) ≡ cond (j % 2 ^ step == 0) (bit_at (bits old mark) at) 0
  pub others : (mark o : ℕ) → mark < 4 → o < 64 → (at ≤ o → o < at + count → ⊥) → bit_at (bits new mark) o ≡ bit_at (bits old mark) o
  pub any : (mark : ℕ) → mark < 4 → min (bits new mark) 1 ≡ min (bits old mark) 1
  pub fits : (mark : ℕ) → bits new mark < 2 ^ 64

-- a node of such entries, with the marks of the slot that it comes below
pub record IsFull (above : Node) (key place step : ℕ) (n : Node) : Type 0 where
  pub level : above.level ≡ n.level + 1
  pub prefix : n.prefix ≡ place
  pub parent : n.parent ≡ Some key
  pub count : n.count ≡ 64
  pub slots_length : length n.slots ≡ 64
  pub marks_length : length n.marks ≡ 4
  pub slots : (j : ℕ) → j < 64 → slot n j ≡ part_slot (slot above (place % 64)) 0 step j
  pub marks : (mark j : ℕ) → mark < 4 → j < 64 → bit_at (bits n mark) j ≡ cond (j % 2 ^ step == 0) (bit_at (bits above mark) (place % 64)) 0
  pub any : (mark : ℕ) → mark < 4 → min (bits n mark) 1 ≡ bit_at (bits above mark) (place % 64)
  pub fits : (mark : ℕ) → bits n mark < 2 ^ 64

-- as `Parts`, with the mark of every entry
pub record WritesParts (old new : Slab Node) (level place low base count step : ℕ) : Type 0 where
  pub slots : (value j : ℕ) → entry_at old level place ≡ Some (entry.Leaf value) → j < count → entry_at new low (base + j) ≡ Some (part_of value base step j)
  pub marks : (mark j : ℕ) → mark < 4 → j < count → mark_at mark new low (base + j) ≡ cond (j % 2 ^ step == 0) (mark_at mark old level place) 0
  pub gone : low ≢ level → entry_at new level place ≡ None
  pub others : (other at : ℕ) → (other ≡ low → base ≤ at → at < base + count → ⊥) → IsElsewhere level place other at → entry_at new other at ≡ entry_at old other at
  pub other_marks : (mark other at : ℕ) → mark < 4 → (other ≡ low → base ≤ at → at < base + count → ⊥) → IsElsewhere level place other at → mark_at mark new other at ≡ mark_at mark old other at
