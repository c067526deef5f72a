-- What the nodes of a slab stand for: entries with marks, each at a slot of a level, and how a call changes them.
--
-- Slot `place` of `level` has the indexes from place * 64 ^ level on, 64 ^ level of them, so an index has slot
-- index / 64 ^ level of each level. An entry of several slots is a leaf and, beside it in its node, siblings. The
-- layout is that of Linux's XArray (Documentation/core-api/xarray.rst, "Multi-Index Entries"; lib/xarray.c).
use Rattle.std.specs.Prelude.{◌≡◌, ◌≢◌, ◌⊎◌, ℕ, ◌+◌, ◌-◌, ◌*◌, ◌/◌, ◌%◌, ◌^◌, ◌<◌, ◌≤◌, ◌==◌, ◌&&◌, Bool, List, [], ◌∷◌, Option, Some, None, slice_index_or, cond}
use Rattle.std.specs.Int.{bit_at}
use Rattle.slab.specs.Slab.{Slab, get, slab_len, HasRoomFor}
use Rattle.radix.specs.declared.node.Node.{Node}
use Rattle.radix.specs.declared.slot.Slot.{Slot}
use Rattle.radix.specs.declared.slot.Slot.TheVariants.{Empty, Leaf, Child, Sibling}
use Rattle.radix.specs.declared.entry.Entry.{Entry}
use Rattle.radix.specs.declared.entry.Entry.TheVariants as entry

-- ---- entries and marks

-- the slot of a node at an offset
abbrev pub slot : Node → ℕ → Slot
slot n offset = slice_index_or n.slots offset Empty

-- the bits of a mark at a node, one for each slot
abbrev pub bits : Node → ℕ → ℕ
bits n mark = slice_index_or n.marks mark 0

-- whether this is the place of a node: its level, and its index among the nodes of that level
abbrev pub stands_at : ℕ → ℕ → Node → Bool
stands_at level prefix n = (n.level == level) && (n.prefix == prefix)

-- the node at a place
abbrev pub node_at : List (Option Node) → ℕ → ℕ → Option Node
node_at [] level prefix = None
node_at (None ∷ rest) level prefix = node_at rest level prefix
node_at (Some n ∷ rest) level prefix = cond (stands_at level prefix n) (Some n) (node_at rest level prefix)

-- what f sees in a node that may be there
abbrev pub by_node : {X : Type 0} → (Node → ℕ → X) → X → Option Node → ℕ → X
by_node f none None offset = none
by_node f none (Some n) offset = f n offset

-- what f sees at a slot of a level
abbrev pub see : {X : Type 0} → (Node → ℕ → X) → X → Slab Node → ℕ → ℕ → X
see f none s level place = by_node f none (node_at s.slots level (place / 64)) (place % 64)

-- the entry that stands in a slot; the way to a node below is none
abbrev pub content : Slot → Option Entry
content Empty = None
content (Leaf value) = Some (entry.Leaf value)
content (Child key) = None
content (Sibling first) = Some (entry.Sibling first)

-- the entry at a slot of a level
abbrev pub entry_at : Slab Node → ℕ → ℕ → Option Entry
entry_at s level place = see (λ n offset. content (slot n offset)) None s level place

-- the bit of an entry, and 0 where none stands
abbrev pub bit_of : Slot → ℕ → ℕ
bit_of Empty bit = 0
bit_of (Leaf value) bit = bit
bit_of (Child key) bit = 0
bit_of (Sibling first) bit = bit

-- the bit of a mark, 0 to 2, of the entry at a slot of a level
abbrev pub mark_at : ℕ → Slab Node → ℕ → ℕ → ℕ
mark_at mark s level place = see (λ n offset. bit_of (slot n offset) (bit_at (bits n mark) offset)) 0 s level place

-- some slot of an entry
abbrev pub IsEntry : Option Entry → Type 0
IsEntry None = ⊥
IsEntry (Some x) = Unit {0}

-- the first slot of an entry
abbrev pub IsLeaf : Option Entry → Type 0
IsLeaf None = ⊥
IsLeaf (Some (entry.Leaf value)) = Unit {0}
IsLeaf (Some (entry.Sibling first)) = ⊥

-- no entry is there
pub record IsBare (s : Slab Node) : Type 0 where
  pub each : (level place : ℕ) → entry_at s level place ≡ None

-- how many nodes are there
abbrev pub node_count : Slab Node → ℕ
node_count s = slab_len s

-- the node of a cursor has the slots prefix * 64 to prefix * 64 + 63 of a level
pub record StandsAt (s : Slab Node) (cursor level prefix : ℕ) : Type 0 where
  pub node : Node
  pub there : get s cursor ≡ Some node
  pub level_is : node.level ≡ level
  pub prefix_is : node.prefix ≡ prefix

-- ---- changes

-- the same entries with the same marks
pub record SameEntries (old new : Slab Node) : Type 0 where
  pub entries : (level place : ℕ) → entry_at new level place ≡ entry_at old level place
  pub marks : (mark level place : ℕ) → mark < 3 → mark_at mark new level place ≡ mark_at mark old level place

-- the slot is another one
abbrev pub IsElsewhere : ℕ → ℕ → ℕ → ℕ → Type 0
IsElsewhere level place other at = other ≡ level → at ≡ place → ⊥

-- a slot has this now, with its marks as they were, and nothing else changes
pub record PutsEntry (old new : Slab Node) (level place : ℕ) (x : Option Entry) : Type 0 where
  pub entry : entry_at new level place ≡ x
  pub others : (other at : ℕ) → IsElsewhere level place other at → entry_at new other at ≡ entry_at old other at
  pub marks : (mark other at : ℕ) → mark < 3 → mark_at mark new other at ≡ mark_at mark old other at

-- an entry has this bit of a mark now, and nothing else changes
pub record PutsBit (old new : Slab Node) (mark level place bit : ℕ) : Type 0 where
  pub changed : mark_at mark new level place ≡ bit
  pub entries : (other at : ℕ) → entry_at new other at ≡ entry_at old other at
  pub others : (other at : ℕ) → IsElsewhere level place other at → mark_at mark new other at ≡ mark_at mark old other at
  pub other_marks : (another other at : ℕ) → another < 3 → another ≢ mark → mark_at another new other at ≡ mark_at another old other at

-- an entry of so many slots: a leaf, and siblings that tell its offset
pub record IsRun (s : Slab Node) (level place span : ℕ) : Type 0 where
  pub first : IsLeaf (entry_at s level place)
  pub rest : (j : ℕ) → 0 < j → j < span → entry_at s level (place + j) ≡ Some (entry.Sibling (place % 64))

-- the slots from `place` on have an entry with this value now, and nothing else changes
pub record PutsRun (old new : Slab Node) (level place span value : ℕ) : Type 0 where
  pub first : entry_at new level place ≡ Some (entry.Leaf value)
  pub rest : (j : ℕ) → 0 < j → j < span → entry_at new level (place + j) ≡ Some (entry.Sibling (place % 64))
  pub others : (other at : ℕ) → (other ≡ level → place ≤ at → at < place + span → ⊥) → entry_at new other at ≡ entry_at old other at
  pub marks : (mark other at : ℕ) → mark < 3 → mark_at mark new other at ≡ mark_at mark old other at

-- the slots from `place` on are empty now, and nothing else changes
pub record ClearsRun (old new : Slab Node) (level place span : ℕ) : Type 0 where
  pub gone : (j : ℕ) → j < span → entry_at new level (place + j) ≡ None
  pub others : (other at : ℕ) → (other ≡ level → place ≤ at → at < place + span → ⊥) → entry_at new other at ≡ entry_at old other at
  pub marks : (mark other at : ℕ) → mark < 3 → mark_at mark new other at ≡ mark_at mark old other at

-- ---- where an entry may be put, and from where it may be taken

-- no entry stands above the slots of an index at this level
pub record IsClear (s : Slab Node) (level index : ℕ) : Type 0 where
  pub each : (above : ℕ) → level < above → entry_at s above (index / 64 ^ above) ≡ None

-- no entry stands at a slot or below it
pub record IsFree (s : Slab Node) (level place : ℕ) : Type 0 where
  pub each : (d below at : ℕ) → level ≡ below + d → at / 64 ^ d ≡ place → entry_at s below at ≡ None

-- the entry at a slot has no mark
pub record HasNoMark (s : Slab Node) (level place : ℕ) : Type 0 where
  pub each : (mark : ℕ) → mark < 3 → mark_at mark s level place ≡ 0

-- ---- what a search finds

-- the one entry at an index stands at this level
pub record IsFound (s : Slab Node) (index level : ℕ) (x : Entry) : Type 0 where
  pub entry : entry_at s level (index / 64 ^ level) ≡ Some x
  pub others : (other : ℕ) → other ≢ level → entry_at s other (index / 64 ^ other) ≡ None

-- no entry stands at an index, at any level
pub record HasNoEntry (s : Slab Node) (index : ℕ) : Type 0 where
  pub each : (level : ℕ) → entry_at s level (index / 64 ^ level) ≡ None

-- what a walk to an index came to: the entry at this level, or none at any
abbrev pub IsWalked : Slab Node → ℕ → ℕ → Option Entry → Type 0
IsWalked s index level None = HasNoEntry s index
IsWalked s index level (Some x) = IsFound s index level x

-- this entry has the mark, and no entry with it at `from` or a later index comes before
pub record IsNext (s : Slab Node) (mark from level place : ℕ) : Type 0 where
  pub marked : mark_at mark s level place ≡ 1
  pub after : from / 64 ^ level ≤ place
  pub lowest : (other index : ℕ) → from ≤ index → mark_at mark s other (index / 64 ^ other) ≡ 1 → place ≤ index / 64 ^ level

-- no entry at `from` or a later index has the mark
pub record HasNoNext (s : Slab Node) (mark from : ℕ) : Type 0 where
  pub each : (level index : ℕ) → from ≤ index → mark_at mark s level (index / 64 ^ level) ≢ 1

-- this entry with the mark has an index at a further slot
pub record IsHeld (s : Slab Node) (mark index level place : ℕ) : Type 0 where
  pub named : ℕ
  pub small : named < 64
  pub found : IsFound s index level (entry.Sibling named)
  pub place_is : place ≡ index / 64 ^ level / 64 * 64 + named
  pub marked : mark_at mark s level place ≡ 1

-- no entry with the mark has an index at a further slot
pub record HasNoHeld (s : Slab Node) (mark index : ℕ) : Type 0 where
  pub each : (level named : ℕ) → named < 64 → entry_at s level (index / 64 ^ level) ≡ Some (entry.Sibling named) → mark_at mark s level (index / 64 ^ level / 64 * 64 + named) ≢ 1

-- this entry with the mark has an index at a further slot, or none has and this one is next
abbrev pub IsNextHeld : Slab Node → ℕ → ℕ → ℕ → ℕ → Type 0
IsNextHeld s mark index level place = IsHeld s mark index level place ⊎ (IsNext s mark index level place × HasNoHeld s mark index)

-- the first slot of an entry is here, and no other one at `from` or a later index comes before
pub record IsNextEntry (s : Slab Node) (from level place : ℕ) : Type 0 where
  pub leaf : IsLeaf (entry_at s level place)
  pub after : from / 64 ^ level ≤ place
  pub lowest : (other index : ℕ) → from ≤ index → IsLeaf (entry_at s other (index / 64 ^ other)) → place ≤ index / 64 ^ level

-- no first slot of an entry is at `from` or a later index
pub record HasNoNextEntry (s : Slab Node) (from : ℕ) : Type 0 where
  pub each : (level index : ℕ) → from ≤ index → IsLeaf (entry_at s level (index / 64 ^ level)) → ⊥

-- this entry of one index has the mark, and no entry with it at `from` or a later index comes before. It is in the node of
-- the lowest level that `from` is in
pub record IsNextLeaf (s : Slab Node) (mark from place value : ℕ) : Type 0 where
  pub beside : place / 64 ≡ from / 64
  pub next : IsNext s mark from 0 place
  pub entry : entry_at s 0 place ≡ Some (entry.Leaf value)

-- no further slot of an entry follows this slot in its node of the lowest level
pub record IsAlone (s : Slab Node) (place : ℕ) : Type 0 where
  pub each : (first : ℕ) → place % 64 < 63 → entry_at s 0 (place + 1) ≢ Some (entry.Sibling first)

-- the next slot is no further one of an entry that begins at this slot of the lowest level
pub record IsSingle (s : Slab Node) (place : ℕ) : Type 0 where
  pub ends : place % 64 < 63 → entry_at s 0 (place + 1) ≢ Some (entry.Sibling (place % 64))

-- no entry of one index with the mark is at `from` or after it in its node of the lowest level
pub record HasNoneBeside (s : Slab Node) (mark from : ℕ) : Type 0 where
  pub each : (at : ℕ) → from ≤ at → at / 64 ≡ from / 64 → mark_at mark s 0 at ≢ 1

-- this entry of one index comes first at `from` or a later index, in the same node
pub record IsNextEntryLeaf (s : Slab Node) (from place value : ℕ) : Type 0 where
  pub beside : place / 64 ≡ from / 64
  pub next : IsNextEntry s from 0 place
  pub entry : entry_at s 0 place ≡ Some (entry.Leaf value)

-- no entry of one index begins at `from` or after it in its node of the lowest level
pub record HasNoEntryBeside (s : Slab Node) (from : ℕ) : Type 0 where
  pub each : (at : ℕ) → from ≤ at → at / 64 ≡ from / 64 → IsLeaf (entry_at s 0 at) → ⊥

-- an entry with the mark has an index, at its first slot or at a further one
pub record IsMarkedAt (s : Slab Node) (mark index : ℕ) : Type 0 where
  pub level : ℕ
  pub place : ℕ
  pub marked : mark_at mark s level place ≡ 1
  pub at : (place ≡ index / 64 ^ level) ⊎ IsHeld s mark index level place

-- no entry with the mark has an index
pub record HasNoMarkedAt (s : Slab Node) (mark index : ℕ) : Type 0 where
  pub here : (level : ℕ) → mark_at mark s level (index / 64 ^ level) ≢ 1
  pub held : HasNoHeld s mark index

-- this entry of one index has the mark, and no entry with it at `from` or a later index comes before
pub record IsNextAt (s : Slab Node) (mark from place value : ℕ) : Type 0 where
  pub next : IsNext s mark from 0 place
  pub entry : entry_at s 0 place ≡ Some (entry.Leaf value)

-- this entry of one index comes first at `from` or a later index
pub record IsNextEntryAt (s : Slab Node) (from place value : ℕ) : Type 0 where
  pub next : IsNextEntry s from 0 place
  pub entry : entry_at s 0 place ≡ Some (entry.Leaf value)

-- an entry with the mark
pub record HasMarked (s : Slab Node) (mark : ℕ) : Type 0 where
  pub level : ℕ
  pub place : ℕ
  pub is : mark_at mark s level place ≡ 1

-- no entry has the mark
pub record HasNoMarked (s : Slab Node) (mark : ℕ) : Type 0 where
  pub each : (level place : ℕ) → mark_at mark s level place ≢ 1

-- an entry with the mark at a slot or below it
pub record HasMarkedUnder (s : Slab Node) (mark level place : ℕ) : Type 0 where
  pub down : ℕ
  pub below : ℕ
  pub at : ℕ
  pub sum : level ≡ below + down
  pub under : at / 64 ^ down ≡ place
  pub is : mark_at mark s below at ≡ 1

-- no entry at a slot or below it has the mark
pub record HasNoMarkedUnder (s : Slab Node) (mark level place : ℕ) : Type 0 where
  pub each : (down below at : ℕ) → level ≡ below + down → at / 64 ^ down ≡ place → mark_at mark s below at ≢ 1

-- ---- memory

-- no node is there
pub record IsVoid (s : Slab Node) : Type 0 where
  pub each : (key : ℕ) → get s key ≡ None

-- so many nodes are enough for a path to a slot: new heads up to a height that covers the index, and one node for each
-- level from there down to the slot's
pub record IsPathNeed (s : Slab Node) (level index need : ℕ) : Type 0 where
  pub heads : ℕ
  pub height : ℕ
  pub low : level ≤ height
  pub covers : index / 64 ^ height / 64 ≡ 0
  pub first : IsVoid s → 0 < heads
  pub below : (key : ℕ) (n : Node) → get s key ≡ Some n → n.parent ≡ None → n.level ≤ height
  pub reach : (key : ℕ) (n : Node) → get s key ≡ Some n → n.parent ≡ None → height ≤ n.level + heads
  pub sum : need ≡ heads + (height - level)

-- a put at this slot needs no memory
pub record HasPathRoom (s : Slab Node) (level index : ℕ) : Type 0 where
  pub need : ℕ
  pub enough : IsPathNeed s level index need
  pub room : HasRoomFor s need
  pub keys : s.capacity < 2 ^ 62
