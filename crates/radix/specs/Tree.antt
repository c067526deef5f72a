-- What nodes in a slab stand for, and when they make a tree.
--
-- Each node carries its own place: its level, and its prefix, which is its index among the nodes of that level.
-- So each fact below speaks of one node, or of one node and its child, and no fact is a recursion.
use Rattle.std.specs.Prelude.{◌≡◌, ◌≢◌, ℕ, suc, zero, ◌+◌, ◌*◌, ◌/◌, ◌%◌, ◌^◌, ◌<◌, ◌≤◌, min, Bool, true, false, List, [], ◌∷◌, length, Option, Some, None, slice_set, count_by, ◌⊎◌, MatchOption}
use Rattle.std.proofs.Math.ListN.{replicate}
use Rattle.std.specs.Int.{bit_at}
use Rattle.slab.specs.Slab.{Slab, get}
use Rattle.radix.specs.declared.node.Node.{Node}
use Rattle.radix.specs.declared.slot.Slot.{Slot}
use Rattle.radix.specs.declared.slot.Slot.TheVariants.{Empty, Leaf, Child, Sibling}
use Rattle.radix.specs.declared.entry.Entry.{Entry}
use Rattle.radix.specs.declared.entry.Entry.TheVariants as entry
use Rattle.radix.specs.Entries.{slot, bits, node_at, entry_at, mark_at, HasNoNext, IsElsewhere, IsNext, IsVoid}

-- ---- one node

abbrev pub is_used : Slot → Bool
is_used Empty = false
is_used (Leaf value) = true
is_used (Child key) = true
is_used (Sibling offset) = true

-- the slot has no child
abbrev pub IsPlain : Slot → Type 0
IsPlain Empty = Unit {0}
IsPlain (Leaf value) = Unit {0}
IsPlain (Child key) = ⊥
IsPlain (Sibling offset) = Unit {0}

-- ---- nodes and their children

-- the node under `child` is the child of the node under `key` at this offset
pub record IsLink (key : ℕ) (above : Node) (offset : ℕ) (below : Node) : Type 0 where
  pub parent : below.parent ≡ Some key
  pub level : above.level ≡ below.level + 1
  pub prefix : below.prefix ≡ above.prefix * 64 + offset
  pub within : offset < 64

-- the node that a child slot names is there
pub record HasChild (s : Slab Node) (key : ℕ) (above : Node) (offset child : ℕ) : Type 0 where
  pub below : Node
  pub there : get s child ≡ Some below
  pub link : IsLink key above offset below

-- a node above has this one as its child
pub record HasParent (s : Slab Node) (child : ℕ) (below : Node) : Type 0 where
  pub key : ℕ
  pub above : Node
  pub offset : ℕ
  pub there : get s key ≡ Some above
  pub names : slot above offset ≡ Child child
  pub link : IsLink key above offset below

-- a node by itself
pub record IsNode (n : Node) : Type 0 where
  pub slots : length n.slots ≡ 64
  pub marks : length n.marks ≡ 4
  pub level : n.level ≤ 10
  pub prefix : n.prefix < 2 ^ 58
  pub fits : (mark : ℕ) → bits n mark < 2 ^ 64
  pub count : n.count ≡ count_by is_used n.slots

-- the head
pub record IsHead (s : Slab Node) (head : ℕ) (top : Node) : Type 0 where
  pub there : get s head ≡ Some top
  pub parent : top.parent ≡ None
  pub prefix : top.prefix ≡ 0

-- the nodes make one tree under the head
pub record IsTree (s : Slab Node) (head : ℕ) : Type 0 where
  pub top : Node
  pub is_head : IsHead s head top
  pub nodes : (key : ℕ) (n : Node) → get s key ≡ Some n → IsNode n
  pub children : (key : ℕ) (n : Node) (offset child : ℕ) → get s key ≡ Some n → slot n offset ≡ Child child → HasChild s key n offset child
  pub parents : (key : ℕ) (n : Node) → get s key ≡ Some n → key ≢ head → HasParent s key n
  pub small : (key : ℕ) (n : Node) → get s key ≡ Some n → key < 2 ^ 62

-- no node is empty but perhaps the one under this key
pub record NoneEmptyBut (s : Slab Node) (but : Option ℕ) : Type 0 where
  pub each : (key : ℕ) (n : Node) → get s key ≡ Some n → Some key ≢ but → 0 < n.count

-- ---- marks

-- the bits of a mark are exact at one node: none at a slot that has no entry of its own, and at a child where the
-- child has one, but perhaps at this child
pub record IsMarked (s : Slab Node) (mark : ℕ) (but : Option ℕ) (n : Node) : Type 0 where
  pub empty : (offset : ℕ) → offset < 64 → slot n offset ≡ Empty → bit_at (bits n mark) offset ≡ 0
  pub sibling : (offset first : ℕ) → offset < 64 → slot n offset ≡ Sibling first → bit_at (bits n mark) offset ≡ 0
  pub child : (offset key : ℕ) (below : Node) → offset < 64 → slot n offset ≡ Child key → Some key ≢ but → get s key ≡ Some below → bit_at (bits n mark) offset ≡ min (bits below mark) 1

-- the bits of a mark are exact at each node
pub record MarkIsExactBut (s : Slab Node) (mark : ℕ) (but : Option ℕ) : Type 0 where
  pub each : (key : ℕ) (n : Node) → get s key ≡ Some n → IsMarked s mark but n

-- ---- what the nodes stand for

-- the slot of a node that may be there
abbrev pub slot_of : Option Node → ℕ → Slot
slot_of None offset = Empty
slot_of (Some n) offset = slot n offset

-- the slot at a level: slot 0 there has the lowest 64 ^ level indexes, and so on
abbrev pub slot_at : Slab Node → ℕ → ℕ → Slot
slot_at s level place = slot_of (node_at s.slots level (place / 64)) (place % 64)

-- the level of the node under a key
abbrev pub level_of : Option Node → ℕ
level_of None = 0
level_of (Some n) = n.level

-- a walk towards the slot at this level that has this index has come to this node
pub record HasCome (s : Slab Node) (key level index : ℕ) : Type 0 where
  pub node : Node
  pub there : get s key ≡ Some node
  pub above : level ≤ node.level
  pub on_path : node.prefix ≡ index / 64 ^ node.level / 64

-- ---- changes that keep each node at its key

-- the node under a key is one that R leads to
pub record HasBy (R : Node → Node → Type 0) (s : Slab Node) (key : ℕ) (n : Node) : Type 0 where
  pub node : Node
  pub there : get s key ≡ Some node
  pub is : R n node

-- the node under a key is one that R leads from
pub record HadBy (R : Node → Node → Type 0) (s : Slab Node) (key : ℕ) (n : Node) : Type 0 where
  pub node : Node
  pub there : get s key ≡ Some node
  pub is : R node n

-- R holds of each node before and after
pub record EachNode (R : Node → Node → Type 0) (old new : Slab Node) : Type 0 where
  pub has : (key : ℕ) (n : Node) → get old key ≡ Some n → HasBy R new key n
  pub had : (key : ℕ) (n : Node) → get new key ≡ Some n → HadBy R old key n

-- the node keeps its place and its children
pub record KeepsPlace (old new : Node) : Type 0 where
  pub level : new.level ≡ old.level
  pub prefix : new.prefix ≡ old.prefix
  pub parent : new.parent ≡ old.parent
  pub keeps : (offset child : ℕ) → slot old offset ≡ Child child → slot new offset ≡ Child child
  pub kept : (offset child : ℕ) → slot new offset ≡ Child child → slot old offset ≡ Child child

-- only the bits of one mark are new, and those of slots with no child stay
pub record IsRemarked (mark : ℕ) (old new : Node) : Type 0 where
  pub level : new.level ≡ old.level
  pub prefix : new.prefix ≡ old.prefix
  pub parent : new.parent ≡ old.parent
  pub count : new.count ≡ old.count
  pub slots : new.slots ≡ old.slots
  pub length_kept : length new.marks ≡ length old.marks
  pub fits : bits old mark < 2 ^ 64 → bits new mark < 2 ^ 64
  pub others : (other : ℕ) → other ≢ mark → bits new other ≡ bits old other
  pub plain : (offset : ℕ) → offset < 64 → IsPlain (slot old offset) → bit_at (bits new mark) offset ≡ bit_at (bits old mark) offset

abbrev pub Remarks : ℕ → Slab Node → Slab Node → Type 0
Remarks mark old new = EachNode (IsRemarked mark) old new

-- the node with other bits of a mark
abbrev pub with_bits : Node → ℕ → ℕ → Node
with_bits n mark b = record n { marks = slice_set n.marks mark b }

-- ---- nodes that come and go

-- a node with no entry
abbrev pub blank : ℕ → ℕ → Option ℕ → Node
blank level prefix parent = record { level = level; prefix = prefix; parent = parent; count = 0; marks = 0 ∷ 0 ∷ 0 ∷ 0 ∷ []; slots = replicate 64 Empty }

-- the node with another slot
abbrev pub with_slot : Node → ℕ → Slot → ℕ → Node
with_slot n offset x count = record n { slots = slice_set n.slots offset x; count = count }

-- the slot of an entry so many after its first
abbrev pub run_slot : ℕ → ℕ → ℕ → Slot
run_slot first value zero = Leaf value
run_slot first value (suc j) = Sibling first

-- slots with so many of an entry's
abbrev pub run_slots : List Slot → ℕ → ℕ → ℕ → List Slot
run_slots slots first value zero = slots
run_slots slots first value (suc j) = slice_set (run_slots slots first value j) (first + j) (run_slot first value j)

-- the node with so many slots of an entry
abbrev pub with_run : Node → ℕ → ℕ → ℕ → Node
with_run n first value span = record n { slots = run_slots n.slots first value span; count = n.count + span }

-- the slot may stand over this bit: an entry's first slot alone has one
abbrev pub IsQuiet : Slot → ℕ → Type 0
IsQuiet Empty bit = bit ≡ 0
IsQuiet (Leaf value) bit = Unit {0}
IsQuiet (Child key) bit = ⊥
IsQuiet (Sibling first) bit = bit ≡ 0

-- the same entries, and the same bits of them
pub record SameSlots (old new : Slab Node) : Type 0 where
  pub entries : (level place : ℕ) → entry_at new level place ≡ entry_at old level place
  pub marks : (mark level place : ℕ) → mark < 4 → mark_at mark new level place ≡ mark_at mark old level place

-- a tree whose marks are exact, and that has no empty node but perhaps one
pub record IsSound (s : Slab Node) (head : ℕ) (but : Option ℕ) : Type 0 where
  pub tree : IsTree s head
  pub exact : (mark : ℕ) → mark < 4 → MarkIsExactBut s mark None
  pub filled : NoneEmptyBut s but

-- the same, under some head
pub record IsRooted (s : Slab Node) : Type 0 where
  pub head : ℕ
  pub sound : IsSound s head None

-- the node under a key has an empty slot where the index would go down
pub record HasGap (s : Slab Node) (key index : ℕ) : Type 0 where
  pub node : Node
  pub there : get s key ≡ Some node
  pub inner : 0 < node.level
  pub on_path : node.prefix ≡ index / 64 ^ node.level / 64
  pub empty : slot node (index / 64 ^ node.level % 64) ≡ Empty

-- a place has this entry now, with its bits as they were, and no other place changes
pub record WritesSlot (old new : Slab Node) (level place : ℕ) (x : Option Entry) : Type 0 where
  pub entry : entry_at new level place ≡ x
  pub bits_stay : (mark : ℕ) → mark < 4 → mark_at mark new level place ≡ mark_at mark old level place
  pub others : (other at : ℕ) → IsElsewhere level place other at → entry_at new other at ≡ entry_at old other at
  pub other_marks : (mark other at : ℕ) → mark < 4 → IsElsewhere level place other at → mark_at mark new other at ≡ mark_at mark old other at

-- an entry has this bit of a mark now, and nothing else changes
pub record WritesBit (old new : Slab Node) (mark level place bit : ℕ) : Type 0 where
  pub changed : mark_at mark new level place ≡ bit
  pub entries : (other at : ℕ) → entry_at new other at ≡ entry_at old other at
  pub others : (other at : ℕ) → IsElsewhere level place other at → mark_at mark new other at ≡ mark_at mark old other at
  pub other_marks : (another other at : ℕ) → another < 4 → another ≢ mark → mark_at another new other at ≡ mark_at another old other at

-- what may be put: the first slot of an entry, or a further one
abbrev pub IsEntrySlot : Slot → Type 0
IsEntrySlot Empty = ⊥
IsEntrySlot (Leaf value) = Unit {0}
IsEntrySlot (Child key) = ⊥
IsEntrySlot (Sibling first) = Unit {0}

-- the slot is the first of an entry
abbrev pub IsLeafSlot : Slot → Type 0
IsLeafSlot Empty = ⊥
IsLeafSlot (Leaf value) = Unit {0}
IsLeafSlot (Child key) = ⊥
IsLeafSlot (Sibling first) = ⊥

-- ---- the next entry with a mark

-- the slot at this offset of a node has the mark, and no entry with the mark at `from` or a later index is before it
pub record IsAhead (s : Slab Node) (mark from key offset : ℕ) : Type 0 where
  pub node : Node
  pub there : get s key ≡ Some node
  pub within : offset < 64
  pub set : bit_at (bits node mark) offset ≡ 1
  pub after : from ≤ (node.prefix * 64 + offset) * 64 ^ node.level
  pub lowest : (other index : ℕ) → from ≤ index → mark_at mark s other (index / 64 ^ other) ≡ 1 → node.prefix * 64 + offset ≤ index / 64 ^ node.level

-- a search has gone up to this slot of a node: it ends at `from` or later, and each entry with the mark that counts is after it
pub record HasClimbed (s : Slab Node) (mark from key offset : ℕ) : Type 0 where
  pub node : Node
  pub there : get s key ≡ Some node
  pub within : offset < 64
  pub reach : from ≤ (node.prefix * 64 + offset + 1) * 64 ^ node.level
  pub each : (other index : ℕ) → from ≤ index → mark_at mark s other (index / 64 ^ other) ≡ 1 → node.prefix * 64 + offset < index / 64 ^ node.level

-- the slot at this offset of a node has the mark, and comes after `from`
pub record IsLater (s : Slab Node) (mark from key offset : ℕ) : Type 0 where
  pub node : Node
  pub there : get s key ≡ Some node
  pub within : offset < 64
  pub set : bit_at (bits node mark) offset ≡ 1
  pub after : from / 64 ^ node.level < node.prefix * 64 + offset

-- the slot is not after this index
pub record IsNotAfter (s : Slab Node) (key offset index : ℕ) : Type 0 where
  pub node : Node
  pub there : get s key ≡ Some node
  pub before : node.prefix * 64 + offset ≤ index / 64 ^ node.level

-- a slot that may be known
abbrev pub LaterIfSome : Slab Node → ℕ → ℕ → Option (ℕ × ℕ) → Type 0
LaterIfSome s mark from None = Unit {0}
LaterIfSome s mark from (Some p) = IsLater s mark from p.0 p.1

abbrev pub IsCovered : Slab Node → Option (ℕ × ℕ) → ℕ → Type 0
IsCovered s None index = ⊥
IsCovered s (Some p) index = IsNotAfter s p.0 p.1 index

-- a search has come to a node on the path of `from`: each entry with the mark is under it or not before the known slot
pub record HasLeft (s : Slab Node) (mark from key : ℕ) (best : Option (ℕ × ℕ)) : Type 0 where
  pub node : Node
  pub there : get s key ≡ Some node
  pub on_path : node.prefix ≡ from / 64 ^ node.level / 64
  pub later : LaterIfSome s mark from best
  pub each : (other index : ℕ) → from ≤ index → mark_at mark s other (index / 64 ^ other) ≡ 1 → (index / 64 ^ node.level / 64 ≡ node.prefix) ⊎ IsCovered s best index

-- the slot that was found at a node, or else the one that was known
abbrev pub better_of : Option (ℕ × ℕ) → ℕ → Option ℕ → Option (ℕ × ℕ)
better_of best key None = best
better_of best key (Some offset) = Some (key, offset)

-- a search has left the path of `from` at this node: there is the next entry with the mark, or after the path
pub record IsTrail (s : Slab Node) (mark from key level : ℕ) (is_set : Bool) (best : Option (ℕ × ℕ)) : Type 0 where
  pub node : Node
  pub there : get s key ≡ Some node
  pub level_is : node.level ≡ level
  pub on_path : node.prefix ≡ from / 64 ^ level / 64
  pub here : is_set ≡ true → IsNext s mark from level (from / 64 ^ level)
  pub unset : is_set ≡ false → bit_at (bits node mark) (from / 64 ^ level % 64) ≢ 1
  pub rest : is_set ≡ false → MatchOption best (HasNoNext s mark from) (λ p. IsAhead s mark from p.0 p.1)

-- a tree under this head, or no node where there is no head
abbrev pub IsSoundOrVoid : Slab Node → Option ℕ → Type 0
IsSoundOrVoid s None = IsVoid s
IsSoundOrVoid s (Some head) = IsSound s head None

-- the bit of the mark that every entry has, on its first slot
abbrev pub leaf_bit : Option Entry → ℕ
leaf_bit None = 0
leaf_bit (Some (entry.Leaf value)) = 1
leaf_bit (Some (entry.Sibling first)) = 0

-- mark 3 is the one that every entry has
pub record TellsEntries (s : Slab Node) : Type 0 where
  pub each : (level place : ℕ) → mark_at 3 s level place ≡ leaf_bit (entry_at s level place)

-- what holds of a slab and its head between calls
pub record IsWhole (s : Slab Node) (head : Option ℕ) : Type 0 where
  pub sound : IsSoundOrVoid s head
  pub tells : TellsEntries s

-- the lowest level, from `level` on, at which one head has an index
pub record IsHeight (index level height : ℕ) : Type 0 where
  pub low : level ≤ height
  pub covers : index / 64 ^ height / 64 ≡ 0
  pub lowest : (other : ℕ) → level ≤ other → index / 64 ^ other / 64 ≡ 0 → height ≤ other

-- the entry at a place has no mark
pub record IsUnmarked (s : Slab Node) (level place : ℕ) : Type 0 where
  pub each : (mark : ℕ) → mark < 4 → mark_at mark s level place ≡ 0

-- a node over the head
abbrev pub node_over : Node → ℕ → Node
node_over top head = record { level = top.level + 1; prefix = 0; parent = None; count = 1; marks = min (bits top 0) 1 ∷ min (bits top 1) 1 ∷ min (bits top 2) 1 ∷ min (bits top 3) 1 ∷ []; slots = slice_set (replicate 64 Empty) 0 (Child head) }

-- an entry of several slots: its value in the first, and in each other the offset of the first
pub record WritesRun (old new : Slab Node) (level place span value : ℕ) : Type 0 where
  pub first : entry_at new level place ≡ Some (entry.Leaf value)
  pub rest : (j : ℕ) → 0 < j → j < span → entry_at new level (place + j) ≡ Some (entry.Sibling (place % 64))
  pub others : (other at : ℕ) → (other ≡ level → place ≤ at → at < place + span → ⊥) → entry_at new other at ≡ entry_at old other at
  pub marks : (mark other at : ℕ) → mark < 4 → mark_at mark new other at ≡ mark_at mark old other at

-- the slots from `place` on are empty now, and no other slot changes
pub record ErasesRun (old new : Slab Node) (level place span : ℕ) : Type 0 where
  pub gone : (j : ℕ) → j < span → entry_at new level (place + j) ≡ None
  pub others : (other at : ℕ) → (other ≡ level → place ≤ at → at < place + span → ⊥) → entry_at new other at ≡ entry_at old other at
  pub marks : (mark other at : ℕ) → mark < 4 → mark_at mark new other at ≡ mark_at mark old other at
