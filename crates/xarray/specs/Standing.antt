-- Where the entries of a marked array stand in radix nodes: a range of order k at level k / 6, in 2 ^ (k % 6) slots of one
-- node, the first with the value and the marks, and each other one a sibling that names the first.
use Rattle.std.specs.Prelude.{◌≡◌, ℕ, ◌+◌, ◌*◌, ◌/◌, ◌%◌, ◌^◌, ◌<◌, ◌≤◌, ◌==◌, Bool, true, Option, Some}
use Rattle.std.specs.FinMap as map
use Rattle.slab.specs.Slab.{Slab}
use Rattle.radix.specs.declared.node.Node.{Node}
use Rattle.radix.specs.declared.entry.Entry.{Entry}
use Rattle.radix.specs.declared.entry.Entry.TheVariants.{Leaf, Sibling}
use Rattle.radix.specs.Entries as radix
use Rattle.xarray.specs.declared.entry.Mark.{Mark}
use Rattle.xarray.specs.MarkedArray.{IsArray, Range, Ranges, has_mark, lowest, mark_number, with_mark}

-- the level of an entry of this order
abbrev pub level_of : ℕ → ℕ
level_of order = order / 6

-- how many slots it has there
abbrev pub span_of : ℕ → ℕ
span_of order = 2 ^ (order % 6)

-- and the first of them
abbrev pub place_of : ℕ → ℕ → ℕ
place_of first order = first / 64 ^ (order / 6)

-- an entry stands in its slots
pub record IsAt (s : Slab Node) (first : ℕ) (r : Range) : Type 0 where
  pub leaf : radix.entry_at s (level_of r.order) (place_of first r.order) ≡ Some (Leaf r.value)
  pub rest : (j : ℕ) → 0 < j → j < span_of r.order → radix.entry_at s (level_of r.order) (place_of first r.order + j) ≡ Some (Sibling (place_of first r.order % 64))
  pub marks : (mark : Mark) → has_mark mark r ≡ (radix.mark_at (mark_number mark) s (level_of r.order) (place_of first r.order) == 1)

-- a slot is one of an entry's
pub record IsOwned (m : Ranges) (level place : ℕ) : Type 0 where
  pub first : ℕ
  pub range : Range
  pub there : map.get m first ≡ Some range
  pub level_is : level_of range.order ≡ level
  pub low : place_of first range.order ≤ place
  pub high : place < place_of first range.order + span_of range.order

-- the nodes have the entries of this array, and nothing else
pub record Stands (s : Slab Node) (m : Ranges) : Type 0 where
  pub shape : IsArray m
  pub each : (first : ℕ) (r : Range) → map.get m first ≡ Some r → IsAt s first r
  pub owned : (level place : ℕ) (x : Entry) → radix.entry_at s level place ≡ Some x → IsOwned m level place
  pub quiet : (mark level place first : ℕ) → mark < 3 → radix.entry_at s level place ≡ Some (Sibling first) → radix.mark_at mark s level place ≡ 0

-- the entry whose first slot this is
pub record IsLeafOf (m : Ranges) (level place value : ℕ) : Type 0 where
  pub first : ℕ
  pub range : Range
  pub there : map.get m first ≡ Some range
  pub level_is : level_of range.order ≡ level
  pub place_is : place_of first range.order ≡ place
  pub value_is : range.value ≡ value
  pub first_is : first ≡ place * 64 ^ level

-- an entry that a call found, with its level and its value
pub record IsSpot (m : Ranges) (found : Option (ℕ × Range)) (first level value : ℕ) : Type 0 where
  pub range : Range
  pub is : found ≡ Some (first, range)
  pub there : map.get m first ≡ Some range
  pub level_is : level_of range.order ≡ level
  pub value_is : range.value ≡ value
  pub top : range.order ≤ 63
  pub within : first + 2 ^ range.order ≤ 2 ^ 64

-- no entry begins before an index and holds it
pub record IsOutside (m : Ranges) (index : ℕ) : Type 0 where
  pub each : (first : ℕ) (r : Range) → map.get m first ≡ Some r → index < first + 2 ^ r.order → index ≤ first

-- a search from an index may begin at `start` in its place, where the entry at the index begins if there is one
pub record IsStart (m : Ranges) (index start : ℕ) : Type 0 where
  pub low : start ≤ index
  pub outside : IsOutside m start
  pub reach : (first : ℕ) (r : Range) → map.get m first ≡ Some r → start < first + 2 ^ r.order → index < first + 2 ^ r.order
  pub same : (kind : Range → Bool) (to : ℕ) → index ≤ to → lowest kind m start to ≡ lowest kind m index to

-- an entry begins at an index, with its first slot at this level
pub record IsFirstSlot (m : Ranges) (first level : ℕ) : Type 0 where
  pub range : Range
  pub there : map.get m first ≡ Some range
  pub level_is : level_of range.order ≡ level
  pub top : range.order ≤ 63

-- the lowest entry with the mark that meets these indexes has this other mark now, and ends at `last`
pub record TagsNext (old new : Ranges) (from to : ℕ) (mark other : Mark) (last : ℕ) : Type 0 where
  pub first : ℕ
  pub range : Range
  pub is : lowest (has_mark mark) old from to ≡ Some (first, range)
  pub now : new ≡ map.insert old first (with_mark other true range)
  pub last_is : last + 1 ≡ first + 2 ^ range.order
  pub array : IsArray old
