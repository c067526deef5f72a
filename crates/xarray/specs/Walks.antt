-- A walk over entries in rising order, which keeps its place.
use Rattle.std.specs.Prelude.{◌≡◌, ℕ, ◌+◌, ◌*◌, ◌/◌, ◌^◌, ◌≤◌, IfSome, ◌<◌, Bool, List, [], Option, Some, None, map as map_list}
use Rattle.std.specs.FinMap as map
use Rattle.slab.specs.Slab.{Slab}
use Rattle.radix.specs.declared.node.Node.{Node}
use Rattle.radix.specs.declared.entry.Position.{Position}
use Rattle.radix.specs.declared.entry.Twig.{Twig}
use Rattle.radix.specs.Entries.{StandsAt}
use Rattle.radix.specs.Twigs.{IsTwig, mark_of}
use Rattle.xarray.specs.declared.entry.Found.{Found}
use Rattle.xarray.specs.declared.entry.Mark.{Mark}
use Rattle.xarray.specs.MarkedArray.{IsArray, Range, Ranges, found_of, has_mark, is_any, entries_in, lowest, mark_number}
use Rattle.xarray.specs.Standing.{IsOutside, IsSpot}
use Rattle.xarray.specs.View.{ranges_of}

-- the entries that a walk is for: those with a mark, or all
abbrev pub kind_of : Option Mark → Range → Bool
kind_of None = is_any
kind_of (Some mark) = has_mark mark

-- the entries that are left from an index on, if there is one
abbrev pub left : Option Mark → Ranges → Option ℕ → ℕ → List Found
left mark m None to = []
left mark m (Some from) to = map_list found_of (entries_in (kind_of mark) m from to)

-- an index is the first one after a slot whose node is known
pub record IsAfter (s : Slab Node) (slot : Position) (from : ℕ) : Type 0 where
  pub low : slot.level ≤ 10
  pub stands : StandsAt s slot.cursor slot.level (slot.place / 64)
  pub after : from ≡ (slot.place + 1) * 64 ^ slot.level

-- the node above that of a slot, if it is known
abbrev pub IsAbove : Slab Node → Position → Option ℕ → Type 0
IsAbove s slot above = IfSome above (λ k. StandsAt s k (slot.level + 1) (slot.place / 64 / 64))

-- the next entry of a kind has one index, this one
pub record IsNear (m : Ranges) (kind : Range → Bool) (from to first value : ℕ) : Type 0 where
  pub past : to < first → lowest kind m from to ≡ None
  pub spot : first ≤ to → IsSpot m (lowest kind m from to) first 0 value
  pub single : (r : Range) → map.get m first ≡ Some r → 0 ≡ r.order
  pub array : IsArray m

-- the mark by which a walk goes from entry to entry: every entry has mark 3
abbrev pub number_of : Option Mark → ℕ
number_of None = 3
number_of (Some mark) = mark_number mark

-- a walk goes on at an index from this twig
pub record IsOn (s : Slab Node) (mark : Option Mark) (from : ℕ) (t : Twig) : Type 0 where
  pub twig : IsTwig s from t
  pub mark_is : mark_of t ≡ number_of mark

-- a walk may go on from this index: no entry begins before it and ends past it, and it comes after the twig, or else after the
-- slot, if one is known
pub record IsPlace (s : Slab Node) (mark : Option Mark) (next : Option ℕ) (to : ℕ) (twig : Option Twig) (slot : Option Position) : Type 0 where
  pub outside : (from : ℕ) → next ≡ Some from → IsOutside (ranges_of s) from
  pub le : (from : ℕ) → next ≡ Some from → from ≤ to
  pub on : (from : ℕ) → next ≡ Some from → IfSome twig (λ t. IsOn s mark from t)
  pub after : (from : ℕ) → next ≡ Some from → twig ≡ None → IfSome slot (λ p. IsAfter s p from)
