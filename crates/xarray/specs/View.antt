-- The marked array that radix nodes stand for.
use Rattle.std.specs.Prelude.{◌≡◌, ℕ, suc, zero, ◌+◌, ◌*◌, ◌/◌, ◌%◌, ◌^◌, ◌==◌, Bool, false, cond, List, [], ◌∷◌, ◌++◌, Option, Some, None}
use Rattle.std.specs.FinMap as map
use Rattle.slab.specs.Slab.{Slab}
use Rattle.radix.specs.declared.node.Node.{Node}
use Rattle.radix.specs.declared.entry.Entry.{Entry}
use Rattle.radix.specs.declared.entry.Entry.TheVariants.{Leaf, Sibling}
use Rattle.radix.specs.Entries as radix
use Rattle.radix.specs.Entries.{HasPathRoom}
use Rattle.xarray.specs.MarkedArray.{Array, Range, Ranges}
use Rattle.xarray.specs.Standing.{Stands, level_of}

-- whether this is a sibling of the slot at an offset
abbrev pub is_sibling : ℕ → Option Entry → Bool
is_sibling first None = false
is_sibling first (Some (Leaf value)) = false
is_sibling first (Some (Sibling named)) = named == first

-- whether the slot 2 ^ step after a first slot is of the same entry
abbrev pub reaches : Slab Node → ℕ → ℕ → ℕ → Bool
reaches s level place step = is_sibling (place % 64) (radix.entry_at s level (place + 2 ^ step))

-- the first number from `step` on that fails a test, of so many
abbrev pub climb : (ℕ → Bool) → ℕ → ℕ → ℕ
climb test step zero = step
climb test step (suc more) = cond (test step) (climb test (suc step) more) step

-- an entry whose first slot is here
abbrev pub range_of : Slab Node → ℕ → ℕ → Option Entry → Option Range
range_of s level place None = None
range_of s level place (Some (Leaf value)) = Some (record {
  order = 6 * level + climb (reaches s level place) 0 6;
  value = value;
  first_mark = radix.mark_at 0 s level place == 1;
  second_mark = radix.mark_at 1 s level place == 1;
  third_mark = radix.mark_at 2 s level place == 1;
})
range_of s level place (Some (Sibling first)) = None

-- the entry whose first index this is, where it stands at this level
abbrev pub range_in : Slab Node → ℕ → ℕ → Option Range
range_in s index level = cond (index % 64 ^ level == 0) (range_of s level (index / 64 ^ level) (radix.entry_at s level (index / 64 ^ level))) None

abbrev pub or_else : {X : Type 0} → Option X → Option X → Option X
or_else None other = other
or_else (Some x) other = Some x

-- the same at one of so many levels from this one on
abbrev pub range_from : Slab Node → ℕ → ℕ → ℕ → Option Range
range_from s index level zero = None
range_from s index level (suc more) = or_else (range_in s index level) (range_from s index (suc level) more)

-- the entry whose first index this is
abbrev pub range_at : Slab Node → ℕ → Option Range
range_at s index = range_from s index 0 11

-- the first indexes of so many slots of a node
abbrev pub firsts : Node → ℕ → List ℕ
firsts n zero = []
firsts n (suc count) = ((n.prefix * 64 + count) * 64 ^ n.level) ∷ firsts n count

-- the first indexes of all slots
abbrev pub indexes : List (Option Node) → List ℕ
indexes [] = []
indexes (None ∷ rest) = indexes rest
indexes (Some n ∷ rest) = firsts n 64 ++ indexes rest

abbrev pub add : {X : Type 0} → ℕ → Option X → List (ℕ × X) → List (ℕ × X)
add index None entries = entries
add index (Some value) entries = (index, value) ∷ entries

-- what f has at these indexes
abbrev pub pick : {X : Type 0} → (ℕ → Option X) → List ℕ → List (ℕ × X)
pick f [] = []
pick f (index ∷ rest) = add index (f index) (pick f rest)

-- the array as a finite map
unfoldable pub ranges_of : Slab Node → Ranges
ranges_of s = map.from_entries (pick (range_at s) (indexes s.slots))

-- the nodes have an array's entries, each in its slots
pub record IsRanged (s : Slab Node) : Type 0 where
  pub stands : Stands s (ranges_of s)

-- the array, and the range that has room
abbrev pub array_of : Slab Node → Option (ℕ × ℕ) → Array
array_of s ready = record { ranges = ranges_of s; ready = ready }

-- a range that is said to have room has it
pub record IsReady (s : Slab Node) (ready : Option (ℕ × ℕ)) : Type 0 where
  pub room : (index order : ℕ) → ready ≡ Some (index, order) → HasPathRoom s (level_of order) index
