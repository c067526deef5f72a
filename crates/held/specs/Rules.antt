-- The rule of a trail's word: what the word is, and what each seat knows. And what each step tells.
use Rattle.std.specs.Prelude.{◌≡◌, ℕ, ◌+◌, ◌<◌, ◌≤◌, List, [], ◌∷◌, ◌++◌, length}
use mathlib.Core.Option.{Option, none, some}
use mathlib.Core.List.{IsPrefix}
use lib.ListN.{get_elem?}
use Rattle.atomic_table.specs.Table.{State, Me, Step}
use Rattle.trail.specs.declared.entry.Entry.{Entry}
use Rattle.held.specs.declared.views.View.{View}
use Rattle.held.specs.declared.views.View.TheVariants.{Spent, Keeper, Holds, Seat}
use Rattle.held.specs.Views.{AreOfSeats, count_of}

-- a seat's list begins the trail, and its count is the number of its entries there
abbrev pub Counts : List Entry → ℕ → ℕ → List Entry → ℕ → Type 0
Counts log made number list count = (number < made) × IsPrefix list log × (count ≡ count_of number log)

abbrev pub Fits : List Entry → ℕ → ℕ → ℕ → View → Type 0
Fits log made writer at Spent = Unit {0}
Fits log made writer at (Keeper all n) = (at ≡ writer) × (all ≡ log) × (n ≡ made)
Fits log made writer at (Holds all n number list count) =
    (at ≡ writer) × (all ≡ log) × (n ≡ made) × Counts log made number list count
Fits log made writer at (Seat number list count) = Counts log made number list count

-- the seat whose number a view has
abbrev pub number_of : View → Option ℕ
number_of Spent = none
number_of (Keeper all made) = none
number_of (Holds all made number list count) = some number
number_of (Seat number list count) = some number

pub record IsKept (s : State ℕ View) : Type 0 where
  pub log : List Entry
  pub made : ℕ
  pub writer : ℕ
  pub word_is : s.words ≡ length log ∷ []
  pub unmade : AreOfSeats made log
  pub each_seat : (at : ℕ) (v : View) → get_elem? s.views at ≡ some v → Fits log made writer at v
  -- each number stands in one view alone
  pub alone : (i j number : ℕ) (u v : View) → get_elem? s.views i ≡ some u → get_elem? s.views j ≡ some v
      → number_of u ≡ some number → number_of v ≡ some number → i ≡ j

-- the entry is added. The seat's list had begun what was there before, and its count was the number of its entries
abbrev pub AddedFrom : Entry → View → View → Type 0
AddedFrom entry (Holds all made number list count) after =
    IsPrefix list all × (count ≡ count_of number all) × (after ≡ Holds (all ++ entry ∷ []) made number list (count + 1))
AddedFrom entry v after = Unit {0}

abbrev pub Added : Entry → Step ℕ → Me ℕ View → ℕ → Me ℕ View → Type 0
Added entry s before found after = (after.1 ≡ before.1) × AddedFrom entry before.0 after.0

-- the trail as it is, which begins with what the seat had seen and has as many of its entries as it counts
abbrev pub SeenFrom : View → ℕ → View → Type 0
SeenFrom (Seat number list count) found after =
    (log : List Entry) × IsPrefix list log × (length log ≡ found) × (count ≡ count_of number log)
    × (after ≡ Seat number log count)
SeenFrom v found after = Unit {0}

abbrev pub Seen : Step ℕ → Me ℕ View → ℕ → Me ℕ View → Type 0
Seen s before found after = (after.1 ≡ before.1) × SeenFrom before.0 found after.0

-- the seat's list begins the trail, and its count is the number of its entries. No entry has a number that no seat has
abbrev pub ComparedFrom : View → View → Type 0
ComparedFrom (Holds all made number list count) after =
    (after ≡ Holds all made number list count) × IsPrefix list all × (count ≡ count_of number all) × (number < made) × AreOfSeats made all
ComparedFrom v after = Unit {0}

abbrev pub Compared : Step ℕ → Me ℕ View → ℕ → Me ℕ View → Type 0
Compared s before found after = (after.1 ≡ before.1) × ComparedFrom before.0 after.0
