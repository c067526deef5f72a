-- An entry that is split, and the entries side by side that come of it.
use Rattle.std.specs.Prelude.{◌≡◌, ℕ, suc, zero, ◌+◌, ◌*◌, ◌^◌, ◌<◌, ◌≤◌, Some}
use Rattle.std.specs.FinMap as map
use Rattle.xarray.specs.MarkedArray.{Range, Ranges}
use Rattle.xarray.specs.Standing.{level_of}

-- an entry of this order begins at an index
pub record IsWhole (m : Ranges) (first order level : ℕ) : Type 0 where
  pub range : Range
  pub there : map.get m first ≡ Some range
  pub order_is : range.order ≡ order
  pub level_is : level_of order ≡ level
  pub top : order ≤ 63

-- so many entries of an order from an index on have this one's value and marks
pub record IsRow (m : Ranges) (first order count : ℕ) (r : Range) : Type 0 where
  pub each : (i : ℕ) → i < count → map.get m (first + i * 2 ^ order) ≡ Some (record r { order = order })

-- so many entries of an order from an index on have one value and the same marks
pub record HasRow (m : Ranges) (first order count : ℕ) : Type 0 where
  pub range : Range
  pub row : IsRow m first order count range

-- the nodes of a tree of so many levels
abbrev pub tree_of : ℕ → ℕ
tree_of zero = 0
tree_of (suc levels) = 1 + 64 * tree_of levels
