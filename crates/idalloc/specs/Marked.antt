-- The array that keeps the bitmaps.
use Rattle.std.specs.Prelude.{◌≡◌, ℕ, ◌^◌, ◌<◌, ◌==◌, not, Some, map as map_list}
use Rattle.std.specs.FinMap as map
use Rattle.xarray.specs.MarkedArray.{Range, Ranges}
use Rattle.xarray.proofs.Singles.{AllSingle}
use Rattle.idalloc.specs.Bitmaps.{Bitmaps, full}

-- the bitmaps by index
abbrev pub bitmaps : Ranges → Bitmaps
bitmaps m = map.from_entries (map_list (λ e. (e.0, e.1.value)) (map.entries m))

-- each entry has one index and a bitmap of 32 bits, and the first mark where this has room
pub record AreMarked (m : Ranges) : Type 0 where
  pub single : AllSingle m
  pub fits : (i : ℕ) (r : Range) → map.get m i ≡ Some r → r.value < 2 ^ 32
  pub marked : (i : ℕ) (r : Range) → map.get m i ≡ Some r → r.first_mark ≡ not (r.value == full)
