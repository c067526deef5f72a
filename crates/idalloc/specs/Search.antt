-- Unused numbers in bitmaps.
use Rattle.std.specs.Prelude.{◌≡◌, ℕ, ◌/◌, ◌<◌, ◌≤◌, true, false}
use Rattle.idalloc.specs.Bitmaps.{Bitmaps, has_number}

-- the lowest number from `from` on whose bit is not set
pub record IsFirstClear (m : Bitmaps) (from n : ℕ) : Type 0 where
  pub low : from ≤ n
  pub clear : has_number m n ≡ false
  pub lowest : (k : ℕ) → from ≤ k → k < n → has_number m k ≡ true

-- the bit of each number from `from` on is set, up to the bitmap at index `last`
pub record NoneClear (m : Bitmaps) (from last : ℕ) : Type 0 where
  pub each : (k : ℕ) → from ≤ k → k / 32 ≤ last → has_number m k ≡ true
