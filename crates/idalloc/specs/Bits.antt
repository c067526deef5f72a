-- A word of 32 bits.
use Rattle.std.specs.Prelude.{◌≡◌, ◌≢◌, ℕ, ◌<◌, ◌≤◌}
use Rattle.std.specs.Int.{bit_at}

-- the bit at `place` is now this, and the others are as they were
pub record ChangesBit (old new place bit : ℕ) : Type 0 where
  pub changed : bit_at new place ≡ bit
  pub others : (other : ℕ) → other < 32 → other ≢ place → bit_at new other ≡ bit_at old other

-- every bit from `from` on is set
pub record AllSetFrom (bits from : ℕ) : Type 0 where
  pub each : (k : ℕ) → from ≤ k → k < 32 → bit_at bits k ≡ 1

-- the lowest bit from `from` on that is not set
pub record IsLowestZero (bits from place : ℕ) : Type 0 where
  pub within : place < 32
  pub above : from ≤ place
  pub clear : bit_at bits place ≡ 0
  pub lowest : (k : ℕ) → from ≤ k → k < place → bit_at bits k ≡ 1
