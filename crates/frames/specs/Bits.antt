-- A word of 64 bits.
use Rattle.std.specs.Prelude.{◌≡◌, ◌≢◌, ℕ, ◌<◌}
use Rattle.std.specs.Int.{bit_at}

-- the bit at `place` is now this, and the others are as they were
pub record ChangesBit (old new place bit : ℕ) : Type 0 where
  pub changed : bit_at new place ≡ bit
  pub others : (other : ℕ) → other < 64 → other ≢ place → bit_at new other ≡ bit_at old other

-- the lowest bit that is set
pub record IsLowest (word place : ℕ) : Type 0 where
  pub within : place < 64
  pub set : bit_at word place ≡ 1
  pub lowest : (other : ℕ) → other < place → bit_at word other ≡ 0
