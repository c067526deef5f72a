-- Where the numbers at the bottom that are all used end.
use Rattle.std.specs.Prelude.{◌≡◌, ℕ, ◌<◌, true}
use Rattle.std.specs.Ordering.{nat_cmp}
use Rattle.std.specs.FinSet as set

-- every number below the floor is used
pub record IsFloor (used : set.FinSet nat_cmp) (floor : ℕ) : Type 0 where
  pub each : (k : ℕ) → k < floor → set.contains used k ≡ true
