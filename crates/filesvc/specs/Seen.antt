-- What callers see of a service and of a handle.
use Rattle.std.specs.Prelude.{ℕ, Bool}
use Rattle.errboard.specs.Shown.{PassSeen, RecorderSeen}
use Rattle.world.specs.Stepping.{WorldSeen}

-- the name of its cache, its file, its number, its cursor, whether writes go to the end of the file, and what it was told of failed
-- writes
pub record HandleSeen : Type 0 where
  pub cache : ℕ
  pub file : ℕ
  pub number : ℕ
  pub cursor : ℕ
  pub append : Bool
  pub pass : PassSeen

-- the cache with its device, the failed writes that were recorded, and how many attempts the last call made
pub record SoloSeen : Type 0 where
  pub world : WorldSeen
  pub errors : RecorderSeen
  pub attempts : ℕ
