-- What a clause says of a ring and its passes.
use Rattle.std.specs.Prelude.{◌≡◌, ℕ, length}
use Rattle.atomic_table.specs.Seated.{TableId}
use Rattle.blockdev.specs.Jobs.{Task}
use Rattle.crossbeam_queue.specs.Passes.{Pass, view, IsPassOf}
use Rattle.deeds.specs.Shown.{ParcelSeen}
use Rattle.ring.specs.declared.log.Log.{Log}
use Rattle.ring.specs.declared.ring.Ring.{Ring}

-- the job of a sample: by it the rule learns the cache's name, and the blocks and their bytes of its device
pub record IsSampleFor (name blocks page : ℕ) (job : Task) : Type 0 where
  pub cache : job.cache ≡ name
  pub count : job.serial ≡ blocks
  pub size : length job.bytes ≡ page
  pub block : job.block ≡ 0

-- it is a pass of this ring, which is open
abbrev pub Serves : Ring → Pass ParcelSeen Log → Type 0
Serves r p = IsPassOf r.queue p × ((view p).stage ≡ 2)

-- its ring is for the jobs of the cache with this name, whose device has so many blocks of so many bytes, and for the deeds of this
-- table
pub record Carries (name blocks page : ℕ) (table : TableId) (p : Pass ParcelSeen Log) : Type 0 where
  pub cache : (view p).cache ≡ name
  pub count : (view p).blocks ≡ blocks
  pub size : (view p).page ≡ page
  pub deeds : (view p).table ≡ table
