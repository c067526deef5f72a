-- Requests on their way to a device and back, and the one device call that is made for each.
use Rattle.std.specs.Prelude.{◌≡◌, ◌<◌, ℕ, List, length}
use Rattle.pc_types.specs.declared.kind.Kind.{Kind}
use Rattle.pc_types.specs.declared.kind.Kind.TheVariants.{Fill, Flush}
use Rattle.blockdev.specs.Device.{Told, Outcome, Reads, Writes}

-- a device call that is to be made: the cache and the serial of its request, what it does, with which block, and the bytes of
-- its buffer
pub record Task : Type 0 where
  pub cache : ℕ
  pub serial : ℕ
  pub kind : Kind
  pub block : ℕ
  pub bytes : List ℕ

-- a job of the cache with this name, whose device has so many blocks of so many bytes: what its device call and its end need
pub record IsJobFor (name blocks page : ℕ) (job : Task) : Type 0 where
  pub cache : job.cache ≡ name
  pub block : job.block < blocks
  pub size : length job.bytes ≡ page

-- one that was made: the same, with the bytes that the buffer was left with, and how the call ended
pub record FinishedTask : Type 0 where
  pub cache : ℕ
  pub serial : ℕ
  pub kind : Kind
  pub block : ℕ
  pub bytes : List ℕ
  pub outcome : Outcome

-- the call by its kind: a fill reads the block into the buffer, and a flush writes the buffer, which stays, to the block
abbrev pub Transfers : Kind → Told → ℕ → List ℕ → Outcome → List ℕ → Told → Type 0
Transfers Fill old block before r after new = Reads old block before r after new
Transfers Flush old block before r after new = Writes old block before r new × (after ≡ before)

-- one call for this job: the device before it, the job, what came of it, the device after it. Where a fill fails its buffer
-- is unchanged
pub record Performs (old : Told) (job : Task) (done : FinishedTask) (new : Told) : Type 0 where
  pub cache : done.cache ≡ job.cache
  pub serial : done.serial ≡ job.serial
  pub kind : done.kind ≡ job.kind
  pub block : done.block ≡ job.block
  pub length : length done.bytes ≡ length job.bytes
  pub call : Transfers job.kind old job.block job.bytes done.outcome done.bytes new
