-- A device, and whether anything was written to it since it was last flushed well.
use Rattle.std.specs.Prelude.{◌≡◌, Bool, true, false, ◌||◌, OnOk, OnErr}
use Rattle.blockdev.specs.Device.{Told, Flushes, Outcome}
use Rattle.blockdev.specs.Jobs.{Task, FinishedTask, Performs}
use Rattle.pc_types.specs.Kinds.{is_flush}

pub record Watch : Type 0 where
  pub device : Told
  pub unflushed : Bool

-- a device that comes from elsewhere: what was written to it before is not known to be flushed
abbrev pub first_watch : Told → Watch
first_watch d = record { device = d; unflushed = true }

-- one call for this job. A write is noted, however it went
pub record Makes (old : Watch) (job : Task) (done : FinishedTask) (new : Watch) : Type 0 where
  pub performs : Performs old.device job done new.device
  pub unflushed : new.unflushed ≡ (is_flush job.kind || old.unflushed)

-- a flush. One that fails leaves what was noted
pub record Clears (old : Watch) (answer : Outcome) (new : Watch) : Type 0 where
  pub flushes : Flushes old.device answer new.device
  pub well : OnOk answer (new.unflushed ≡ false)
  pub failed : OnErr answer (new.unflushed ≡ old.unflushed)
