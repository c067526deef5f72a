-- A flush of the device, and what of it is durable.
use Rattle.std.specs.Prelude.{◌≡◌, true, false, Ok, OnOk, OnErr}
use Rattle.blockdev.specs.Device.{Flushes, Outcome}
use Rattle.world.specs.Stepping.{WorldSeen, world_of}

-- the device is flushed, and nothing else changes. Where that ends well nothing is left that was written since
pub record IsFlushed (old : WorldSeen) (answer : Outcome) (new : WorldSeen) : Type 0 where
  pub flushes : Flushes old.device answer new.device
  pub rest : new ≡ record old { device = new.device; unflushed = new.unflushed }
  pub same : world_of new ≡ world_of old
  pub well : OnOk answer (new.unflushed ≡ false)
  pub failed : OnErr answer (new.unflushed ≡ old.unflushed)

-- the device is flushed where something was written to it since it was last flushed well, and else nothing is done
pub record IsFlushedOnce (old : WorldSeen) (answer : Outcome) (new : WorldSeen) : Type 0 where
  pub written : old.unflushed ≡ true → IsFlushed old answer new
  pub unwritten : old.unflushed ≡ false → (answer ≡ Ok tt) × (new ≡ old)
