-- A service all of whose files are on its device.
use Rattle.std.specs.Prelude.{◌≡◌}
use Rattle.runs.specs.Restart.{IsClean}
use Rattle.filesvc.specs.Seen.{SoloSeen}

-- no page is to be written or being written, and what the device holds is durable
pub record IsSynced (s : SoloSeen) : Type 0 where
  pub clean : IsClean s.world.core
  pub durable : s.world.device.durable ≡ s.world.device.contents
