-- What the catalog of a service is good for: a service that begins with it.
use Rattle.std.specs.Prelude.{◌≡◌, ℕ, true}
use Rattle.blockdev.specs.Device.{Told}
use Rattle.pc_types.specs.Limits.{Sizes}
use Rattle.catalog.specs.Cataloged.{Cataloged, fits}
use Rattle.runs.specs.Restart.{IsClean}
use Rattle.runs.specs.Seen.{files_seen}
use Rattle.world.specs.Stepping.{adopted_world, world_of}
use Rattle.filesvc.specs.Seen.{SoloSeen}
use Rattle.filesvc.specs.Service.{Tells, files}

-- where no page is to be written or being written, as after `sync_all`: a service that is made of the catalog and of a device with
-- the same contents has the same plain files
abbrev pub Restarts : SoloSeen → Cataloged → Type 0
Restarts s c =
    Tells s → IsClean s.world.core → (sizes : Sizes) (name : ℕ) (device : Told) → fits sizes c ≡ true
    → device.contents ≡ s.world.device.contents
    → (files_seen (world_of (adopted_world sizes name c.files device))).files ≡ (files s).files
