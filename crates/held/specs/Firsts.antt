-- The first file that has a page to write.
use Rattle.std.specs.Prelude.{ℕ}
use Rattle.blockdev.specs.Jobs.{Task}
use Rattle.cachecore.specs.Wants.{IsFirstToWrite}
use Rattle.machine.specs.declared.event.Event.TheVariants as event
use Rattle.machine.specs.declared.event.Reply.TheVariants as reply
use Rattle.pc_types.specs.Limits.{Sizes}
use Rattle.machine.specs.Catalogs.{Catalog}
use Rattle.pc_types.specs.declared.ids.FileId.{FileId}
use Rattle.trail.specs.Room.{Room}
use Rattle.held.specs.declared.log.Slip.{Slip}
use Rattle.held.specs.Entered.{Made}
use Rattle.held.specs.Shown.{HeldSeen, SeatSeen}
use Rattle.held.specs.Denials.{IsDenied}
use Rattle.held.specs.declared.denied.Denied.{Denied}

-- the job is a write of the first file that has a page to write
pub record Writes (job : Task) (slip : Slip) (old new : HeldSeen) (before after : SeatSeen) : Type 0 where
  pub file : FileId
  pub first : IsFirstToWrite old.core.state file.0
  pub made : Made (event.FlushBegin file) (reply.Job (record { 0 = job.serial })) old new before after slip

-- the first file that has a page to write was refused
pub record IsFirstDenied (files : Catalog) (sizes : Sizes) (name : ℕ) (whole : Room) (old new : HeldSeen) (before after : SeatSeen) (d : Denied)
    : Type 0 where
  pub file : FileId
  pub first : IsFirstToWrite old.core.state file.0
  pub denied : IsDenied files sizes name whole (event.FlushBegin file) old new before after d
