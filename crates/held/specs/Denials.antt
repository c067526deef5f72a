-- Refusals, and the entries that they name.
use Rattle.std.specs.Prelude.{◌≡◌, ℕ, false, Option, Some, None}
use Rattle.pc_types.specs.Limits.{Sizes}
use Rattle.machine.specs.Catalogs.{Catalog}
use Rattle.pc_types.specs.declared.refusal.Refusal.{Refusal}
use Rattle.pc_types.specs.declared.refusal.Refusal.TheVariants.{TrailFull}
use Rattle.machine.specs.declared.event.Event.{Event}
use Rattle.machine.specs.declared.event.Reply.TheVariants as reply
use Rattle.trail.specs.History.{After}
use Rattle.trail.specs.Room.{Room}
use Rattle.held.specs.Called.{IsShown}
use Rattle.held.specs.declared.log.Slip.{Slip}
use Rattle.held.specs.Entered.{Made, has_room_for}
use Rattle.held.specs.Keeps.{room_after}
use Rattle.held.specs.Shown.{HeldSeen, SeatSeen}
use Rattle.held.specs.declared.denied.Denied.{Denied}

-- the trail had no room for the event: the history left none of what it had at first. Nothing was done, and the seat has seen this
-- history
pub record IsFull (files : Catalog) (sizes : Sizes) (name : ℕ) (whole : Room) (e : Event) (old new : HeldSeen) (before after : SeatSeen)
    : Type 0 where
  pub same : new ≡ old
  pub shown : IsShown before after
  pub sees : after.list ≡ old.log.history
  pub leaves : After files sizes name old.log.history old.core.state
  pub left : old.log.room ≡ room_after whole old.log.history
  pub full : has_room_for old e ≡ false

-- with a slip the event was made, at the slip's entry, and this refusal was its reply; without one the trail was full
abbrev pub DeniedBy : Catalog → Sizes → ℕ → Room → Event → HeldSeen → HeldSeen → SeatSeen → SeatSeen → Refusal → Option Slip → Type 0
DeniedBy files sizes name whole e old new before after refusal None =
    (refusal ≡ TrailFull) × IsFull files sizes name whole e old new before after
DeniedBy files sizes name whole e old new before after refusal (Some slip) =
    Made e (reply.Refused refusal) old new before after slip

abbrev pub IsDenied : Catalog → Sizes → ℕ → Room → Event → HeldSeen → HeldSeen → SeatSeen → SeatSeen → Denied → Type 0
IsDenied files sizes name whole e old new before after d = DeniedBy files sizes name whole e old new before after d.refusal d.slip
