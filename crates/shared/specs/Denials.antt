-- Refusals of calls, and the entries that they name.
use Rattle.std.specs.Prelude.{◌≡◌, ◌⊎◌, ◌+◌, ℕ, List, false, Option, Some, None}
use mathlib.Core.List.{IsPrefix}
use Rattle.pc_types.specs.Limits.{Sizes}
use Rattle.machine.specs.Catalogs.{Catalog}
use Rattle.pc_types.specs.declared.kind.Kind.TheVariants.{Fill}
use Rattle.pc_types.specs.declared.refusal.Refusal.{Refusal}
use Rattle.pc_types.specs.declared.refusal.Refusal.TheVariants.{Io, Memory, TooManyInFlight, TrailFull}
use Rattle.machine.specs.State.{State}
use Rattle.machine.specs.declared.event.Event.{Event}
use Rattle.machine.specs.declared.event.Event.TheVariants as event
use Rattle.machine.specs.declared.event.Reply.{Reply}
use Rattle.machine.specs.declared.event.Reply.TheVariants as reply
use Rattle.trail.specs.History.{After}
use Rattle.trail.specs.Room.{Room, has_room, reserved}
use Rattle.trail.specs.declared.entry.Entry.{Entry}
use Rattle.held.specs.Called.{IsShown}
use Rattle.held.specs.Keeps.{room_after}
use Rattle.held.specs.declared.log.Slip.{Slip}
use Rattle.held.specs.Shown.{SeatSeen}
use Rattle.held.specs.declared.denied.Denied.{Denied}
use Rattle.shared.specs.Called.{Makes}

-- a write-back is begun of a page that there is to write: it may be refused where too many requests are in flight, and by nothing else
abbrev pub MayRefuse : Event → Refusal → Type 0
MayRefuse (event.FlushBegin f) why = why ≡ TooManyInFlight
MayRefuse e why = Unit {0}

-- the reply to an event says why: the event was refused, or it ended a fill that failed
abbrev pub Tells : Event → Reply → Refusal → Type 0
Tells e (reply.Refused why) refusal = (refusal ≡ why) × MayRefuse e why
Tells (event.End Fill end) (reply.Failed code) refusal = refusal ≡ Io code
Tells e r refusal = ⊥

-- the seat has seen a history past which the trail has no room for one of these events
pub record SawFull (files : Catalog) (sizes : Sizes) (name : ℕ) (whole : Room) (own : Event → Type 0) (before after : SeatSeen) : Type 0 where
  pub event : Event
  pub is : own event
  pub history : List Entry
  pub saw : IsPrefix before.list history
  pub sees : IsPrefix history after.list
  pub state : State
  pub leaves : After files sizes name history state
  pub full : has_room (room_after whole history) (reserved state) state event ≡ false

-- a refusal with a slip is what the slip's entry answers, which is of one of these events. One without is that of a trail that is
-- full for one of them, or of memory wanted outside an event
abbrev pub DeniedBy : Catalog → Sizes → ℕ → Room → (Event → Type 0) → SeatSeen → SeatSeen → Refusal → Option Slip → Type 0
DeniedBy files sizes name whole own before after refusal None =
    ((refusal ≡ TrailFull) × SawFull files sizes name whole own before after) ⊎ (refusal ≡ Memory)
DeniedBy files sizes name whole own before after refusal (Some slip) =
    (e : Event) × (r : Reply) × own e × Tells e r refusal × Makes before after slip e r

abbrev pub IsDenied : Catalog → Sizes → ℕ → Room → (Event → Type 0) → SeatSeen → SeatSeen → Denied → Type 0
IsDenied files sizes name whole own before after d = DeniedBy files sizes name whole own before after d.refusal d.slip

-- refused by a trail that is full for one of these events, and by nothing else
abbrev pub IsFullFor : Catalog → Sizes → ℕ → Room → (Event → Type 0) → SeatSeen → SeatSeen → Denied → Type 0
IsFullFor files sizes name whole own before after d =
    (d ≡ record { refusal = TrailFull; slip = None }) × SawFull files sizes name whole own before after

-- one without a slip is that of a full trail: no event was made, and no memory is asked for outside one
abbrev pub IsFullIfNoSlip : SeatSeen → SeatSeen → Denied → Type 0
IsFullIfNoSlip before after d = d.slip ≡ None → (d.refusal ≡ TrailFull) × IsShown before after

-- one event was made, where there is a slip of it, and else none
abbrev pub MadeOne : Option Slip → SeatSeen → SeatSeen → Type 0
MadeOne None before after = IsShown before after
MadeOne (Some slip) before after = after.count ≡ before.count + 1
