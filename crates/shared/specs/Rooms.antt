-- Refusals for want of room.
use Rattle.std.specs.Prelude.{◌≡◌, ◌⊎◌, ◌+◌, ◌<◌, ℕ, Bool, true, false, length, take, Some, None}
use Rattle.cachecore.specs.Wants.{NothingToWrite}
use Rattle.cachecore.specs.declared.answers.Ended.{Ended}
use Rattle.cachecore.specs.declared.answers.Ended.TheVariants as ended
use Rattle.held.specs.declared.log.Slip.{Slip}
use Rattle.held.specs.Shown.{SeatSeen}
use Rattle.held.specs.Called.{Only}
use Rattle.held.specs.declared.denied.Denied.{Denied}
use Rattle.cachecore.specs.Wants.{is_busy}
use Rattle.machine.specs.State.{State}
use Rattle.machine.specs.Tests.{has_idle}
use Rattle.machine.specs.declared.event.End.{End}
use Rattle.machine.specs.declared.event.Event.{Event}
use Rattle.machine.specs.declared.event.Event.TheVariants as event
use Rattle.machine.specs.declared.event.Reply.{Reply}
use Rattle.machine.specs.declared.event.Reply.TheVariants as reply
use Rattle.pc_types.specs.Limits.{Sizes}
use Rattle.machine.specs.Catalogs.{Catalog}
use Rattle.pc_types.specs.declared.kind.Kind.TheVariants.{Flush}
use Rattle.pc_types.specs.declared.refusal.Refusal.{Refusal}
use Rattle.pc_types.specs.declared.refusal.Refusal.TheVariants.{DirtyLimit, Memory, NoFrame}
use Rattle.trail.specs.History.{After}
use Rattle.shared.specs.Called.{Makes, is_for_now, may_pass}
use Rattle.shared.specs.Own.{IsEviction}

-- more room might have spared it
abbrev pub wants_room : Refusal → Bool
wants_room NoFrame = true
wants_room DirtyLimit = true
wants_room _ = false

-- no request is in flight, whose end could make room, and no page is idle that could give its frame
abbrev pub IsCrammed : Refusal → State → Type 0
IsCrammed why s = (is_busy s ≡ false) × (why ≡ NoFrame → has_idle s ≡ false)

-- the write of a flush that ended so did not fail
abbrev pub is_written : Ended → Bool
is_written (ended.Failed file code b) = false
is_written a = true

-- to let a page go, or to begin a write
abbrev pub IsRoomTry : Event → Type 0
IsRoomTry (event.FlushBegin f) = Unit {0}
IsRoomTry e = IsEviction e

-- the last event that the seat made is the end of a write, which failed; before it the seat let pages go and began a write
pub record FailsToWrite (before after : SeatSeen) : Type 0 where
  pub at : SeatSeen
  pub tried : Only (λ e. IsRoomTry e.event) before at
  pub end : End
  pub code : ℕ
  pub slip : Slip
  pub made : Makes at after slip (event.End Flush end) (reply.Failed code)
  pub last : Only (λ _. Unit {0}) at after
  pub one : after.count ≡ at.count + 1

-- no file has a page to write; or the seat began to write one, and that failed
abbrev pub IsUnwritten : State → SeatSeen → SeatSeen → Type 0
IsUnwritten s before after = NothingToWrite s ⊎ FailsToWrite before after

-- the history up to the slip's entry leaves the cache so, and a page to write was there still: past that entry the call wrote
-- one back itself, that write failed, and the call did nothing more
pub record IsRoomLost (files : Catalog) (sizes : Sizes) (name : ℕ) (why : Refusal) (after : SeatSeen) (slip : Slip) : Type 0 where
  pub state : State
  pub seen : slip.place < length after.list
  pub leaves : After files sizes name (take (slip.place + 1) after.list) state
  pub crammed : IsCrammed why state
  pub there : NothingToWrite state → ⊥
  -- the seat when it was refused
  pub at : SeatSeen
  pub stood : at.list ≡ take (slip.place + 1) after.list
  pub failed : FailsToWrite at after

-- a call is refused for want of room by such an entry alone
abbrev pub IsLost : Catalog → Sizes → ℕ → SeatSeen → Denied → Type 0
IsLost files sizes name after d =
    wants_room d.refusal ≡ true
    → (slip : Slip) × (d.slip ≡ Some slip) × IsRoomLost files sizes name d.refusal after slip

-- a reply that asks for a page or for room
abbrev pub AsksMore : Reply → Type 0
AsksMore (reply.Miss p) = Unit {0}
AsksMore (reply.Refused why) = wants_room why ≡ true
AsksMore r = ⊥

-- a call is refused by memory outside an event only after its seat made this event, which asked for a page or for room
abbrev pub IsShortFor : Event → SeatSeen → SeatSeen → Denied → Type 0
IsShortFor e before after d =
    d ≡ record { refusal = Memory; slip = None }
    → (slip : Slip) × (r : Reply) × AsksMore r × Makes before after slip e r

-- the history up to the slip's entry leaves no request in flight by whose end the refusal may pass
pub record IsAtRest (files : Catalog) (sizes : Sizes) (name : ℕ) (why : Refusal) (after : SeatSeen) (slip : Slip) : Type 0 where
  pub state : State
  pub seen : slip.place < length after.list
  pub leaves : After files sizes name (take (slip.place + 1) after.list) state
  pub rests : may_pass why state ≡ false

-- a refusal that may pass when a request ends is of an entry at which no such request was in flight
abbrev pub IsFinal : Catalog → Sizes → ℕ → SeatSeen → Denied → Type 0
IsFinal files sizes name after d =
    is_for_now d.refusal ≡ true → (slip : Slip) × (d.slip ≡ Some slip) × IsAtRest files sizes name d.refusal after slip

-- the refusal stands, and no request is in flight in this state by whose end it may pass; or making room was refused
abbrev pub IsFinalOr : Denied → Catalog → Sizes → ℕ → State → SeatSeen → Denied → Type 0
IsFinalOr first files sizes name s after d =
    ((d ≡ first) × (may_pass first.refusal s ≡ false)) ⊎ IsFinal files sizes name after d
