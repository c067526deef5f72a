-- What a call makes, as its caller's seat has seen it.
use Rattle.std.specs.Prelude.{◌≡◌, ◌⊎◌, ◌+◌, ◌&&◌, Bool, true, false, ◌++◌, ◌∷◌, [], List, length}
use mathlib.Core.List.{IsPrefix}
use Rattle.cachecore.specs.Wants.{holds_cut}
use Rattle.cachecore.specs.Wants.{is_busy}
use Rattle.machine.specs.State.{State}
use Rattle.machine.specs.declared.event.Event.{Event}
use Rattle.machine.specs.declared.event.Reply.{Reply}
use Rattle.machine.specs.declared.event.Reply.TheVariants as reply
use Rattle.pc_types.specs.declared.refusal.Refusal.{Refusal}
use Rattle.pc_types.specs.declared.refusal.Refusal.TheVariants.{DirtyLimit, NoFrame, NoSpace, TooManyInFlight}
use Rattle.trail.specs.declared.entry.Entry.{Entry}
use Rattle.trail.specs.Entries.{entry_of}
use Rattle.held.specs.declared.log.Slip.{Slip}
use Rattle.held.specs.Shown.{SeatSeen}
use Rattle.held.specs.Called.{Goes, Only}

-- the seat has seen the slip's entry. It is the seat's own, of this event and this reply, and stands past all that the
-- seat had seen before the call
pub record Makes (before after : SeatSeen) (slip : Slip) (e : Event) (r : Reply) : Type 0 where
  pub earlier : List Entry
  pub saw : IsPrefix before.list earlier
  pub entered : IsPrefix (earlier ++ entry_of before.number e r ∷ []) after.list
  pub placed : (slip.name ≡ before.name) × (slip.place ≡ length earlier)

-- a refusal that may pass when a request ends
abbrev pub is_for_now : Refusal → Bool
is_for_now NoFrame = true
is_for_now DirtyLimit = true
is_for_now TooManyInFlight = true
is_for_now NoSpace = true
is_for_now _ = false

-- whether a request is in flight by whose end it may pass: any, but for blocks one that is dropped, whose block is free then
abbrev pub may_pass : Refusal → State → Bool
may_pass NoSpace s = holds_cut s
may_pass why s = is_for_now why && is_busy s

-- a reply after which the call tries again: a page is to be filled, or a request to end
abbrev pub IsForLater : Reply → Type 0
IsForLater (reply.Miss p) = Unit {0}
IsForLater (reply.Wait p) = Unit {0}
IsForLater (reply.Refused why) = is_for_now why ≡ true
IsForLater r = ⊥

-- the first event that the seat made since is this one, with this reply
pub record Leads (e : Event) (r : Reply) (before after : SeatSeen) : Type 0 where
  pub at : SeatSeen
  pub made : Only (λ l. (l.event ≡ e) × (l.reply ≡ r)) before at
  pub one : at.count ≡ before.count + 1
  pub goes : Goes at after

-- it is, and it has to be tried again
abbrev pub Retries : SeatSeen → SeatSeen → Event → Type 0
Retries before after e = (r : Reply) × IsForLater r × Leads e r before after

-- the seat made no event, or this one first; and where that needed no other try, no other event
pub record OwnFirst (e : Event) (before after : SeatSeen) : Type 0 where
  pub is :
      (after.count ≡ before.count)
      ⊎ ((r : Reply) × Leads e r before after × (IsForLater r ⊎ (after.count ≡ before.count + 1)))
