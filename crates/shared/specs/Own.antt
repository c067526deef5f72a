-- The events of a call.
use Rattle.std.specs.Prelude.{◌≡◌, ◌⊎◌, ℕ, Result, Ok, Err, if◌then◌else◌, ◌==◌}
use Rattle.pc_types.specs.Limits.{Sizes}
use Rattle.machine.specs.Catalogs.{Catalog}
use Rattle.pc_types.specs.declared.ids.HandleId.{HandleId}
use Rattle.pc_types.specs.declared.refusal.Refusal.{Refusal}
use Rattle.pc_types.specs.declared.refusal.Refusal.TheVariants.{BadHandle, Stranger}
use Rattle.machine.specs.declared.event.Event.{Event}
use Rattle.machine.specs.declared.event.Event.TheVariants as event
use Rattle.machine.specs.declared.event.Reply.{Reply}
use Rattle.machine.specs.declared.event.Reply.TheVariants as reply
use Rattle.trail.specs.Room.{Room}
use Rattle.trail.specs.declared.entry.Entry.{Entry}
use Rattle.held.specs.declared.log.Slip.{Slip}
use Rattle.held.specs.Shown.{SeatSeen}
use Rattle.held.specs.declared.denied.Denied.{Denied}
use Rattle.shared.specs.Denials.{IsDenied}

-- what a call by this handle does on the way: it fills pages by it, and makes room
abbrev pub IsHelp : HandleId → Event → Type 0
IsHelp h (event.FillBegin g p) = g ≡ h
IsHelp h (event.End kind end) = Unit {0}
IsHelp h (event.FlushBegin f) = Unit {0}
IsHelp h event.Evict = Unit {0}
IsHelp h event.Age = Unit {0}
IsHelp h e = ⊥

-- what it does to make room
abbrev pub IsRoomEvent : Event → Type 0
IsRoomEvent (event.End kind end) = Unit {0}
IsRoomEvent (event.FlushBegin f) = Unit {0}
IsRoomEvent event.Evict = Unit {0}
IsRoomEvent event.Age = Unit {0}
IsRoomEvent e = ⊥

-- to let a page go
abbrev pub IsEviction : Event → Type 0
IsEviction event.Evict = Unit {0}
IsEviction event.Age = Unit {0}
IsEviction e = ⊥

-- the refusal stands, or making room was refused
abbrev pub IsStillDenied : Catalog → Sizes → ℕ → Room → Denied → SeatSeen → SeatSeen → Denied → Type 0
IsStillDenied files sizes name whole first before after d = (d ≡ first) ⊎ IsDenied files sizes name whole IsRoomEvent before after d

-- what a call by this handle does that is to make this event
abbrev pub IsCallOf : HandleId → Event → Event → Type 0
IsCallOf h own e = (e ≡ own) ⊎ IsHelp h e

-- after this reply the event is still to be made
abbrev pub IsUndone : Reply → Type 0
IsUndone (reply.Miss p) = Unit {0}
IsUndone (reply.Wait p) = Unit {0}
IsUndone (reply.Refused why) = Unit {0}
IsUndone r = ⊥

-- what such a call enters before it has made its event
abbrev pub IsTry : HandleId → Event → Entry → Type 0
IsTry h own e = ((e.event ≡ own) × IsUndone e.reply) ⊎ IsHelp h e.event

abbrev pub count_in : Result (ℕ × Slip) Denied → ℕ
count_in (Ok r) = r.0
count_in (Err d) = 0

-- a seat and a handle of the caches of these names, at the cache of the first
abbrev pub admitted : ℕ → ℕ → ℕ → Result Unit Refusal
admitted name seat handle =
    if seat == name then (if handle == name then Ok tt else Err BadHandle) else Err Stranger
