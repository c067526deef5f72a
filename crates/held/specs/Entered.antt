-- What one event of a seat does.
use Rattle.std.specs.Prelude.{◌≡◌, ℕ, ◌+◌, ◌<◌, Bool, true, false, [], ◌∷◌, ◌++◌, length, slice_set, Some}
use mathlib.Core.List.{IsPrefix}
use Rattle.errseq.specs.declared.recording.Recording.{Recording}
use Rattle.errseq.specs.Recorded.{word_of}
use Rattle.errboard.specs.Shown.{RecorderSeen}
use Rattle.errboard.specs.Steps.{with_recording}
use Rattle.errboard.specs.Views.{files, recorded_of, start_of}
use Rattle.pc_types.specs.declared.kind.Kind.TheVariants.{Flush}
use Rattle.machine.specs.declared.event.Event.{Event}
use Rattle.machine.specs.declared.event.Event.TheVariants as event
use Rattle.machine.specs.declared.event.Reply.{Reply}
use Rattle.machine.specs.declared.event.Reply.TheVariants as reply
use Rattle.cachecore.specs.Flushing.{flush_of}
use Rattle.machine.specs.ListChanges.{lists_after}
use Rattle.machine.specs.State.{State}
use Rattle.trail.specs.declared.entry.Entry.{Entry}
use Rattle.trail.specs.Entries.{bytes_in, entry_of}
use Rattle.machine.specs.Step.{Step}
use Rattle.trail.specs.Room.{has_room, less, reserved}
use Rattle.held.specs.declared.log.Slip.{Slip}
use Rattle.held.specs.Shown.{LogSeen, HeldSeen, SeatSeen}
use Rattle.held.specs.Views.{count_of}

-- the entry is added to the history, at the slip's place. The seat has seen the whole history then
pub record Entered (entry : Entry) (old new : LogSeen) (before after : SeatSeen) (slip : Slip) : Type 0 where
  pub history : new.history ≡ old.history ++ entry ∷ []
  pub same : (new.table ≡ old.table) × (new.name ≡ old.name) × (new.made ≡ old.made)
  pub seat : (after.table ≡ before.table) × (after.name ≡ before.name) × (after.number ≡ before.number)
  -- what it had seen begins what was there
  pub saw : IsPrefix before.list old.history
  pub sees : after.list ≡ new.history
  -- it had counted its own entries there, and had seen each
  pub counted : before.count ≡ count_of before.number old.history
  pub own : before.count ≡ count_of before.number before.list
  pub count : after.count ≡ before.count + 1
  pub placed : (slip.name ≡ before.name) × (slip.place ≡ length old.history)

-- one failed write of the file is recorded, with its code. The file's word is that of all its recordings, seen by
-- nobody
-- yet, and the other words stay
abbrev pub RecordsOne : ℕ → ℕ → RecorderSeen → RecorderSeen → Type 0
RecordsOne file code old new =
    (new.board ≡ old.board) × (new.opening ≡ old.opening)
    × ((x : Recording) × (x.code ≡ code) × (x.raises ≡ true → 0 < length (recorded_of old.all file))
    × (new.all ≡ with_recording old.all file x))
    × (new.words ≡ slice_set old.words file (word_of (start_of old.opening file) (recorded_of new.all file) false))

-- a flush that failed is recorded, once, for its file; no other event records anything
abbrev pub Records : State → Event → Reply → RecorderSeen → RecorderSeen → Type 0
Records s (event.End Flush end) (reply.Failed code) old new =
    (file : ℕ) × (flush_of s end.serial.0 ≡ Some file) × (file < files) × RecordsOne file code old new
Records s e r old new = new ≡ old

-- whether the trail has room for the event, beside the ends of what is in flight
abbrev pub has_room_for : HeldSeen → Event → Bool
has_room_for h e = has_room h.log.room (reserved h.core.state) h.core.state e

-- one event was entered, for which there was room
pub record Made (event : Event) (reply : Reply) (old new : HeldSeen) (before after : SeatSeen) (slip : Slip)
    : Type 0 where
  pub fitted : has_room_for old event ≡ true
  pub step : Step old.core.state event reply new.core.state
  pub lists : new.core.lists ≡ lists_after old.core.state event reply old.core.lists
  pub entered : Entered (entry_of before.number event reply) old.log new.log before after slip
  pub room : new.log.room ≡ less old.log.room (bytes_in (entry_of before.number event reply))
  pub recorded : Records old.core.state event reply old.errors new.errors
