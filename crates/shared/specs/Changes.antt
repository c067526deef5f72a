-- Writes, appends and truncations, as events.
use Rattle.std.specs.Prelude.{◌≡◌, ◌≤◌, ◌+◌, ℕ, List, length, Ok, Err, Result, if◌then◌else◌}
use Rattle.pc_types.specs.declared.ids.HandleId.{HandleId}
use Rattle.pc_types.specs.declared.limits.TheConstants.{MAX_FILE_SIZE}
use Rattle.cachecore.specs.Replies.{wrote}
use Rattle.cachecore.specs.declared.answers.WriteAnswer.{WriteAnswer}
use Rattle.cachecore.specs.declared.answers.WriteAnswer.TheVariants as answer
use Rattle.machine.specs.declared.event.Event.{Event}
use Rattle.machine.specs.declared.event.Event.TheVariants as event
use Rattle.machine.specs.declared.event.Reply.{Reply}
use Rattle.machine.specs.declared.event.Reply.TheVariants as reply
use Rattle.held.specs.declared.log.Slip.{Slip}
use Rattle.held.specs.declared.denied.Denied.{Denied}
use Rattle.shared.specs.Seen.{HandleSeen}
use Rattle.shared.specs.declared.writes.Change.{Change}
use Rattle.shared.specs.declared.writes.Change.TheVariants.{Append, Truncate, Write}
use Rattle.shared.specs.declared.writes.Wrote.{Wrote}

-- the event of a change with these bytes
abbrev pub event_of : Change → HandleId → List ℕ → Event
event_of (Write at) h bytes = event.Write h at bytes
event_of Append h bytes = event.Append h bytes
event_of (Truncate size) h bytes = event.Truncate h size

-- its reply, once it was made
abbrev pub over : Change → Wrote → Reply
over (Truncate size) w = reply.Done
over change w = reply.Wrote w.count w.end

-- and while it is not
abbrev pub reply_of : Change → WriteAnswer → Reply
reply_of change (answer.Wrote count end) = over change (record { count = count; end = end })
reply_of change a = wrote (Ok a)

-- all bytes were written, and none past the greatest size of a file but where none were to be
abbrev pub IsWhole : Change → List ℕ → Wrote → Type 0
IsWhole (Write at) bytes w =
    (w.count ≡ length bytes) × (w.end ≡ at + length bytes) × (at ≤ MAX_FILE_SIZE → w.end ≤ MAX_FILE_SIZE)
IsWhole Append bytes w = (w.count ≡ length bytes) × (w.end ≤ MAX_FILE_SIZE)
IsWhole (Truncate size) bytes w = Unit {0}

abbrev pub IsWholeIn : Change → List ℕ → WriteAnswer → Type 0
IsWholeIn change bytes (answer.Wrote count end) = IsWhole change bytes (record { count = count; end = end })
IsWholeIn change bytes a = Unit {0}

-- a write goes to the cursor, or by an appending handle to the end of the file
abbrev pub write_event : HandleSeen → List ℕ → Event
write_event h bytes = if h.append then event.Append h.number bytes else event.Write h.number h.cursor bytes

-- the cursor after a write: behind its bytes, or where it was
abbrev pub cursor_after : ℕ → Result (Wrote × Slip) Denied → ℕ
cursor_after cursor (Ok r) = r.0.end
cursor_after cursor (Err d) = cursor
