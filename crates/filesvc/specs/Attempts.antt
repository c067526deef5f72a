-- Inside this crate: what one attempt of a call comes to. It is over, with a reply, or it is to be made again.
use Rattle.std.specs.Prelude.{◌≡◌, ℕ, ◌+◌, ◌<◌, ◌≤◌, ◌⊎◌, Bool, true, false, List, length, take, Option, Some, None, Result, Ok, Err}
use Rattle.pc_types.specs.declared.ids.HandleId.{HandleId}
use Rattle.pc_types.specs.declared.ids.PageIndex.{PageIndex}
use Rattle.pc_types.specs.declared.limits.TheConstants.{MAX_FILE_SIZE}
use Rattle.pc_types.specs.declared.refusal.Refusal.{Refusal}
use Rattle.machine.specs.State.{State, file_at, handle_file}
use Rattle.machine.specs.declared.event.Event.{Event}
use Rattle.machine.specs.declared.event.Event.TheVariants as event
use Rattle.machine.specs.declared.event.Reply.{Reply}
use Rattle.machine.specs.declared.event.Reply.TheVariants as reply
use Rattle.machine.specs.Step as machine
use Rattle.machine.specs.Tests.{read_count, tests}
use Rattle.filesvc.specs.declared.writes.Wrote.{Wrote}
use Rattle.world.specs.declared.step.Step.{Step}
use Rattle.world.specs.declared.step.Step.TheVariants as step
use Rattle.filesvc.specs.Made.{Moves, Try, asked, is_help}
use Rattle.filesvc.specs.Seen.{SoloSeen}
use Rattle.filesvc.specs.Rooms.{IsHelpRefusal, need}
use Rattle.filesvc.specs.Service.{FilesAfter, IsRefusal, Keeps, LengthsAfter, Serves, is_settled}

abbrev pub read_over : Result (Option ℕ) Refusal → List ℕ → Option Reply
read_over (Ok (Some n)) out = Some (reply.Bytes (take n out))
read_over (Ok None) out = None
read_over (Err r) out = Some (reply.Refused r)

-- how many bytes at the front of `out` an attempt to read has set
abbrev pub read_so_far : Result (Option ℕ) Refusal → ℕ
read_so_far (Ok (Some n)) = n
read_so_far (Ok None) = 0
read_so_far (Err r) = 0

abbrev pub write_over : Result (Option Wrote) Refusal → Option Reply
write_over (Ok (Some w)) = Some (reply.Wrote w.count w.end)
write_over (Ok None) = None
write_over (Err r) = Some (reply.Refused r)

abbrev pub append_reply : Result Wrote Refusal → Reply
append_reply (Ok w) = reply.Wrote w.count w.end
append_reply (Err r) = reply.Refused r

-- whether a truncation is done
abbrev pub truncate_over : Result Bool Refusal → Option Reply
truncate_over (Ok true) = Some reply.Done
truncate_over (Ok false) = None
truncate_over (Err r) = Some (reply.Refused r)

-- all of b was written, at o, and not past the greatest size of a file
pub record WroteAll (o : ℕ) (b : List ℕ) (w : Wrote) : Type 0 where
  pub count : w.count ≡ length b
  pub ends : w.end ≡ o + w.count
  pub small : o ≤ MAX_FILE_SIZE → w.end ≤ MAX_FILE_SIZE

-- how many attempts a call may still need before the last
abbrev pub need_of : State → Event → ℕ
need_of s (event.Read h o n) = need false s h.0 o (read_count s (handle_file s h.0) o n)
need_of s (event.Write h o b) = need true s h.0 o (length b)
need_of s (event.Append h b) = need true s h.0 (file_at s (handle_file s h.0)).size (length b)
need_of s (event.Truncate h z) = need false s h.0 z 1
need_of s e = 0

-- the step of the world that is this event of a call
abbrev pub step_of : Event → Step
step_of (event.Read h o n) = step.Read h o n
step_of (event.Write h o b) = step.Write h o b
step_of (event.Append h b) = step.Append h b
step_of (event.Truncate h z) = step.Truncate h z
step_of e = step.Age

-- steps that help a call by this handle that asked for this page, and leave the plain files as they are
pub record Helps (k : ℕ) (page : Option PageIndex) (old new : SoloSeen) : Type 0 where
  pub serves : Serves old new
  pub moves : Moves (is_help k page) old.world new.world

-- the attempt from its beginning to its end
pub record Attempt (old : SoloSeen) (e : Event) (over : Option Reply) (new : SoloSeen) : Type 0 where
  pub keeps : Keeps old new
  pub counted : new.attempts ≡ old.attempts + 1
  pub again : over ≡ None → Serves old new
  pub files : (r : Reply) → over ≡ Some r → FilesAfter old e r new
  pub lengths : (r : Reply) → over ≡ Some r → LengthsAfter old e r new
  -- the event was over at once
  pub settled : is_settled (tests old.world.core e) ≡ true → (r : Reply) × (over ≡ Some r) × machine.Step old.world.core e r new.world.core
  pub refused : (r : Refusal) → over ≡ Some (reply.Refused r) → IsRefusal old e r new
  pub tried : Try (step_of e) old.world over new.world
  -- one that is to be made again needs fewer attempts
  pub less : over ≡ None → need_of new.world.core e < need_of old.world.core e

-- an attempt from its event on, which had this reply. It wants this room still
pub record Follows (old : SoloSeen) (h : HandleId) (got : Reply) (want : Option Refusal) (over : Option Reply) (new : SoloSeen) : Type 0 where
  pub helps : Helps h.0 (asked got) old new
  pub attempts : new.attempts ≡ old.attempts
  pub settled : is_settled (Some got) ≡ true → (over ≡ Some got) × (new ≡ old)
  pub stopped : is_settled (Some got) ≡ false → (over ≡ None) ⊎ ((r : Refusal) × (over ≡ Some (reply.Refused r)) × IsHelpRefusal old h got want r new)
