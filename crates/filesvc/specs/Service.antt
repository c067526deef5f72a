-- What holds of a service for one thread, in the terms of its callers: plain files, failed writes, and the answers of the cache.
use Rattle.std.specs.Prelude.{◌≡◌, ◌≢◌, ℕ, ◌+◌, ◌-◌, ◌<◌, ◌≤◌, nat_lt, max, not, ◌==◌, ◌&&◌, ◌⊎◌, Bool}
use Rattle.std.specs.Prelude.{true, false, if◌then◌else◌, List, length, take, drop, Option, Some, None, is_some, Result}
use Rattle.std.specs.Prelude.{Ok, Err, IfSome, IfNone}
use Rattle.std.specs.FinMap as finmap
use mathlib.Core.List.{IsPrefix}
use Rattle.blockdev.specs.Device.{max_calls}
use Rattle.pc_types.specs.Files.{page_of}
use Rattle.pc_types.specs.declared.ids.PageIndex.{PageIndex}
use Rattle.pc_types.specs.declared.limits.TheConstants.{SERIAL_END}
use Rattle.pc_types.specs.declared.refusal.Refusal.{Refusal}
use Rattle.pc_types.specs.declared.refusal.Refusal.TheVariants.{BadHandle, DirtyLimit, Io, Memory, NoFrame, NoSpace}
use Rattle.pc_types.specs.declared.refusal.Refusal.TheVariants.{TooLarge, TooLong, TooManyInFlight}
use Rattle.errboard.specs.Shown.{is_told}
use Rattle.errboard.specs.Views.{recorded_of}
use Rattle.errseq.specs.declared.recording.Recording.{Recording}
use Rattle.errseq.specs.Recorded.{last_code, raised}
use Rattle.errseq.specs.Word.{IsWithinTurn}
use Rattle.machine.specs.declared.event.Event.{Event}
use Rattle.machine.specs.declared.event.Event.TheVariants as event
use Rattle.machine.specs.declared.event.Reply.{Reply}
use Rattle.machine.specs.declared.event.Reply.TheVariants as reply
use Rattle.machine.specs.State.{State, file_at, handle_file, page_count, touched_count}
use Rattle.machine.specs.Step.{Step}
use Rattle.machine.specs.Tests.{read_count, tests}
use Rattle.cachecore.specs.Wants.{lacks_frames, passes_limit}
use Rattle.runs.specs.Plain.{Plain, plain_after, plain_file}
use Rattle.runs.specs.Seen.{files_seen}
use Rattle.world.specs.Stepping.{world_of}
use Rattle.runs.specs.World.{on_device}
use Rattle.cursor.specs.declared.seek.Seek.{Seek}
use Rattle.cursor.specs.declared.seek.Seek.TheVariants.{End}
use Rattle.filesvc.specs.Seen.{HandleSeen, SoloSeen}

-- ---- what is read off a service

-- the premise of every promise on bytes: the device tells its contents
abbrev pub Tells : SoloSeen → Type 0
Tells s = is_some s.world.device.contents ≡ true

-- the plain files: each, up to its size, the cached bytes of its pages or else those on the device
abbrev pub files : SoloSeen → Plain
files s = files_seen (world_of s.world)

-- the failed writes of a file that were recorded
abbrev pub errors_of : SoloSeen → ℕ → List Recording
errors_of s f = recorded_of s.errors.all f

-- how many writes of a file failed
abbrev pub failures_of : SoloSeen → ℕ → ℕ
failures_of s f = (file_at s.world.core f).failures

-- the last that was recorded of each file has the code of its last write that failed. So it is of a new service, since neither has one
abbrev pub IsCoded : SoloSeen → Type 0
IsCoded s = (f : ℕ) → last_code (errors_of s f) ≡ (file_at s.world.core f).last_code

-- whether a file has an error that nobody was told of, which is the last that was recorded of it
abbrev pub is_untold : SoloSeen → ℕ → Bool
is_untold s f = nat_lt 0 (length (errors_of s f)) && not (is_told s.errors f)

-- whether it has one after calls in which nobody was told of it: where a write of it failed meanwhile, and else as before
abbrev pub untold_since : SoloSeen → SoloSeen → ℕ → Bool
untold_since old new f = if failures_of new f == failures_of old f then is_untold old f else true

-- ---- handles

-- whether a handle has this cache's name
abbrev pub Names : SoloSeen → HandleSeen → Type 0
Names s h = h.cache ≡ s.world.core.name

-- the handle came from this service: it is open, its file is there, and its pass is of its file and of this service's board
pub record IsOpen (s : SoloSeen) (h : HandleSeen) : Type 0 where
  pub board : h.pass.board ≡ s.errors.board
  pub pass : h.pass.file ≡ h.file
  pub number : finmap.get s.world.core.handles h.number ≡ Some h.file
  pub file : h.file < length s.world.core.files

-- the condition on a handle: one that has this cache's name came from it
abbrev pub CameFrom : SoloSeen → HandleSeen → Type 0
CameFrom s h = Names s h → IsOpen s h

-- ---- what every call keeps

-- its cache, with its open handles, and its board; what was recorded stays, and each write that fails is added at its end, once; and
-- the device counts on
pub record KeepsBut (polled : ℕ → Bool) (old new : SoloSeen) : Type 0 where
  pub name : new.world.core.name ≡ old.world.core.name
  pub sizes : new.world.core.sizes ≡ old.world.core.sizes
  pub handles : new.world.core.handles ≡ old.world.core.handles
  pub count : length new.world.core.files ≡ length old.world.core.files
  pub board : new.errors.board ≡ old.errors.board
  pub opening : new.errors.opening ≡ old.errors.opening
  pub recorded : (f : ℕ) → IsPrefix (errors_of old f) (errors_of new f)
  -- as many were added as failed meanwhile
  pub noted : (f : ℕ) → length (errors_of new f) + failures_of old f ≡ length (errors_of old f) + failures_of new f
  -- the last with its code
  pub coded : IsCoded old → IsCoded new
  -- of each file that was not polled, nobody was told
  pub untold : (f : ℕ) → polled f ≡ false → is_untold new f ≡ untold_since old new f
  pub tells : is_some new.world.device.contents ≡ is_some old.world.device.contents
  pub faults : old.world.device.faults ≤ new.world.device.faults

abbrev pub Keeps : SoloSeen → SoloSeen → Type 0
Keeps old new = KeepsBut (λ f. false) old new

-- and it leaves the plain files as they are; their lengths also where the device does not tell its contents
pub record ServesBut (polled : ℕ → Bool) (old new : SoloSeen) : Type 0 where
  pub keeps : KeepsBut polled old new
  pub lengths : (f : ℕ) → (file_at new.world.core f).size ≡ (file_at old.world.core f).size
  pub files : Tells old → files new ≡ files old

abbrev pub Serves : SoloSeen → SoloSeen → Type 0
Serves old new = ServesBut (λ f. false) old new

-- ---- refusals

-- a device call failed since: it was counted, or the device can count no more
abbrev pub Faulted : SoloSeen → SoloSeen → Type 0
Faulted old new = (old.world.device.faults < new.world.device.faults) ⊎ (new.world.device.calls ≡ max_calls)

-- the cache's own tests refuse the event so
abbrev pub Refuses : SoloSeen → Event → Refusal → Type 0
Refuses s e r = tests s.world.core e ≡ Some (reply.Refused r)

-- which room a call on n bytes at o wants, that makes their pages dirty or not: frames, or fewer dirty pages
abbrev pub wants : Bool → State → ℕ → ℕ → ℕ → Option Refusal
wants dirties s h o n = if lacks_frames s h o n then Some NoFrame else if dirties && passes_limit s h o n then Some DirtyLimit else None

-- which room a read, a write or a truncation wants: a read none for the bytes past the end of the file, and a truncation for the page that
-- it cuts into
abbrev pub wanted_by : State → Event → Option Refusal
wanted_by s (event.Read h o n) = wants false s h.0 o (read_count s (handle_file s h.0) o n)
wanted_by s (event.Write h o b) = wants true s h.0 o (length b)
wanted_by s (event.Append h b) = wants true s h.0 (file_at s (handle_file s h.0)).size (length b)
wanted_by s (event.Truncate h z) = wants false s h.0 z 1
wanted_by s e = None

-- why a call is refused that makes the event e, for each refusal that it may have: its tests on the state before; that no block is free,
-- by the tests on the state after, which has the same blocks; that it wants this room still on the state after, and a device call failed,
-- without which there is always room; a device call that failed; that no serial is left for a fill; or a growth that was refused
abbrev pub IsRefusal : SoloSeen → Event → Refusal → SoloSeen → Type 0
IsRefusal old e BadHandle new = Refuses old e BadHandle
IsRefusal old e TooLong new = Refuses old e TooLong
IsRefusal old e TooLarge new = Refuses old e TooLarge
IsRefusal old e NoSpace new = Refuses new e NoSpace
IsRefusal old e NoFrame new = Faulted old new × (wanted_by new.world.core e ≡ Some NoFrame)
IsRefusal old e DirtyLimit new = Faulted old new × (wanted_by new.world.core e ≡ Some DirtyLimit)
IsRefusal old e (Io code) new = Faulted old new
IsRefusal old e TooManyInFlight new = SERIAL_END ≤ new.world.core.next
IsRefusal old e Memory new = Unit {0}
IsRefusal old e r new = ⊥

-- ---- attempts

-- how many pages a read, a write or a truncation touches: a truncation the one that it cuts into
abbrev pub touched_by : State → Event → ℕ
touched_by s (event.Read h o n) = touched_count s.sizes.page o (read_count s (handle_file s h.0) o n)
touched_by s (event.Write h o b) = touched_count s.sizes.page o (length b)
touched_by s (event.Append h b) = touched_count s.sizes.page (file_at s (handle_file s h.0)).size (length b)
touched_by s (event.Truncate h z) = 1
touched_by s e = 0

-- a call makes no more attempts than it touches pages, and two: one is for room that it wants, and the last is over
abbrev pub IsSoonOver : SoloSeen → Event → SoloSeen → Type 0
IsSoonOver old e new = new.attempts ≤ touched_by old.world.core e + 2

-- whether an event is over with its tests' answer: there is no page to fill, and no room to make
abbrev pub is_settled : Option Reply → Bool
is_settled (Some (reply.Miss p)) = false
is_settled (Some (reply.Wait p)) = false
is_settled (Some (reply.Refused NoFrame)) = false
is_settled (Some (reply.Refused DirtyLimit)) = false
is_settled _ = true

-- where it is, the call is that event
abbrev pub IsSettledAtOnce : SoloSeen → HandleSeen → Event → Reply → SoloSeen → Type 0
IsSettledAtOnce old h e r new =
    Names old h → is_settled (tests old.world.core e) ≡ true → Step old.world.core e r new.world.core × (new.attempts ≡ 1)

-- ---- answers

-- how many bytes a call answers
abbrev pub count_of : Result ℕ Refusal → ℕ
count_of (Ok n) = n
count_of (Err r) = 0

-- what a read answers, with the bytes that it left at the front of `out`, as a reply of the cache
abbrev pub read_reply : Result ℕ Refusal → List ℕ → Reply
read_reply (Ok n) out = reply.Bytes (take n out)
read_reply (Err r) out = reply.Refused r

-- what a write answers that ends there
abbrev pub write_reply : Result ℕ Refusal → ℕ → Reply
write_reply (Ok n) end = reply.Wrote n end
write_reply (Err r) end = reply.Refused r

abbrev pub truncate_reply : Result Unit Refusal → Reply
truncate_reply (Ok _) = reply.Done
truncate_reply (Err r) = reply.Refused r

-- how long a file is after an event with this reply: a write that ends past its end makes it longer
abbrev pub length_after : State → Event → Reply → ℕ → ℕ
length_after s (event.Write h o b) (reply.Wrote n end) f =
    let size = (file_at s f).size in if handle_file s h.0 == f && not (n == 0) then max size end else size
length_after s (event.Append h b) (reply.Wrote n end) f =
    let size = (file_at s f).size in if handle_file s h.0 == f && not (n == 0) then max size end else size
length_after s (event.Truncate h z) reply.Done f = if handle_file s h.0 == f then z else (file_at s f).size
length_after s e r f = (file_at s f).size

-- how long the files are after a call that makes this event and is answered so, of every device
abbrev pub LengthsAfter : SoloSeen → Event → Reply → SoloSeen → Type 0
LengthsAfter old e r new = (f : ℕ) → (file_at new.world.core f).size ≡ length_after old.world.core e r f

-- the plain files after a call that makes this event and is answered so
abbrev pub FilesAfter : SoloSeen → Event → Reply → SoloSeen → Type 0
FilesAfter old e r new = Tells old → files new ≡ plain_after (files old) e r

-- ---- a sync

-- the device holds page p of the file, where the file has such a page
abbrev pub HoldsPage : SoloSeen → ℕ → ℕ → Type 0
HoldsPage s f p =
    p < page_count s.world.core.sizes.page (length (plain_file (files s) f)) → on_device (world_of s.world) f p ≡ page_of s.world.core.sizes.page (plain_file (files s) f) p

-- the device holds each page of the file
abbrev pub IsOnDevice : SoloSeen → ℕ → Type 0
IsOnDevice s f = (p : ℕ) → HoldsPage s f p

-- the device holds each of these pages of the file
abbrev pub AreOnDevice : SoloSeen → ℕ → PageIndex → PageIndex → Type 0
AreOnDevice s f first last = (p : ℕ) → first.0 ≤ p → p ≤ last.0 → HoldsPage s f p

-- there is something that the handle was not told
abbrev pub Owes : SoloSeen → HandleSeen → Type 0
Owes s h = h.pass.done < length (errors_of s h.file)

-- the premise of the counter: it did not come round since
abbrev pub IsCounted : SoloSeen → HandleSeen → Type 0
IsCounted s h = IsWithinTurn (raised (drop h.pass.done (errors_of s h.file)))

-- a write of the file failed during the call
abbrev pub HasFailed : SoloSeen → SoloSeen → ℕ → Type 0
HasFailed old new f = failures_of new f ≢ failures_of old f

-- ---- handles that come and go

-- a handle that was opened: it is this cache's, of this file, at its beginning, and the lowest number that was free
pub record Opens (old : SoloSeen) (f : ℕ) (append : Bool) (h : HandleSeen) (new : SoloSeen) : Type 0 where
  pub cache : h.cache ≡ old.world.core.name
  pub file : h.file ≡ f
  pub here : f < length old.world.core.files
  pub cursor : h.cursor ≡ 0
  pub mode : h.append ≡ append
  pub board : h.pass.board ≡ old.errors.board
  pub pass : h.pass.file ≡ f
  pub step : Step old.world.core (event.Open (record { 0 = f })) (reply.Handle (record { 0 = h.number })) new.world.core
  -- it is told of what was recorded before, but for the last where nobody was told of that
  pub known : h.pass.known ≡ errors_of old f
  pub done : h.pass.done ≡ (if is_untold old f then length (errors_of old f) - 1 else length (errors_of old f))

abbrev pub Opened : SoloSeen → ℕ → Bool → Result HandleSeen Refusal → SoloSeen → Type 0
Opened old f append (Ok h) new = Opens old f append h new
Opened old f append (Err r) new = Step old.world.core (event.Open (record { 0 = f })) (reply.Refused r) new.world.core

-- the service as it was, but for the number of its attempts
abbrev pub IsAsBefore : SoloSeen → SoloSeen → Type 0
IsAsBefore old new = new ≡ record old { attempts = new.attempts }

-- the service as it was after a call that made no attempt, as one by a handle of another service
abbrev pub IsUntried : SoloSeen → SoloSeen → Type 0
IsUntried old new = new ≡ record old { attempts = 0 }

-- a seek looks at the cache for the end of a file alone
abbrev pub looks_of : Seek → ℕ
looks_of (End d) = 1
looks_of place = 0

-- the handle was told of all that is recorded, and nothing else of it changed
pub record IsTold (s : SoloSeen) (old new : HandleSeen) : Type 0 where
  pub same : new ≡ record old { pass = new.pass }
  pub board : new.pass.board ≡ old.pass.board
  pub file : new.pass.file ≡ old.pass.file
  pub known : new.pass.known ≡ errors_of s old.file
  pub done : new.pass.done ≡ length new.pass.known

-- the handle was polled after these calls, with this answer: a code where it was owed one, after which its file has no error that nobody was
-- told of
pub record IsPolled (old : SoloSeen) (h : HandleSeen) (answer : Option ℕ) (new : SoloSeen) (after : HandleSeen) : Type 0 where
  pub told : IsTold new h after
  pub some : IfSome answer (λ code. Owes new h × (code ≡ last_code (errors_of new h.file)))
  pub none : IfNone answer (IsCounted new h → Owes new h → ⊥)
  pub untold : is_untold new h.file ≡ (if is_some answer then false else untold_since old new h.file)

-- what an open answers, as a reply of the cache
abbrev pub open_reply : Result HandleSeen Refusal → Reply
open_reply (Ok h) = reply.Handle (record { 0 = h.number })
open_reply (Err r) = reply.Refused r

-- why an fsync is refused that ends by no success and no error of a write: no serial is left for a write
abbrev pub IsSyncRefusal : Refusal → SoloSeen → Type 0
IsSyncRefusal TooManyInFlight new = SERIAL_END ≤ new.world.core.next
IsSyncRefusal r new = ⊥

-- where an fsync ends by a success or an error: with an error exactly where a write of the file failed during the call, or the handle is
-- owed one, with the code of the last
abbrev pub Reports : SoloSeen → HandleSeen → Result Unit Refusal → SoloSeen → Type 0
Reports old h (Ok _) new = (failures_of new h.file ≡ failures_of old h.file) × (IsCounted new h → Owes new h → ⊥)
Reports old h (Err (Io code)) new =
    (Owes new h × (code ≡ last_code (errors_of new h.file))) ⊎ (HasFailed old new h.file × (code ≡ (file_at new.world.core h.file).last_code))
Reports old h (Err r) new = Unit {0}

-- whether an fsync got as far as its poll
abbrev pub is_reported : Result Unit Refusal → Bool
is_reported (Ok _) = true
is_reported (Err (Io code)) = true
is_reported (Err r) = false

-- ---- a write at the cursor, or at the end of the file by an appending handle

abbrev pub write_event : HandleSeen → List ℕ → Event
write_event h bytes = if h.append then event.Append (record { 0 = h.number }) bytes else event.Write (record { 0 = h.number }) h.cursor bytes

-- where it begins
abbrev pub write_place : SoloSeen → HandleSeen → ℕ
write_place s h = if h.append then (file_at s.world.core h.file).size else h.cursor

abbrev pub wrote_reply : SoloSeen → HandleSeen → Result ℕ Refusal → Reply
wrote_reply s h r = write_reply r (write_place s h + count_of r)

-- after it the cursor stands behind the bytes
abbrev pub cursor_after : SoloSeen → HandleSeen → Result ℕ Refusal → ℕ
cursor_after s h (Ok n) = write_place s h + n
cursor_after s h (Err r) = h.cursor

-- a sync of the file is over: clean, where no write of the file failed since it began, or with the code of the last
-- that did
abbrev pub IsTallied : SoloSeen → ℕ → SoloSeen → Option ℕ → Type 0
IsTallied old f new None = failures_of new f ≡ failures_of old f
IsTallied old f new (Some code) = HasFailed old new f × (code ≡ (file_at new.world.core f).last_code)

-- what a close answers
abbrev pub close_reply : Result Unit (Refusal × HandleSeen) → Reply
close_reply (Ok _) = reply.Closed
close_reply (Err e) = reply.Refused e.0
