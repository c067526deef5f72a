-- Inside this crate: how room is made: an idle page is evicted, or a page written back.
use Rattle.std.specs.Prelude.{◌≡◌, ℕ, zero, suc, ◌+◌, ◌-◌, ◌/◌, ◌<◌, ◌≤◌, ◌⊎◌, Bool, true, false, if◌then◌else◌, length, Option, Some, None, is_some}
use Rattle.pc_types.specs.declared.ids.FileId.{FileId}
use Rattle.pc_types.specs.declared.ids.HandleId.{HandleId}
use Rattle.pc_types.specs.declared.ids.PageIndex.{PageIndex}
use Rattle.pc_types.specs.declared.limits.TheConstants.{SERIAL_END}
use Rattle.pc_types.specs.declared.refusal.Refusal.{Refusal}
use Rattle.pc_types.specs.declared.refusal.Refusal.TheVariants.{BadHandle, DirtyLimit, Io, Memory, NoFrame, NoSuchFile, TooManyInFlight}
use Rattle.machine.specs.declared.event.Event.TheVariants as event
use Rattle.machine.specs.declared.event.Reply.{Reply}
use Rattle.machine.specs.declared.event.Reply.TheVariants as reply
use Rattle.machine.specs.State.{State, cached_total, dirty_total, file_at, handle_file, free_frames, is_cached, is_open, page_count, touched_count}
use Rattle.machine.specs.Step.{Step}
use Rattle.machine.specs.Tests.{tests}
use Rattle.cachecore.specs.Wants.{demanded, frames_short, lacking, lacks_frames, may_touch, passes_limit}
use Rattle.world.specs.declared.step.Step.TheVariants as step
use Rattle.cachecore.specs.declared.answers.Demand.{Demand}
use Rattle.cachecore.specs.declared.answers.Want.{Want}
use Rattle.cachecore.specs.declared.answers.Want.TheVariants.{Clean, Frames}
use Rattle.filesvc.specs.Made.{FailsFill, WantsMemory, asked}
use Rattle.filesvc.specs.Rests.{AtOnce}
use Rattle.filesvc.specs.Seen.{SoloSeen}
use Rattle.filesvc.specs.Service.{Faulted, wants}

-- how many pages are cached, and how many DIRTY: what making room takes away
abbrev pub load : State → ℕ
load s = cached_total s + dirty_total s

-- a page of the file was written back
abbrev pub WritesBack : SoloSeen → FileId → SoloSeen → Type 0
WritesBack old f new = AtOnce old.world old.errors (step.FlushBegin f) reply.Written new.world new.errors

-- no file has a page that a flush could begin with
abbrev pub NothingToFlush : SoloSeen → Type 0
NothingToFlush s = (f : ℕ) → f < length s.world.core.files
    → tests s.world.core (event.FlushBegin (record { 0 = f })) ≡ Some reply.Nothing

-- a flush failed: a device call failed, or no more of them can be counted, and each call wants the room that it wanted
pub record FailsFlush (old new : SoloSeen) : Type 0 where
  pub faulted : Faulted old new
  pub still : (dirties : Bool) (h o n : ℕ) → wants dirties new.world.core h o n ≡ wants dirties old.world.core h o n

-- how a flush of a file ended: a page was written; or there was none to write, or no such file, and nothing changed; and else it failed
abbrev pub IsFlush : SoloSeen → FileId → Reply → SoloSeen → Type 0
IsFlush old f reply.Written new = WritesBack old f new
IsFlush old f reply.Nothing new = (tests old.world.core (event.FlushBegin f) ≡ Some reply.Nothing) × (new ≡ old)
IsFlush old f (reply.Refused NoSuchFile) new = (length old.world.core.files ≤ f.0) × (new ≡ old)
IsFlush old f _ new = FailsFlush old new

-- no file below this one has a page to write back
abbrev pub NothingBelow : SoloSeen → ℕ → Type 0
NothingBelow s n = (f : ℕ) → f < n → tests s.world.core (event.FlushBegin (record { 0 = f })) ≡ Some reply.Nothing

-- whether a page was written back: of the first file that has one; or there was none in any file, and nothing changed, or the flush failed
abbrev pub FlushesOne : SoloSeen → Bool → SoloSeen → Type 0
FlushesOne old true new = (f : FileId) × NothingBelow old f.0 × WritesBack old f new
FlushesOne old false new = ((new ≡ old) × NothingToFlush old) ⊎ FailsFlush old new

-- an idle page was evicted, of the cache alone
abbrev pub Evicts : SoloSeen → SoloSeen → Type 0
Evicts old new = (f : FileId) × (p : PageIndex) × Step old.world.core event.Evict (reply.Evicted f p) new.world.core

-- why room is refused for a call that wants this still: a device call failed
abbrev pub IsWayRefusal : SoloSeen → Option Refusal → Refusal → SoloSeen → Type 0
IsWayRefusal old want NoFrame new = Faulted old new × (want ≡ Some NoFrame)
IsWayRefusal old want DirtyLimit new = Faulted old new × (want ≡ Some DirtyLimit)
IsWayRefusal old want r new = ⊥

-- why the fill of a page is refused, or the room for its call
abbrev pub IsFillRefusal : SoloSeen → HandleId → PageIndex → Option Refusal → Refusal → SoloSeen → Type 0
IsFillRefusal old h p want BadHandle new = is_open old.world.core h.0 ≡ false
IsFillRefusal old h p want (Io code) new = Faulted old new × FailsFill old.world h.0 p code new.world
IsFillRefusal old h p want TooManyInFlight new = SERIAL_END ≤ new.world.core.next
IsFillRefusal old h p want Memory new = WantsMemory old.world h.0 p new.world
IsFillRefusal old h p want r new = IsWayRefusal old want r new

-- why a call is refused after an event with this reply
abbrev pub IsHelpRefusal : SoloSeen → HandleId → Reply → Option Refusal → Refusal → SoloSeen → Type 0
IsHelpRefusal old h got want r new =
    ((p : PageIndex) × (asked got ≡ Some p) × IsFillRefusal old h p want r new) ⊎ IsWayRefusal old want r new

-- what was done where this was refused: for a frame a page was evicted or, where none was idle, one written back; for one more dirty page
-- one was written back
abbrev pub MakesRoom : SoloSeen → Refusal → SoloSeen → Type 0
MakesRoom old NoFrame new = Evicts old new ⊎ ((tests old.world.core event.Evict ≡ Some reply.NoneIdle) × FlushesOne old true new)
MakesRoom old DirtyLimit new = FlushesOne old true new
MakesRoom old r new = ⊥

-- ---- what a call wants

-- the refusal that a call would get which wants this room
abbrev pub refusal_of : Option Want → Option Refusal
refusal_of (Some (Frames short)) = Some NoFrame
refusal_of (Some Clean) = Some DirtyLimit
refusal_of None = None

-- the refusal that a call with this demand would get
abbrev pub wanted : State → Demand → Option Refusal
wanted s d = wants d.dirties s d.handle.0 d.offset (demanded s d)

-- so many frames are told as a demand is short of
abbrev pub IsShort : State → Demand → Want → Type 0
IsShort s d (Frames short) = short ≡ frames_short s d.handle.0 d.offset (demanded s d)
IsShort s d Clean = Unit {0}

-- room for a frame was made so many times, each time for a demand that wanted one
unfoldable pub MakesRooms : Demand → ℕ → SoloSeen → SoloSeen → Type 0
MakesRooms d zero old new = new ≡ old
MakesRooms d (suc times) old new =
    (mid : SoloSeen) × MakesRooms d times old mid × (wanted mid.world.core d ≡ Some NoFrame) × MakesRoom mid NoFrame new

-- the first and the last page that n bytes at o touch
abbrev pub first_page : ℕ → ℕ → ℕ
first_page P o = o / P

abbrev pub last_page : ℕ → ℕ → ℕ → ℕ
last_page P o n = (o + n - 1) / P

-- how many attempts it may still need before the last: one for each page that it lacks; but if it wants room, one more than it touches
-- pages, since these may be evicted
abbrev pub need : Bool → State → ℕ → ℕ → ℕ → ℕ
need dirties s h o n = if is_some (wants dirties s h o n) then touched_count s.sizes.page o n + 1 else lacking s (handle_file s h) o n

-- of a demand
abbrev pub needed : State → Demand → ℕ
needed s d = need d.dirties s d.handle.0 d.offset (demanded s d)

-- it lacks page p, which is a page of the file
pub record IsMissed (s : SoloSeen) (h o n p : ℕ) : Type 0 where
  pub may : may_touch s.world.core h o n ≡ true
  pub first : first_page s.world.core.sizes.page o ≤ p
  pub last : p ≤ last_page s.world.core.sizes.page o n
  pub absent : is_cached s.world.core (handle_file s.world.core h) p ≡ false
  pub within : p < page_count s.world.core.sizes.page (file_at s.world.core (handle_file s.world.core h)).size

-- of a demand
abbrev pub Misses : SoloSeen → Demand → PageIndex → Type 0
Misses s d p = IsMissed s d.handle.0 d.offset (demanded s.world.core d) p.0

-- what stands in its way by this reply
abbrev pub Stops : SoloSeen → ℕ → ℕ → ℕ → Reply → Type 0
Stops s h o n (reply.Miss p) = IsMissed s h o n p.0
Stops s h o n (reply.Wait p) = IsMissed s h o n p.0
Stops s h o n (reply.Refused NoFrame) = is_some (wants true s.world.core h o n) ≡ true
Stops s h o n (reply.Refused DirtyLimit) = is_some (wants true s.world.core h o n) ≡ true
Stops s h o n r = Unit {0}

-- no page has become cached
abbrev pub StaysAbsent : State → State → Type 0
StaysAbsent old new = (f p : ℕ) → is_cached old f p ≡ false → is_cached new f p ≡ false

-- a frame is free, and no call lacks frames
abbrev pub Suffices : SoloSeen → Type 0
Suffices s = (0 < free_frames s.world.core) × ((h o n : ℕ) → lacks_frames s.world.core h o n ≡ false)

-- no call would make too many pages dirty
abbrev pub IsClean : SoloSeen → Type 0
IsClean s = (h o n : ℕ) → passes_limit s.world.core h o n ≡ false
