-- Requests that begin, are carried out and end in one call, for a cache that one thread has.
use Rattle.std.specs.Prelude.{◌≡◌, ◌<◌, ℕ, false, if◌then◌else◌, Some}
use Rattle.std.specs.FinMap as map
use Rattle.blockdev.specs.Jobs.{FinishedTask, IsJobFor, Task}
use Rattle.blockdev.specs.Watching.{Makes, Watch}
use Rattle.pc_types.specs.Kinds.{is_flush}
use Rattle.pc_types.specs.declared.kind.Kind.TheVariants.{Flush}
use Rattle.pc_types.specs.declared.limits.TheConstants.{MAX_FILES}
use Rattle.machine.specs.declared.event.Event.{Event}
use Rattle.machine.specs.declared.event.Event.TheVariants as event
use Rattle.machine.specs.declared.event.Reply.{Reply}
use Rattle.machine.specs.declared.event.Reply.TheVariants as reply
use Rattle.machine.specs.State.{Request, State, page_bytes}
use Rattle.machine.specs.Step.{Step}
use Rattle.machine.specs.ListChanges.{lists_after}
use Rattle.cachecore.specs.Core.{Core}
use Rattle.cachecore.specs.Replies.{IsJobOf, end_of, is_job}
use Rattle.cachecore.specs.Starting.{IsStarted}
use Rattle.cachecore.specs.declared.at_once.AtOnce.{AtOnce}
use Rattle.cachecore.specs.declared.at_once.AtOnce.TheVariants.{Answered, Ended}

-- the device has the cache's blocks
abbrev pub IsDeviceOf : State → Watch → Type 0
IsDeviceOf s d = (d.device.size ≡ s.sizes.page) × (d.device.count ≡ s.sizes.blocks)

-- the event begins a request of file f, whose device call is made, and which ends with this reply: two steps of the machine and a
-- device call between them. Only the state after the first is not seen by callers
pub record IsCarriedOut (old : Core) (e : Event) (from : Watch) (f : ℕ) (r : Reply) (new : Core) (to : Watch) : Type 0 where
  pub begun : State
  pub job : Task
  pub done : FinishedTask
  pub begins : Step old.state e (reply.Job (record { 0 = job.serial })) begun
  pub its : IsJobOf begun job (λ x. if is_flush x.kind then page_bytes begun x.file x.page else job.bytes)
  pub file : its.0.file ≡ f
  pub within : f < MAX_FILES
  pub fits : IsJobFor old.state.name old.state.sizes.blocks old.state.sizes.page job
  pub makes : Makes from job done to
  pub ends : Step begun (event.End job.kind (end_of done)) r new.state
  pub lists : new.lists ≡ lists_after begun (event.End job.kind (end_of done)) r
      (lists_after old.state e (reply.Job (record { 0 = job.serial })) old.lists)

-- the event is made; where it begins a request, that is carried out and ended
abbrev pub MakesAtOnce : Core → Event → Watch → AtOnce → Core → Watch → Type 0
MakesAtOnce old e from (Answered r) new to =
    Step old.state e r new.state × (is_job r ≡ false) × (new.lists ≡ lists_after old.state e r old.lists) × (to ≡ from)
MakesAtOnce old e from (Ended f r) new to = IsCarriedOut old e from f.0 r new to

-- inside this crate: the write of page p of file f has started, its device call was made, and it ended with this reply
pub record IsWritten (old : Core) (f p : ℕ) (from : Watch) (r : Reply) (new : Core) (to : Watch) : Type 0 where
  pub begun : State
  pub job : Task
  pub done : FinishedTask
  pub started : IsStarted old.state f p job begun
  pub kind : job.kind ≡ Flush
  pub its : (x : Request) → map.get begun.requests job.serial ≡ Some x → (x.file ≡ f) × (x.kind ≡ Flush)
  pub within : f < MAX_FILES
  pub fits : IsJobFor old.state.name old.state.sizes.blocks old.state.sizes.page job
  pub makes : Makes from job done to
  pub ends : Step begun (event.End Flush (end_of done)) r new.state
  pub lists : new.lists ≡ old.lists
