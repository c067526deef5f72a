-- Inside this crate: a page whose write may start, and the state after it has started.
use Rattle.std.specs.Prelude.{◌≡◌, ◌<◌, ℕ, true, false, length, Some}
use Rattle.std.specs.FinMap.{get}
use Rattle.blockdev.specs.Jobs.{Task}
use Rattle.mapping.specs.declared.mapping.TheConstants.{MAX_PAGES}
use Rattle.maps.specs.Maps.{change_at}
use Rattle.pc_types.specs.declared.ids.FileId.{FileId}
use Rattle.pc_types.specs.declared.ids.SyncId.{SyncId}
use Rattle.machine.specs.declared.event.Event.TheVariants as event
use Rattle.machine.specs.declared.event.Reply.TheVariants as reply
use Rattle.machine.specs.State.{State, Page, Sync, handle_file, page_at, page_bytes}
use Rattle.machine.specs.Changes.{started, sync_pick}
use Rattle.machine.specs.Step.{Step}
use Rattle.machine.specs.Tests.{is_full}
use Rattle.cachecore.specs.Replies.{IsJobOf}

-- the page is DIRTY and has no write in flight
abbrev pub MayStart : State → ℕ → ℕ → Type 0
MayStart s f p =
    (page : Page) × (page_at s f p ≡ Some page) × (page.tags.dirty ≡ true) × (page.tags.writeback ≡ false)

-- a sync after it started page p
abbrev pub with_started : ℕ → Sync → Sync
with_started p y = record y { started = Some p }

-- its write has started, and the job is that of its request
pub record IsStarted (old : State) (f p : ℕ) (job : Task) (new : State) : Type 0 where
  pub next : job.serial ≡ old.next
  pub state : new ≡ started old f p
  pub job_is : IsJobOf new job (λ x. page_bytes new x.file x.page)

-- it may start now
pub record CanStart (s : State) (f p : ℕ) : Type 0 where
  pub here : f < length s.files
  pub startable : MayStart s f p
  pub below : p < MAX_PAGES
  pub room : is_full s ≡ false

-- a flush of the file writes this page: once its write has started the event is made
pub record IsToFlush (s : State) (f : FileId) (p : ℕ) : Type 0 where
  pub can : CanStart s f.0 p
  pub begins : (job : Task) (mid : State) → IsStarted s f.0 p job mid
      → Step s (event.FlushBegin f) (reply.Job (record { 0 = job.serial })) mid

-- the page is the next that sync m of file f has to start, and has no write in flight
pub record IsNext (s : State) (m f p : ℕ) : Type 0 where
  pub sync : Sync
  pub is : get s.syncs m ≡ Some sync
  pub file : handle_file s sync.handle ≡ f
  pub pick : sync_pick s sync ≡ Some p
  pub page : Page
  pub cached : page_at s f p ≡ Some page
  pub clean : page.tags.writeback ≡ false

-- the page of the file is the next that the sync has to start: once its write has started, and that is noted, the event is made
pub record IsToStart (s : State) (m : SyncId) (f p : ℕ) : Type 0 where
  pub can : CanStart s f p
  pub sync : Sync
  pub there : get s.syncs m.0 ≡ Some sync
  pub begins : (job : Task) (mid : State) → IsStarted s f p job mid
      → Step s (event.SyncStep m) (reply.Job (record { 0 = job.serial }))
      (record mid { syncs = change_at m.0 (with_started p) mid.syncs })
