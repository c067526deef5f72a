-- Inside this crate: what holds of a service between its calls, and requests that are made, carried out and ended in one.
use Rattle.std.specs.Prelude.{◌≡◌, ℕ, ◌<◌, ◌≤◌, ◌==◌, ◌⊎◌, true, false, if◌then◌else◌, [], ◌∷◌, length, Option, Some, is_some}
use Rattle.std.specs.FinMap as finmap
use Rattle.atomic_table.specs.Seated.{TableId}
use Rattle.blockdev.specs.Device.{max_calls}
use Rattle.errboard.specs.Shown.{RecorderSeen, is_told}
use Rattle.errboard.specs.Steps.{with_recording}
use Rattle.errseq.specs.declared.recording.Recording.{Recording}
use Rattle.pc_types.specs.declared.ids.Serial.{Serial}
use Rattle.pc_types.specs.declared.limits.TheConstants.{MAX_FILES, MAX_FILE_SIZE, MIN_DIRTY_LIMIT, MIN_FRAMES, MIN_PAGE_SIZE}
use Rattle.machine.specs.declared.event.Reply.{Reply}
use Rattle.machine.specs.declared.event.Reply.TheVariants as reply
use Rattle.cachecore.specs.Flushing.{flush_of}
use Rattle.cachecore.specs.Replies.{is_job}
use Rattle.machine.specs.Sound.{Sound}
use Rattle.machine.specs.State.{Request, file_at}
use Rattle.orderly.specs.Orderly.{IsOrderly}
use Rattle.world.specs.declared.step.Step.{Step}
use Rattle.world.specs.declared.step.Step.TheVariants as step
use Rattle.runs.specs.Reached.{IsReached}
use Rattle.world.specs.Stepping.{WorldSeen, IsMade, Plays, world_of}

-- no request is in flight
pub record IsResting (w : WorldSeen) : Type 0 where
  pub requests : w.core.requests ≡ finmap.empty
  pub outcomes : w.outcomes ≡ finmap.empty

-- what holds of a service between its calls, and while a call of it syncs a file
pub record IsServing (name : ℕ) (w : WorldSeen) (table : TableId) (errors : RecorderSeen) : Type 0 where
  pub named : w.core.name ≡ name
  pub board : table ≡ errors.board
  -- which has the recordings of each file
  pub lists : length errors.all ≡ MAX_FILES
  pub rests : IsResting w
  -- where the device tells its contents, what the cache and the device hold came about by a run
  pub reached : is_some w.device.contents ≡ true → IsReached (world_of w)
  pub sound : Sound w.core
  pub orderly : IsOrderly w.core
  pub counted : w.device.calls ≤ max_calls
  pub bounded : (f : ℕ) → (file_at w.core f).size ≤ MAX_FILE_SIZE
  pub few : length w.core.files ≤ MAX_FILES
  -- so no file has more pages than a sync may name
  pub page : MIN_PAGE_SIZE ≤ w.core.sizes.page
  -- a call finds frames for all pages that it touches
  pub frames : MIN_FRAMES ≤ w.core.sizes.frames
  pub dirty : MIN_DIRTY_LIMIT ≤ w.core.sizes.dirty_limit
  -- no more serials were given than device calls were made
  pub serials : w.core.next ≤ w.device.calls

-- between its calls no sync is in progress
pub record IsService (name : ℕ) (w : WorldSeen) (table : TableId) (errors : RecorderSeen) : Type 0 where
  pub serving : IsServing name w table errors
  pub syncs : w.core.syncs ≡ finmap.empty

-- a request that was a write of this file, and failed, was recorded, and nobody was told of it; and else nothing
abbrev pub IsNoted : RecorderSeen → Option ℕ → Reply → RecorderSeen → Type 0
IsNoted old (Some f) (reply.Failed code) new =
    (f < MAX_FILES) × (new.board ≡ old.board) × (new.opening ≡ old.opening) × (x : Recording) × (x.code ≡ code) × (new.all ≡ with_recording old.all f x)
    × ((g : ℕ) → is_told new g ≡ (if g == f then false else is_told old g))
IsNoted old _ _ new = new ≡ old

-- the step was made, and where it began a request the device call and the end follow, whose reply this is and whose failure was recorded
abbrev pub AtOnce : WorldSeen → RecorderSeen → Step → Reply → WorldSeen → RecorderSeen → Type 0
AtOnce old errors s r new noted =
    ((is_job r ≡ false) × IsMade old s r new × (noted ≡ errors))
    ⊎ ((t : Serial) × (mid : WorldSeen) × IsMade old s (reply.Job t) mid × Plays mid (step.Call t ∷ step.End t ∷ []) (reply.Done ∷ r ∷ []) new × IsNoted errors (flush_of mid.core t.0) r noted)

-- request t alone is in flight, and its device call was not made yet
pub record IsAlone (w : WorldSeen) (t : ℕ) : Type 0 where
  pub request : Request
  pub requests : w.core.requests ≡ finmap.insert finmap.empty t request
  pub outcomes : w.outcomes ≡ finmap.empty
