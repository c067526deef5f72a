-- The begins of requests with the deeds of their blocks.
use Rattle.std.specs.Prelude.{◌≡◌, List, Option, Some, None, Result, Ok, slice_get, slice_set}
use Rattle.blockdev.specs.Jobs.{Task}
use Rattle.cachecore.specs.declared.answers.FillBegun.{FillBegun}
use Rattle.cachecore.specs.declared.answers.FillBegun.TheVariants as fill
use Rattle.cachecore.specs.declared.answers.FlushBegun.{FlushBegun}
use Rattle.cachecore.specs.declared.answers.FlushBegun.TheVariants as flush
use Rattle.cachecore.specs.declared.answers.Refused.{Refused}
use Rattle.cachecore.specs.declared.answers.SyncStepped.{SyncStepped}
use Rattle.cachecore.specs.declared.answers.SyncStepped.TheVariants as sync
use Rattle.deeds.specs.Views.{home_in}
use Rattle.deeds.specs.declared.views.Place.{Place}
use Rattle.deeds.specs.declared.views.Place.TheVariants.{Home, Out}
use Rattle.held.specs.declared.started.FillStarted.{FillStarted}
use Rattle.held.specs.declared.started.FillStarted.TheVariants as fill_started
use Rattle.held.specs.declared.started.FlushStarted.{FlushStarted}
use Rattle.held.specs.declared.started.FlushStarted.TheVariants as flush_started
use Rattle.held.specs.declared.started.SyncMoved.{SyncMoved}
use Rattle.held.specs.declared.started.SyncMoved.TheVariants as sync_moved

-- ---- answers without their deeds

abbrev pub as_fill : {B : Type 0} → FillStarted B → FillBegun
as_fill (fill_started.Gone b) = fill.Gone b
as_fill (fill_started.Wait p b) = fill.Wait p b
as_fill (fill_started.Present b) = fill.Present b
as_fill (fill_started.Filled b) = fill.Filled b
as_fill (fill_started.Job errand) = fill.Job errand

abbrev pub as_flush : {B : Type 0} → FlushStarted B → FlushBegun
as_flush (flush_started.Nothing b) = flush.Nothing b
as_flush (flush_started.Job errand) = flush.Job errand

abbrev pub as_sync : {B : Type 0} → SyncMoved B → SyncStepped
as_sync (sync_moved.Job errand) = sync.Job errand
as_sync (sync_moved.Wait p b) = sync.Wait p b
as_sync (sync_moved.Clean b) = sync.Clean b
as_sync (sync_moved.Failed code b) = sync.Failed code b

-- ---- deeds that go out

-- the job that an answer has
abbrev pub fill_job : Result FillBegun Refused → Option Task
fill_job (Ok (fill.Job job)) = Some job
fill_job a = None

abbrev pub flush_job : Result FlushBegun Refused → Option Task
flush_job (Ok (flush.Job job)) = Some job
flush_job a = None

abbrev pub sync_job : Result SyncStepped Refused → Option Task
sync_job (Ok (sync.Job job)) = Some job
sync_job a = None

-- the deed of its block is at home
abbrev pub IsAtHome : List Place → Option Task → Type 0
IsAtHome places None = Unit {0}
IsAtHome places (Some job) = slice_get places job.block ≡ Some (Home (home_in places job.block))

-- and goes out with it
abbrev pub given_out : List Place → Option Task → List Place
given_out places None = places
given_out places (Some job) =
    slice_set places job.block (Out (record { task = job; before = home_in places job.block }))
