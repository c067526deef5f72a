-- A buffer that comes back is as long as a page, and so is the spare one from then on.
use Rattle.std.proofs.Common.{◌≡◌, ℕ, List, false, length, sym, ap, ◌∙◌}
use Rattle.std.specs.Prelude.{Option, Some, None, Result, Ok, Err}
use Rattle.std.specs.FinMap as finmap
use Rattle.blockdev.specs.Jobs.{FinishedTask}
use Rattle.cachecore.specs.declared.answers.Ended.{Ended}
use Rattle.cachecore.specs.declared.answers.Ended.TheVariants as ended
use Rattle.cachecore.specs.declared.answers.FillBegun.{FillBegun}
use Rattle.cachecore.specs.declared.answers.FillBegun.TheVariants as fill
use Rattle.cachecore.specs.declared.answers.FlushBegun.{FlushBegun}
use Rattle.cachecore.specs.declared.answers.FlushBegun.TheVariants as flush
use Rattle.cachecore.specs.declared.answers.Refused.{Refused}
use Rattle.cachecore.specs.declared.answers.SyncStepped.{SyncStepped}
use Rattle.cachecore.specs.declared.answers.SyncStepped.TheVariants as sync
use Rattle.cachecore.specs.Replies.{flush_begun, sync_stepped, GivesBack, FlushGivesBack, SyncGivesBack, EndGivesBack}
use Rattle.machine.specs.State.{State, Request}
use Rattle.pc_types.specs.declared.refusal.Refusal.{Refusal}
use Rattle.world.specs.declared.jobs.Flight.{Flight}
use Rattle.world.specs.declared.jobs.Flight.TheVariants.{Made}
use Rattle.world.specs.declared.answers.FillAnswer.{FillAnswer}
use Rattle.world.specs.declared.answers.FlushAnswer.{FlushAnswer}
use Rattle.world.specs.declared.answers.SyncAnswer.{SyncAnswer}
use Rattle.world.specs.declared.begun.Begun.TheVariants.{Answered}
use Rattle.world.specs.Begins.{IsFillBegun, IsFlushBegun, IsSyncStepped}
use Rattle.cachecore.specs.Replies.{is_job}
use Rattle.cachecore.specs.Replies.{buffer_of}
use Rattle.world.specs.Flights.{Jobs, HasJob, IsSpare, IsWorld, task_of}
use Rattle.blockdev.specs.Watching.{Watch}

-- over the same device pages are as long as before
spare_stays : {core new : State} {jobs after : Jobs} {dev : Watch} → IsWorld core jobs dev → IsWorld new after dev
    → (spare : Option (List ℕ)) → IsSpare core spare → IsSpare new spare
spare_stays old now None s = s
spare_stays old now (Some buffer) s = s ∙ sym old.block_size ∙ now.block_size

pub with_spare : {core new : State} {jobs after : Jobs} {dev : Watch} (spare : Option (List ℕ))
    → IsWorld core jobs dev × IsSpare core spare → IsWorld new after dev → IsWorld new after dev × IsSpare new spare
with_spare spare old now = (now, spare_stays old.0 now spare old.1)

-- ---- what came back without a job is as long as what was handed in

pub fill_back : (answer : Result FillBegun Refused) (r : Result FillAnswer Refusal) (given buffer : List ℕ) (page : ℕ)
    → IsFillBegun answer (Answered r buffer) → GivesBack given answer → length given ≡ page → length buffer ≡ page
fill_back answer r given buffer page a back size = ap length (same answer a.2 back) ∙ size
  where
    same : (x : Result FillBegun Refused) → GivesBack buffer x → GivesBack given x → buffer ≡ given
    same (Ok (fill.Gone b)) h g = sym h ∙ g
    same (Ok (fill.Wait p b)) h g = sym h ∙ g
    same (Ok (fill.Present b)) h g = sym h ∙ g
    same (Ok (fill.Filled b)) h g = sym h ∙ g
    same (Ok (fill.Job job)) h g = sym h ∙ g
    same (Err e) h g = sym h ∙ g

pub flush_back : (answer : Result FlushBegun Refused) (r : Result FlushAnswer Refusal) (given buffer : List ℕ) (page : ℕ)
    → IsFlushBegun answer (Answered r buffer) → FlushGivesBack given answer → length given ≡ page → length buffer ≡ page
flush_back answer r given buffer page a back size = ap length (same answer (sym (ap is_job a.0) ∙ a.1) a.2 back) ∙ size
  where
    same : (x : Result FlushBegun Refused) → is_job (flush_begun x) ≡ false → FlushGivesBack buffer x
        → FlushGivesBack given x → buffer ≡ given
    same (Ok (flush.Nothing b)) n h g = sym h ∙ g
    same (Ok (flush.Job job)) n h g = absurd cc
    same (Err e) n h g = sym h ∙ g

pub sync_back : (answer : Result SyncStepped Refused) (r : Result SyncAnswer Refusal) (given buffer : List ℕ) (page : ℕ)
    → IsSyncStepped answer (Answered r buffer) → SyncGivesBack given answer → length given ≡ page → length buffer ≡ page
sync_back answer r given buffer page a back size = ap length (same answer (sym (ap is_job a.0) ∙ a.1) a.2 back) ∙ size
  where
    same : (x : Result SyncStepped Refused) → is_job (sync_stepped x) ≡ false → SyncGivesBack buffer x
        → SyncGivesBack given x → buffer ≡ given
    same (Ok (sync.Job job)) n h g = absurd cc
    same (Ok (sync.Wait p b)) n h g = sym h ∙ g
    same (Ok (sync.Clean b)) n h g = sym h ∙ g
    same (Ok (sync.Failed code b)) n h g = sym h ∙ g
    same (Err e) n h g = sym h ∙ g

-- over the same device pages are as long as before
pub same_page : {core new : State} {jobs after : Jobs} {dev : Watch} → IsWorld core jobs dev → IsWorld new after dev
    → core.sizes.page ≡ new.sizes.page
same_page old now = sym old.block_size ∙ now.block_size

-- the buffer of a request that ends is its job's
pub same_buffer : (f : FinishedTask) (end : Ended) (buffer : List ℕ) → EndGivesBack f (Ok end)
    → buffer ≡ buffer_of end → buffer ≡ f.bytes
same_buffer f end buffer back same = same ∙ go end back
  where
    go : (x : Ended) → EndGivesBack f (Ok x) → buffer_of x ≡ f.bytes
    go (ended.Dropped b) g = g
    go (ended.Failed file code b) g = g
    go (ended.Done b) g = g

-- as long as a page
pub end_back : {core : State} {jobs : Jobs} {dev : Watch} → IsWorld core jobs dev → (t : ℕ) (f : FinishedTask)
    → Some (Made f) ≡ finmap.get jobs t → (end : Ended) (buffer : List ℕ) → EndGivesBack f (Ok end)
    → buffer ≡ buffer_of end → length buffer ≡ core.sizes.page
end_back {core} {jobs} w t f is end buffer back same = ap length (same_buffer f end buffer back same)
    ∙ of_job (finmap.get core.requests t) (finmap.get jobs t) (sym is) (w.each_job t)
  where
    of_job : (q : Option Request) (o : Option Flight) → o ≡ Some (Made f) → HasJob core t q o
        → length f.bytes ≡ core.sizes.page
    of_job (Some r) (Some x) e h = ap (λ y. length (task_of y).bytes) (let same : Made f ≡ x = cc in same) ∙ h.fits.size
    of_job (Some r) None e h = absurd cc
    of_job None (Some x) e h = absurd h
    of_job None None e h = absurd cc
