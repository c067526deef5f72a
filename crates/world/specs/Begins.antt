-- Inside this crate: what a call that may begin a request comes to. Where none begins, the answer is no job, and the
-- buffer that was handed in comes back.
use Rattle.std.specs.Prelude.{◌≡◌, false, Result, Ok}
use Rattle.cachecore.specs.declared.answers.FillBegun.{FillBegun}
use Rattle.cachecore.specs.declared.answers.FillBegun.TheVariants as fill
use Rattle.cachecore.specs.declared.answers.FlushBegun.{FlushBegun}
use Rattle.cachecore.specs.declared.answers.FlushBegun.TheVariants as flush
use Rattle.cachecore.specs.declared.answers.Refused.{Refused}
use Rattle.cachecore.specs.declared.answers.SyncStepped.{SyncStepped}
use Rattle.cachecore.specs.declared.answers.SyncStepped.TheVariants as sync
use Rattle.cachecore.specs.Replies.{is_job, answered, fill_begun, flush_begun, sync_stepped, GivesBack, FlushGivesBack, SyncGivesBack}
use Rattle.world.specs.Answers.{fill_says, flush_says, sync_says}
use Rattle.world.specs.declared.answers.FillAnswer.{FillAnswer}
use Rattle.world.specs.declared.answers.FlushAnswer.{FlushAnswer}
use Rattle.world.specs.declared.answers.SyncAnswer.{SyncAnswer}
use Rattle.world.specs.declared.begun.Begun.{Begun}
use Rattle.world.specs.declared.begun.Begun.TheVariants.{Job, Answered}

abbrev pub IsFillBegun : Result FillBegun Refused → Begun FillAnswer → Type 0
IsFillBegun answer (Job job) = answer ≡ Ok (fill.Job job)
IsFillBegun answer (Answered a buffer) =
    (answered fill_says a ≡ fill_begun answer) × (is_job (answered fill_says a) ≡ false) × GivesBack buffer answer

abbrev pub IsFlushBegun : Result FlushBegun Refused → Begun FlushAnswer → Type 0
IsFlushBegun answer (Job job) = answer ≡ Ok (flush.Job job)
IsFlushBegun answer (Answered a buffer) =
    (answered flush_says a ≡ flush_begun answer) × (is_job (answered flush_says a) ≡ false) × FlushGivesBack buffer answer

abbrev pub IsSyncStepped : Result SyncStepped Refused → Begun SyncAnswer → Type 0
IsSyncStepped answer (Job job) = answer ≡ Ok (sync.Job job)
IsSyncStepped answer (Answered a buffer) =
    (answered sync_says a ≡ sync_stepped answer) × (is_job (answered sync_says a) ≡ false) × SyncGivesBack buffer answer
