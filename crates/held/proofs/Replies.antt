-- Replies that have no bytes, and those that are no job.
use Rattle.std.proofs.Common.{◌≡◌, ℕ, false, List, [], refl}
use Rattle.std.specs.Prelude.{Option, Some, None, Result, Ok, Err}
use Rattle.pc_types.specs.declared.ids.FileId.{FileId}
use Rattle.pc_types.specs.declared.ids.HandleId.{HandleId}
use Rattle.pc_types.specs.declared.ids.PageIndex.{PageIndex}
use Rattle.pc_types.specs.declared.ids.SyncId.{SyncId}
use Rattle.pc_types.specs.declared.refusal.Refusal.{Refusal}
use Rattle.cachecore.specs.declared.answers.FillBegun.{FillBegun}
use Rattle.cachecore.specs.declared.answers.FillBegun.TheVariants as fill
use Rattle.cachecore.specs.declared.answers.FlushBegun.{FlushBegun}
use Rattle.cachecore.specs.declared.answers.FlushBegun.TheVariants as flush
use Rattle.cachecore.specs.declared.answers.ReadAnswer.{ReadAnswer}
use Rattle.cachecore.specs.declared.answers.ReadAnswer.TheVariants as read
use Rattle.cachecore.specs.declared.answers.Refused.{Refused}
use Rattle.cachecore.specs.declared.answers.SyncStepped.{SyncStepped}
use Rattle.cachecore.specs.declared.answers.SyncStepped.TheVariants as sync
use Rattle.cachecore.specs.declared.answers.TruncateAnswer.{TruncateAnswer}
use Rattle.cachecore.specs.declared.answers.TruncateAnswer.TheVariants as truncate
use Rattle.cachecore.specs.declared.answers.WriteAnswer.{WriteAnswer}
use Rattle.cachecore.specs.declared.answers.WriteAnswer.TheVariants as write
use Rattle.cachecore.specs.Replies.{closed, created, evicted, fill_begun, flush_begun, opened, sized, sync_begun, sync_dropped, sync_stepped, was_read, was_truncated, wrote}
use Rattle.runs.proofs.moments.KeptRequests.{is_job}
use Rattle.trail.specs.Entries.{reply_with}

pub bare_created : (a : Result FileId Refusal) → reply_with (created a) [] ≡ created a
bare_created (Ok f) = refl
bare_created (Err e) = refl

pub bare_opened : (a : Result HandleId Refusal) → reply_with (opened a) [] ≡ opened a
bare_opened (Ok h) = refl
bare_opened (Err e) = refl

pub bare_closed : (a : Result Unit Refusal) → reply_with (closed a) [] ≡ closed a
bare_closed (Ok u) = refl
bare_closed (Err e) = refl

pub bare_sized : (a : Result ℕ Refusal) → reply_with (sized a) [] ≡ sized a
bare_sized (Ok n) = refl
bare_sized (Err e) = refl

pub bare_cut : (a : Result TruncateAnswer Refusal) → reply_with (was_truncated a) [] ≡ was_truncated a
bare_cut (Ok truncate.Done) = refl
bare_cut (Ok (truncate.Wait p)) = refl
bare_cut (Ok (truncate.Miss p)) = refl
bare_cut (Err e) = refl

pub bare_evicted : (a : Option (FileId × PageIndex)) → reply_with (evicted a) [] ≡ evicted a
bare_evicted (Some e) = refl
bare_evicted None = refl

pub bare_fill : (a : Result FillBegun Refused) → reply_with (fill_begun a) [] ≡ fill_begun a
bare_fill (Ok (fill.Gone b)) = refl
bare_fill (Ok (fill.Wait p b)) = refl
bare_fill (Ok (fill.Present b)) = refl
bare_fill (Ok (fill.Filled b)) = refl
bare_fill (Ok (fill.Job job)) = refl
bare_fill (Err e) = refl

pub bare_flush : (a : Result FlushBegun Refused) → reply_with (flush_begun a) [] ≡ flush_begun a
bare_flush (Ok (flush.Nothing b)) = refl
bare_flush (Ok (flush.Job job)) = refl
bare_flush (Err e) = refl

pub bare_step : (a : Result SyncStepped Refused) → reply_with (sync_stepped a) [] ≡ sync_stepped a
bare_step (Ok (sync.Job job)) = refl
bare_step (Ok (sync.Wait p b)) = refl
bare_step (Ok (sync.Clean b)) = refl
bare_step (Ok (sync.Failed code b)) = refl
bare_step (Err e) = refl

pub bare_begun : (a : Result SyncId Refusal) → reply_with (sync_begun a) [] ≡ sync_begun a
bare_begun (Ok n) = refl
bare_begun (Err e) = refl

pub bare_drop : (a : Result Unit Refusal) → reply_with (sync_dropped a) [] ≡ sync_dropped a
bare_drop (Ok u) = refl
bare_drop (Err e) = refl

-- ---- replies that are no job

pub quiet_created : (a : Result FileId Refusal) → is_job (created a) ≡ false
quiet_created (Ok f) = refl
quiet_created (Err e) = refl

pub quiet_opened : (a : Result HandleId Refusal) → is_job (opened a) ≡ false
quiet_opened (Ok h) = refl
quiet_opened (Err e) = refl

pub quiet_closed : (a : Result Unit Refusal) → is_job (closed a) ≡ false
quiet_closed (Ok u) = refl
quiet_closed (Err e) = refl

pub quiet_sized : (a : Result ℕ Refusal) → is_job (sized a) ≡ false
quiet_sized (Ok n) = refl
quiet_sized (Err e) = refl

pub quiet_cut : (a : Result TruncateAnswer Refusal) → is_job (was_truncated a) ≡ false
quiet_cut (Ok truncate.Done) = refl
quiet_cut (Ok (truncate.Wait p)) = refl
quiet_cut (Ok (truncate.Miss p)) = refl
quiet_cut (Err e) = refl

pub quiet_evicted : (a : Option (FileId × PageIndex)) → is_job (evicted a) ≡ false
quiet_evicted (Some e) = refl
quiet_evicted None = refl

pub quiet_begun : (a : Result SyncId Refusal) → is_job (sync_begun a) ≡ false
quiet_begun (Ok n) = refl
quiet_begun (Err e) = refl

pub quiet_drop : (a : Result Unit Refusal) → is_job (sync_dropped a) ≡ false
quiet_drop (Ok u) = refl
quiet_drop (Err e) = refl

pub quiet_wrote : (a : Result WriteAnswer Refusal) → is_job (wrote a) ≡ false
quiet_wrote (Ok (write.Wrote n end)) = refl
quiet_wrote (Ok (write.Wait p)) = refl
quiet_wrote (Ok (write.Miss p)) = refl
quiet_wrote (Err e) = refl

pub quiet_read : (a : Result ReadAnswer Refusal) (out : List ℕ) → is_job (was_read a out) ≡ false
quiet_read (Ok (read.Bytes n)) out = refl
quiet_read (Ok (read.Wait p)) out = refl
quiet_read (Ok (read.Miss p)) out = refl
quiet_read (Err e) out = refl
