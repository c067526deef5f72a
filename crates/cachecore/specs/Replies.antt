-- What the calls answer, as replies of the machine, and what else their contracts say of an answer.
use Rattle.std.specs.FinMap as map
use Rattle.std.specs.Prelude.{◌≡◌, ◌<◌, ◌≤◌, ℕ, Bool, true, false, List, length, take, Option, Some, None, option_map}
use Rattle.std.specs.Prelude.{Result, Ok, Err}
use Rattle.pc_types.specs.TagBits.{tag_set}
use Rattle.pc_types.specs.declared.kind.Kind.{Kind}
use Rattle.pc_types.specs.declared.kind.Kind.TheVariants.{Fill, Flush}
use Rattle.pc_types.specs.declared.limits.TheConstants.{MAX_FILES}
use Rattle.pc_types.specs.declared.refusal.Refusal.{Refusal}
use Rattle.pc_types.specs.declared.refusal.Refusal.TheVariants.{NoSuchFile}
use Rattle.pc_types.specs.declared.ids.FileId.{FileId}
use Rattle.pc_types.specs.declared.ids.HandleId.{HandleId}
use Rattle.pc_types.specs.declared.ids.PageIndex.{PageIndex}
use Rattle.pc_types.specs.declared.ids.SyncId.{SyncId}
use Rattle.blockdev.specs.Device as device
use Rattle.blockdev.specs.Jobs.{Task, FinishedTask}
use Rattle.machine.specs.declared.event.End.{End}
use Rattle.machine.specs.declared.event.Outcome.{Outcome}
use Rattle.machine.specs.declared.event.Outcome.TheVariants as outcome
use Rattle.machine.specs.declared.event.Reply.{Reply}
use Rattle.machine.specs.declared.event.Reply.TheVariants as reply
use Rattle.machine.specs.State.{State, Request, page_at, page_bytes, is_cached, is_filling}
use Rattle.machine.specs.Tests.{refuse}
use Rattle.cachecore.specs.declared.answers.Ended.{Ended}
use Rattle.cachecore.specs.declared.answers.Ended.TheVariants as ended
use Rattle.cachecore.specs.declared.answers.FillBegun.{FillBegun}
use Rattle.cachecore.specs.declared.answers.FillBegun.TheVariants as fill
use Rattle.cachecore.specs.declared.answers.FlushBegun.{FlushBegun}
use Rattle.cachecore.specs.declared.answers.FlushBegun.TheVariants as flush
use Rattle.cachecore.specs.declared.answers.PageTags.{PageTags}
use Rattle.cachecore.specs.declared.answers.PageTags.TheVariants as tags
use Rattle.cachecore.specs.declared.answers.ReadAnswer.{ReadAnswer}
use Rattle.cachecore.specs.declared.answers.ReadAnswer.TheVariants as read
use Rattle.cachecore.specs.declared.answers.Refused.{Refused}
use Rattle.cachecore.specs.declared.answers.RefusedEnd.{RefusedEnd}
use Rattle.cachecore.specs.declared.answers.SyncStepped.{SyncStepped}
use Rattle.cachecore.specs.declared.answers.SyncStepped.TheVariants as sync
use Rattle.cachecore.specs.declared.answers.TruncateAnswer.{TruncateAnswer}
use Rattle.cachecore.specs.declared.answers.TruncateAnswer.TheVariants as cut
use Rattle.cachecore.specs.declared.answers.WriteAnswer.{WriteAnswer}
use Rattle.cachecore.specs.declared.answers.WriteAnswer.TheVariants as write

-- what a call answers, or that it is refused
abbrev pub answered : {X : Type 0} → (X → Reply) → Result X Refusal → Reply
answered says (Ok x) = says x
answered says (Err r) = reply.Refused r

-- whether a request begins
abbrev pub is_job : Reply → Bool
is_job (reply.Job t) = true
is_job _ = false

abbrev pub created : Result FileId Refusal → Reply
created = answered reply.File

abbrev pub opened : Result HandleId Refusal → Reply
opened = answered reply.Handle

abbrev pub closed : Result Unit Refusal → Reply
closed = answered (λ _. reply.Closed)

abbrev pub sized : Result ℕ Refusal → Reply
sized = answered reply.Size

-- how many bytes at the front of `out` a read has set
abbrev pub bytes_read : Result ReadAnswer Refusal → ℕ
bytes_read (Ok (read.Bytes n)) = n
bytes_read _ = 0

-- what a read answers, with the bytes that it left at the front of `out`
abbrev pub was_read : Result ReadAnswer Refusal → List ℕ → Reply
was_read (Ok (read.Bytes n)) out = reply.Bytes (take n out)
was_read (Ok (read.Wait p)) out = reply.Wait p
was_read (Ok (read.Miss p)) out = reply.Miss p
was_read (Err r) out = reply.Refused r

abbrev pub wrote : Result WriteAnswer Refusal → Reply
wrote (Ok (write.Wrote n end)) = reply.Wrote n end
wrote (Ok (write.Wait p)) = reply.Wait p
wrote (Ok (write.Miss p)) = reply.Miss p
wrote (Err r) = reply.Refused r

abbrev pub was_truncated : Result TruncateAnswer Refusal → Reply
was_truncated (Ok cut.Done) = reply.Done
was_truncated (Ok (cut.Wait p)) = reply.Wait p
was_truncated (Ok (cut.Miss p)) = reply.Miss p
was_truncated (Err r) = reply.Refused r

abbrev pub fill_begun : Result FillBegun Refused → Reply
fill_begun (Ok (fill.Gone _)) = reply.Gone
fill_begun (Ok (fill.Wait p _)) = reply.Wait p
fill_begun (Ok (fill.Present _)) = reply.Present
fill_begun (Ok (fill.Filled _)) = reply.Filled
fill_begun (Ok (fill.Job job)) = reply.Job (record { 0 = job.serial })
fill_begun (Err e) = reply.Refused e.refusal

-- the buffer comes back with these bytes
abbrev pub GivesBack : List ℕ → Result FillBegun Refused → Type 0
GivesBack bytes (Ok (fill.Gone buffer)) = buffer ≡ bytes
GivesBack bytes (Ok (fill.Wait p buffer)) = buffer ≡ bytes
GivesBack bytes (Ok (fill.Present buffer)) = buffer ≡ bytes
GivesBack bytes (Ok (fill.Filled buffer)) = buffer ≡ bytes
GivesBack bytes (Ok (fill.Job job)) = job.bytes ≡ bytes
GivesBack bytes (Err e) = e.buffer ≡ bytes

-- the job is that of a request in flight, with these bytes in its buffer
abbrev pub IsJobOf : State → Task → (Request → List ℕ) → Type 0
IsJobOf s job bytes =
    (x : Request) × (map.get s.requests job.serial ≡ Some x)
    × (job ≡ record { cache = s.name; serial = job.serial; kind = x.kind; block = x.block; bytes = bytes x })

-- a job that begins a fill is its request's
abbrev pub IsFillJob : State → Result FillBegun Refused → Type 0
IsFillJob new (Ok (fill.Job job)) = IsJobOf new job (λ x. job.bytes)
IsFillJob new _ = Unit {0}

-- what holds of the job, where it begins a fill
abbrev pub OnFillJob : Result FillBegun Refused → (Task → Type 0) → Type 0
OnFillJob (Ok (fill.Job job)) P = P job
OnFillJob _ P = Unit {0}

abbrev pub flush_begun : Result FlushBegun Refused → Reply
flush_begun (Ok (flush.Nothing _)) = reply.Nothing
flush_begun (Ok (flush.Job job)) = reply.Job (record { 0 = job.serial })
flush_begun (Err e) = reply.Refused e.refusal

-- the buffer comes back with these bytes, but where it goes with a job
abbrev pub FlushGivesBack : List ℕ → Result FlushBegun Refused → Type 0
FlushGivesBack bytes (Ok (flush.Nothing buffer)) = buffer ≡ bytes
FlushGivesBack bytes (Ok (flush.Job job)) = Unit {0}
FlushGivesBack bytes (Err e) = e.buffer ≡ bytes

-- a job that begins a flush is its request's, and has the bytes of its page
abbrev pub IsFlushJob : State → Result FlushBegun Refused → Type 0
IsFlushJob new (Ok (flush.Job job)) = IsJobOf new job (λ x. page_bytes new x.file x.page)
IsFlushJob new _ = Unit {0}

-- what holds of the job, where it begins a flush
abbrev pub OnFlushJob : Result FlushBegun Refused → (Task → Type 0) → Type 0
OnFlushJob (Ok (flush.Job job)) P = P job
OnFlushJob _ P = Unit {0}

abbrev pub sync_begun : Result SyncId Refusal → Reply
sync_begun = answered reply.Sync

abbrev pub sync_stepped : Result SyncStepped Refused → Reply
sync_stepped (Ok (sync.Job job)) = reply.Job (record { 0 = job.serial })
sync_stepped (Ok (sync.Wait p _)) = reply.Wait p
sync_stepped (Ok (sync.Clean _)) = reply.Clean
sync_stepped (Ok (sync.Failed code _)) = reply.Failed code
sync_stepped (Err e) = reply.Refused e.refusal

-- the buffer comes back with these bytes, but where it goes with a job
abbrev pub SyncGivesBack : List ℕ → Result SyncStepped Refused → Type 0
SyncGivesBack bytes (Ok (sync.Job job)) = Unit {0}
SyncGivesBack bytes (Ok (sync.Wait p buffer)) = buffer ≡ bytes
SyncGivesBack bytes (Ok (sync.Clean buffer)) = buffer ≡ bytes
SyncGivesBack bytes (Ok (sync.Failed code buffer)) = buffer ≡ bytes
SyncGivesBack bytes (Err e) = e.buffer ≡ bytes

-- a job that a sync begins is its request's, and has the bytes of its page
abbrev pub IsSyncJob : State → Result SyncStepped Refused → Type 0
IsSyncJob new (Ok (sync.Job job)) = IsJobOf new job (λ x. page_bytes new x.file x.page)
IsSyncJob new _ = Unit {0}

-- what holds of the job, where a sync begins one
abbrev pub OnSyncJob : Result SyncStepped Refused → (Task → Type 0) → Type 0
OnSyncJob (Ok (sync.Job job)) P = P job
OnSyncJob _ P = Unit {0}

abbrev pub sync_dropped : Result Unit Refusal → Reply
sync_dropped = answered (λ _. reply.Dropped)

-- how the device call of a finished job of this kind went, with these bytes in its buffer
abbrev pub outcome_of : Kind → device.Outcome → List ℕ → Outcome
outcome_of kind (Err code) bytes = outcome.Fault code
outcome_of Fill (Ok _) bytes = outcome.Read bytes
outcome_of Flush (Ok _) bytes = outcome.Written

-- a finished job, handed in to end its request
abbrev pub end_of : FinishedTask → End
end_of f =
    record {
      cache = f.cache;
      kind = f.kind;
      serial = record { 0 = f.serial };
      block = record { 0 = f.block };
      outcome = outcome_of f.kind f.outcome f.bytes;
    }

abbrev pub fill_ended : Result Ended RefusedEnd → Reply
fill_ended (Ok (ended.Dropped _)) = reply.Dropped
fill_ended (Ok (ended.Failed _ code _)) = reply.Failed code
fill_ended (Ok (ended.Done _)) = reply.Filled
fill_ended (Err e) = reply.Refused e.refusal

abbrev pub flush_ended : Result Ended RefusedEnd → Reply
flush_ended (Ok (ended.Dropped _)) = reply.Dropped
flush_ended (Ok (ended.Failed _ code _)) = reply.Failed code
flush_ended (Ok (ended.Done _)) = reply.Written
flush_ended (Err e) = reply.Refused e.refusal

-- the buffer that comes back with the end of a request
abbrev pub buffer_of : Ended → List ℕ
buffer_of (ended.Dropped buffer) = buffer
buffer_of (ended.Failed file code buffer) = buffer
buffer_of (ended.Done buffer) = buffer

-- the buffer comes back, and where the end is refused all that was handed in
abbrev pub EndGivesBack : FinishedTask → Result Ended RefusedEnd → Type 0
EndGivesBack f (Ok (ended.Dropped buffer)) = buffer ≡ f.bytes
EndGivesBack f (Ok (ended.Failed file code buffer)) = buffer ≡ f.bytes
EndGivesBack f (Ok (ended.Done buffer)) = buffer ≡ f.bytes
EndGivesBack f (Err e) = e.finished ≡ f

-- the end of a request of this kind, in flight with this serial, names its file where it failed
abbrev pub NamesFile : State → Kind → ℕ → Result Ended RefusedEnd → Type 0
NamesFile s kind t (Ok (ended.Failed file code buffer)) =
    (x : Request) × (map.get s.requests t ≡ Some x) × (x.kind ≡ kind) × (file.0 ≡ x.file) × (file.0 < MAX_FILES)
NamesFile s kind t a = Unit {0}

abbrev pub evicted : Option (FileId × PageIndex) → Reply
evicted (Some e) = reply.Evicted e.0 e.1
evicted None = reply.NoneIdle

-- the refusal of a test, where one holds
abbrev pub test_of : Result Unit Refusal → Option Reply
test_of (Ok _) = None
test_of (Err r) = refuse r

-- what is answered of page p of file f
abbrev pub TagsAre : State → ℕ → ℕ → Result PageTags Refusal → Type 0
TagsAre s f p (Err r) = (r ≡ NoSuchFile) × (length s.files ≤ f)
TagsAre s f p (Ok tags.Filling) = (f < length s.files) × (is_filling s f p ≡ true)
TagsAre s f p (Ok tags.Absent) = (f < length s.files) × (is_filling s f p ≡ false) × (is_cached s f p ≡ false)
TagsAre s f p (Ok (tags.Cached t)) =
    (f < length s.files) × (option_map (λ page. page.tags) (page_at s f p) ≡ Some (tag_set t))
