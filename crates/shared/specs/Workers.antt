-- Workers, and what their turns make.
use Rattle.std.specs.FinMap as map
use Rattle.std.specs.Prelude.{map as each}
use Rattle.std.specs.Prelude.{◌≡◌, ◌⊎◌, ◌<◌, ◌≤◌, ◌==◌, ◌&&◌, ◌++◌, ◌∷◌, [], All, Any, ℕ, Bool, true, false, List, IfSome, Ok, None, Some, count_by, is_some, length, take}
use mathlib.Core.List.{IsPrefix}
use Rattle.atomic_table.specs.Seated.{TableId}
use Rattle.blockdev.specs.Jobs.{Task}
use Rattle.cachecore.specs.Flushing.{flush_of}
use Rattle.cachecore.specs.Replies.{IsFlushJob}
use Rattle.cachecore.specs.Wants.{IsFirstToWrite, NothingToWrite}
use Rattle.cachecore.specs.declared.answers.FlushBegun.TheVariants as flush
use Rattle.crossbeam_queue.specs.Fifo.{Held}
use Rattle.crossbeam_queue.specs.Passes.{Pass, view}
use Rattle.deeds.specs.Shown.{ParcelSeen}
use Rattle.errboard.specs.Shown.{ReceiptSeen}
use Rattle.errseq.specs.declared.recording.Recording.{Recording}
use Rattle.machine.specs.declared.event.Event.{Event}
use Rattle.machine.specs.declared.event.Event.TheVariants as event
use Rattle.machine.specs.declared.event.Reply.{Reply}
use Rattle.machine.specs.declared.event.Reply.TheVariants as reply
use Rattle.machine.specs.State.{State, file_at, free_frames}
use Rattle.machine.specs.Step.{Step}
use Rattle.machine.specs.Tests.{has_idle}
use Rattle.pc_types.specs.Limits.{Sizes}
use Rattle.machine.specs.Catalogs.{Catalog}
use Rattle.pc_types.specs.declared.ids.FileId.{FileId}
use Rattle.pc_types.specs.declared.kind.Kind.{Kind}
use Rattle.pc_types.specs.declared.kind.Kind.TheVariants.{Flush}
use Rattle.pc_types.specs.declared.refusal.Refusal.{Refusal}
use Rattle.ring.specs.Order.{Stands}
use Rattle.ring.specs.Serving.{Carries, Serves}
use Rattle.ring.specs.declared.log.Log.{Log}
use Rattle.ring.specs.declared.ring.Ring.{Ring}
use Rattle.trail.specs.History.{After}
use Rattle.trail.specs.declared.entry.Entry.{Entry}
use Rattle.trail.specs.Entries.{entry_of}
use Rattle.held.specs.declared.log.Slip.{Slip}
use Rattle.held.specs.Shown.{SeatSeen}
use Rattle.held.specs.Called.{Only}
use Rattle.held.specs.Views.{count_of}
use Rattle.shared.specs.Called.{Makes}
use Rattle.shared.specs.Seen.{FailedSeen}
use Rattle.shared.specs.declared.turns.Flushed.{Flushed}
use Rattle.shared.specs.declared.turns.Flushed.TheVariants as flushed
use Rattle.shared.specs.declared.worker.Worker.{Worker}

-- it is a pass of this ring, which is for the jobs of the cache of this name and these sizes, with deeds of this table
pub record IsPassFor (ring : Ring) (name : ℕ) (deeds : TableId) (sizes : Sizes) (pass : Pass ParcelSeen Log) : Type 0 where
  pub serves : Serves ring pass
  pub carries : Carries name sizes.blocks sizes.page deeds pass

-- its seat is of the cache of this name and this table, and its pass is one of the cache's ring, for a device of these sizes
pub record IsWorkerOf (ring : Ring) (name : ℕ) (table deeds : TableId) (sizes : Sizes) (w : Worker) : Type 0 where
  pub passes : IsPassFor ring name deeds sizes w.pass
  pub named : w.seat.name ≡ name
  pub seated : w.seat.table ≡ table

abbrev pub seat_of : Worker → SeatSeen
seat_of w = w.seat

-- the jobs that a pass took from the ring, in order, and those that it put in
abbrev pub popped_in : Pass ParcelSeen Log → List Task
popped_in pass = each (λ (p : ParcelSeen). p.task) (view pass).popped

abbrev pub pushed_in : Pass ParcelSeen Log → List Task
pushed_in pass = each (λ (p : ParcelSeen). p.task) (view pass).pushed

-- the jobs that it took from the ring, in order
abbrev pub popped_by : Worker → List Task
popped_by w = popped_in w.pass

-- the jobs that it put into the ring, in order
abbrev pub pushed_by : Worker → List Task
pushed_by w = pushed_in w.pass

-- whether the pass is the only one that the ring ever had, how many were made of it, and of how many it comes. A pass that was made
-- of another comes of one more: so where this stays no pass was made, nor another taken for it
abbrev pub company : Log → Bool × ℕ × ℕ
company v = (v.alone, v.made, v.depth)

abbrev pub company_in : Pass ParcelSeen Log → Bool × ℕ × ℕ
company_in pass = company (view pass)

abbrev pub company_of : Worker → Bool × ℕ × ℕ
company_of w = company_in w.pass

-- the event is the end of this job's request
abbrev pub IsEndOf : Task → Event → Type 0
IsEndOf job (event.End kind end) =
    (kind ≡ job.kind) × (end.serial.0 ≡ job.serial) × (end.cache ≡ job.cache) × (end.block.0 ≡ job.block)
IsEndOf job e = ⊥

-- the request was a write, and it failed
abbrev pub fails_write : Kind → Reply → Bool
fails_write Flush (reply.Failed code) = true
fails_write kind r = false

-- the reply of an end that was not refused
abbrev pub IsEndReply : Reply → Type 0
IsEndReply reply.Filled = Unit {0}
IsEndReply reply.Written = Unit {0}
IsEndReply (reply.Failed code) = Unit {0}
IsEndReply reply.Dropped = Unit {0}
IsEndReply r = ⊥

-- the seat ended the job's request, at the slip's entry; and whether it tells of a failed write
pub record Ends (job : Task) (before after : SeatSeen) (slip : Slip) (told : Bool) : Type 0 where
  pub event : Event
  pub reply : Reply
  pub is_end : IsEndOf job event
  pub ended : IsEndReply reply
  pub made : Makes before after slip event reply
  pub failed : told ≡ fails_write job.kind reply

-- the failed write is one of this cache and this board
abbrev pub IsOwnFailure : ℕ → TableId → FailedSeen → Type 0
IsOwnFailure name board w = (w.cache ≡ name) × (w.receipt.board ≡ board)

-- the receipt is of the file of the request of this serial, as it was in flight before the slip's entry. It has one recording of each
-- write of that file that had failed then, and then this one's: that entry has its code
pub record IsOfRequest (files : Catalog) (sizes : Sizes) (name serial : ℕ) (seat : SeatSeen) (slip : Slip) (receipt : ReceiptSeen) : Type 0 where
  pub state : State
  pub seen : slip.place < length seat.list
  pub leaves : After files sizes name (take slip.place seat.list) state
  pub file : flush_of state serial ≡ Some receipt.file
  pub earlier : List Recording
  pub own : Recording
  pub recorded : receipt.recorded ≡ earlier ++ own ∷ []
  pub counted : length earlier ≡ (file_at state receipt.file).failures
  pub event : Event
  pub entered : IsPrefix (take slip.place seat.list ++ entry_of seat.number event (reply.Failed own.code) ∷ []) seat.list

-- the seat began a write of a page, at the slip's entry, which answered this job. Of the state before that entry the file is
-- the first that has a page to write, and of the state after it the job is its request's, with the bytes of its page
pub record Begins (files : Catalog) (sizes : Sizes) (name : ℕ) (job : Task) (before after : SeatSeen) (slip : Slip) : Type 0 where
  pub file : FileId
  pub made : Makes before after slip (event.FlushBegin file) (reply.Job (record { 0 = job.serial }))
  pub old : State
  pub new : State
  pub leaves : After files sizes name made.earlier old
  pub first : IsFirstToWrite old file.0
  pub step : Step old (event.FlushBegin file) (reply.Job (record { 0 = job.serial })) new
  pub own : IsFlushJob new (Ok (flush.Job job))

-- the seat's begin of such a write was refused, at the slip's entry
pub record RefusesFirst (files : Catalog) (sizes : Sizes) (name : ℕ) (why : Refusal) (before after : SeatSeen) (slip : Slip) : Type 0 where
  pub file : FileId
  pub made : Makes before after slip (event.FlushBegin file) (reply.Refused why)
  pub old : State
  pub leaves : After files sizes name made.earlier old
  pub first : IsFirstToWrite old file.0

-- the end of a request
abbrev pub IsEnd : Event → Type 0
IsEnd (event.End kind end) = Unit {0}
IsEnd e = ⊥

-- events of a flusher
abbrev pub IsWriteBack : Event → Type 0
IsWriteBack (event.FlushBegin file) = Unit {0}
IsWriteBack (event.End kind end) = Unit {0}
IsWriteBack e = ⊥

-- the begin of a write
abbrev pub IsFlushBegin : Event → Type 0
IsFlushBegin (event.FlushBegin file) = Unit {0}
IsFlushBegin e = ⊥

-- the seat saw a history after which no file has a page to write, and made no event
pub record FindsNothing (files : Catalog) (sizes : Sizes) (name : ℕ) (before after : SeatSeen) : Type 0 where
  pub same : after ≡ record before { list = after.list }
  pub only : Only (λ _. ⊥) before after
  pub state : State
  pub leaves : After files sizes name after.list state
  pub nothing : NothingToWrite state

-- the seat saw a history after which so many frames are free, or no page is idle
pub record FindsEnough (frames : ℕ) (files : Catalog) (sizes : Sizes) (name : ℕ) (seat : SeatSeen) : Type 0 where
  pub state : State
  pub leaves : After files sizes name seat.list state
  pub enough : (frames ≤ free_frames state) ⊎ (has_idle state ≡ false)

-- what a turn of a flusher did. The job of the write that it began lies in the ring, or its end was made
abbrev pub IsFlushed : Catalog → Sizes → ℕ → Worker → Worker → Flushed → Type 0
IsFlushed files sizes name old new flushed.Nothing = FindsNothing files sizes name old.seat new.seat × (pushed_by new ≡ pushed_by old)
IsFlushed files sizes name old new (flushed.Pushed serial slip) =
    (job : Task) × (job.serial ≡ serial.0) × Begins files sizes name job old.seat new.seat slip
    × (pushed_by new ≡ pushed_by old ++ job ∷ [])
IsFlushed files sizes name old new (flushed.Ended slip done) =
    (job : Task) × (job.serial ≡ done.serial.0) × Begins files sizes name job old.seat new.seat slip
    × Ends job old.seat new.seat done.slip (is_some done.failed) × (pushed_by new ≡ pushed_by old)

-- how many events a turn of a flusher made
abbrev pub entered_in : Flushed → ℕ
entered_in flushed.Nothing = 0
entered_in (flushed.Pushed serial slip) = 1
entered_in (flushed.Ended slip done) = 2

-- the event is an end of the request of this serial
abbrev pub IsEndAt : ℕ → Event → Type 0
IsEndAt t (event.End kind end) = end.serial.0 ≡ t
IsEndAt t e = ⊥

-- the worker put the job of this serial into the ring, or entered an end of its request
abbrev pub IsCarried : Worker → Worker → ℕ → Type 0
IsCarried old new t =
    ((jobs : List Task) × (pushed_by new ≡ pushed_by old ++ jobs) × Any (λ job. job.serial ≡ t) jobs)
    ⊎ ((e : Event) × (r : Reply) × (slip : Slip) × IsEndAt t e × Makes old.seat new.seat slip e r)

-- what holds of the serial of the write that the event began, where it began one
abbrev pub OnBegun : (ℕ → Type 0) → Event → Reply → Type 0
OnBegun P (event.FlushBegin file) (reply.Job t) = P t.0
OnBegun P e r = Unit {0}

-- so it was with each write that its seat began in between
abbrev pub AllCarried : Worker → Worker → Type 0
AllCarried old new = Only (λ e. OnBegun (IsCarried old new) e.event e.reply) old.seat new.seat

-- a failed write that the turn tells of is one of this cache and this board
abbrev pub FailsOwn : ℕ → TableId → Flushed → Type 0
FailsOwn name board (flushed.Ended slip done) = IfSome done.failed (IsOwnFailure name board)
FailsOwn name board f = Unit {0}

-- and of the file of the request that the turn ended
abbrev pub FailsOf : Catalog → Sizes → ℕ → SeatSeen → Flushed → Type 0
FailsOf files sizes name seat (flushed.Ended slip done) =
    IfSome done.failed (λ w. IsOfRequest files sizes name done.serial.0 seat done.slip w.receipt)
FailsOf files sizes name seat f = Unit {0}

-- each job that it took from the ring in between was ended by it
abbrev pub AllEnded : Worker → Worker → Type 0
AllEnded old new =
    (jobs : List Task) × (popped_by new ≡ popped_by old ++ jobs)
    × All (λ job. (slip : Slip) × (told : Bool) × Ends job old.seat new.seat slip told) jobs

-- the job's request is in flight no longer
abbrev pub IsOver : State → Task → Type 0
IsOver s job = map.get s.requests job.serial ≡ None

-- so it is in this state with each job that the worker took from the ring in between
abbrev pub AllOver : Worker → Worker → State → Type 0
AllOver old new s = (jobs : List Task) × (popped_by new ≡ popped_by old ++ jobs) × All (IsOver s) jobs

-- the worker emptied the ring: it took jobs till there was a moment at which the ring had none, ended each, and of none of them a
-- request is left in this state. It entered ends alone, and put no job in. The history has all that its seat had seen then, and no
-- more by it
pub record Drained (own : Worker) (history : List Entry) (state : State) : Type 0 where
  pub at : Worker
  pub ended : AllEnded own at
  pub over : AllOver own at state
  pub only : Only (λ e. IsEnd e.event) own.seat at.seat
  pub pushed : pushed_by at ≡ pushed_by own
  pub alone : company_of at ≡ company_of own
  pub emptied : Held 0 (Stands (view at.pass))
  pub seen : IsPrefix at.seat.list history
  pub counted : at.seat.count ≡ count_of at.seat.number history

-- a page was let go
abbrev pub lets_go : Reply → Bool
lets_go (reply.Evicted file page) = true
lets_go r = false

-- pages age
abbrev pub is_age : Event → Bool
is_age event.Age = true
is_age e = false

-- how many pages the seat let go since, for each of which it let pages age
pub record LetsGo (pages : ℕ) (before after : SeatSeen) : Type 0 where
  pub since : List Entry
  pub saw : after.list ≡ before.list ++ since
  pub gone : pages ≡ count_by (λ e. e.seat == before.number && lets_go e.reply) since
  pub aged : pages ≤ count_by (λ e. e.seat == before.number && is_age e.event) since
