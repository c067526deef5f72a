-- What a turn or a loop of a worker makes in a shard, of the worker there: what that of `SharedCache` says.
use Rattle.std.specs.Prelude.{◌≡◌, ◌<◌, ◌+◌, ◌++◌, ◌∷◌, [], ℕ, Option, Result, Some, IfErr, IfNone, IfOk, IfSome, is_some, min, ◌-◌, ◌^◌}
use Rattle.blockdev.specs.Jobs.{Task}
use Rattle.crossbeam_queue.specs.Fifo.{Held}
use Rattle.crossbeam_queue.specs.Passes.{view}
use Rattle.held.specs.Called.{Goes, Only}
use Rattle.held.specs.declared.denied.Denied.{Denied}
use Rattle.ring.specs.Order.{Stands}
use Rattle.shared.specs.Denials.{IsDenied, IsFullFor, MadeOne}
use Rattle.shared.specs.Own.{IsEviction}
use Rattle.shared.specs.Settled.{EndsOwn}
use Rattle.shared.specs.ShardNames.{CacheNames}
use Rattle.shared.specs.ShardWorkers.{IsWorkerAt}
use Rattle.shared.specs.Turns.{EntersBy, WasFull}
use Rattle.shared.specs.Workers.{AllCarried, AllEnded, Ends, FailsOf, FailsOwn, FindsEnough, IsEnd, IsFlushBegin, IsFlushed, IsOfRequest, IsOwnFailure, IsWriteBack, LetsGo, RefusesFirst, company_of, entered_in, popped_by, pushed_by, seat_of}
use Rattle.shared.specs.declared.ends.Done.{Done}
use Rattle.shared.specs.declared.turns.Flushed.{Flushed}
use Rattle.shared.specs.declared.worker.Worker.{Worker}

-- `io_turn`
pub record EndsOne (n : CacheNames) (through : ℕ → Type 0) (result : Option Done) (old new : Worker) : Type 0 where
  pub worker : IsWorkerAt n new
  pub goes : Goes (seat_of old) (seat_of new)
  pub only : Only (λ e. IsEnd e.event) (seat_of old) (seat_of new)
  pub pushed : pushed_by new ≡ pushed_by old
  pub alone : company_of new ≡ company_of old
  pub idle : IfNone result ((seat_of new ≡ seat_of old) × (popped_by new ≡ popped_by old))
  pub emptied : IfNone result (Held 0 (Stands (view new.pass)))
  pub ended : IfSome result (λ d. (job : Task) × (popped_by new ≡ popped_by old ++ job ∷ []) × (d.serial.0 ≡ job.serial)
      × Ends job (seat_of old) (seat_of new) d.slip (is_some d.failed) × IfSome d.failed (IsOwnFailure n.name n.board))
  pub one : IfSome result (λ d. MadeOne (Some d.slip) (seat_of old) (seat_of new))
  pub file : IfSome result (λ d. IfSome d.failed (λ w. IsOfRequest n.files n.sizes n.name d.serial.0 (seat_of new) d.slip w.receipt))
  pub passed : IfSome result (λ d. through d.serial.0)

-- `flusher_turn`
pub record WritesOne (n : CacheNames) (through : ℕ → Type 0) (result : Result Flushed Denied) (old new : Worker) : Type 0 where
  pub worker : IsWorkerAt n new
  pub goes : Goes (seat_of old) (seat_of new)
  pub only : Only (λ e. IsWriteBack e.event) (seat_of old) (seat_of new)
  pub own : EndsOwn n.name (seat_of old) (seat_of new)
  pub popped : popped_by new ≡ popped_by old
  pub alone : company_of new ≡ company_of old
  pub done : IfOk result (IsFlushed n.files n.sizes n.name old new)
  pub carried : AllCarried old new
  pub count : IfOk result (λ f. (seat_of new).count ≡ (seat_of old).count + entered_in f)
  pub failed : IfOk result (λ f. FailsOwn n.name n.board f)
  pub file : IfOk result (λ f. FailsOf n.files n.sizes n.name (seat_of new) f)
  pub denied : IfErr result (IsDenied n.files n.sizes n.name n.whole IsFlushBegin (seat_of old) (seat_of new))
  pub unbegun : IfErr result (λ d. (pushed_by new ≡ pushed_by old) × MadeOne d.slip (seat_of old) (seat_of new))
  pub first : IfErr result (λ d. IfSome d.slip (RefusesFirst n.files n.sizes n.name d.refusal (seat_of old) (seat_of new)))
  pub full : IfOk result (WasFull new)
  pub passed : IfOk result (EntersBy through)

-- `evictor_turn`
pub record LetsSome (n : CacheNames) (through : ℕ → Type 0) (result : Result ℕ Denied) (old new : Worker) : Type 0 where
  pub worker : IsWorkerAt n new
  pub goes : Goes (seat_of old) (seat_of new)
  pub only : Only (λ e. IsEviction e.event) (seat_of old) (seat_of new)
  pub gone : IfOk result (λ k. (pages : ℕ) × LetsGo pages (seat_of old) (seat_of new) × (k ≡ min pages (2 ^ 64 - 1)))
  pub enough : IfOk result (λ _. FindsEnough 16 n.files n.sizes n.name (seat_of new))
  pub ring : (popped_by new ≡ popped_by old) × (pushed_by new ≡ pushed_by old)
  pub alone : company_of new ≡ company_of old
  pub denied : IfErr result (IsFullFor n.files n.sizes n.name n.whole IsEviction (seat_of old) (seat_of new))
  pub passed : IfOk result (λ k. 0 < k → through 0)

-- `io_worker`
pub record EndsAll (n : CacheNames) (old new : Worker) : Type 0 where
  pub worker : IsWorkerAt n new
  pub goes : Goes (seat_of old) (seat_of new)
  pub only : Only (λ e. IsEnd e.event) (seat_of old) (seat_of new)
  pub pushed : pushed_by new ≡ pushed_by old
  pub alone : company_of new ≡ company_of old
  pub ended : AllEnded old new
  pub emptied : Held 0 (Stands (view new.pass))

-- `flusher`
pub record WritesBack (n : CacheNames) (old new : Worker) : Type 0 where
  pub worker : IsWorkerAt n new
  pub goes : Goes (seat_of old) (seat_of new)
  pub only : Only (λ e. IsWriteBack e.event) (seat_of old) (seat_of new)
  pub own : EndsOwn n.name (seat_of old) (seat_of new)
  pub popped : popped_by new ≡ popped_by old
  pub alone : company_of new ≡ company_of old
  pub carried : AllCarried old new

-- `evictor`
pub record LetsPages (n : CacheNames) (old new : Worker) : Type 0 where
  pub worker : IsWorkerAt n new
  pub goes : Goes (seat_of old) (seat_of new)
  pub only : Only (λ e. IsEviction e.event) (seat_of old) (seat_of new)
  pub ring : (popped_by new ≡ popped_by old) × (pushed_by new ≡ pushed_by old)
  pub alone : company_of new ≡ company_of old
