use Rattle.std.proofs.Common.{◌≡◌, ap, rules, subst, sym, ◌∙◌}
use Rattle.std.specs.Prelude.{is_some}
use Rattle.blockdev.specs.Jobs.{IsJobFor, Task}
use Rattle.held.specs.Called.{Only}
use Rattle.held.proofs.Seats.{goes_on}
use Rattle.shared.specs.Settled.{IsBegun}
use Rattle.shared.specs.Workers.{Begins, OnBegun}
use Rattle.shared.proofs.Carrying.{ended_carried, pushed_carried, two_made}
use Rattle.shared.proofs.Ending.{begins_then, ends_on}
use Rattle.shared.proofs.Owning.{only_begins, only_flushed}
use Rattle.shared.proofs.Settling.{own_begins, own_ended}
use Rattle.shared.proofs.cache.SharedCache.flusher_turn.Goals as goal

pub end_job-requires-clause-fits : goal.end_job-requires-clause-fits
end_job-requires-clause-fits g c =
    subst (IsJobFor g.B.Naming.name g.B.Naming.sizes.blocks g.B.Naming.sizes.page) (sym c.in-Err-put.ensures.answer.0)
    (rw c.in-Ok-Some.field-0-is at c.in-Ok-Some.ensures.fits)

pub returns-clause-done : goal.returns-clause-done
returns-clause-done g c = (
  c.in-Err-put.job,
  sym c.end_job.ensures.ended.0,
  subst (λ (j : Task). Begins g.B.Naming.files g.B.Naming.sizes g.B.Naming.name j c.args.worker.now.seat c.end_job.new.seat c.in-Ok-Some.begun.1)
      (sym c.in-Err-put.ensures.answer.0)
      (begins_then g.B.Naming.files g.B.Naming.sizes g.B.Naming.name c.in-Ok-Some.begun.0 c.args.worker.now.seat c.begin_flush.new.seat
      c.end_job.new.seat c.in-Ok-Some.begun.1 (rw c.in-Ok-Some.field-0-is at c.in-Ok-Some.ensures.begun) c.end_job.ensures.goes),
  ends_on c.in-Err-put.job c.args.worker.now.seat c.begin_flush.new.seat c.end_job.new.seat c.end_job.result.slip
      (is_some c.end_job.result.failed) c.begin_flush.ensures.goes c.end_job.ensures.ended.1,
  c.in-Err-put.ensures.answer.1,
)

pub returns-clause-only : goal.returns-clause-only
returns-clause-only g c =
    only_flushed c.in-Err-put.job c.args.worker.now.seat c.begin_flush.new.seat c.end_job.new.seat c.begin_flush.ensures.only
    c.end_job.ensures.only

-- the request that it began is the one that it ended
pub returns-clause-own : goal.returns-clause-own
returns-clause-own g c =
    let job = c.in-Err-put.job in
    own_ended g.B.Naming.name (job.kind, job.serial) c.args.worker.now.seat c.begin_flush.new.seat c.end_job.new.seat
    (subst (λ (j : Task). Only (λ e. IsBegun (j.kind, j.serial) e.event e.reply) c.args.worker.now.seat c.begin_flush.new.seat)
    (sym c.in-Err-put.ensures.answer.0) (rw c.in-Ok-Some.field-0-is at c.in-Ok-Some.ensures.write))
    (rw c.in-Ok-Some.field-0-is at c.in-Ok-Some.ensures.one) c.end_job.ensures.ends

-- the job was put into the ring
pub returns-in_default-clause-carried : goal.returns-in_default-clause-carried
returns-in_default-clause-carried g c =
    pushed_carried c.args.worker.now (record { seat = c.begin_flush.new.seat; pass = c.put.new.pass }) c.in-Ok-Some.begun.0
    (rw c.in-Ok-Some.field-0-is at c.in-Ok-Some.ensures.alone) (search rules)

pub returns-clause-carried : goal.returns-clause-carried
returns-clause-carried g c =
    ended_carried c.args.worker.now (record { seat = c.end_job.new.seat; pass = c.put.new.pass }) c.begin_flush.new.seat
    c.in-Err-put.job c.end_job.result.slip (is_some c.end_job.result.failed)
    (subst (λ (j : Task). Only (λ e. OnBegun (λ t. t ≡ j.serial) e.event e.reply) c.args.worker.now.seat c.begin_flush.new.seat)
    (sym c.in-Err-put.ensures.answer.0) (rw c.in-Ok-Some.field-0-is at c.in-Ok-Some.ensures.alone)) c.end_job.ensures.only
    (ends_on c.in-Err-put.job c.args.worker.now.seat c.begin_flush.new.seat c.end_job.new.seat c.end_job.result.slip
    (is_some c.end_job.result.failed) c.begin_flush.ensures.goes c.end_job.ensures.ended.1)

pub returns-clause-count : goal.returns-clause-count
returns-clause-count g c =
    two_made c.in-Ok-Some.begun.1 c.end_job.result.slip c.args.worker.now.seat c.begin_flush.new.seat c.end_job.new.seat
    (rw c.in-Ok-Some.field-0-is at c.in-Ok-Some.ensures.one) c.end_job.ensures.one

-- a write was begun at most
pub returns-in_default-clause-own : goal.returns-in_default-clause-own
returns-in_default-clause-own g c =
    own_begins g.B.Naming.name c.args.worker.now.seat c.begin_flush.new.seat c.begin_flush.ensures.only

pub returns-in_default-clause-only : goal.returns-in_default-clause-only
returns-in_default-clause-only g c =
    only_begins c.args.worker.now.seat c.begin_flush.new.seat c.begin_flush.ensures.only

pub returns-clause-goes : goal.returns-clause-goes
returns-clause-goes g c =
    goes_on c.args.worker.now.seat c.begin_flush.new.seat c.end_job.new.seat c.begin_flush.ensures.goes c.end_job.ensures.goes

pub returns-in_default-clause-worker : goal.returns-in_default-clause-worker
returns-in_default-clause-worker g c = record {
  passes = c.put.ensures.pass;
  named = c.begin_flush.ensures.goes.same.1 ∙ c.requires.worker.named;
  seated = c.begin_flush.ensures.goes.same.0 ∙ c.requires.worker.seated;
}

pub returns-clause-full : goal.returns-clause-full
returns-clause-full g c = c.in-Err-put.ensures.answer.2

pub returns-clause-passed : goal.returns-clause-passed
returns-clause-passed g c =
    let serial : c.in-Ok-Some.begun.0.serial ≡ c.serial-serial.result.0 = search rules in
    let back = ap (λ (j : Task). j.serial) c.in-Err-put.ensures.answer.0 in
    subst (g.G.Gate.passed c.args.gate.now) (sym serial ∙ sym back ∙ sym c.end_job.ensures.ended.0) c.enter.ensures
