use Rattle.std.proofs.Common.{inl, refl, subst, sym}
use Rattle.std.specs.Prelude.{Some}
use Rattle.pc_types.specs.declared.kind.Kind.TheVariants.{Flush}
use Rattle.machine.specs.declared.event.Event.TheVariants as event
use Rattle.machine.specs.Step.{Step}
use Rattle.world.proofs.Beginnings.{kind_is}
use Rattle.world.proofs.EventReplies.{job_acted, quiet_acted}
use Rattle.world.proofs.Spares.{sync_back, with_spare}
use Rattle.world.proofs.WorldSteps.{flush_job, job_world, quiet_world}
use Rattle.cachecore.specs.Replies.{answered}
use Rattle.world.specs.Answers.{sync_says}
use Rattle.world.proofs.world.World.sync_step.Goals as goal

pub invariant_of-self-in-Job : goal.invariant_of-self-in-Job
invariant_of-self-in-Job g c =
    let core = c.self.inside.core.state in
    let new = c.sync_step.new.self.state in
    let job = c.in-Job.job in
    let e = event.SyncStep c.args.sync in
    let step = (rw c.in-Job.ensures at c.sync_step.ensures.step) in
    let of = (rw c.in-Job.ensures at c.sync_step.ensures.job) in
    let fits = (rw c.in-Job.ensures at c.sync_step.ensures.fits) in
    rw (c.ask.ensures.table, c.buffer_for.ensures.taken) (
      job_world core c.self.inside.jobs _ c.self.invariant.0 e new job step
          (flush_job new job (kind_is core new e _ Flush refl step) of) fits,
      tt,
    )

pub returns-in-Job : goal.returns-in-Job
returns-in-Job g c =
    let core = c.self.inside.core.state in
    let new = c.sync_step.new.self.state in
    let job = c.in-Job.job in
    let e = event.SyncStep c.args.sync in
    let step = (rw c.in-Job.ensures at c.sync_step.ensures.step) in
    let of = (rw c.in-Job.ensures at c.sync_step.ensures.job) in
    let fits = (rw c.in-Job.ensures at c.sync_step.ensures.fits) in
    inl (job_acted core c.self.inside.jobs _ c.self.invariant.0 c.args.self.now c.self.view_is e new job c.ask.new.self
    c.ask.result tt step (flush_job new job (kind_is core new e _ Flush refl step) of) fits c.ask.ensures.table
    c.ask.ensures.serial)

pub invariant_of-self-in-Answered : goal.invariant_of-self-in-Answered
invariant_of-self-in-Answered g c =
    let a = c.in-Answered.ensures in
    let e = event.SyncStep c.args.sync in
    let step = subst (λ r. Step c.self.inside.core.state e r c.sync_step.new.self.state) (sym a.0)
    c.sync_step.ensures.step in
    with_spare (Some c.in-Answered.buffer) (
      c.self.invariant.0,
      sync_back c.sync_step.result c.in-Answered.answer
          c.in_ok-buffer.buffer c.in-Answered.buffer _ a c.sync_step.ensures.back c.in_ok-buffer.ensures.size,
    )
    (quiet_world c.self.inside.core.state c.self.inside.jobs _ c.self.invariant.0 e (answered sync_says c.in-Answered.answer)
    c.sync_step.new.self.state a.1 refl step)

pub returns-in-Answered : goal.returns-in-Answered
returns-in-Answered g c =
    let a = c.in-Answered.ensures in
    let e = event.SyncStep c.args.sync in
    let step = subst (λ r. Step c.self.inside.core.state e r c.sync_step.new.self.state) (sym a.0)
    c.sync_step.ensures.step in
    inl (quiet_acted c.self.inside.core.state c.self.inside.jobs _ c.self.invariant.0 c.args.self.now c.self.view_is e
    (answered sync_says c.in-Answered.answer) c.sync_step.new.self.state tt a.1 refl step)
