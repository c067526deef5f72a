use Rattle.std.proofs.Common.{inl, refl, subst, sym}
use Rattle.std.specs.Prelude.{Some}
use Rattle.pc_types.specs.declared.kind.Kind.TheVariants.{Fill}
use Rattle.machine.specs.declared.event.Event.TheVariants as event
use Rattle.machine.specs.Step.{Step}
use Rattle.world.proofs.Beginnings.{kind_is}
use Rattle.world.proofs.EventReplies.{job_acted, quiet_acted}
use Rattle.world.proofs.Spares.{fill_back, with_spare}
use Rattle.world.proofs.WorldSteps.{fill_job, job_world, quiet_world}
use Rattle.cachecore.specs.Replies.{answered}
use Rattle.world.specs.Answers.{fill_says}
use Rattle.world.proofs.world.World.fill_begin.Goals as goal

pub invariant_of-self-in-Job : goal.invariant_of-self-in-Job
invariant_of-self-in-Job g c =
    let core = c.self.inside.core.state in
    let new = c.fill_begin.new.self.state in
    let job = c.in-Job.job in
    let e = event.FillBegin c.args.handle c.args.page in
    let step = (rw c.in-Job.ensures at c.fill_begin.ensures.step) in
    let of = (rw c.in-Job.ensures at c.fill_begin.ensures.job) in
    let fits = (rw c.in-Job.ensures at c.fill_begin.ensures.fits) in
    rw (c.ask.ensures.table, c.buffer_for.ensures.taken) (
      job_world core c.self.inside.jobs _ c.self.invariant.0 e new job step
          (fill_job new job (kind_is core new e _ Fill refl step) of) fits,
      tt,
    )

pub returns-in-Job : goal.returns-in-Job
returns-in-Job g c =
    let core = c.self.inside.core.state in
    let new = c.fill_begin.new.self.state in
    let job = c.in-Job.job in
    let e = event.FillBegin c.args.handle c.args.page in
    let step = (rw c.in-Job.ensures at c.fill_begin.ensures.step) in
    let of = (rw c.in-Job.ensures at c.fill_begin.ensures.job) in
    let fits = (rw c.in-Job.ensures at c.fill_begin.ensures.fits) in
    inl (job_acted core c.self.inside.jobs _ c.self.invariant.0 c.args.self.now c.self.view_is e new job c.ask.new.self
    c.ask.result tt step (fill_job new job (kind_is core new e _ Fill refl step) of) fits c.ask.ensures.table
    c.ask.ensures.serial)

pub invariant_of-self-in-Answered : goal.invariant_of-self-in-Answered
invariant_of-self-in-Answered g c =
    let a = c.in-Answered.ensures in
    let e = event.FillBegin c.args.handle c.args.page in
    let step = subst (λ r. Step c.self.inside.core.state e r c.fill_begin.new.self.state) (sym a.0)
    c.fill_begin.ensures.step in
    with_spare (Some c.in-Answered.buffer) (
      c.self.invariant.0,
      fill_back c.fill_begin.result c.in-Answered.answer
          c.in_ok-buffer.buffer c.in-Answered.buffer _ a c.fill_begin.ensures.back c.in_ok-buffer.ensures.size,
    )
    (quiet_world c.self.inside.core.state c.self.inside.jobs _ c.self.invariant.0 e (answered fill_says c.in-Answered.answer)
    c.fill_begin.new.self.state a.1 refl step)

pub returns-in-Answered : goal.returns-in-Answered
returns-in-Answered g c =
    let a = c.in-Answered.ensures in
    let e = event.FillBegin c.args.handle c.args.page in
    let step = subst (λ r. Step c.self.inside.core.state e r c.fill_begin.new.self.state) (sym a.0)
    c.fill_begin.ensures.step in
    inl (quiet_acted c.self.inside.core.state c.self.inside.jobs _ c.self.invariant.0 c.args.self.now c.self.view_is e
    (answered fill_says c.in-Answered.answer) c.fill_begin.new.self.state tt a.1 refl step)
