use Rattle.std.proofs.Common.{refl}
use Rattle.pc_types.specs.declared.kind.Kind.TheVariants.{Fill}
use Rattle.machine.specs.declared.event.Event.TheVariants as event
use Rattle.world.specs.declared.step.Step.TheVariants as step
use Rattle.world.proofs.AtOnceSteps.{at_once_spare, at_once_steps}
use Rattle.world.proofs.world.World.fill_at_once.Goals as goal

pub invariant_of-self : goal.invariant_of-self
invariant_of-self g c =
    at_once_spare c.self.inside.core c.self.inside.jobs c.self.inside.device c.self.invariant.0 c.args.self.now c.self.view_is
    (event.FillBegin c.args.handle c.args.page) (step.FillBegin c.args.handle c.args.page) Fill refl (λ r. tt) (λ r. refl)
    (λ r new a. a)
    c.fill_at_once.new.self c.fill_at_once.new.device c.fill_at_once.result c.fill_at_once.ensures c.self.inside.spare c.self.invariant.1

pub returns : goal.returns
returns g c =
    at_once_steps c.self.inside.core c.self.inside.jobs c.self.inside.device c.self.invariant.0 c.args.self.now c.self.view_is
    (event.FillBegin c.args.handle c.args.page) (step.FillBegin c.args.handle c.args.page) Fill refl (λ r. tt) (λ r. refl)
    (λ r new a. a)
    c.fill_at_once.new.self c.fill_at_once.new.device c.fill_at_once.result c.fill_at_once.ensures
