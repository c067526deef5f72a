use Rattle.std.proofs.Common.{refl}
use Rattle.machine.specs.declared.event.Event.TheVariants as event
use Rattle.world.proofs.EventReplies.{other_acted, other_world}
use Rattle.world.proofs.Spares.{with_spare}
use Rattle.world.proofs.world.World.append.Goals as goal

pub invariant_of-self : goal.invariant_of-self
invariant_of-self g c = with_spare c.self.inside.spare c.self.invariant
    (other_world c.self.inside.core.state c.self.inside.jobs _ c.self.invariant.0
    (event.Append c.args.handle c.args.bytes.now) _ c.append.new.self.state refl refl c.append.ensures.step)

pub returns : goal.returns
returns g c = other_acted c.self.inside.core.state c.self.inside.jobs _ c.self.invariant.0 _ c.self.view_is
    (event.Append c.args.handle c.args.bytes.now) _ c.append.new.self.state tt refl refl c.append.ensures.step
