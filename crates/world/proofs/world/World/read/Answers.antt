use Rattle.std.proofs.Common.{refl, length}
use Rattle.machine.specs.declared.event.Event.TheVariants as event
use Rattle.world.proofs.EventReplies.{other_acted, other_world}
use Rattle.world.proofs.Spares.{with_spare}
use Rattle.world.proofs.world.World.read.Goals as goal

pub invariant_of-self : goal.invariant_of-self
invariant_of-self g c = with_spare c.self.inside.spare c.self.invariant
    (other_world c.self.inside.core.state c.self.inside.jobs _ c.self.invariant.0
    (event.Read c.args.handle c.args.offset (length c.args.out.now)) _ c.read.new.self.state refl refl
    c.read.ensures.step)

pub returns-clause-made : goal.returns-clause-made
returns-clause-made g c = other_acted c.self.inside.core.state c.self.inside.jobs _ c.self.invariant.0 _ c.self.view_is
    (event.Read c.args.handle c.args.offset (length c.args.out.now)) _ c.read.new.self.state tt refl refl
    c.read.ensures.step
