use Rattle.std.proofs.Common.{refl}
use Rattle.machine.specs.declared.event.Event.TheVariants as event
use Rattle.world.proofs.EventReplies.{other_world}
use Rattle.world.proofs.Spares.{with_spare}
use Rattle.world.proofs.world.World.close.Goals as goal

pub invariant_of-self : goal.invariant_of-self
invariant_of-self g c = with_spare c.self.inside.spare c.self.invariant
    (other_world c.self.inside.core.state c.self.inside.jobs _ c.self.invariant.0 (event.Close c.args.handle) _
    c.close.new.self.state refl refl c.close.ensures.step)
