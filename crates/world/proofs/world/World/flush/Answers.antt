use Rattle.world.proofs.DeviceFlush.{flush_keeps, is_flushed}
use Rattle.world.proofs.world.World.flush.Goals as goal

pub invariant_of-self : goal.invariant_of-self
invariant_of-self g c = (
  flush_keeps c.self.inside.core.state c.self.inside.jobs _ _ c.flush.result c.flush.ensures.cleared c.self.invariant.0,
  c.self.invariant.1,
)

pub returns-clause-flushed : goal.returns-clause-flushed
returns-clause-flushed g c = is_flushed c.self.inside.core.state c.self.inside.jobs _ _ c.flush.result c.flush.ensures.cleared _
    c.self.view_is
