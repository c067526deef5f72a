use Rattle.std.proofs.Common.{arith}
use Rattle.world.specs.Stepping.{world_of}
use Rattle.playback.proofs.Going.{begins}
use Rattle.playback.proofs.play.first_odd.Goals as goal

pub loop-place-init : goal.loop-place-init
loop-place-init c = (begins (world_of c.args.world.now) c.requires.first, c.requires.ready)

pub returns-then-not-branch-clause-odd : goal.returns-then-not-branch-clause-odd
returns-then-not-branch-clause-odd c = (
  (let a = c.loop-place-test.true in let b = c.len.ensures in omega arith),
  world_of c.loop-place.world,
  c.loop-place.invariant.0,
)
