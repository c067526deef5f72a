use Rattle.std.proofs.Common.{length, ◌-◌}
use Rattle.world.specs.Stepping.{world_of}
use Rattle.playback.proofs.Going.{Far}
use Rattle.playback.proofs.play.first_odd.Given as goal

abbrev pub invariant-loop-place : goal.invariant-loop-place
invariant-loop-place l = Far l.name (world_of l.fn.world) l.trail.entries l.place l.world

abbrev pub decreases-loop-place : goal.decreases-loop-place
decreases-loop-place l = length l.trail.entries - l.place
