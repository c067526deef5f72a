use Rattle.std.proofs.Common.{◌≤◌, ◌+◌, ◌-◌, length, take, vec_len, vec_capacity}
use Rattle.world.specs.Stepping.{Plays}
use Rattle.world.proofs.world.World.play.Given as goal

abbrev pub invariant-loop-step : goal.invariant-loop-step
invariant-loop-step g l = record {
  played : Plays l.fn.self (take l.step-index l.steps) l.replies.items l.self;
  room : vec_len l.replies + (length l.steps - l.step-index) ≤ vec_capacity l.replies;
}
