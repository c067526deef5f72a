use Rattle.std.specs.Prelude.{◌+◌}
use Rattle.deeds.specs.Shown.{told_at}
use Rattle.deeds.specs.Views.{given_in}
use Rattle.deeds.proofs.sides.DeviceSide.carry_out.Given as goal

-- one call more of the block, and its bytes as the device tells them after the call
abbrev pub ghost-note : goal.ghost-note
ghost-note g a = let given = given_in a.deed.me.0 in
    record { bytes = told_at a.device.now.device.contents given.task.block; calls = given.before.calls + 1 }
