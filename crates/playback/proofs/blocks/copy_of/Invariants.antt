use Rattle.std.proofs.Common.{◌≡◌, ◌≤◌, length}
use Rattle.playback.specs.Playing.{IsCopy}
use Rattle.playback.proofs.blocks.copy_of.Given as goal

abbrev pub invariant-loop-number : goal.invariant-loop-number
invariant-loop-number g l =
    let first = g.D.BlockDevice.told l.fn.device in
    let now = g.D.BlockDevice.told l.device in
    (now.size ≡ first.size) × (now.count ≡ first.count) × IsCopy first l.copy × (first.size ≡ length l.buffer.items)
    × (l.number-end ≤ first.count)
