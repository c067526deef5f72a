use Rattle.std.proofs.Common.{◌≡◌, ◌≤◌, length}
use Rattle.playback.proofs.Alike.{Before}
use Rattle.playback.proofs.blocks.first_unlike.Given as goal

abbrev pub invariant-loop-number : goal.invariant-loop-number
invariant-loop-number g l =
    let first = g.D.BlockDevice.told l.fn.device in
    let now = g.D.BlockDevice.told l.device in
    (now.size ≡ first.size) × (now.count ≡ first.count) × (now.contents ≡ first.contents)
    × Before first l.one l.other l.number × (first.size ≡ length l.buffer.items)
    × (l.number-end ≤ first.count) × (l.number-end ≤ l.one.count)
    × (l.number-end ≤ l.other.count)
