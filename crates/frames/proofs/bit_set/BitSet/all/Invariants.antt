use Rattle.std.proofs.Common.{◌≡◌, ◌-◌, ◌++◌, replicate, true, false}
use Rattle.frames.proofs.bit_set.BitSet.all.Given as goal

abbrev pub invariant-loop-number : goal.invariant-loop-number
invariant-loop-number l = l.set ≡ replicate l.number true ++ replicate (l.count - l.number) false
