use Rattle.std.proofs.Common.{◌≡◌, ℕ, ◌<◌, ◌≤◌, ◌+◌, ◌-◌, length, get_or}
use Rattle.trail.specs.Sparse.{byte_at}
use Rattle.trail.proofs.sparse.holds.Given as goal

abbrev pub invariant-loop-done : goal.invariant-loop-done
invariant-loop-done l = (l.done ≤ length l.bytes)
    × ((k : ℕ) → k < l.done → get_or l.bytes k 0 ≡ byte_at l.chunks (l.offset + k))

abbrev pub decreases-loop-done : goal.decreases-loop-done
decreases-loop-done l = length l.bytes - l.done
