use Rattle.std.proofs.Common.{◌≡◌, ℕ, ◌≤◌, ◌-◌, length, take}
use Rattle.trail.specs.Sparse.{byte_at, byte_put}
use Rattle.trail.proofs.sparse.put.Given as goal

abbrev pub invariant-loop-done : goal.invariant-loop-done
invariant-loop-done l = (l.done ≤ length l.bytes)
    × ((i : ℕ) → byte_at l.chunks i ≡ byte_put l.initial.chunks l.offset (take l.done l.bytes) i)

abbrev pub decreases-loop-done : goal.decreases-loop-done
decreases-loop-done l = length l.bytes - l.done
