use Rattle.std.proofs.Common.{◌≡◌, ℕ, ◌≤◌}
use Rattle.std.specs.Ordering.{nat_cmp}
use Rattle.std.specs.BTreeMap.{get, btree_map_len}
use Rattle.trail.proofs.sparse.forget_chunks.Given as goal

-- the chunks up to the last that is to stay are as they were
abbrev pub invariant-chunks : goal.invariant-chunks
invariant-chunks l = (q : ℕ) → q ≤ l.last → get nat_cmp l.chunks q ≡ get nat_cmp l.initial.chunks q

abbrev pub decreases-chunks : goal.decreases-chunks
decreases-chunks l = btree_map_len l.chunks
