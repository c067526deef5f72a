use Rattle.std.proofs.Common.{◌≡◌, [], All, vec_len}
use Rattle.shared.proofs.shards.rows.without_shards.Given as goal

abbrev pub invariant-loop : goal.invariant-loop
invariant-loop l = (vec_len l.rows ≡ l.counter) × All (λ row. row ≡ []) l.rows.items
