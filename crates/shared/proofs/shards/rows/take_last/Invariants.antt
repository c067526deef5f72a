use Rattle.std.proofs.Common.{◌≡◌, ◌≤◌, take, vec_len}
use Rattle.std.specs.Vec.{vec_capacity}
use Rattle.shared.specs.ShardSeats.{part}
use Rattle.shared.proofs.ShardHalves.{front, half}
use Rattle.shared.proofs.shards.rows.take_last.Given as goal

abbrev pub invariant-loop-row : goal.invariant-loop-row
invariant-loop-row l =
    (l.rows.items ≡ half (λ row. take l.shard row) l.row l.fn.rows.items)
    × (l.desk.items ≡ front (λ row. part row l.shard) l.row l.fn.rows.items)
    × (vec_len l.desk ≡ l.row)
    × (vec_len l.fn.rows ≤ vec_capacity l.desk)
    × (l.row-end ≡ vec_len l.fn.rows)
    × (vec_len l.rows ≡ l.row-end)
