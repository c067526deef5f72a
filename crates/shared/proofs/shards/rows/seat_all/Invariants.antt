use Rattle.std.proofs.Common.{◌≡◌, ◌≤◌, vec_len}
use Rattle.held.specs.Shown.{AreFresh}
use Rattle.shared.specs.ShardNames.{CacheNames}
use Rattle.shared.specs.ShardSeats.{AreCallers}
use Rattle.shared.proofs.ShardRowing.{AreSeatedFrom}
use Rattle.shared.proofs.shards.rows.seat_all.Given as goal

abbrev pub invariant-loop-seat : goal.invariant-loop-seat
invariant-loop-seat l =
    (vec_len l.seats ≡ l.row)
    × (vec_len l.rows ≡ vec_len l.fn.rows)
    × (l.row ≤ vec_len l.rows)
    × ((names : _) (n : CacheNames) → AreCallers names l.fn.rows.items → AreFresh n.table n.name l.fn.seats.items
    → AreFresh n.table n.name l.seats.items × AreSeatedFrom l.row names n l.rows.items)

abbrev pub decreases-loop-seat : goal.decreases-loop-seat
decreases-loop-seat l = vec_len l.seats
