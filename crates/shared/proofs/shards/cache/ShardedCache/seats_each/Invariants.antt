use Rattle.std.proofs.Common.{◌≡◌, ◌<◌, ℕ, true}
use Rattle.shared.specs.ShardSeats.{is_of}
use Rattle.shared.proofs.shards.cache.ShardedCache.seats_each.Given as goal

abbrev pub invariant-loop-shard : goal.invariant-loop-shard
invariant-loop-shard g l = (k : ℕ) → k < l.shard → is_of (g.B.ShardNaming.names k).name l.seat k ≡ true
