use Rattle.std.proofs.Common.{◌≡◌, ◌<◌, ◌/◌, ◌%◌, true, arith, subst}
use Rattle.cachecore.specs.Standing.{SpotIs}
use Rattle.shared.specs.ShardCalls.{Places}
use Rattle.shared.specs.ShardSeats.{is_of, part}
use Rattle.shared.proofs.shards.cache.ShardedCache.block_of.Goals as goal

pub returns-clause-call : goal.returns-clause-call
returns-clause-call g c =
    let less : c.args.file.0 % g.B.ShardNaming.shards < g.B.ShardNaming.shards = omega (arith, c.args.self.now.counted, c.args.self.now.some) in
    (subst (λ n. (c.args.file.0 % n) < g.B.ShardNaming.shards → is_of (g.B.ShardNaming.names (c.args.file.0 % n)).name c.args.seat.now (c.args.file.0 % n) ≡ true
    → Places (g.B.ShardNaming.names (c.args.file.0 % n)) (λ s. SpotIs s (c.args.file.0 / n) c.args.page.0 c.block_at.result) (part c.args.seat.now (c.args.file.0 % n)) (part c.block_at.new.seat (c.args.file.0 % n)))
    c.args.self.now.counted c.block_at.ensures.call) less
