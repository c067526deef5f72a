use Rattle.std.proofs.Common.{rules}
use Rattle.cachecore.specs.Standing.{SpotIs}
use Rattle.shared.specs.ShardCalls.{Places}
use Rattle.shared.proofs.ShardSeated.{called, not_named, seated_after, stayed}
use Rattle.shared.proofs.shards.cache.ShardedCache.block_at.Goals as goal

pub returns-clause-foreign : goal.returns-clause-foreign
returns-clause-foreign g c = λ there not.
    let other = not_named (g.B.ShardNaming.names c.args.shard).name c.args.seat.now c.seat.inside.seats.items c.args.shard c.in-Some.own.now c.seat.view_is (search rules) c.in-Some.ensures.value not in
    let f = c.ask.ensures.foreign other in (f.0, stayed c.args.seat.now c.seat.inside.seats.items c.args.shard c.in-Some.own.now c.ask.new.own c.seat.view_is c.in-Some.ensures.value f.1)

pub returns-clause-seated : goal.returns-clause-seated
returns-clause-seated g c =
    seated_after g.B.ShardNaming.names c.args.seat.now c.seat.inside.seats.items c.args.shard c.in-Some.own.now c.ask.new.own c.seat.view_is (search rules) c.in-Some.ensures.value c.requires.seat
    c.ask.ensures.goes

pub returns-clause-call : goal.returns-clause-call
returns-clause-call g c = λ there. called
    (Places (g.B.ShardNaming.names c.args.shard) (λ s. SpotIs s c.args.file.0 c.args.page.0 c.ask.result))
    (g.B.ShardNaming.names c.args.shard).name c.args.seat.now c.seat.inside.seats.items c.args.shard c.in-Some.own.now c.ask.new.own c.seat.view_is (search rules) c.in-Some.ensures.value c.ask.ensures.call
