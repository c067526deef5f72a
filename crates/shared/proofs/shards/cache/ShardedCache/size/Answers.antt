use Rattle.std.proofs.Common.{rules}
use Rattle.shared.specs.ShardCalls.{Measures}
use Rattle.shared.proofs.ShardSeated.{called, not_named, seated_after, stayed}
use Rattle.shared.proofs.shards.cache.ShardedCache.size.Goals as goal

pub returns-clause-foreign : goal.returns-clause-foreign
returns-clause-foreign g c = λ there not.
    let other = not_named (g.B.ShardNaming.names c.args.handle.now.shard).name c.args.seat.now c.seat.inside.seats.items c.args.handle.now.shard c.in-Some.own.now c.seat.view_is (search rules) c.in-Some.ensures.value not in
    let f = c.ask.ensures.foreign other in (f.0, stayed c.args.seat.now c.seat.inside.seats.items c.args.handle.now.shard c.in-Some.own.now c.ask.new.own c.seat.view_is c.in-Some.ensures.value f.1)

pub returns-clause-seated : goal.returns-clause-seated
returns-clause-seated g c =
    seated_after g.B.ShardNaming.names c.args.seat.now c.seat.inside.seats.items c.args.handle.now.shard c.in-Some.own.now c.ask.new.own c.seat.view_is (search rules) c.in-Some.ensures.value c.requires.seat
    c.ask.ensures.goes

pub returns-clause-call : goal.returns-clause-call
returns-clause-call g c = λ there. called
    (Measures (g.B.ShardNaming.names c.args.handle.now.shard) c.args.handle.now.handle c.ask.result)
    (g.B.ShardNaming.names c.args.handle.now.shard).name c.args.seat.now c.seat.inside.seats.items c.args.handle.now.shard c.in-Some.own.now c.ask.new.own c.seat.view_is (search rules) c.in-Some.ensures.value c.ask.ensures.call
