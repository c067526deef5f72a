use Rattle.std.proofs.Common.{rules, ◌≡◌, Err, IfErr, subst, sym}
use Rattle.shared.specs.ShardCalls.{Closes}
use Rattle.shared.proofs.ShardSeated.{called, not_named, seated_after, stayed}
use Rattle.shared.specs.ShardResults.{closed_in}
use Rattle.shared.proofs.shards.cache.ShardedCache.close_handle.Goals as goal

pub returns-clause-foreign : goal.returns-clause-foreign
returns-clause-foreign g c = λ there not.
    let other = not_named (g.B.ShardNaming.names c.args.handle.shard).name c.args.seat.now c.seat.inside.seats.items c.args.handle.shard c.in-Some.own.now c.seat.view_is (search rules) c.in-Some.ensures.value not in
    let f = c.ask.ensures.foreign other in (subst (λ r. IfErr r (λ e. c.back_in_shard.result ≡ Err (e.0, record { shard = c.args.handle.shard; handle = e.1 }))) f.0 c.back_in_shard.ensures.err, stayed c.args.seat.now c.seat.inside.seats.items c.args.handle.shard c.in-Some.own.now c.ask.new.own c.seat.view_is c.in-Some.ensures.value f.1)

pub returns-clause-seated : goal.returns-clause-seated
returns-clause-seated g c =
    seated_after g.B.ShardNaming.names c.args.seat.now c.seat.inside.seats.items c.args.handle.shard c.in-Some.own.now c.ask.new.own c.seat.view_is (search rules) c.in-Some.ensures.value c.requires.seat
    c.ask.ensures.goes

pub returns-clause-call : goal.returns-clause-call
returns-clause-call g c = λ there. called
    (λ a b. Closes (g.B.ShardNaming.names c.args.handle.shard) c.args.handle.handle (closed_in c.back_in_shard.result) a b)
    (g.B.ShardNaming.names c.args.handle.shard).name c.args.seat.now c.seat.inside.seats.items c.args.handle.shard c.in-Some.own.now c.ask.new.own c.seat.view_is (search rules) c.in-Some.ensures.value (λ named. subst (λ r. Closes (g.B.ShardNaming.names c.args.handle.shard) c.args.handle.handle r c.in-Some.own.now c.ask.new.own) (sym c.back_in_shard.ensures.is) (c.ask.ensures.call named))
