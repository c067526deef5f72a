use Rattle.std.proofs.Common.{rules, ◌≡◌, Err, IfErr, subst, sym}
use Rattle.shared.specs.ShardCalls.{Opens}
use Rattle.shared.proofs.ShardBack.{board_at}
use Rattle.shared.proofs.ShardSeated.{called, not_named, seated_after, stayed}
use Rattle.shared.specs.ShardResults.{opened_in}
use Rattle.shared.proofs.shards.cache.ShardedCache.open_at.Goals as goal

pub returns-clause-foreign : goal.returns-clause-foreign
returns-clause-foreign g c = λ there not.
    let other = not_named (g.B.ShardNaming.names c.args.shard).name c.args.seat.now c.seat.inside.seats.items c.args.shard c.in-Some.own.now c.seat.view_is (search rules) c.in-Some.ensures.value not in
    let f = c.ask.ensures.foreign other in (subst (λ r. IfErr r (λ d. c.in_shard.result ≡ Err d)) f.0 c.in_shard.ensures.err, stayed c.args.seat.now c.seat.inside.seats.items c.args.shard c.in-Some.own.now c.ask.new.own c.seat.view_is c.in-Some.ensures.value f.1)

pub returns-clause-seated : goal.returns-clause-seated
returns-clause-seated g c =
    seated_after g.B.ShardNaming.names c.args.seat.now c.seat.inside.seats.items c.args.shard c.in-Some.own.now c.ask.new.own c.seat.view_is (search rules) c.in-Some.ensures.value c.requires.seat
    c.ask.ensures.goes

pub returns-clause-call : goal.returns-clause-call
returns-clause-call g c = λ there. called
    (λ a b. Opens (g.B.ShardNaming.names c.args.shard) c.args.file c.args.append (opened_in c.in_shard.result) a b)
    (g.B.ShardNaming.names c.args.shard).name c.args.seat.now c.seat.inside.seats.items c.args.shard c.in-Some.own.now c.ask.new.own c.seat.view_is (search rules) c.in-Some.ensures.value (λ named. subst (λ r. Opens (g.B.ShardNaming.names c.args.shard) c.args.file c.args.append r c.in-Some.own.now c.ask.new.own) (sym c.in_shard.ensures.is) (c.ask.ensures.call named))

pub returns-clause-board : goal.returns-clause-board
returns-clause-board g c =
    board_at g.B.ShardNaming.names c.args.shard c.in_shard.result c.in_shard.ensures.at (c.in_shard.ensures.board (g.B.ShardNaming.names c.args.shard).board c.ask.ensures.keeps)
