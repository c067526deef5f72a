use Rattle.std.proofs.Common.{rules, arith, ◌≡◌, ◌≤◌, ◌-◌, ◌∙◌, vec_len}
use Rattle.shared.proofs.ShardEnding.{all_there, none_ended_yet}
use Rattle.shared.proofs.shards.cache.ShardedCache.end_all.Goals as goal

pub close-requires : goal.close-requires
close-requires g c =
    let own = c.args.own in
    let seats = c.args.seats.items in
    let few : g.B.ShardNaming.shards ≤ 16 = omega (arith, c.args.self.counted, c.args.self.few) in
    let all = all_there g.B.ShardNaming.shards (vec_len c.args.seats) g.B.ShardNaming.names own seats c.args.seats.ok.0 c.requires.own c.requires.callers c.requires.came c.requires.seats in
    let from_16 = none_ended_yet 16 g.B.ShardNaming.shards g.B.ShardNaming.names g.T.Trail.records g.T.Trail.cache g.D.BlockDevice.told own seats c.own.inside.workers.items c.args.ends (vec_len c.args.seats) few all c.own.view_is c.args.seats.ok.0 c.requires.room in
    record { ended = (own, seats, all, from_16) }

pub returns : goal.returns
returns g c =
    let own = c.args.own in
    let seats = c.args.seats.items in
    let few : g.B.ShardNaming.shards ≤ 16 = omega (arith, c.args.self.counted, c.args.self.few) in
    let all = all_there g.B.ShardNaming.shards (vec_len c.args.seats) g.B.ShardNaming.names own seats c.args.seats.ok.0 c.requires.own c.requires.callers c.requires.came c.requires.seats in
    let from_16 = none_ended_yet 16 g.B.ShardNaming.shards g.B.ShardNaming.names g.T.Trail.records g.T.Trail.cache g.D.BlockDevice.told own seats c.own.inside.workers.items c.args.ends (vec_len c.args.seats) few all c.own.view_is c.args.seats.ok.0 c.requires.room in
    let from_0 = c.close.ensures.ended own seats all from_16 in
    let whole : g.B.ShardNaming.shards - 0 ≡ g.B.ShardNaming.shards = omega arith in
    record { count = from_0.count ∙ whole; closed = from_0.closed }
