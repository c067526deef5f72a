use Rattle.std.proofs.Common.{arith, ◌≡◌, ◌<◌, ◌≤◌, Some, length, vec_len}
use Rattle.shared.proofs.ShardStaffing.{no_shard}
use Rattle.shared.proofs.shards.place.Place.cache.Goals as goal

pub unreachable-requires : goal.unreachable-requires
unreachable-requires g c =
    let past : g.B.ShardNaming.shards ≤ g.row.K =
    no_shard g.row.K g.B.ShardNaming.shards (vec_len c.args.self.now.caches) c.args.self.now.there (omega (arith, c.deref.ensures.len, c.in_default.ensures.item.3)) in
    omega (arith, past, c.requires)

pub returns : goal.returns
returns g c =
    let within : 0 < length c.args.self.now.caches.items = omega (arith, c.deref.ensures.len, c.in-Some.ensures.item.3.0, c.args.self.now.caches.ok.0) in
    let ringed = c.args.self.now.ringed 0 c.in-Some.cache.now within in
    let first = c.in-Some.ensures.item.3.1 c.in-Some.cache.now in
    let value = c.deref.ensures.value in
    let ring : (g.B.ShardNaming.names g.row.K).ring ≡ Some c.in-Some.cache.now.ring = cc in
    record { ringed = ring }
