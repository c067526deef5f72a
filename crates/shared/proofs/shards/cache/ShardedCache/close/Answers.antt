use Rattle.std.proofs.Common.{arith, subst, ◌≡◌, ◌<◌, vec_len}
use Rattle.shared.specs.ShardEnds.{IsRoomFor}
use Rattle.shared.proofs.ShardEnding.{callers_same, room_same}
use Rattle.shared.proofs.shards.cache.ShardedCache.close.Goals as goal

pub end_all-requires-clause-room : goal.end_all-requires-clause-room
end_all-requires-clause-room g c =
    let some : 0 < g.B.ShardNaming.shards = omega (arith, c.args.self.counted, c.args.self.some) in
    let same : c.args.self.callers ≡ vec_len c.args.seats =
    callers_same g.B.ShardNaming.shards c.args.self.callers (vec_len c.args.seats) g.B.ShardNaming.names some
    (λ k less. c.args.self.seated k (omega (arith, less, c.args.self.counted))) c.if-not-has_all.ensures.yes.0 in
    room_same c.in-Ok.ends g.B.ShardNaming.shards c.args.self.callers (vec_len c.args.seats) same
    (subst (λ n. IsRoomFor n c.args.self.callers c.in-Ok.ends) c.args.self.counted c.in-Ok.ensures)

-- all seats came, so none is missing
pub returns-in_default-clause-stranger : goal.returns-in_default-clause-stranger
returns-in_default-clause-stranger g c = λ missing. absurd (missing c.if-not-has_all.ensures.yes.0 c.if-not-has_all.ensures.yes.1)
