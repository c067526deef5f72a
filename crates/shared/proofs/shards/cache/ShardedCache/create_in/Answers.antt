use Rattle.std.proofs.Common.{◌%◌, ◌≡◌, ◌≤◌, IfOk, arith, subst, sym}
use Rattle.shared.proofs.Numbering.{numbered_in}
use Rattle.shared.proofs.shards.cache.ShardedCache.create_in.Goals as goal

pub returns-in-Some-clause-stands : goal.returns-in-Some-clause-stands
returns-in-Some-clause-stands g c =
    let few : g.B.ShardNaming.shards ≤ 16 = omega (arith, c.args.self.now.counted, c.args.self.now.few) in
    subst (λ r. IfOk r (λ x. x.0.0 % g.B.ShardNaming.shards ≡ c.args.shard)) (sym c.number.ensures)
    (numbered_in g.B.ShardNaming.shards c.args.shard c.in-Some.made c.in-Some.ensures.there few c.in-Some.ensures.few)
