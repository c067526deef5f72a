use Rattle.std.proofs.Common.{arith, ◌≤◌, length}
use Rattle.shared.proofs.ShardStaffing.{none_made_yet}
use Rattle.shared.proofs.shards.cache.ShardedCache.worker.Goals as goal

pub returns-clause-new : goal.returns-clause-new
returns-clause-new g c =
    let few : length c.args.own.now ≤ 16 = omega (arith, c.requires.own.0, c.args.self.now.counted, c.args.self.now.few) in
    (c.add_workers.ensures.made c.args.own.now (none_made_yet 16 c.args.own.now c.in-Ok.workers.items few c.in-Ok.ensures.items)).1

pub returns-clause-made : goal.returns-clause-made
returns-clause-made g c =
    let few : length c.args.own.now ≤ 16 = omega (arith, c.requires.own.0, c.args.self.now.counted, c.args.self.now.few) in
    (c.add_workers.ensures.made c.args.own.now (none_made_yet 16 c.args.own.now c.in-Ok.workers.items few c.in-Ok.ensures.items)).0
