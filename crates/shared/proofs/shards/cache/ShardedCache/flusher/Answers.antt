use Rattle.std.proofs.Common.{rules, arith}
use Rattle.shared.specs.ShardWorks.{WritesBack}
use Rattle.shared.proofs.ShardWorking.{given_back, lent, seated_working, worked}
use Rattle.shared.proofs.shards.cache.ShardedCache.flusher.Goals as goal

pub work-requires : goal.work-requires
work-requires g c = record {
  at = (omega (arith, c.requires.there.0, c.args.self.now.counted, c.args.self.now.few), c.requires.there.0);
  worker = lent g.B.ShardNaming.names c.args.worker.now c.worker.inside.workers.items c.args.shard c.in-Some.own.now c.worker.view_is
      (search rules) c.in-Some.ensures.value c.requires.workers;
}

pub returns-clause-turn : goal.returns-clause-turn
returns-clause-turn g c =
    worked (WritesBack (g.B.ShardNaming.names c.args.shard)) c.args.worker.now c.worker.inside.workers.items c.args.shard
    c.in-Some.own.now c.work.new.worker c.worker.view_is (search rules) c.in-Some.ensures.value c.work.ensures.turn

pub returns-clause-workers : goal.returns-clause-workers
returns-clause-workers g c =
    given_back g.B.ShardNaming.names c.args.worker.now c.worker.inside.workers.items c.args.shard c.work.new.worker c.worker.view_is
    (search rules) c.requires.workers c.work.ensures.turn.worker

pub returns-clause-seated : goal.returns-clause-seated
returns-clause-seated g c =
    seated_working g.B.ShardNaming.names c.args.worker.now c.worker.inside.workers.items c.args.shard c.in-Some.own.now c.work.new.worker
    c.worker.view_is (search rules) c.in-Some.ensures.value c.work.ensures.turn.goes
