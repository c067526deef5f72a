use Rattle.std.proofs.Common.{◌<◌, ◌≤◌, ◌+◌, arith}
use Rattle.shared.specs.Keeps.{IsDisk}
use Rattle.tests_shards.proofs.Strangers.{all_more}
use Rattle.tests_shards.proofs.sources.sources.Goals as goal

pub loop-shard-preserved : goal.loop-shard-preserved
loop-shard-preserved c =
    let before = c.loop-shard.all.items in
    let after = c.push.new.self.items in
    let source = c.in_ok-source.source in
    let name = c.in_ok-source.ensures.name in record {
      devices = all_more (λ s. IsDisk c.args.geometry.now s.device) before after source _ c.push.ensures.items
          c.loop-shard.invariant.devices c.in_ok-source.ensures.device;
      names = all_more (λ s. (c.args.first ≤ s.name) × (s.name < c.args.first + c.args.count)) before after source _ c.push.ensures.items
          c.loop-shard.invariant.names
          (omega (arith, name, c.name-name.ensures.least), omega (arith, name, c.name-name.ensures.most));
    }
