use Rattle.std.specs.Prelude.{◌<◌, ◌≤◌, ◌+◌, All}
use Rattle.shared.specs.Keeps.{IsDisk}
use Rattle.tests_shards.proofs.sources.sources.Given as goal

abbrev pub invariant-loop-shard : goal.invariant-loop-shard
invariant-loop-shard l = record {
  devices : All (λ s. IsDisk l.geometry s.device) l.all.items;
  names : All (λ s. (l.first ≤ s.name) × (s.name < l.first + l.count)) l.all.items;
}
