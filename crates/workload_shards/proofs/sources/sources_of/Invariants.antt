use Rattle.std.specs.Prelude.{All}
use Rattle.shared.specs.Keeps.{IsDisk}
use Rattle.workload_shards.proofs.sources.sources_of.Given as goal

abbrev pub invariant-loop-name : goal.invariant-loop-name
invariant-loop-name l = All (λ s. IsDisk l.geometry s.device) l.sources.items
