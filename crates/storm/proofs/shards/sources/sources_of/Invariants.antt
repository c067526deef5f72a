use Rattle.std.specs.Prelude.{All}
use Rattle.shared.specs.Keeps.{IsDisk}
use Rattle.storm.specs.Sharded.{AreFor}
use Rattle.storm.proofs.shards.sources.sources_of.Given as goal

abbrev pub invariant-loop-device : goal.invariant-loop-device
invariant-loop-device g l = All (λ s. IsDisk l.geometry s.device) l.sources.items × All (AreFor l.geometry) l.copies.items
