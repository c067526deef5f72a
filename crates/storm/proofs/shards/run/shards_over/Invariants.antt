use Rattle.std.specs.Prelude.{length}
use Rattle.shared.specs.ShardNames.{names_at}
use Rattle.storm.proofs.shards.run.shards_over.Given as goal

-- the parts that were just made
abbrev pub ghosts-storm_of : goal.ghosts-storm_of
ghosts-storm_of g a = record { shards = length a.parts; names = names_at a.parts }
