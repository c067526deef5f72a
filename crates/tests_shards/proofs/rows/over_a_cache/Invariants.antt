use Rattle.std.specs.Prelude.{length}
use Rattle.shared.specs.ShardNames.{names_at}
use Rattle.tests_shards.proofs.rows.over_a_cache.Given as goal

-- the parts that were just made
abbrev pub ghosts-runs : goal.ghosts-runs
ghosts-runs g a = record { shards = length a.parts; names = names_at a.parts }
