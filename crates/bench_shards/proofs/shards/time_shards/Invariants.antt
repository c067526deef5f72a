use Rattle.std.specs.Prelude.{length}
use Rattle.shared.specs.ShardNames.{names_at}
use Rattle.bench_shards.proofs.shards.time_shards.Given as goal

-- the parts that were just made
abbrev pub ghosts-time_over : goal.ghosts-time_over
ghosts-time_over g a = record { shards = length a.parts; names = names_at a.parts }
