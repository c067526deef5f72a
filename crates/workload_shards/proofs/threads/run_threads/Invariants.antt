use Rattle.std.specs.Prelude.{length}
use Rattle.shared.specs.ShardNames.{names_at}
use Rattle.workload_shards.proofs.threads.run_threads.Given as goal

-- the parts that were just made
abbrev pub ghosts-run_over : goal.ghosts-run_over
ghosts-run_over g a = record { shards = length a.parts; names = names_at a.parts }
