use Rattle.std.specs.Prelude.{[], false, replicate}
use Rattle.bench_threads.proofs.holds.deeds_of.Given as goal

-- 1,024 blocks, of which no bytes are told
abbrev pub ghost-new : goal.ghost-new
ghost-new a = (false, replicate 1024 [])
