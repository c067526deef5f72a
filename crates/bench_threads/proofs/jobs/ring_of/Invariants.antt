use Rattle.std.proofs.Common.{false, [], replicate}
use Rattle.bench_threads.proofs.jobs.ring_of.Given as goal

-- the sides of 64 blocks, of which no bytes are told
abbrev pub ghost-new : goal.ghost-new
ghost-new g a = (false, replicate 64 [])
