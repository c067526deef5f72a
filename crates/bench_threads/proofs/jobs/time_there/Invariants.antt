use Rattle.std.specs.Prelude.{false}
use Rattle.crossbeam_queue.specs.Passes.{view}
use Rattle.bench_threads.proofs.jobs.time_there.Given as goal

-- the deeds that were opened
abbrev pub ghosts-fill : goal.ghosts-fill
ghosts-fill g a = record { deeds = a.opened.table; told = a.opened.told }

-- the deeds that the filled ring has
abbrev pub ghosts-time_both : goal.ghosts-time_both
ghosts-time_both g a = record { deeds = (view a.mine).table; told = false }
