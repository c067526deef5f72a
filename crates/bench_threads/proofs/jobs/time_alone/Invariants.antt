use Rattle.std.specs.Prelude.{false}
use Rattle.bench_threads.proofs.jobs.time_alone.Given as goal

-- the deeds of the parcel
abbrev pub ghosts-time_turns : goal.ghosts-time_turns
ghosts-time_turns g a = record { deeds = a.first.table; told = false }
