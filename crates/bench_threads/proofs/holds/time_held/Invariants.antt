use Rattle.machine.specs.Catalogs.{no_catalog}
use Rattle.bench_threads.proofs.holds.time_held.Given as goal

-- the cache that was just made
abbrev pub ghosts-time_named-B-Naming : goal.ghosts-time_named-B-Naming
ghosts-time_named-B-Naming g a = record {
  name = a.opened.log.name;
  table = a.opened.log.table;
  board = a.opened.errors.board;
  sizes = a.opened.core.state.sizes;
  files = no_catalog;
  seats = a.opened.log.made;
  whole = a.opened.log.room;
  blocks = a.deeds.blocks;
  calls = 0;
}

-- the deeds that were just opened
abbrev pub ghosts-time_named-B-NamesDeeds : goal.ghosts-time_named-B-NamesDeeds
ghosts-time_named-B-NamesDeeds g a = record { deeds = a.deeds.table; told = a.deeds.told }
