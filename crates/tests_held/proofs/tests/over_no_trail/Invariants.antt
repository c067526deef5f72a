use Rattle.machine.specs.Catalogs.{no_catalog}
use Rattle.tests_held.proofs.tests.over_no_trail.Given as goal

-- the cache that was just made, and its device
abbrev pub ghosts-run_named-B-Naming : goal.ghosts-run_named-B-Naming
ghosts-run_named-B-Naming g a = record {
  name = a.opened.log.name;
  table = a.opened.log.table;
  board = a.opened.errors.board;
  sizes = a.opened.core.state.sizes;
  files = no_catalog;
  seats = a.opened.log.made;
  whole = a.opened.log.room;
  blocks = a.deeds.blocks;
  calls = 0;
}

abbrev pub ghosts-run_named-B-NamesDeeds : goal.ghosts-run_named-B-NamesDeeds
ghosts-run_named-B-NamesDeeds g a = record { deeds = a.deeds.table; told = a.deeds.told }
