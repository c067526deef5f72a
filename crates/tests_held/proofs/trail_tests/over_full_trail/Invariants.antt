use Rattle.machine.specs.Catalogs.{no_catalog}
use Rattle.tests_held.proofs.trail_tests.over_full_trail.Given as goal

-- the cache that was just made, and its device
abbrev pub ghosts-by_two_seats-B-Naming : goal.ghosts-by_two_seats-B-Naming
ghosts-by_two_seats-B-Naming g a = record {
  name = a.opened.log.name;
  table = a.opened.log.table;
  board = a.opened.errors.board;
  sizes = a.opened.core.state.sizes;
  files = no_catalog;
  seats = a.opened.log.made;
  whole = a.opened.log.room;
  blocks = a.deeds.blocks;
  calls = 0;
}

abbrev pub ghosts-by_two_seats-B-NamesDeeds : goal.ghosts-by_two_seats-B-NamesDeeds
ghosts-by_two_seats-B-NamesDeeds g a = record { deeds = a.deeds.table; told = a.deeds.told }
