use Rattle.std.specs.Prelude.{◌+◌, vec_len}
use Rattle.shared.specs.Keeps.{begun_with}
use Rattle.tests_shared.proofs.restart_rows.restarts.Given as goal

-- the parts of the first cache
abbrev pub ghosts-first_over-B-Naming : goal.ghosts-first_over-B-Naming
ghosts-first_over-B-Naming g a = record {
  name = a.parts.name;
  table = a.parts.held.log.table;
  board = a.parts.board;
  sizes = a.parts.geometry;
  files = begun_with a.parts.held.core.state;
  seats = vec_len a.seats + 1;
  whole = a.parts.held.log.room;
  blocks = a.parts.deeds.blocks;
  calls = a.parts.device.calls;
}

abbrev pub ghosts-first_over-B-NamesDeeds : goal.ghosts-first_over-B-NamesDeeds
ghosts-first_over-B-NamesDeeds g a = record { deeds = a.parts.deeds.table; told = a.parts.deeds.told }

-- those of the second, which begins with the files of the first
abbrev pub ghosts-second_over-B-Naming : goal.ghosts-second_over-B-Naming
ghosts-second_over-B-Naming g a = record {
  name = a.parts.name;
  table = a.parts.held.log.table;
  board = a.parts.board;
  sizes = a.parts.geometry;
  files = begun_with a.parts.held.core.state;
  seats = vec_len a.seats + 1;
  whole = a.parts.held.log.room;
  blocks = a.parts.deeds.blocks;
  calls = a.parts.device.calls;
}

abbrev pub ghosts-second_over-B-NamesDeeds : goal.ghosts-second_over-B-NamesDeeds
ghosts-second_over-B-NamesDeeds g a = record { deeds = a.parts.deeds.table; told = a.parts.deeds.told }
