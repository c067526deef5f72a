use Rattle.shared.specs.Keeps.{begun_with}
use Rattle.std.specs.Prelude.{◌+◌, vec_len}
use Rattle.tests_shared.proofs.stop_rows.over_a_cache.Given as goal

-- the parts that were just made
abbrev pub ghosts-runs_over-B-Naming : goal.ghosts-runs_over-B-Naming
ghosts-runs_over-B-Naming g a = record {
  name = a.parts.name;
  table = a.parts.held.log.table;
  board = a.parts.board;
  sizes = a.parts.geometry;
  files = begun_with a.parts.held.core.state;
  seats = vec_len a.seats + 1;
  whole = a.parts.held.log.room;
  blocks = a.parts.deeds.blocks;
  calls = a.parts.device.device.calls;
}

-- and their deeds
abbrev pub ghosts-runs_over-B-NamesDeeds : goal.ghosts-runs_over-B-NamesDeeds
ghosts-runs_over-B-NamesDeeds g a = record { deeds = a.parts.deeds.table; told = a.parts.deeds.told }
