use Rattle.shared.specs.Keeps.{begun_with}
use Rattle.std.specs.Prelude.{◌+◌, vec_len}
use Rattle.storm.proofs.run.over.Given as goal

-- the parts that were just made
abbrev pub ghosts-history-B-Naming : goal.ghosts-history-B-Naming
ghosts-history-B-Naming g a = record {
  name = a.parts.name;
  table = a.parts.held.log.table;
  board = a.parts.board;
  sizes = a.parts.geometry;
  files = begun_with a.parts.held.core.state;
  seats = vec_len a.seats + 1;
  whole = a.parts.held.log.room;
  blocks = a.parts.deeds.blocks;
  calls = a.parts.device.calls;
}

-- and their deeds
abbrev pub ghosts-history-B-NamesDeeds : goal.ghosts-history-B-NamesDeeds
ghosts-history-B-NamesDeeds g a = record { deeds = a.parts.deeds.table; told = a.parts.deeds.told }
