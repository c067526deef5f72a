use Rattle.std.specs.Prelude.{◌+◌, vec_len}
use Rattle.shared.specs.Keeps.{begun_with}
use Rattle.tests_shared.proofs.era_rows.next_era.Given as goal

-- the parts that were just made, over what the last era left
abbrev pub ghosts-era_over-B-Naming : goal.ghosts-era_over-B-Naming
ghosts-era_over-B-Naming g a = record {
  name = a.parts.name;
  table = a.parts.held.log.table;
  board = a.parts.board;
  sizes = a.parts.geometry;
  files = begun_with a.parts.held.core.state;
  seats = vec_len a.seats + 1;
  whole = a.parts.held.log.room;
  blocks = a.parts.deeds.blocks;
  calls = (g.D.BlockDevice.told a.parts.device).calls;
}

abbrev pub ghosts-era_over-B-NamesDeeds : goal.ghosts-era_over-B-NamesDeeds
ghosts-era_over-B-NamesDeeds g a = record { deeds = a.parts.deeds.table; told = a.parts.deeds.told }
