-- What names the caches of the shards.
use Rattle.std.specs.Prelude.{ℕ, Bool, false, List, [], Option, None, slice_index_or}
use Rattle.atomic_table.specs.Seated.{TableId}
use Rattle.held.specs.Names.{no_room, no_table, no_sizes}
use Rattle.machine.specs.Catalogs.{Catalog, no_catalog}
use Rattle.pc_types.specs.Limits.{Sizes}
use Rattle.ring.specs.declared.ring.Ring.{Ring}
use Rattle.trail.specs.Room.{Room}

-- what a type has to name of one cache (`Naming` of `held`, `NamesDeeds` of `deeds`), and its ring
pub record CacheNames : Type 0 where
  pub name : ℕ
  pub table : TableId
  pub board : TableId
  pub sizes : Sizes
  pub files : Catalog
  pub seats : ℕ
  pub whole : Room
  pub blocks : List (List ℕ)
  pub calls : ℕ
  pub deeds : TableId
  pub told : Bool
  pub ring : Option Ring

abbrev pub no_names : CacheNames
no_names = record {
  name = 0;
  table = no_table;
  board = no_table;
  sizes = no_sizes;
  files = no_catalog;
  seats = 0;
  whole = no_room;
  blocks = [];
  calls = 0;
  deeds = no_table;
  told = false;
  ring = None;
}

-- those of the cache of a shard
abbrev pub names_at : List CacheNames → ℕ → CacheNames
names_at all k = slice_index_or all k no_names
