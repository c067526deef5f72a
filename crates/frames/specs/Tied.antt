-- How the parts of the table of frames go together.
use Rattle.std.specs.Prelude.{None, ◌≡◌, ℕ, ◌≤◌, Bool, true, false, ◌||◌, List, length, map, Option, is_some, is_none, slice_index_or}
use Rattle.pc_types.specs.declared.ids.FileId.{FileId}
use Rattle.pc_types.specs.declared.ids.PageIndex.{PageIndex}
use Rattle.frames.specs.Lists.{Lists, has, IsWithoutDoubles}
use Rattle.frames.specs.Rows.{Grid}

pub record IsTied (lists : Lists) (free : List Bool) (referenced : List Bool) (owners : List (Option (FileId × PageIndex))) (bytes : Grid) : Type 0 where
  pub count : lists.count ≡ length owners
  pub flags : length referenced ≡ length owners
  pub rows : length bytes.rows ≡ length owners
  pub bound : length owners ≤ 65536
  -- the free map has the frames without owner
  pub unowned : free ≡ map is_none owners
  -- the frames in a list are those with an owner
  pub listed : (f : ℕ) → is_some (slice_index_or owners f None) ≡ (has f lists.active || has f lists.inactive)
  pub active_once : IsWithoutDoubles lists.active
  pub inactive_once : IsWithoutDoubles lists.inactive
  pub apart : (f : ℕ) → has f lists.active ≡ true → has f lists.inactive ≡ false
