-- The table of frames, and what each call does to it.
use Rattle.std.specs.Prelude.{None, Some, ◌≡◌, ℕ, ◌+◌, ◌/◌, ◌<◌, Bool, true, false, not, cond, ◌&&◌, ◌||◌, List, [], ◌∷◌, ◌++◌, length, take, drop, reverse, replicate, slice_index_or, slice_set, count_by, Option, is_some, is_none, min}
use Rattle.pc_types.specs.declared.ids.FileId.{FileId}
use Rattle.pc_types.specs.declared.ids.PageIndex.{PageIndex}
use Rattle.frames.specs.Lists.{has, without, IsWithoutDoubles}
use Rattle.frames.specs.Rows.{zero_rows}

-- the page lists, the head first, and what is kept of each frame
pub record Table : Type 0 where
  -- bytes of a frame
  pub size : ℕ
  pub active : List ℕ
  pub inactive : List ℕ
  -- whether the frame was referenced
  pub referenced : List Bool
  -- whether the search for the oldest frame passes over it; of a free frame it means nothing
  pub aside : List Bool
  -- the file and the page that it was taken for, or nothing where it is free
  pub owners : List (Option (FileId × PageIndex))
  -- its bytes; of a free frame they mean nothing
  pub bytes : List (List ℕ)

abbrev pub owner_of : Table → ℕ → Option (FileId × PageIndex)
owner_of t f = slice_index_or t.owners f None

abbrev pub is_taken : Table → ℕ → Bool
is_taken t f = is_some (owner_of t f)

abbrev pub is_referenced : Table → ℕ → Bool
is_referenced t f = slice_index_or t.referenced f false

abbrev pub is_aside : Table → ℕ → Bool
is_aside t f = slice_index_or t.aside f false

-- how many frames are free
abbrev pub free_frames : Table → ℕ
free_frames t = count_by is_none t.owners

-- all frames are free
abbrev pub new_table : ℕ → ℕ → Table
new_table size count = record { size = size; active = []; inactive = []; referenced = replicate count false; aside = replicate count false; owners = replicate count None; bytes = zero_rows size count }

-- no frame is in a list twice or in both, and the frames in the lists are those taken
pub record IsSound (t : Table) : Type 0 where
  pub active_once : IsWithoutDoubles t.active
  pub inactive_once : IsWithoutDoubles t.inactive
  pub apart : (f : ℕ) → has f t.active ≡ true → has f t.inactive ≡ false
  pub listed : (f : ℕ) → is_taken t f ≡ (has f t.active || has f t.inactive)
  pub flags : length t.referenced ≡ length t.owners
  pub asides : length t.aside ≡ length t.owners
  pub rows : length t.bytes ≡ length t.owners

-- the lowest free frame
pub record IsLowestFree (t : Table) (f : ℕ) : Type 0 where
  pub within : f < length t.owners
  pub here : is_taken t f ≡ false
  pub lower : (g : ℕ) → g < f → is_taken t g ≡ true

-- a frame is taken: at the inactive head, unreferenced, and not set aside. Its bytes stay
abbrev pub taken : Table → ℕ → FileId × PageIndex → Table
taken t f owner = record t { inactive = f ∷ t.inactive; referenced = slice_set t.referenced f false; aside = slice_set t.aside f false; owners = slice_set t.owners f (Some owner) }

-- a frame leaves its list and is free
abbrev pub given : Table → ℕ → Table
given t f = record t { active = without f t.active; inactive = without f t.inactive; referenced = slice_set t.referenced f false; owners = slice_set t.owners f None }

-- a frame has these bytes
abbrev pub with_bytes : Table → ℕ → List ℕ → Table
with_bytes t f row = record t { bytes = slice_set t.bytes f row }

-- a frame is accessed. inactive, unreferenced: referenced. inactive, referenced: to the active head, unreferenced. active: referenced
abbrev pub accessed : Table → ℕ → Table
accessed t f =
    cond (not (has f t.active) && is_referenced t f)
    (record t { active = f ∷ t.active; inactive = without f t.inactive; referenced = slice_set t.referenced f false })
    (record t { referenced = slice_set t.referenced f true })

-- flags, cleared of these frames
abbrev pub cleared : List ℕ → List Bool → List Bool
cleared [] flags = flags
cleared (f ∷ fs) flags = slice_set (cleared fs flags) f false

-- how many frames stay active, so that the active list is no longer than the inactive one
abbrev pub kept : Table → ℕ
kept t = min (length t.active) ((length t.active + length t.inactive) / 2)

-- the border between the two lists moves: the frames past it go to the inactive head in their order, unreferenced
abbrev pub aged : Table → Table
aged t = record t { active = take (kept t) t.active; inactive = drop (kept t) t.active ++ t.inactive; referenced = cleared (drop (kept t) t.active) t.referenced }

-- from the inactive tail to its head, then from the active tail to its head
abbrev pub scan_order : Table → List ℕ
scan_order t = reverse t.inactive ++ reverse t.active

-- the search for the oldest frame passes over a frame, or no more
abbrev pub set_aside : Table → ℕ → Table
set_aside t f = record t { aside = slice_set t.aside f true }

abbrev pub put_back : Table → ℕ → Table
put_back t f = record t { aside = slice_set t.aside f false }
