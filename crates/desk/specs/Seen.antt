-- What is seen of a desk.
use Rattle.std.specs.Prelude.{◌≡◌, ◌≢◌, ℕ, List, Option, None, Some, slice_index_or, slice_set}
use Rattle.blockmap.specs.Keys.{NoneFrom}
use Rattle.catalog.specs.Cataloged.{Cataloged}
use Rattle.catalog.specs.Extents.{IsNext}
use Rattle.catalog.specs.declared.extent.Extent.{Extent}
use Rattle.cachecore.specs.Standing as standing
use Rattle.runs.specs.Plain.{Plain, plain_file}
use Rattle.filesvc.specs.Seen.{HandleSeen, SoloSeen}
use Rattle.filesvc.specs.Service.{IsOpen, Names, files}

-- the service, and at each number an open handle or none
pub record DeskSeen : Type 0 where
  pub service : SoloSeen
  pub handles : List (Option HandleSeen)

-- the handle of a number
abbrev pub handle_at : DeskSeen → ℕ → Option HandleSeen
handle_at d n = slice_index_or d.handles n None

-- a file, where the device tells its contents
abbrev pub file_of : DeskSeen → ℕ → List ℕ
file_of d f = plain_file (files d.service) f

-- the plain files, of which f has these bytes
abbrev pub with_file : Plain → ℕ → List ℕ → Plain
with_file plain f bytes = record plain { files = slice_set plain.files f bytes }

-- each handle is open and the service's, and none stands there twice
pub record IsTable (s : SoloSeen) (handles : List (Option HandleSeen)) : Type 0 where
  pub opened : (n : ℕ) (h : HandleSeen) → slice_index_or handles n None ≡ Some h → IsOpen s h
  pub named : (n : ℕ) (h : HandleSeen) → slice_index_or handles n None ≡ Some h → Names s h
  pub apart : (n m : ℕ) (h g : HandleSeen) → slice_index_or handles n None ≡ Some h → slice_index_or handles m None ≡ Some g
      → h.number ≡ g.number → n ≡ m

-- the handles of all other numbers are as they were
abbrev pub OthersKept : DeskSeen → DeskSeen → ℕ → Type 0
OthersKept old new n = (m : ℕ) → m ≢ n → handle_at new m ≡ handle_at old m

-- so are they after a call by the handle of n, which may have been told of failed writes, and has the same file
pub record Stays (old new : DeskSeen) (n : ℕ) : Type 0 where
  pub others : OthersKept old new n
  pub same : (h : HandleSeen) → handle_at old n ≡ Some h → (g : HandleSeen) × (handle_at new n ≡ Some g) × (g.file ≡ h.file)

-- ---- where the files stand

-- a catalog that was made of them tells it
abbrev pub ArePlaces : SoloSeen → Option Cataloged → Type 0
ArePlaces s places = (c : Cataloged) → places ≡ Some c → standing.Tells s.world.core c

-- the file's first extent from page p on, by their catalog
abbrev pub IsExtentNow : SoloSeen → ℕ → ℕ → Extent → Type 0
IsExtentNow s f p e = (c : Cataloged) × standing.Tells s.world.core c × IsNext c f p e

-- none, by their catalog
abbrev pub NoExtentNow : SoloSeen → ℕ → ℕ → Type 0
NoExtentNow s f p = (c : Cataloged) × standing.Tells s.world.core c × NoneFrom c.files.spots f p
