-- What is told of where the files stand on the device.
use Rattle.std.specs.Prelude.{◌≡◌, ℕ, ◌-◌, ◌*◌, ◌<◌, ◌≤◌, ◌==◌, ◌&&◌, if◌then◌else◌, ◌++◌, ◌∷◌, [], List, length, min, take, nat_lt, map as map_list, Option, Some, None, option_map, Result, Ok, Err}
use Rattle.std.specs.FinMap as map
use Rattle.std.specs.FinSet as set
use Rattle.pc_types.specs.Spots.{Spot}
use Rattle.pc_types.specs.Limits.{Sizes}
use Rattle.pc_types.specs.declared.refusal.Refusal.{Refusal}
use Rattle.pc_types.specs.declared.refusal.Refusal.TheVariants.{NoSuchFile}
use Rattle.blockmap.specs.Told.{told}
use Rattle.blockmap.specs.declared.spots.Placed.{Placed}
use Rattle.catalog.specs.Cataloged.{Cataloged}
use Rattle.machine.specs.PageLists.{no_lists}
use Rattle.machine.specs.State.{State, file_at, no_file, spot_at}
use Rattle.pagestore.specs.Store.{Store}

-- where page p of file f stands
abbrev pub SpotIs : State → ℕ → ℕ → Result (Option Placed) Refusal → Type 0
SpotIs s f p (Err r) = (r ≡ NoSuchFile) × (length s.files ≤ f)
SpotIs s f p (Ok placed) = (f < length s.files) × (placed ≡ option_map told (spot_at s f p))

-- a spot without a valid byte is none: its page is a hole
abbrev pub if_valid : Option Spot → Option Spot
if_valid None = None
if_valid (Some spot) = if spot.valid == 0 then None else Some spot

-- a spot of page p of f, with its valid bytes that are the page's and the file's
abbrev pub trimmed : State → ℕ → ℕ → Spot → Spot
trimmed s f p spot =
    record spot { valid = min spot.valid (min ((file_at s f).size - p * s.sizes.page) s.sizes.page) }

-- where page p of f stands, for a cache that begins later
abbrev pub kept_spot : State → ℕ → ℕ → Option Spot
kept_spot s f p = if_valid (option_map (trimmed s f p) (spot_at s f p))

-- the catalog of the cache's files
pub record Tells (s : State) (c : Cataloged) : Type 0 where
  pub page : c.page ≡ s.sizes.page
  pub blocks : c.blocks ≡ s.sizes.blocks
  pub sizes : c.files.sizes ≡ map_list (λ file. file.size) s.files
  pub spots : (f p : ℕ) → f < length s.files → map.get c.files.spots (f, p) ≡ kept_spot s f p
  pub others : (f p : ℕ) → length s.files ≤ f → map.get c.files.spots (f, p) ≡ None

-- ---- inside this crate: on the way to it

-- a store with files of these sizes, of which no page is cached
abbrev pub store_over : Sizes → List ℕ → Store
store_over sizes files =
    record {
      page = sizes.page;
      files = map_list (λ z. record no_file { size = z }) files;
      filling = set.empty;
      free = sizes.frames;
      lists = no_lists;
    }

-- one page more
pub record TellsPage (s : State) (f p : ℕ) (old new : Cataloged) : Type 0 where
  pub page : new.page ≡ old.page
  pub blocks : new.blocks ≡ old.blocks
  pub sizes : new.files.sizes ≡ old.files.sizes
  pub spots : (g q : ℕ) → map.get new.files.spots (g, q)
      ≡ (if g == f && q == p then kept_spot s f p else map.get old.files.spots (g, q))

-- one file more, and its pages below n
pub record TellsPages (s : State) (f n : ℕ) (old new : Cataloged) : Type 0 where
  pub page : new.page ≡ old.page
  pub blocks : new.blocks ≡ old.blocks
  pub sizes : new.files.sizes ≡ old.files.sizes ++ (file_at s f).size ∷ []
  pub spots : (g q : ℕ) → map.get new.files.spots (g, q)
      ≡ (if g == f && nat_lt q n then kept_spot s f q else map.get old.files.spots (g, q))

-- one file more
pub record TellsFile (s : State) (f : ℕ) (old new : Cataloged) : Type 0 where
  pub page : new.page ≡ old.page
  pub blocks : new.blocks ≡ old.blocks
  pub sizes : new.files.sizes ≡ old.files.sizes ++ (file_at s f).size ∷ []
  pub spots : (g q : ℕ) → map.get new.files.spots (g, q)
      ≡ (if g == f then kept_spot s f q else map.get old.files.spots (g, q))

-- the files below n
pub record TellsBefore (s : State) (n : ℕ) (c : Cataloged) : Type 0 where
  pub page : c.page ≡ s.sizes.page
  pub blocks : c.blocks ≡ s.sizes.blocks
  pub few : n ≤ length s.files
  pub sizes : c.files.sizes ≡ map_list (λ file. file.size) (take n s.files)
  pub spots : (g q : ℕ) → map.get c.files.spots (g, q) ≡ (if nat_lt g n then kept_spot s g q else None)
