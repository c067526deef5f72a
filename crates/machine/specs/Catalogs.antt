-- Files that stand on a device already, as the extents of a file system say: what a cache may begin with.
use Rattle.std.specs.Prelude.{◌≡◌, ℕ, ◌+◌, ◌-◌, ◌*◌, ◌<◌, ◌≤◌, List, [], length, map, Some, min, slice_index}
use Rattle.std.specs.FinMap as finmap
use Rattle.pc_types.specs.declared.limits.TheConstants.{MAX_FILES, MAX_FILE_SIZE}
use Rattle.pc_types.specs.Limits.{Sizes}
use Rattle.pc_types.specs.Spots.{Spot, place_cmp}
use Rattle.maps.specs.Maps.{each_value}
use Rattle.machine.specs.State.{State, no_file, file_at}

-- the files' sizes in bytes, and their pages' spots. A page without a spot is a hole, and reads as zeros
pub record Catalog : Type 0 where
  pub sizes : List ℕ
  pub spots : finmap.FinMap place_cmp Spot

abbrev pub no_catalog : Catalog
no_catalog = record { sizes = []; spots = finmap.empty }

-- how many bytes file f has, and none past the last file
abbrev pub size_in : Catalog → ℕ → ℕ
size_in catalog f = slice_index catalog.sizes f

-- a spot of page p, of a file with z bytes. Any page may have fewer valid bytes than a page, and not the last one alone:
-- a file that grows by a truncation keeps its old last page's block as it is
pub record IsAdoptable (sizes : Sizes) (z p : ℕ) (spot : Spot) : Type 0 where
  pub on_device : spot.block < sizes.blocks
  -- a page has no block without a valid byte: it is a hole then
  pub some : 0 < spot.valid
  pub in_page : spot.valid ≤ sizes.page
  -- past the file's end a page has zeros, and so no byte of the block
  pub in_file : p * sizes.page + spot.valid ≤ z

-- a cache of these sizes may begin so
pub record IsCatalog (sizes : Sizes) (catalog : Catalog) : Type 0 where
  pub count : length catalog.sizes ≤ MAX_FILES
  pub file_sizes : (f : ℕ) → size_in catalog f ≤ MAX_FILE_SIZE
  pub spots : (f p : ℕ) (spot : Spot) → finmap.get catalog.spots (f, p) ≡ Some spot
      → IsAdoptable sizes (size_in catalog f) p spot
  -- no block is of two pages
  pub apart : (f p g q : ℕ) (x y : Spot) → finmap.get catalog.spots (f, p) ≡ Some x
      → finmap.get catalog.spots (g, q) ≡ Some y → x.block ≡ y.block → (f ≡ g) × (p ≡ q)

-- a cache with the catalog's files, of which no page is cached
abbrev pub adopted : Sizes → ℕ → Catalog → State
adopted sizes name catalog =
    record {
      sizes = sizes;
      name = name;
      files = map (λ z. record no_file { size = z }) catalog.sizes;
      handles = finmap.empty;
      spots = catalog.spots;
      next = 0;
      requests = finmap.empty;
      syncs = finmap.empty;
    }

-- the catalog of a cache's files, for a cache that begins later. Of a block no more bytes are valid than the file has there
abbrev pub catalog_of : State → Catalog
catalog_of s =
    record {
      sizes = map (λ file. file.size) s.files;
      spots = each_value (λ k spot. record spot { valid = min spot.valid ((file_at s k.0).size - k.1 * s.sizes.page) })
          s.spots;
    }
