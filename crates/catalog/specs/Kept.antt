-- What a catalog keeps.
use Rattle.std.specs.Prelude.{◌≡◌, ℕ, ◌≤◌, ◌^◌, List}
use Rattle.std.specs.FinMap as map
use Rattle.pc_types.specs.Limits.{Sizes}
use Rattle.pc_types.specs.declared.limits.TheConstants.{MAX_PAGE_SIZE, MIN_PAGE_SIZE}
use Rattle.blockmap.specs.Blocks.{Blocks}
use Rattle.catalog.specs.Cataloged.{Cataloged, IsFor}

abbrev pub cataloged : ℕ → ℕ → List ℕ → Blocks → Cataloged
cataloged page count sizes blocks = record { page = page; blocks = count; files = record { sizes = sizes; spots = blocks.spots } }

-- a page size, a device's number of blocks, none of which is held, and files with which a cache may begin
pub record IsKept (page count : ℕ) (sizes : List ℕ) (blocks : Blocks) : Type 0 where
  pub least : MIN_PAGE_SIZE ≤ page
  pub most : page ≤ MAX_PAGE_SIZE
  pub small : count ≤ 2 ^ 32
  pub counted : blocks.count ≡ count
  pub not_held : blocks.held ≡ map.empty
  pub files : (s : Sizes) → IsFor (cataloged page count sizes blocks) s
