-- Pages of a file whose blocks stand side by side, one by one.
use Rattle.std.specs.Prelude.{◌≡◌, ◌≢◌, ℕ, ◌+◌, ◌*◌, ◌<◌, ◌≤◌, ◌==◌, ◌⊎◌, false, if◌then◌else◌, length, Option, Some, None}
use Rattle.std.specs.FinMap as map
use Rattle.pc_types.specs.Spots.{Spot}
use Rattle.blockmap.specs.Blocks.{Blocks, Spots, is_from, is_mapped}
use Rattle.blockmap.specs.Keys.{NoneFrom}
use Rattle.machine.specs.Catalogs.{size_in}
use Rattle.machine.specs.State.{page_count}
use Rattle.catalog.specs.Cataloged.{Cataloged}
use Rattle.catalog.specs.Extents.{spot_number}
use Rattle.catalog.specs.declared.extent.Extent.{Extent}

-- f may have the extent, unless a block of it is a page's
pub record HasRoom (c : Cataloged) (f : ℕ) (e : Extent) : Type 0 where
  pub file : f < length c.files.sizes
  pub some : 0 < e.bytes
  pub in_file : e.first.0 * c.page + e.bytes ≤ size_in c.files f
  pub last : NoneFrom c.files.spots f e.first.0
  pub on_device : e.block.0 + page_count c.page e.bytes ≤ c.blocks

-- the extent's first n pages have their blocks, which no page had
pub record Adopts (P : ℕ) (old new : Blocks) (f : ℕ) (e : Extent) (n : ℕ) : Type 0 where
  pub count : new.count ≡ old.count
  pub held : new.held ≡ old.held
  pub there : (k : ℕ) → k < n → map.get new.spots (f, e.first.0 + k) ≡ Some (spot_number P e k)
  pub others : (g p : ℕ) → (g ≢ f) ⊎ ((p < e.first.0) ⊎ (e.first.0 + n ≤ p)) → map.get new.spots (g, p) ≡ map.get old.spots (g, p)
  pub free : (k : ℕ) → k < n → is_mapped old.spots (e.block.0 + k) ≡ false

-- but for pages of f from p on, all is as it was
pub record SameBefore (old new : Blocks) (f p : ℕ) : Type 0 where
  pub count : new.count ≡ old.count
  pub held : new.held ≡ old.held
  pub spots : (place : ℕ × ℕ) → is_from f p place ≡ false → map.get new.spots place ≡ map.get old.spots place

-- how many bytes of a page are valid that stands on this block, and 0 where it doesn't stand there
abbrev pub valid_on : ℕ → Option Spot → ℕ
valid_on block None = 0
valid_on block (Some spot) = if spot.block == block then spot.valid else 0

-- from page p and block b on, k whole pages stand side by side, and then a page of which so many bytes are valid
pub record IsRow (P : ℕ) (spots : Spots) (f p b k valid : ℕ) : Type 0 where
  pub whole : (j : ℕ) → j < k → map.get spots (f, p + j) ≡ Some (record { block = b + j; valid = P })
  pub rest : valid ≡ valid_on (b + k) (map.get spots (f, p + k))
