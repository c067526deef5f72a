-- What an extent says of a file's pages, and why a catalog doesn't take one.
use Rattle.std.specs.Prelude.{◌≡◌, ℕ, ◌+◌, ◌-◌, ◌*◌, ◌<◌, ◌≤◌, ◌==◌, ◌&&◌, nat_le, nat_lt, Bool, not, if◌then◌else◌, length, min, Option, Some, None}
use Rattle.std.specs.List.{list_any, range_with_len}
use Rattle.std.specs.FinMap as map
use Rattle.pc_types.specs.Spots.{Spot}
use Rattle.blockmap.specs.Blocks.{Spots, is_from, is_mapped}
use Rattle.machine.specs.Catalogs.{size_in}
use Rattle.machine.specs.State.{page_count}
use Rattle.catalog.specs.Cataloged.{Cataloged}
use Rattle.catalog.specs.declared.extent.Extent.{Extent}
use Rattle.catalog.specs.declared.extent.Misfit.{Misfit}
use Rattle.catalog.specs.declared.extent.Misfit.TheVariants.{NoSuchFile, Empty, PastSize, OutOfOrder, PastDevice, BlockTwice}

-- the spot of an extent's page number k, counted from its first, for pages of P bytes
abbrev pub spot_number : ℕ → Extent → ℕ → Spot
spot_number P e k = record { block = e.block.0 + k; valid = min P (e.bytes - k * P) }

-- where an extent has page p
abbrev pub spot_in : ℕ → Extent → ℕ → Option Spot
spot_in P e p =
    let k = p - e.first.0 in
    if nat_le e.first.0 p && nat_lt (k * P) e.bytes then Some (spot_number P e k) else None

abbrev pub or_else : Option Spot → Option Spot → Option Spot
or_else (Some spot) other = Some spot
or_else None other = other

-- file f has the extent as well
pub record Added (old new : Cataloged) (f : ℕ) (e : Extent) : Type 0 where
  pub page : new.page ≡ old.page
  pub blocks : new.blocks ≡ old.blocks
  pub sizes : new.files.sizes ≡ old.files.sizes
  pub spots : (g p : ℕ) → map.get new.files.spots (g, p)
      ≡ or_else (if g == f then spot_in old.page e p else None) (map.get old.files.spots (g, p))

-- whether a page of f from p on has a block
abbrev pub has_from : Spots → ℕ → ℕ → Bool
has_from spots f p = list_any (is_from f p) (map.keys spots)

-- whether one of n blocks from b on is a page's
abbrev pub is_any_mapped : Spots → ℕ → ℕ → Bool
is_any_mapped spots b n = list_any (is_mapped spots) (range_with_len b n)

-- the first reason not to take an extent of f
abbrev pub misfit : Cataloged → ℕ → Extent → Option Misfit
misfit c f e =
    let n = page_count c.page e.bytes in
    if not (nat_lt f (length c.files.sizes)) then Some NoSuchFile
    else if e.bytes == 0 then Some Empty
    else if nat_lt (size_in c.files f) (e.first.0 * c.page + e.bytes) then Some PastSize
    else if has_from c.files.spots f e.first.0 then Some OutOfOrder
    else if nat_lt c.blocks (e.block.0 + n) then Some PastDevice
    else if is_any_mapped c.files.spots e.block.0 n then Some BlockTwice
    else None

-- the file's first extent from page p on, as long as it can be
pub record IsNext (c : Cataloged) (f p : ℕ) (e : Extent) : Type 0 where
  pub low : p ≤ e.first.0
  pub bare : (q : ℕ) → p ≤ q → q < e.first.0 → map.get c.files.spots (f, q) ≡ None
  pub some : 0 < e.bytes
  pub has : (q : ℕ) (spot : Spot) → spot_in c.page e q ≡ Some spot → map.get c.files.spots (f, q) ≡ Some spot
  -- the page after it stands elsewhere, unless the last page is valid in part
  pub ends : (spot : Spot) → let n = page_count c.page e.bytes in
      e.bytes ≡ n * c.page → map.get c.files.spots (f, e.first.0 + n) ≡ Some spot → spot.block ≡ e.block.0 + n → ⊥
