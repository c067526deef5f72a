-- Where the pages' blocks are kept: in an array, by the file's number times 2 ^ bits plus the page's.
use Rattle.std.specs.Prelude.{◌≡◌, ℕ, ◌+◌, ◌-◌, ◌*◌, ◌/◌, ◌%◌, ◌^◌, ◌<◌, ◌≤◌, ◌⊎◌, Some, None, is_some, true, map as map_list}
use Rattle.std.specs.FinMap as map
use Rattle.pc_types.specs.Spots.{Spot}
use Rattle.xarray.specs.MarkedArray.{Range, Ranges}
use Rattle.xarray.proofs.Singles.{AllSingle}
use Rattle.blockmap.specs.Blocks.{Spots}

-- how many bits of a key are the page's: whole levels of the array's tree, of six bits each
pub record IsWidth (bits : ℕ) : Type 0 where
  pub least : 18 ≤ bits
  pub most : bits ≤ 36
  pub levels : bits % 6 ≡ 0

-- the least width with room for the page
pub record IsLeastWidth (bits page : ℕ) : Type 0 where
  pub room : page < 2 ^ bits
  pub least : (bits ≡ 18) ⊎ (2 ^ (bits - 6) ≤ page)

abbrev pub key_of : ℕ → ℕ × ℕ → ℕ
key_of bits place = place.0 * 2 ^ bits + place.1

abbrev pub place_of : ℕ → ℕ → ℕ × ℕ
place_of bits key = (key / 2 ^ bits, key % 2 ^ bits)

-- an entry's value: the block's number times 2 ^ 13, and how many of its bytes are the page's
abbrev pub spot_of : ℕ → Spot
spot_of word = record { block = word / 8192; valid = word % 8192 }

abbrev pub spots : ℕ → Ranges → Spots
spots bits m = map.from_entries (map_list (λ e. (place_of bits e.0, spot_of e.1.value)) (map.entries m))

-- each entry has one index, which is a key of a file below 64, and a block below 2 ^ 32
pub record AreSpots (bits : ℕ) (m : Ranges) : Type 0 where
  pub single : AllSingle m
  pub within : (key : ℕ) (r : Range) → map.get m key ≡ Some r → key < 64 * 2 ^ bits
  pub fits : (key : ℕ) (r : Range) → map.get m key ≡ Some r → r.value < 2 ^ 45

-- a page of a file, within the limits of both
pub record IsPage (f p : ℕ) : Type 0 where
  pub file : f < 64
  pub page : p < 2 ^ 36

-- this page of the file has a block, and is not before `from`
pub record IsPageFrom (m : Spots) (file from page : ℕ) : Type 0 where
  pub within : page < 2 ^ 36
  pub low : from ≤ page
  pub there : is_some (map.get m (file, page)) ≡ true

-- the file's first page that has a block, not before `from`
pub record IsFirstFrom (m : Spots) (file from page : ℕ) : Type 0 where
  pub is : IsPageFrom m file from page
  pub bare : (q : ℕ) → from ≤ q → q < page → map.get m (file, q) ≡ None

-- no page of the file from this one on has a block
pub record NoneFrom (m : Spots) (file from : ℕ) : Type 0 where
  pub each : (page : ℕ) → from ≤ page → map.get m (file, page) ≡ None
