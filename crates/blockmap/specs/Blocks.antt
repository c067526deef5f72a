-- Which blocks of a device the pages of files have, and which of them requests in flight hold.
use Rattle.std.specs.Prelude.{◌≡◌, ℕ, ◌<◌, ◌≤◌, ◌⊎◌, ◌==◌, ◌&&◌, ◌||◌, nat_le, Bool, true, false, not, List, filter, Option, Some, None, option_map, if◌then◌else◌}
use Rattle.std.specs.List.{list_any, range_with_len}
use Rattle.std.specs.Ordering.{nat_cmp}
use Rattle.std.specs.Coded.{Coded, coded_ℕ, coded_bool, coded×, code_by}
use Rattle.std.specs.FinMap as map
use Rattle.pc_types.specs.Spots.{Spot, place_cmp, spot_code}
use Rattle.pc_types.specs.declared.refusal.Refusal.{Refusal}
use Rattle.pc_types.specs.declared.refusal.Refusal.TheVariants.{Memory, NoSpace}
use mathlib.Core.Path.{refl}

-- where the pages stand, by file and page
abbrev pub Spots : Type 0
Spots = map.FinMap place_cmp Spot

-- the blocks of a device, how many there are; where the pages stand; and the held blocks, each with whether its page was
-- cut off since
pub record Blocks : Type 0 where
  pub count : ℕ
  pub spots : Spots
  pub held : map.FinMap nat_cmp Bool

abbrev pub place_code : Coded (ℕ × ℕ)
place_code = coded× coded_ℕ coded_ℕ

abbrev pub blocks_code : Coded Blocks
blocks_code =
    code_by (ℕ × (Spots × map.FinMap nat_cmp Bool)) (coded× coded_ℕ (coded× (map.code place_code spot_code) (map.code coded_ℕ coded_bool)))
    (λ b. (b.count, (b.spots, b.held))) (λ p. record { count = p.0; spots = p.1.0; held = p.1.1 }) (λ _. refl)

abbrev pub has_block : Option Spot → ℕ → Bool
has_block None block = false
has_block (Some spot) block = spot.block == block

-- whether some page has the block
abbrev pub is_mapped : Spots → ℕ → Bool
is_mapped spots block = list_any (λ place. has_block (map.get spots place) block) (map.keys spots)

-- a block is free where no page has it and it is not held
abbrev pub is_free : Blocks → ℕ → Bool
is_free b block = not (is_mapped b.spots block || map.contains_key b.held block)

-- the free blocks, the lowest first
abbrev pub free_blocks : Blocks → List ℕ
free_blocks b = filter (is_free b) (range_with_len 0 b.count)

pub record IsLowestFree (b : Blocks) (block : ℕ) : Type 0 where
  pub within : block < b.count
  pub free : is_free b block ≡ true
  pub lowest : (k : ℕ) → k < block → is_free b k ≡ false

-- a page of the file, this one or a later one
abbrev pub is_from : ℕ → ℕ → ℕ × ℕ → Bool
is_from file page place = place.0 == file && nat_le page place.1

-- whether one of these pages has the block
abbrev pub is_cut : Spots → ℕ → ℕ → ℕ → Bool
is_cut spots file page block = list_any (λ place. is_from file page place && has_block (map.get spots place) block) (map.keys spots)

-- The pages of a file from this one on have no block any more, and a block of theirs that is held is cut.
pub record CutsFrom (old new : Blocks) (file page : ℕ) : Type 0 where
  pub count : new.count ≡ old.count
  pub spots : (place : ℕ × ℕ) → map.get new.spots place ≡ (if is_from file page place then None else map.get old.spots place)
  pub held : (block : ℕ) → map.get new.held block ≡ option_map (λ was. was || is_cut old.spots file page block) (map.get old.held block)

-- the block is not to be had: it is not free, or none of the device's
abbrev pub IsTaken : Blocks → ℕ → Type 0
IsTaken b block = (b.count ≤ block) ⊎ (is_free b block ≡ false)

-- no block is free
pub record AllTaken (b : Blocks) : Type 0 where
  pub each : (k : ℕ) → k < b.count → is_free b k ≡ false

-- What is always so: a block that a page has or that is held is one of the device's; no two pages have one block; and a
-- held block is cut exactly where no page has it any more.
pub record IsBlockMap (b : Blocks) : Type 0 where
  pub within : (block : ℕ) → is_free b block ≡ false → block < b.count
  pub alone : (p q : ℕ × ℕ) (block : ℕ) → has_block (map.get b.spots p) block ≡ true → has_block (map.get b.spots q) block ≡ true → p ≡ q
  pub cut : (block : ℕ) (is_cut : Bool) → map.get b.held block ≡ Some is_cut → is_cut ≡ not (is_mapped b.spots block)

-- so many bytes of the page's block are the page's, if it has a block
abbrev pub with_valid : ℕ → Option Spot → ℕ × ℕ → Spots → Spots
with_valid valid None place spots = spots
with_valid valid (Some spot) place spots = map.insert spots place (record { block = spot.block; valid = valid })

-- one page has no block any more; where its block is held, that is cut
abbrev pub cut_held : Option Spot → map.FinMap nat_cmp Bool → map.FinMap nat_cmp Bool
cut_held None held = held
cut_held (Some spot) held = if map.contains_key held spot.block then map.insert held spot.block true else held

abbrev pub cut_one : Blocks → ℕ × ℕ → Blocks
cut_one b place = record b { spots = map.remove b.spots place; held = cut_held (map.get b.spots place) b.held }

-- why a call that gives out a block is refused
abbrev pub IsNoSpaceOrMemory : Refusal → Type 0
IsNoSpaceOrMemory NoSpace = Unit {0}
IsNoSpaceOrMemory Memory = Unit {0}
IsNoSpaceOrMemory _ = ⊥
