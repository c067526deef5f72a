-- How the parts of a block map agree.
use Rattle.std.specs.Prelude.{◌≡◌, ℕ, ◌<◌, ◌≤◌, ◌⊎◌, ◌^◌, ◌||◌, Bool, true, not, length, filter, Some}
use Rattle.std.specs.List.{range_with_len}
use Rattle.std.specs.Ordering.{nat_cmp}
use Rattle.std.specs.FinMap as map
use Rattle.std.specs.FinSet as set
use Rattle.blockmap.specs.Blocks.{Spots, has_block, is_mapped}

-- how many of the blocks are not used
abbrev pub unused : set.FinSet nat_cmp → ℕ → ℕ
unused used count = length (filter (λ b. not (set.contains used b)) (range_with_len 0 count))

-- a number that is used, or not below `count`
abbrev pub IsUsedOrPast : set.FinSet nat_cmp → ℕ → ℕ → Type 0
IsUsedOrPast used count block = (count ≤ block) ⊎ (set.contains used block ≡ true)

-- the blocks in use, of `count` blocks, are those that a page has or that are held, and `free` are not in use
pub record IsBalanced (count free : ℕ) (spots : Spots) (used : set.FinSet nat_cmp) (held : map.FinMap nat_cmp Bool) : Type 0 where
  pub some : 0 < count
  pub small : count ≤ 2 ^ 32
  pub free_is : free ≡ unused used count
  pub used_is : (b : ℕ) → set.contains used b ≡ (is_mapped spots b || map.contains_key held b)
  pub within : (b : ℕ) → set.contains used b ≡ true → b < count
  -- no two pages have one block
  pub alone : (p q : ℕ × ℕ) (b : ℕ) → has_block (map.get spots p) b ≡ true → has_block (map.get spots q) b ≡ true → p ≡ q
  -- a held block is cut exactly where no page has it any more
  pub cut : (b : ℕ) (is_cut : Bool) → map.get held b ≡ Some is_cut → is_cut ≡ not (is_mapped spots b)
