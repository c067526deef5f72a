-- A set of numbers: a bit a number, a bit for each word of these, a bit for each word of those.
use Rattle.std.specs.Prelude.{◌≡◌, ℕ, ◌+◌, ◌*◌, ◌/◌, ◌%◌, ◌<◌, ◌≤◌, ◌==◌, Bool, true, false, List, length, map, slice_index, slice_index_or, count_by, min}
use Rattle.std.specs.Int.{bit_at}
use Rattle.std.specs.List.{range_with_len}

-- bit b of word j
abbrev pub bit_in : List ℕ → ℕ → ℕ → ℕ
bit_in words j b = bit_at (slice_index words j) b

-- whether each of `count` numbers is in it
abbrev pub flags : ℕ → List ℕ → List Bool
flags count low = map (λ k. bit_in low (k / 64) (k % 64) == 1) (range_with_len 0 count)

abbrev pub is_in : List Bool → ℕ → Bool
is_in set k = slice_index_or set k false

-- how many there are
abbrev pub members : List Bool → ℕ
members set = count_by (λ b. b) set

-- a bit above is set exactly where its word below is not 0
pub record Sums (above below : List ℕ) : Type 0 where
  pub each : (j b : ℕ) → b < 64 → bit_in above j b ≡ min (slice_index below (j * 64 + b)) 1

-- three levels of bits over `count` numbers, of which the set has `size`
pub record IsLeveled (count : ℕ) (low mid : List ℕ) (top size : ℕ) : Type 0 where
  pub low_sums : Sums mid low
  pub top_sums : (b : ℕ) → b < 64 → bit_at top b ≡ min (slice_index mid b) 1
  pub numbers : count ≤ length low * 64
  pub words : length low ≤ length mid * 64
  pub tops : length mid ≤ 64
  -- no bit past the last number
  pub past : (j b : ℕ) → b < 64 → count ≤ j * 64 + b → bit_in low j b ≡ 0
  pub counted : size ≡ members (flags count low)

-- the least member
pub record IsLeast (set : List Bool) (k : ℕ) : Type 0 where
  pub within : k < length set
  pub here : is_in set k ≡ true
  pub lower : (g : ℕ) → g < k → is_in set g ≡ false
