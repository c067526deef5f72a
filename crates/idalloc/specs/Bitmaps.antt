-- The used numbers as bitmaps: bit k of the bitmap at index i is set where number 32 i + k is used.
use Rattle.std.specs.Prelude.{◌≡◌, ◌≢◌, ℕ, ◌+◌, ◌*◌, ◌/◌, ◌%◌, ◌^◌, ◌<◌, ◌≤◌, ◌==◌, Bool, true, false, filter, flat_map, Option, Some, None, is_some}
use Rattle.std.specs.Int.{bit_at}
use Rattle.std.specs.List.{range_with_len}
use Rattle.std.specs.Ordering.{nat_cmp}
use Rattle.std.specs.FinMap as map
use Rattle.std.specs.FinSet as set

-- a bitmap of 32 bits for each index that has one
abbrev pub Bitmaps : Type 0
Bitmaps = map.FinMap nat_cmp ℕ

-- a bitmap with every bit set
abbrev pub full : ℕ
full = 4294967295

abbrev pub has_bit : Option ℕ → ℕ → Bool
has_bit None k = false
has_bit (Some bits) k = bit_at bits k == 1

abbrev pub has_number : Bitmaps → ℕ → Bool
has_number m n = has_bit (map.get m (n / 32)) (n % 32)

-- the numbers whose bit is set
abbrev pub numbers : Bitmaps → set.FinSet nat_cmp
numbers m = set.from_list (filter (has_number m) (flat_map (λ i. range_with_len (32 * i) 32) (map.keys m)))

-- a full bitmap stands before this index
pub record FollowsFull (m : Bitmaps) (index : ℕ) : Type 0 where
  pub before : ℕ
  pub next : index ≡ before + 1
  pub is_full : map.get m before ≡ Some full

-- Behind a full bitmap there is another, unless it is the last: so the lowest bitmap with room after a full one is the
-- lowest that is marked so. An empty bitmap stands only there, except at the index `but`.
pub record IsTidy (m : Bitmaps) (but : Option ℕ) : Type 0 where
  pub follows : (i : ℕ) → map.get m i ≡ Some full → i + 1 < 2 ^ 59 → is_some (map.get m (i + 1)) ≡ true
  pub empty : (i : ℕ) → map.get m i ≡ Some 0 → but ≢ Some i → FollowsFull m i

-- no bitmap from `from` to `to` has room
pub record NoneOpen (m : Bitmaps) (from to : ℕ) : Type 0 where
  pub each : (i bits : ℕ) → from ≤ i → i ≤ to → map.get m i ≡ Some bits → bits ≡ full

-- the lowest bitmap with room from `from` to `to`, and its index
pub record IsLowestOpen (m : Bitmaps) (from to index bits : ℕ) : Type 0 where
  pub low : from ≤ index
  pub high : index ≤ to
  pub there : map.get m index ≡ Some bits
  pub is_open : bits ≢ full
  pub lowest : (i other : ℕ) → from ≤ i → i < index → map.get m i ≡ Some other → other ≡ full

-- A bitmap stands behind the index now, unless it is the last. Only that one may be new, without numbers.
pub record OpensBehind (old new : Bitmaps) (index : ℕ) : Type 0 where
  pub tidy : IsTidy new (Some (index + 1))
  pub behind : index + 1 < 2 ^ 59 → is_some (map.get new (index + 1)) ≡ true
  pub same : (q : ℕ) → has_number new q ≡ has_number old q
  pub here : map.get new index ≡ map.get old index
