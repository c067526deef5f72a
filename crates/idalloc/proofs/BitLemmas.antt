-- Lemmas on words of 32 bits.
use Rattle.std.proofs.Common.{◌≡◌, ◌≢◌, ℕ, ◌+◌, ◌*◌, ◌%◌, ◌-◌, ◌^◌, ◌<◌, ◌≤◌, sym, ap, ◌∙◌, arith, bit_and, w32}
use Rattle.std.specs.Int.{bit_at, bit_not, trailing_zeros, trailing_ones}
use Rattle.std.proofs.lemmas.Nat.Bits.{ones_shl, bit_at_and, bit_at_not, bit_at_ones, bit_at_mask_inside, bit_at_mask_below, bit_at-trailing_zeros, bit_at-trailing_ones, bit_at-zero, bit_at-lt, same_from_bits_below}
use Rattle.std.proofs.Math.Facts.{Fits-and, Fits-lt-pow, Fits-of_lt}
use Rattle.idalloc.specs.Bits.{AllSetFrom, ChangesBit, IsLowestZero}
use Rattle.idalloc.specs.Bitmaps.{full}

-- `!bits & (u32::MAX << from)`
abbrev pub zeros_from : ℕ → ℕ → ℕ
zeros_from bits from = bit_and (bit_not w32 bits) (4294967295 * 2 ^ from % 4294967296)

pub zeros_inside : (bits from i : ℕ) → bits < 2 ^ 32 → from < 32 → from ≤ i → i < 32 → bit_at (zeros_from bits from) i ≡ 1 - bit_at bits i
zeros_inside bits from i fits within above below =
    rw (ones_shl 32 from (omega arith), bit_at_and (bit_not w32 bits) (2 ^ 32 - 2 ^ from) i, bit_at_mask_inside from 32 i above below, bit_at_not w32 bits i fits below) (omega (arith, bit_at-lt bits i))

pub zeros_below : (bits from i : ℕ) → from < 32 → i < from → bit_at (zeros_from bits from) i ≡ 0
zeros_below bits from i within below =
    rw (ones_shl 32 from (omega arith), bit_at_and (bit_not w32 bits) (2 ^ 32 - 2 ^ from) i, bit_at_mask_below from 32 i below) (omega arith)

pub all_set : (bits from : ℕ) → bits < 2 ^ 32 → from < 32 → zeros_from bits from ≡ 0 → AllSetFrom bits from
all_set bits from fits within empty = record {
  each = λ k above below.
      let zero : 1 - bit_at bits k ≡ 0 = sym (zeros_inside bits from k fits within above below) ∙ ap (λ n. bit_at n k) empty ∙ bit_at-zero k in
      omega (arith, zero, bit_at-lt bits k);
}

pub lowest_zero_is : (bits from : ℕ) → bits < 2 ^ 32 → from < 32 → zeros_from bits from < 2 ^ 32 → (zeros_from bits from ≡ 0 → ⊥) → IsLowestZero bits from (trailing_zeros w32 (zeros_from bits from))
lowest_zero_is bits from fits within small some =
    let n : ℕ = zeros_from bits from in
    let place : ℕ = trailing_zeros w32 n in
    let found = bit_at-trailing_zeros w32 n (omega arith) small in
    let not_below : place < from → ⊥ = λ h. let low : bit_at n place ≡ 0 = zeros_below bits from place within h in omega (arith, low, found.1) in
    let above : from ≤ place = omega (arith, not_below) in
    record {
      within = found.0;
      above = above;
      clear = let e : bit_at n place ≡ 1 - bit_at bits place = zeros_inside bits from place fits within above found.0 in omega (arith, e, found.1);
      lowest = λ k low high.
          let zero : bit_at n k ≡ 0 = found.2 k high in
          let e : bit_at n k ≡ 1 - bit_at bits k = zeros_inside bits from k fits within low (omega (arith, found.0)) in
          omega (arith, zero, e, bit_at-lt bits k);
    }

pub first_zero_is : (bits : ℕ) → bits < 2 ^ 32 → (bits ≡ full → ⊥) → IsLowestZero bits 0 (trailing_ones w32 bits)
first_zero_is bits fits not_full =
    let found = bit_at-trailing_ones w32 bits (omega arith) in
    record { within = found.0; above = omega arith; clear = found.1; lowest = λ k _ high. found.2 k high }

-- a word with every bit set is the full one
pub full_from_bits : (bits : ℕ) → bits < 2 ^ 32 → AllSetFrom bits 0 → bits ≡ full
full_from_bits bits fits set = same_from_bits_below 32 bits full fits (omega arith) (λ i below. set.each i (omega arith) below ∙ sym (bit_at_ones 32 i below))

pub full_bits : (k : ℕ) → k < 32 → bit_at full k ≡ 1
full_bits k below = bit_at_ones 32 k below

pub zeros_fit : (bits from : ℕ) → zeros_from bits from < 2 ^ 32
zeros_fit bits from = let small : bit_not w32 bits < 2 ^ 32 = omega arith in Fits-lt-pow {w = w32} (Fits-and {w = w32} {a = bit_not w32 bits} (4294967295 * 2 ^ from % 4294967296) (Fits-of_lt {w = w32} small))

-- a word that gets one bit, or loses one
module _ (bits k : ℕ) (within : k < 32) where
  other_place : ℕ
  other_place = (k + 1) % 32

  is_other : other_place ≢ k
  unfolding other_place
  is_other e = absurd (omega arith)

  other_within : other_place < 32
  unfolding other_place
  other_within = omega arith

  pub one_bit : ChangesBit 0 bits k 1 → bits ≢ full
  one_bit changes e =
      let set : bit_at bits other_place ≡ 1 = ap (λ n. bit_at n other_place) e ∙ full_bits other_place other_within in
      let clear : bit_at bits other_place ≡ 0 = changes.others other_place other_within is_other ∙ bit_at-zero other_place in
      omega (arith, set, clear)

  pub some_left : ChangesBit full bits k 0 → bits ≢ 0
  some_left changes e =
      let clear : bit_at bits other_place ≡ 0 = ap (λ n. bit_at n other_place) e ∙ bit_at-zero other_place in
      let set : bit_at bits other_place ≡ 1 = changes.others other_place other_within is_other ∙ full_bits other_place other_within in
      omega (arith, set, clear)

  pub some_set : (before : ℕ) → ChangesBit before bits k 1 → bits ≢ 0
  some_set before changes e =
      let clear : bit_at bits k ≡ 0 = ap (λ n. bit_at n k) e ∙ bit_at-zero k in
      omega (arith, clear, changes.changed)

  pub not_full : (before : ℕ) → ChangesBit before bits k 0 → bits ≢ full
  not_full before changes e =
      let set : bit_at bits k ≡ 1 = ap (λ n. bit_at n k) e ∙ full_bits k within in
      omega (arith, set, changes.changed)
