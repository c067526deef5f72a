-- How the lowest unused number is found.
use Rattle.std.proofs.Common.{◌≡◌, ℕ, suc, zero, ◌+◌, ◌-◌, ◌*◌, ◌/◌, ◌%◌, ◌^◌, ◌<◌, ◌≤◌, Bool, true, false, Option, Some, None, is_some, refl, sym, ap, ◌∙◌, arith, inl, inr}
use Rattle.std.specs.Prelude.{◌==◌}
use Rattle.std.specs.Int.{bit_at}
use Rattle.std.specs.Ordering.{nat_cmp}
use Rattle.std.specs.FinMap as map
use Rattle.std.specs.FinSet as set
use Rattle.std.proofs.lemmas.Bool.{cases_eq, cases_lt, eq-eqb, false≢true}
use Rattle.idalloc.specs.Bits.{AllSetFrom, IsLowestZero}
use Rattle.idalloc.specs.Bitmaps.{Bitmaps, full, has_bit, has_number, numbers, IsTidy, NoneOpen, IsLowestOpen}
use Rattle.idalloc.specs.Ids.{AllUsed, IsCyclic, IsLowestUnused}
use Rattle.idalloc.specs.Search.{IsFirstClear, NoneClear}
use Rattle.idalloc.proofs.BitLemmas.{full_bits}
use Rattle.idalloc.proofs.NumberLemmas.{contains-numbers}

-- ---- one bitmap

pub bit_is : (m : Bitmaps) (i bits k : ℕ) → map.get m i ≡ Some bits → k / 32 ≡ i → has_number m k ≡ (bit_at bits (k % 32) == 1)
bit_is m i bits k there at = ap (λ o. has_bit o (k % 32)) (ap (map.get m) at ∙ there)

pub bit_set : (m : Bitmaps) (i bits k : ℕ) → map.get m i ≡ Some bits → k / 32 ≡ i → bit_at bits (k % 32) ≡ 1 → has_number m k ≡ true
bit_set m i bits k there at is = bit_is m i bits k there at ∙ eq-eqb (bit_at bits (k % 32)) 1 is

pub bit_clear : (m : Bitmaps) (i bits k : ℕ) → map.get m i ≡ Some bits → k / 32 ≡ i → bit_at bits (k % 32) ≡ 0 → has_number m k ≡ false
bit_clear m i bits k there at is = bit_is m i bits k there at ∙ ap (λ b. b == 1) is

pub none_clear : (m : Bitmaps) (k : ℕ) → map.get m (k / 32) ≡ None → has_number m k ≡ false
none_clear m k none = ap (λ o. has_bit o (k % 32)) none

pub in_full : (m : Bitmaps) (i k : ℕ) → map.get m i ≡ Some full → k / 32 ≡ i → has_number m k ≡ true
in_full m i k there at = bit_set m i full k there at (full_bits (k % 32) (omega arith))

-- ---- a run of full bitmaps

some_full : (o : Option ℕ) → is_some o ≡ true → ((bits : ℕ) → o ≡ Some bits → bits ≡ full) → o ≡ Some full
some_full None there all = absurd (false≢true there)
some_full (Some bits) there all = ap Some (all bits refl)

-- from one that is there, all are full up to the first that isn't
run_step : (m : Bitmaps) (from to : ℕ) → IsTidy m None → to ≤ 2 ^ 59 → is_some (map.get m from) ≡ true → ((i bits : ℕ) → from ≤ i → i < to → map.get m i ≡ Some bits → bits ≡ full) → (d : ℕ) → from + d < to → map.get m (from + d) ≡ Some full
run_step m from to tidy high there all zero below =
    let same : from + 0 ≡ from = omega arith in
    some_full (map.get m (from + 0)) (ap (λ k. is_some (map.get m k)) same ∙ there) (λ bits is. all (from + 0) bits (omega arith) below is)
run_step m from to tidy high there all (suc d) below =
    let before : map.get m (from + d) ≡ Some full = run_step m from to tidy high there all d (omega arith) in
    let same : from + suc d ≡ (from + d) + 1 = omega arith in
    some_full (map.get m (from + suc d)) (ap (λ k. is_some (map.get m k)) same ∙ tidy.follows (from + d) before (omega arith)) (λ bits is. all (from + suc d) bits (omega arith) below is)

pub run : (m : Bitmaps) (from to : ℕ) → IsTidy m None → to ≤ 2 ^ 59 → is_some (map.get m from) ≡ true → ((i bits : ℕ) → from ≤ i → i < to → map.get m i ≡ Some bits → bits ≡ full) → (k : ℕ) → from ≤ k → k < to → map.get m k ≡ Some full
run m from to tidy high there all k low below =
    let same : from + (k - from) ≡ k = omega arith in
    ap (map.get m) (sym same) ∙ run_step m from to tidy high there all (k - from) (omega arith)

-- ---- after a bitmap without room

pub after_found : (m : Bitmaps) (next last at bits place : ℕ) → IsTidy m None → last < 2 ^ 59 → is_some (map.get m next) ≡ true → IsLowestOpen m next last at bits → IsLowestZero bits 0 place → IsFirstClear m (32 * next) (32 * at + place)
after_found m next last at bits place tidy high there found clear =
    let within : place < 32 = clear.within in
    let low : next ≤ at = found.low in
    let top : at ≤ last = found.high in
    let quotient : (32 * at + place) / 32 ≡ at = omega arith in
    let remainder : (32 * at + place) % 32 ≡ place = omega arith in
    record {
      low = omega arith;
      clear = bit_clear m at bits (32 * at + place) found.there quotient (ap (bit_at bits) remainder ∙ clear.clear);
      lowest = λ k from below. elim (cases_eq (k / 32) at) [
        | inl e ↦ bit_set m at bits k found.there e (clear.lowest (k % 32) (omega arith) (omega arith))
        | inr differs ↦ in_full m (k / 32) k (run m next at tidy (omega arith) there found.lowest (k / 32) (omega arith) (omega arith)) refl
      ];
    }

pub after_none : (m : Bitmaps) (next last : ℕ) → IsTidy m None → last < 2 ^ 59 → is_some (map.get m next) ≡ true → NoneOpen m next last → NoneClear m (32 * next) last
after_none m next last tidy high there none = record {
  each = λ k from below. in_full m (k / 32) k (run m next (last + 1) tidy (omega arith) there (λ i bits low upto. none.each i bits low (omega arith)) (k / 32) (omega arith) (omega arith)) refl;
}

pub after_absent : (m : Bitmaps) (next : ℕ) → map.get m next ≡ None → IsFirstClear m (32 * next) (32 * next)
after_absent m next none =
    let quotient : (32 * next) / 32 ≡ next = omega arith in
    record { low = omega arith; clear = none_clear m (32 * next) (ap (map.get m) quotient ∙ none); lowest = λ k low high. absurd (omega arith) }

-- behind a full bitmap, which is not the last, there is another
pub behind_full : (m : Bitmaps) (index bits : ℕ) → IsTidy m None → map.get m index ≡ Some bits → bits ≡ full → index + 1 < 2 ^ 59 → is_some (map.get m (index + 1)) ≡ true
behind_full m index bits tidy there is below = tidy.follows index (there ∙ ap Some is) below

-- ---- from a number on

pub first_absent : (m : Bitmaps) (from : ℕ) → map.get m (from / 32) ≡ None → IsFirstClear m from from
first_absent m from none = record { low = omega arith; clear = none_clear m from none; lowest = λ k low high. absurd (omega arith) }

pub first_here : (m : Bitmaps) (from bits place : ℕ) → map.get m (from / 32) ≡ Some bits → IsLowestZero bits (from % 32) place → IsFirstClear m from (32 * (from / 32) + place)
first_here m from bits place there clear =
    let within : place < 32 = clear.within in
    let above : from % 32 ≤ place = clear.above in
    let index : ℕ = from / 32 in
    let quotient : (32 * (from / 32) + place) / 32 ≡ from / 32 = omega arith in
    let remainder : (32 * (from / 32) + place) % 32 ≡ place = omega arith in
    record {
      low = omega arith;
      clear = bit_clear m (from / 32) bits (32 * (from / 32) + place) there quotient (ap (bit_at bits) remainder ∙ clear.clear);
      lowest = λ k low high. bit_set m (from / 32) bits k there (omega arith) (clear.lowest (k % 32) (omega arith) (omega arith));
    }

-- the rest of the first bitmap is set
rest_set : (m : Bitmaps) (from bits : ℕ) → map.get m (from / 32) ≡ Some bits → AllSetFrom bits (from % 32) → (k : ℕ) → from ≤ k → k < 32 * (from / 32 + 1) → has_number m k ≡ true
rest_set m from bits there set k low high = bit_set m (from / 32) bits k there (omega arith) (set.each (k % 32) (omega arith) (omega arith))

pub first_after : (m : Bitmaps) (from bits n : ℕ) → map.get m (from / 32) ≡ Some bits → AllSetFrom bits (from % 32) → IsFirstClear m (32 * (from / 32 + 1)) n → IsFirstClear m from n
first_after m from bits n there set later =
    let low : 32 * (from / 32 + 1) ≤ n = later.low in
    record {
      low = omega arith;
      clear = later.clear;
      lowest = λ k above below. elim (cases_lt k (32 * (from / 32 + 1))) [
        | inl before ↦ rest_set m from bits there set k above before
        | inr behind ↦ later.lowest k behind below
      ];
    }

pub none_after : (m : Bitmaps) (from bits last : ℕ) → map.get m (from / 32) ≡ Some bits → AllSetFrom bits (from % 32) → NoneClear m (32 * (from / 32 + 1)) last → NoneClear m from last
none_after m from bits last there set later = record {
  each = λ k above upto. elim (cases_lt k (32 * (from / 32 + 1))) [
    | inl before ↦ rest_set m from bits there set k above before
    | inr behind ↦ later.each k behind upto
  ];
}

pub none_here : (m : Bitmaps) (from bits last : ℕ) → map.get m (from / 32) ≡ Some bits → AllSetFrom bits (from % 32) → from / 32 ≡ last → NoneClear m from last
none_here m from bits last there set is_last = record { each = λ k above upto. rest_set m from bits there set k above (omega arith) }

-- ---- as a set

pub lowest_from_clear : (m : Bitmaps) (from to n : ℕ) → IsFirstClear m from n → n ≤ to → IsLowestUnused (numbers m) from to n
lowest_from_clear m from to n first high = record {
  low = first.low;
  high = high;
  unused = contains-numbers m n ∙ first.clear;
  lowest = λ k above below. contains-numbers m k ∙ first.lowest k above below;
}

pub used_below : (m : Bitmaps) (from to n : ℕ) → IsFirstClear m from n → to < n → AllUsed (numbers m) from to
used_below m from to n first high = record { each = λ k above upto. contains-numbers m k ∙ first.lowest k above (omega arith) }

pub used_up_to : (m : Bitmaps) (from to : ℕ) → NoneClear m from (to / 32) → AllUsed (numbers m) from to
used_up_to m from to none = record { each = λ k above upto. contains-numbers m k ∙ none.each k above (omega arith) }

pub cyclic_unused : (used : set.FinSet nat_cmp) (next from to n : ℕ) (wrapped : Bool) → IsCyclic used next from to (n, wrapped) → set.contains used n ≡ false
cyclic_unused used next from to n true h = h.1.unused
cyclic_unused used next from to n false h = h.unused
