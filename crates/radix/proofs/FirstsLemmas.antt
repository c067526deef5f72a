-- Lemmas on the bits of the first slots of entries.
use Rattle.std.proofs.Common.{◌≡◌, ◌≢◌, ℕ, zero, suc, ◌+◌, ◌-◌, ◌*◌, ◌/◌, ◌%◌, ◌^◌, ◌<◌, ◌≤◌, ◌&&◌, Bool, true, false, cond, if◌then◌else◌, eqb, eqb-true, min, max, refl, sym, ap, ◌∙◌, inl, inr, arith, bit_and, bit_or}
use Rattle.std.specs.Int.{bit_at}
use Rattle.std.proofs.lemmas.Bool.{cases_eq, cases_lt, and_parts, cond-true, cond-false, false_from_ne_true}
use Rattle.std.proofs.lemmas.Nat.{and_le_r, le_or_l, shl_whole}
use Rattle.std.proofs.lemmas.Nat.Bits.{bit_at-zero, bit_at-lt, bit_at_and, bit_at_or, bit_at_ones, bit_at_ones_above, bit_at_cat_low, bit_at_cat_high, ones_shr}
use Rattle.radix.specs.Parts.{AreFirsts}

-- ---- a table of bits

abbrev pub checks : (ℕ → Bool) → ℕ → Bool
checks p zero = true
checks p (suc n) = p n && checks p n

checks-at : (p : ℕ → Bool) (n j : ℕ) → checks p n ≡ true → j < n → p j ≡ true
checks-at p zero j all low = absurd (omega (arith, low))
checks-at p (suc n) j all low =
    let parts = and_parts (p n) (checks p n) all in
    elim (cases_eq j n) [ inl e ↦ ap p e ∙ parts.0 | inr differs ↦ checks-at p n j parts.1 (omega (arith, low, differs)) ]

abbrev pub is_first : ℕ → ℕ → ℕ → Bool
is_first firsts step j = eqb (bit_at firsts j) (cond (eqb (j % 2 ^ step) 0) 1 0)

pub firsts-from : (firsts step : ℕ) → checks (is_first firsts step) 64 ≡ true → AreFirsts firsts 0 64 step
firsts-from firsts step all = record {
  inside = λ j low. let e : 0 + j ≡ j = omega arith in ap (bit_at firsts) e ∙ eqb-true (bit_at firsts j) (cond (eqb (j % 2 ^ step) 0) 1 0) (checks-at (is_first firsts step) 64 j all low);
  outside = λ o within apart. absurd (apart (omega arith) (omega (arith, within)));
}

-- ---- those of a run of slots

module _ (all at count step : ℕ) (some : 0 < count) (within : at + count ≤ 64) (lowest : AreFirsts all 0 64 step) where
  abbrev kept : ℕ
  kept = bit_and all (2 ^ count - 1)

  positive : (k : ℕ) → 0 < 2 ^ k
  positive zero = omega arith
  positive (suc k) = omega (arith, positive k)

  small : kept < 2 ^ count
  small = let e = and_le_r all (2 ^ count - 1) in omega (arith, e, positive count)

  mask : 18446744073709551615 / 2 ^ (64 - count) ≡ 2 ^ count - 1
  mask = let e : 64 - (64 - count) ≡ count = omega (arith, within) in ones_shr 64 (64 - count) (omega arith) ∙ ap (λ z. 2 ^ z - 1) e

  plus_none : kept * 2 ^ at ≡ kept * 2 ^ at + 0
  plus_none = omega arith

  low_bit : (o : ℕ) → o < at → bit_at (kept * 2 ^ at) o ≡ 0
  low_bit o below = ap (λ z. bit_at z o) plus_none ∙ bit_at_cat_low kept at 0 o below ∙ bit_at-zero o

  high_bit : (j : ℕ) → bit_at (kept * 2 ^ at) (at + j) ≡ min (bit_at all j) (bit_at (2 ^ count - 1) j)
  high_bit j =
      let e : at + j - at ≡ j = omega arith in
      ap (λ z. bit_at z (at + j)) plus_none ∙ bit_at_cat_high kept at 0 (at + j) (positive at) (omega arith) ∙ ap (bit_at kept) e ∙ bit_at_and all (2 ^ count - 1) j

  runs : AreFirsts (kept * 2 ^ at) at count step
  runs = record {
    inside = λ j low.
        let one = bit_at_ones count j low in
        let bit = bit_at-lt all j in
        let e : min (bit_at all j) (bit_at (2 ^ count - 1) j) ≡ bit_at all j = omega (arith, one, bit) in
        let f : j ≡ 0 + j = omega arith in
        high_bit j ∙ e ∙ ap (bit_at all) f ∙ lowest.inside j (omega (arith, low, within));
    outside = λ o below apart. elim (cases_lt o at) [
      | inl under ↦ low_bit o under
      | inr over ↦
          let e : o ≡ at + (o - at) = omega (arith, over) in
          let past : count ≤ o - at = elim (cases_lt o (at + count)) [ inl in_run ↦ absurd (apart over in_run) | inr past ↦ omega (arith, past) ] in
          let none = bit_at_ones_above count (o - at) past in
          let bit = bit_at-lt all (o - at) in
          let f : min (bit_at all (o - at)) (bit_at (2 ^ count - 1) (o - at)) ≡ 0 = omega (arith, none, bit) in
          ap (bit_at (kept * 2 ^ at)) e ∙ high_bit (o - at) ∙ f
    ];
  }

  pub firsts-of_run : AreFirsts (bit_and all (18446744073709551615 / 2 ^ (64 - count)) * 2 ^ at % 18446744073709551616) at count step
  firsts-of_run =
      let e : bit_and all (18446744073709551615 / 2 ^ (64 - count)) * 2 ^ at % 18446744073709551616 ≡ kept * 2 ^ at =
      ap (λ z. bit_and all z * 2 ^ at % 18446744073709551616) mask ∙ shl_whole kept count at 64 small (omega (arith, within)) in
      rw e runs

-- ---- the bits of a mark

-- the first slot's bit stands at the other first slots too
module _ (b firsts w at count step : ℕ) (some : 0 < count) (within : at + count ≤ 64) (are : AreFirsts firsts at count step) (quiet : (j : ℕ) → 0 < j → j < count → bit_at b (at + j) ≡ 0) (is : w ≡ (if eqb (bit_at b at) 1 then bit_or b firsts else b)) where
  first_bit : bit_at firsts at ≡ 1
  first_bit =
      let e : at ≡ at + 0 = omega arith in
      let none : 0 % 2 ^ step ≡ 0 = omega arith in
      ap (bit_at firsts) e ∙ are.inside 0 some ∙ ap {B = ℕ} (λ z. cond (eqb z 0) 1 0) none

  hit_is : bit_at b at ≡ 1 → w ≡ bit_or b firsts
  hit_is one = is ∙ cond-true (eqb (bit_at b at) 1) (bit_or b firsts) b (rw one refl)

  miss_is : bit_at b at ≢ 1 → w ≡ b
  miss_is none = is ∙ cond-false (eqb (bit_at b at) 1) (bit_or b firsts) b (false_from_ne_true (eqb (bit_at b at) 1) (λ e. none (eqb-true (bit_at b at) 1 e)))

  hit_bit : bit_at b at ≡ 1 → (o : ℕ) → bit_at w o ≡ max (bit_at b o) (bit_at firsts o)
  hit_bit one o = ap (λ z. bit_at z o) (hit_is one) ∙ bit_at_or b firsts o

  none_at : bit_at b at ≢ 1 → bit_at b at ≡ 0
  none_at none = let low = bit_at-lt b at in omega (arith, none, low)

  same_bits : (c : Bool) (x : ℕ) → x ≡ 0 → cond c x 0 ≡ 0
  same_bits true x e = e
  same_bits false x e = refl

  first_or : (c : Bool) (x : ℕ) → x ≡ 1 → cond c 1 0 ≡ cond c x 0
  first_or true x e = sym e
  first_or false x e = refl

  inside_at : (j : ℕ) → j < count → (c : Bool) → bit_at firsts (at + j) ≡ cond c 1 0 → bit_at w (at + j) ≡ cond c (bit_at b at) 0
  inside_at j low c first = elim (cases_eq j 0) [
    | inl zero_j ↦
        let e : at + j ≡ at = omega (arith, zero_j) in
        let f : cond {A = ℕ} c 1 0 ≡ 1 = sym first ∙ ap (bit_at firsts) e ∙ first_bit in
        ap (bit_at w) e ∙ first_kept ∙ by_first c (bit_at b at) f
    | inr more ↦
        let q = quiet j (omega (arith, more)) low in
        elim (cases_eq (bit_at b at) 1) [
          | inl one ↦
              let e : max (bit_at b (at + j)) (bit_at firsts (at + j)) ≡ bit_at firsts (at + j) = omega (arith, q) in
              hit_bit one (at + j) ∙ e ∙ first ∙ first_or c (bit_at b at) one
          | inr none ↦ ap (λ z. bit_at z (at + j)) (miss_is none) ∙ q ∙ sym (same_bits c (bit_at b at) (none_at none))
        ]
  ]
    where
      first_kept : bit_at w at ≡ bit_at b at
      first_kept = elim (cases_eq (bit_at b at) 1) [
        | inl one ↦ let e : max (bit_at b at) (bit_at firsts at) ≡ bit_at b at = omega (arith, one, first_bit) in hit_bit one at ∙ e
        | inr none ↦ ap (λ z. bit_at z at) (miss_is none)
      ]

      by_first : (c : Bool) (x : ℕ) → cond {A = ℕ} c 1 0 ≡ 1 → x ≡ cond c x 0
      by_first true x e = refl
      by_first false x e = absurd (omega (arith, e))

  pub more_inside : (j : ℕ) → j < count → bit_at w (at + j) ≡ cond (eqb (j % 2 ^ step) 0) (bit_at b at) 0
  more_inside j low = inside_at j low (eqb (j % 2 ^ step) 0) (are.inside j low)

  pub more_outside : (o : ℕ) → o < 64 → (at ≤ o → o < at + count → ⊥) → bit_at w o ≡ bit_at b o
  more_outside o below apart = elim (cases_eq (bit_at b at) 1) [
    | inl one ↦
        let none = are.outside o below apart in
        let e : max (bit_at b o) (bit_at firsts o) ≡ bit_at b o = omega (arith, none) in
        hit_bit one o ∙ e
    | inr none ↦ ap (λ z. bit_at z o) (miss_is none)
  ]

  pub more_any : min w 1 ≡ min b 1
  more_any = elim (cases_eq (bit_at b at) 1) [
    | inl one ↦
        let e = le_or_l b firsts in
        let f = hit_is one in
        let some_b : b ≢ 0 = λ z. let g = ap (λ y. bit_at y at) z in let h = bit_at-zero at in omega (arith, g, h, one) in
        omega (arith, e, f, some_b)
    | inr none ↦ ap (λ z. min z 1) (miss_is none)
  ]

-- those bits alone, where the first slot has the mark
module _ (x firsts w step : ℕ) (bit : x < 2) (are : AreFirsts firsts 0 64 step) (is : w ≡ (if eqb x 1 then firsts else 0)) where
  given_hit : x ≡ 1 → w ≡ firsts
  given_hit one = is ∙ cond-true (eqb x 1) firsts 0 (rw one refl)

  given_miss : x ≢ 1 → w ≡ 0
  given_miss none = is ∙ cond-false (eqb x 1) firsts 0 (false_from_ne_true (eqb x 1) (λ e. none (eqb-true x 1 e)))

  by_bit : (c : Bool) → (j : ℕ) → bit_at firsts j ≡ cond c 1 0 → bit_at w j ≡ cond c x 0
  by_bit c j first = elim (cases_eq x 1) [
    | inl one ↦ ap (λ z. bit_at z j) (given_hit one) ∙ first ∙ ap (λ z. cond c z 0) (sym one)
    | inr none ↦ let e : 0 ≡ x = omega (arith, none, bit) in ap (λ z. bit_at z j) (given_miss none) ∙ bit_at-zero j ∙ both c ∙ ap (λ z. cond c z 0) e
  ]
    where
      both : (d : Bool) → 0 ≡ cond {A = ℕ} d 0 0
      both true = refl
      both false = refl

  pub given_at : (j : ℕ) → j < 64 → bit_at w j ≡ cond (eqb (j % 2 ^ step) 0) x 0
  given_at j low = let e : j ≡ 0 + j = omega arith in by_bit (eqb (j % 2 ^ step) 0) j (ap (bit_at firsts) e ∙ are.inside j (omega (arith, low)))

  pub given_any : min w 1 ≡ x
  given_any = elim (cases_eq x 1) [
    | inl one ↦
        let none : 0 % 2 ^ step ≡ 0 = omega arith in
        let first : bit_at firsts 0 ≡ 1 = are.inside 0 (omega arith) ∙ ap {B = ℕ} (λ z. cond (eqb z 0) 1 0) none in
        let some_f : firsts ≢ 0 = λ z. let g = ap (λ y. bit_at y 0) z in let h = bit_at-zero 0 in omega (arith, g, h, first) in
        let f = given_hit one in
        omega (arith, f, some_f, one)
    | inr none ↦ let f = given_miss none in omega (arith, f, none, bit)
  ]
