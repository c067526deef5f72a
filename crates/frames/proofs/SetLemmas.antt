-- The three levels of bits, as one number changes, and the lowest that is set.
use Rattle.std.proofs.Common.{◌≡◌, ◌≢◌, ◌∙◌, sym, ap, refl, ℕ, suc, ◌+◌, ◌*◌, ◌-◌, ◌/◌, ◌%◌, ◌<◌, ◌≤◌, inl, inr, min, Bool, true, false, cond, eqb, not, IsTrue, ◌↔◌, List, [], ◌∷◌, ◌++◌, length, get_or, slice_set, replicate, arith, get_or-set_same, get_or-set_other, length-set}
use Rattle.std.specs.Int.{bit_at}
use Rattle.std.proofs.lemmas.List.{same_lists, get_or_past, get_or-replicate, length-replicate, set_at, append_assoc, replicate_more}
use Rattle.std.proofs.lemmas.List.FromFn.{get_or-map-range_with_len, length-map-range_with_len}
use Rattle.std.proofs.lemmas.List.Sums.{sum_by-set, sum_by-cons}
use Rattle.std.proofs.lemmas.Bool.{cases_eq, cases_lt, eqb-true, false≢true}
use Rattle.std.proofs.lemmas.Nat.Bits.{bit_at-zero}
use Rattle.frames.specs.Bits.{ChangesBit, IsLowest}
use Rattle.frames.specs.Sets.{bit_in, flags, is_in, members, Sums, IsLeveled, IsLeast}

abbrev pub one_if : Bool → ℕ
one_if b = cond b 1 0

-- whether a word has a bit, as a bit
bit_of_any : (any : Bool) (w : ℕ) → (IsTrue any ↔ (0 < w)) → cond any 1 0 ≡ min w 1
bit_of_any true w h = let some : 0 < w = h.0 refl in omega arith
bit_of_any false w h =
    let none : 0 < w → ⊥ = λ p. false≢true (h.1 p) in
    omega (arith, none)

pub sums_set : (above below : List ℕ) (i w m : ℕ) (any : Bool) → Sums above below → i < length below → i / 64 < length above → ChangesBit (get_or above (i / 64) 0) m (i % 64) (cond any 1 0) → (IsTrue any ↔ (0 < w)) → Sums (slice_set above (i / 64) m) (slice_set below i w)
sums_set above below i w m any sums within within_above changes says = record {
  each = λ j b small.
      elim (cases_eq j (i / 64)) [
        | inl here ↦
            let word : get_or (slice_set above (i / 64) m) j 0 ≡ m = ap (λ (n : ℕ). get_or (slice_set above (i / 64) m) n 0) here ∙ get_or-set_same above (i / 64) m 0 within_above in
            elim (cases_eq b (i % 64)) [
              | inl same ↦
                  let place : j * 64 + b ≡ i = omega arith in
                  ap (λ (n : ℕ). bit_at n b) word
                  ∙ ap (λ (n : ℕ). bit_at m n) same
                  ∙ changes.changed
                  ∙ bit_of_any any w says
                  ∙ ap (λ (n : ℕ). min n 1) (sym (ap (λ (n : ℕ). get_or (slice_set below i w) n 0) place ∙ get_or-set_same below i w 0 within))
              | inr other ↦
                  let place : j * 64 + b ≢ i = λ e. other (omega arith) in
                  ap (λ (n : ℕ). bit_at n b) word
                  ∙ changes.others b small other
                  ∙ ap (λ (n : ℕ). bit_in above n b) (sym here)
                  ∙ sums.each j b small
                  ∙ ap (λ (n : ℕ). min n 1) (sym (get_or-set_other below i (j * 64 + b) w 0 place))
            ]
        | inr there ↦
            let place : j * 64 + b ≢ i = λ e. there (omega arith) in
            ap (λ (n : ℕ). bit_at n b) (get_or-set_other above (i / 64) j m 0 there)
            ∙ sums.each j b small
            ∙ ap (λ (n : ℕ). min n 1) (sym (get_or-set_other below i (j * 64 + b) w 0 place))
      ];
}

abbrev TopSums : ℕ → List ℕ → Type 0
TopSums top mid = (b : ℕ) → b < 64 → bit_at top b ≡ min (get_or mid b 0) 1

top_sums_set : (top : ℕ) (mid : List ℕ) (i m t : ℕ) (any : Bool) → TopSums top mid → i < length mid → ChangesBit top t i (cond any 1 0) → (IsTrue any ↔ (0 < m)) → TopSums t (slice_set mid i m)
top_sums_set top mid i m t any sums within changes says b small =
    elim (cases_eq b i) [
      | inl here ↦
          ap (λ (n : ℕ). bit_at t n) here
          ∙ changes.changed
          ∙ bit_of_any any m says
          ∙ ap (λ (n : ℕ). min n 1) (sym (ap (λ (n : ℕ). get_or (slice_set mid i m) n 0) here ∙ get_or-set_same mid i m 0 within))
      | inr there ↦
          changes.others b small there
          ∙ sums b small
          ∙ ap (λ (n : ℕ). min n 1) (sym (get_or-set_other mid i b m 0 there))
    ]

pub length-flags : (count : ℕ) (low : List ℕ) → length (flags count low) ≡ count
length-flags count low = length-map-range_with_len (λ k. eqb (bit_in low (k / 64) (k % 64)) 1) 0 count

pub get_or-flags : (count : ℕ) (low : List ℕ) (k : ℕ) (d : Bool) → k < count → get_or (flags count low) k d ≡ eqb (bit_in low (k / 64) (k % 64)) 1
get_or-flags count low k d h = get_or-map-range_with_len (λ k. eqb (bit_in low (k / 64) (k % 64)) 1) 0 count k k d h (omega arith)

eqb_of_bit : (v : Bool) → eqb (cond v 1 0) 1 ≡ v
eqb_of_bit true = refl
eqb_of_bit false = refl

module _ (count number : ℕ) (low : List ℕ) (w : ℕ) (v : Bool) (within : number < count) (word : number / 64 < length low) (changes : ChangesBit (get_or low (number / 64) 0) w (number % 64) (cond v 1 0)) where
  -- a bit of the changed word, or of another
  bit_same : (j b : ℕ) → b < 64 → j * 64 + b ≢ number → bit_in (slice_set low (number / 64) w) j b ≡ bit_in low j b
  bit_same j b small other =
      elim (cases_eq j (number / 64)) [
        | inl here ↦
            let differs : b ≢ number % 64 = λ e. other (omega arith) in
            ap (λ (n : ℕ). bit_at (get_or (slice_set low (number / 64) w) n 0) b) here
            ∙ ap (λ (n : ℕ). bit_at n b) (get_or-set_same low (number / 64) w 0 word)
            ∙ changes.others b small differs
            ∙ ap (λ (n : ℕ). bit_in low n b) (sym here)
        | inr there ↦ ap (λ (n : ℕ). bit_at n b) (get_or-set_other low (number / 64) j w 0 there)
      ]

  pub flags_set : flags count (slice_set low (number / 64) w) ≡ slice_set (flags count low) number v
  flags_set =
      same_lists (flags count (slice_set low (number / 64) w)) (slice_set (flags count low) number v)
      (length-flags count (slice_set low (number / 64) w) ∙ sym (length-set (flags count low) number v ∙ length-flags count low))
      (λ k d h.
      let below : k < count = omega (arith, length-flags count (slice_set low (number / 64) w)) in
      get_or-flags count (slice_set low (number / 64) w) k d below
      ∙ elim (cases_eq k number) [
        | inl here ↦
            ap (λ (n : ℕ). eqb (bit_in (slice_set low (number / 64) w) (n / 64) (n % 64)) 1) here
            ∙ ap (λ (n : ℕ). eqb (bit_at n (number % 64)) 1) (get_or-set_same low (number / 64) w 0 word)
            ∙ ap (λ (n : ℕ). eqb n 1) changes.changed
            ∙ eqb_of_bit v
            ∙ sym (ap (λ (n : ℕ). get_or (slice_set (flags count low) number v) n d) here ∙ get_or-set_same (flags count low) number v d (omega (arith, length-flags count low)))
        | inr there ↦
            let apart : k / 64 * 64 + k % 64 ≢ number = λ e. there (omega arith) in
            ap (λ (n : ℕ). eqb n 1) (bit_same (k / 64) (k % 64) (omega arith) apart)
            ∙ sym (get_or-set_other (flags count low) number k v d there ∙ get_or-flags count low k d below)
      ])

  module _ (mid : List ℕ) (top left m t left' : ℕ) (any some : Bool) (old : IsLeveled count low mid top left) (was : is_in (flags count low) number ≡ not v) (word_any : IsTrue any ↔ (0 < w)) (mid_changes : ChangesBit (get_or mid (number / 64 / 64) 0) m (number / 64 % 64) (cond any 1 0)) (mid_any : IsTrue some ↔ (0 < m)) (top_changes : ChangesBit top t (number / 64 / 64) (cond some 1 0)) (total : left' + one_if (not v) ≡ left + one_if v) where
    pub leveled_put : IsLeveled count (slice_set low (number / 64) w) (slice_set mid (number / 64 / 64) m) t left'
    leveled_put = record {
      low_sums = sums_set mid low (number / 64) w m any old.low_sums word (omega (arith, old.words)) mid_changes word_any;
      top_sums = top_sums_set top mid (number / 64 / 64) m t some old.top_sums (omega (arith, old.words)) top_changes mid_any;
      numbers = omega (arith, old.numbers, length-set low (number / 64) w);
      words = omega (arith, old.words, length-set low (number / 64) w, length-set mid (number / 64 / 64) m);
      tops = omega (arith, old.tops, length-set mid (number / 64 / 64) m);
      past = λ j b small h.
          let apart : j * 64 + b ≢ number = λ e. omega arith in
          bit_same j b small apart ∙ old.past j b small h;
      counted =
          let step = sum_by-set one_if (flags count low) number v false (omega (arith, length-flags count low)) in
          let before = ap one_if was in
          let same : members (flags count (slice_set low (number / 64) w)) ≡ members (slice_set (flags count low) number v) = ap members flags_set in
          omega (arith, old.counted, total, step, before, same);
    }

-- a number that is not free yet, and one that is
pub total_more : (left : ℕ) (v : Bool) → v ≡ true → left + 1 + one_if (not v) ≡ left + one_if v
total_more left true e = omega arith
total_more left false e = absurd (false≢true e)

pub total_less : (left : ℕ) (v : Bool) → v ≡ false → 0 < left → left - 1 + one_if (not v) ≡ left + one_if v
total_less left true e h = absurd (false≢true (sym e))
total_less left false e h = omega arith

pub some_member : (free : List Bool) (f : ℕ) → f < length free → is_in free f ≡ true → 0 < members free
some_member free f h e = let step = sum_by-set one_if free f false false h in let one = ap one_if e in omega (arith, step, one)

none_counted : (free : List Bool) → ((k : ℕ) → is_in free k ≡ false) → members free ≡ 0
none_counted [] none = refl
none_counted (b ∷ free) none =
    omega (arith, sum_by-cons one_if b free, ap one_if (none 0), none_counted free (λ k. none (suc k)))

module _ (count : ℕ) (low mid : List ℕ) (top left : ℕ) (h : IsLeveled count low mid top left) where
  -- a bit below shows in each word above
  in_mid : (j b : ℕ) → b < 64 → bit_in low j b ≡ 1 → bit_in mid (j / 64) (j % 64) ≡ 1
  in_mid j b small set =
      let some : get_or low j 0 ≢ 0 = λ e. omega (arith, ap (λ (n : ℕ). bit_at n b) e, bit_at-zero b, set) in
      let sum = h.low_sums.each (j / 64) (j % 64) (omega arith) in
      let place : j / 64 * 64 + j % 64 ≡ j = omega arith in
      let same = ap (λ (n : ℕ). get_or low n 0) place in
      omega (arith, sum, same, some)

  in_top : (j b : ℕ) → b < 64 → bit_in mid j b ≡ 1 → (bit_at top j ≡ 1) × (j < 64)
  in_top j b small set =
      let some : get_or mid j 0 ≢ 0 = λ e. omega (arith, ap (λ (n : ℕ). bit_at n b) e, bit_at-zero b, set) in
      let inside : j < length mid = elim (cases_lt j (length mid)) [ inl k ↦ k | inr k ↦ absurd (some (get_or_past mid j 0 k)) ] in
      (omega (arith, h.top_sums j (omega (arith, h.tops)), some), omega (arith, h.tops))

  pub mid_within : (a : ℕ) → a < 64 → bit_at top a ≡ 1 → a < length mid
  mid_within a small set =
      elim (cases_lt a (length mid)) [ inl k ↦ k | inr k ↦ absurd (omega (arith, h.top_sums a small, set, get_or_past mid a 0 k)) ]

  pub low_within : (a b : ℕ) → b < 64 → bit_in mid a b ≡ 1 → a * 64 + b < length low
  low_within a b small set =
      elim (cases_lt (a * 64 + b) (length low)) [ inl k ↦ k | inr k ↦ absurd (omega (arith, h.low_sums.each a b small, set, get_or_past low (a * 64 + b) 0 k)) ]

  flag_of_bit : (k : ℕ) → is_in (flags count low) k ≡ true → (k < count) × (bit_in low (k / 64) (k % 64) ≡ 1)
  flag_of_bit k e =
      elim (cases_lt k count) [
        | inl below ↦ (below, eqb-true (bit_in low (k / 64) (k % 64)) 1 (sym (get_or-flags count low k false below) ∙ e))
        | inr past ↦ absurd (false≢true (sym (get_or_past (flags count low) k false (omega (arith, length-flags count low))) ∙ e))
      ]

  pub none_of : top ≡ 0 → members (flags count low) ≡ 0
  none_of e =
      none_counted (flags count low) (λ k. not_true (is_in (flags count low) k) (λ set.
      let found = flag_of_bit k set in
      let mid_set = in_mid (k / 64) (k % 64) (omega arith) found.1 in
      let top_set = in_top (k / 64 / 64) (k / 64 % 64) (omega arith) mid_set in
      omega (arith, top_set.0, ap (λ (n : ℕ). bit_at n (k / 64 / 64)) e, bit_at-zero (k / 64 / 64))))
    where
      not_true : (b : Bool) → (b ≡ true → ⊥) → b ≡ false
      not_true true h = absurd (h refl)
      not_true false h = refl

  -- the lowest bit of each word on the way down
  pub least_of : (a b c : ℕ) → IsLowest top a → IsLowest (get_or mid a 0) b → IsLowest (get_or low (a * 64 + b) 0) c → IsLeast (flags count low) ((a * 64 + b) * 64 + c)
  least_of a b c in_first in_second in_third =
      let f = (a * 64 + b) * 64 + c in
      let word : f / 64 ≡ a * 64 + b = omega (arith, in_third.within) in
      let place : f % 64 ≡ c = omega (arith, in_third.within) in
      let within : f < count = elim (cases_lt f count) [ inl k ↦ k | inr k ↦ absurd (omega (arith, h.past (a * 64 + b) c in_third.within k, in_third.set)) ] in
      let here : bit_in low (f / 64) (f % 64) ≡ 1 =
      ap (λ (n : ℕ). bit_in low n (f % 64)) word ∙ ap (λ (n : ℕ). bit_in low (a * 64 + b) n) place ∙ in_third.set
      in
      record {
        within = omega (arith, length-flags count low);
        here = get_or-flags count low f false within ∙ ap (λ (n : ℕ). eqb n 1) here;
        lower = λ g less. not_true (is_in (flags count low) g) (λ set.
            let found = flag_of_bit g set in
            let mid_set = in_mid (g / 64) (g % 64) (omega arith) found.1 in
            let top_set = in_top (g / 64 / 64) (g / 64 % 64) (omega arith) mid_set in
            let first : a ≤ g / 64 / 64 = elim (cases_lt (g / 64 / 64) a) [ inl k ↦ absurd (omega (arith, in_first.lowest (g / 64 / 64) k, top_set.0)) | inr k ↦ k ] in
            let same_first : g / 64 / 64 ≡ a = omega arith in
            let mid_here = ap (λ (n : ℕ). bit_in mid n (g / 64 % 64)) (sym same_first) ∙ mid_set in
            let second : b ≤ g / 64 % 64 = elim (cases_lt (g / 64 % 64) b) [ inl k ↦ absurd (omega (arith, in_second.lowest (g / 64 % 64) k, mid_here)) | inr k ↦ k ] in
            let same_word : g / 64 ≡ a * 64 + b = omega arith in
            let low_here = ap (λ (n : ℕ). bit_in low n (g % 64)) (sym same_word) ∙ found.1 in
            let third : c ≤ g % 64 = elim (cases_lt (g % 64) c) [ inl k ↦ absurd (omega (arith, in_third.lowest (g % 64) k, low_here)) | inr k ↦ k ] in
            omega arith);
      }
    where
      not_true : (b : Bool) → (b ≡ true → ⊥) → b ≡ false
      not_true true h = absurd (h refl)
      not_true false h = refl

-- no number is free while all words are 0
abbrev pub zeros : ℕ → List ℕ
zeros n = replicate n 0

pub slice_index_zeros : (n j : ℕ) → get_or (zeros n) j 0 ≡ 0
slice_index_zeros n j = elim (cases_lt j n) [ inl h ↦ get_or-replicate n j 0 0 h | inr h ↦ get_or_past (replicate n 0) j 0 (let long = length-replicate {A = ℕ} n 0 in omega arith) ]

bit_in_zeros : (n j b : ℕ) → bit_in (replicate n 0) j b ≡ 0
bit_in_zeros n j b = ap (λ (w : ℕ). bit_at w b) (slice_index_zeros n j) ∙ bit_at-zero b

pub flags_zeros : (count n : ℕ) → flags count (replicate n 0) ≡ replicate count false
flags_zeros count n =
    same_lists (flags count (replicate n 0)) (replicate count false)
    (length-flags count (replicate n 0) ∙ sym (length-replicate count false))
    (λ k d h.
    let below : k < count = omega (arith, length-flags count (replicate n 0)) in
    get_or-flags count (replicate n 0) k d below ∙ ap (λ (b : ℕ). eqb b 1) (bit_in_zeros n (k / 64) (k % 64)) ∙ sym (get_or-replicate count k false d below))

none_counted_zeros : (n : ℕ) → members (replicate n false) ≡ 0
none_counted_zeros n = none_counted (replicate n false) (λ k. elim (cases_lt k n) [ inl h ↦ get_or-replicate n k false false h | inr h ↦ get_or_past (replicate n false) k false (omega (arith, length-replicate n false)) ])

pub leveled_none : (count low mid : ℕ) → count ≤ low * 64 → low ≤ mid * 64 → mid ≤ 64 → IsLeveled count (replicate low 0) (replicate mid 0) 0 0
leveled_none count low mid h i j = record {
  low_sums = record { each = λ k b small. bit_in_zeros mid k b ∙ sym (ap (λ (w : ℕ). min w 1) (slice_index_zeros low (k * 64 + b))) };
  top_sums = λ b small. bit_at-zero b ∙ sym (ap (λ (w : ℕ). min w 1) (slice_index_zeros mid b));
  numbers = omega (arith, length-replicate {A = ℕ} low 0);
  words = omega (arith, length-replicate {A = ℕ} low 0, length-replicate {A = ℕ} mid 0);
  tops = omega (arith, length-replicate {A = ℕ} mid 0);
  past = λ k b small past. bit_in_zeros low k b;
  counted = sym (ap members (flags_zeros count low) ∙ none_counted_zeros count);
}

-- one number more is free
pub one_more : (n k : ℕ) → k < n → slice_set (replicate k true ++ replicate (n - k) false) k true ≡ replicate (k + 1) true ++ replicate (n - (k + 1)) false
one_more n k h =
    let rest : n - k ≡ suc (n - (k + 1)) = omega arith in
    ap (λ (m : ℕ). slice_set (replicate k true ++ replicate m false) k true) rest
    ∙ set_at (replicate k true) false (replicate (n - (k + 1)) false) true k (length-replicate k true)
    ∙ sym (append_assoc (replicate k true) (true ∷ []) (replicate (n - (k + 1)) false))
    ∙ ap (λ (xs : List Bool). xs ++ replicate (n - (k + 1)) false) (replicate_more k true)
