-- A walk over an array's entries, from each to the next.
use Rattle.std.proofs.Common.{◌≡◌, ℕ, ◌+◌, ◌-◌, ◌^◌, ◌<◌, ◌≤◌, ◌&&◌, ◌↔◌, eqb, Bool, true, false, ltb, leb, List, [], ◌∷◌, Option, Some, None, length, find, filter, option_map, refl, sym, ap, subst, ◌∙◌, inl, inr, arith, ltb-true, leb-true, le-leb, lt-ltb}
use Rattle.std.specs.Ordering.{nat_cmp}
use Rattle.std.specs.FinMap as map
use Rattle.std.proofs.lemmas.Bool.{cases_eq, cases_Bool, true≢false, eqb-true, eq-eqb, cond-true, cond-false, and_parts, and_from, false_from_ne_true, ltb-false, leb-false}
use Rattle.std.proofs.lemmas.Nat.{pow_pos}
use Rattle.std.proofs.lemmas.Option.{none-some, same_Some}
use Rattle.xarray.specs.MarkedArray.{IsArray, Range, Ranges, entry_at, found_of, entries_in, in_range, is_any, meets}
use Rattle.xarray.proofs.EntryLemmas.{Above, Rises, entries-rise, first_is, first_some, look, look_here, look_later, look_there}

-- an array without nodes is one without entries
pub empty_test : (m : Ranges) (nodes : ℕ) → (m ≡ map.empty ↔ nodes ≡ 0) → eqb nodes 0 ≡ eqb (map.len m) 0
empty_test m nodes same = elim (cases_Bool (eqb nodes 0)) [
  | inl none ↦ none ∙ sym (eq-eqb (map.len m) 0 (ap map.len (same.1 (eqb-true _ _ none)) ∙ map.len-empty nat_cmp Range))
  | inr some ↦ some ∙ sym (false_from_ne_true _ (λ t. let zero : nodes ≡ 0 = same.0 (map.empty_of_len m (eqb-true _ _ t)) in true≢false (sym (eq-eqb _ _ zero) ∙ some)))
]

module _ (m : Ranges) (shape : IsArray m) where
  rises : Rises (map.entries m)
  rises = entries-rise m

  within : (q : ℕ) (y : Range) → look q (map.entries m) ≡ Some y → map.get m q ≡ Some y
  within q y is = map.get-entries m q ∙ is

  -- the entry whose range holds an entry's first index is that entry
  at_first : (q : ℕ) (y : Range) → look q (map.entries m) ≡ Some y → entry_at m q ≡ Some (q, y)
  unfolding entry_at
  at_first q y is =
      let some = pow_pos y.order in
      let under : q < q + 2 ^ y.order = omega (arith, some) in
      let whole : q ≤ q = omega arith in
      let holds : in_range q (q, y) ≡ true = and_from (leb q q) (ltb q (q + 2 ^ y.order)) (le-leb q q whole) (lt-ltb q (q + 2 ^ y.order) under) in
      first_is (in_range q) (map.entries m) rises q y is holds low
    where
      low : (p : ℕ) (x : Range) → look p (map.entries m) ≡ Some x → in_range q (p, x) ≡ true → q ≤ p
      low p x has holds =
          let reaches : q < p + 2 ^ x.order = ltb-true q (p + 2 ^ x.order) (and_parts (leb p q) (ltb q (p + 2 ^ x.order)) holds).1 in
          elim (cases_Bool (ltb p q)) [
            | inl less ↦ let apart = shape.disjoint p q x y (within p x has) (within q y is) (ltb-true _ _ less) in absurd (omega (arith, apart, reaches))
            | inr more ↦ ltb-false _ _ more
          ]

  -- each entry of a list is what the array has at its first index
  abbrev pub Stand : List (ℕ × Range) → Type 0
  Stand [] = Unit {0}
  Stand (e ∷ es) = (entry_at m e.0 ≡ Some e) × Stand es

  stand_by : (es : List (ℕ × Range)) → Rises es → ((q : ℕ) (y : Range) → look q es ≡ Some y → look q (map.entries m) ≡ Some y) → Stand es
  stand_by [] r sub = tt
  stand_by (e ∷ es) r sub = (at_first e.0 e.1 (sub e.0 e.1 (look_here e.0 e es refl)), stand_by es r.1 (λ q y is. sub q y (look_later e es r.0 q y is)))

  -- a walk over all indexes has all entries
  all_by : (es : List (ℕ × Range)) → Rises es → ((q : ℕ) (y : Range) → look q es ≡ Some y → look q (map.entries m) ≡ Some y) → filter (λ e. is_any e.1 && meets 0 (2 ^ 64 - 1) e) es ≡ es
  all_by [] r sub = refl
  all_by (e ∷ es) r sub =
      let high = shape.within e.0 e.1 (within e.0 e.1 (sub e.0 e.1 (look_here e.0 e es refl))) in
      let some = pow_pos e.1.order in
      let passes : (is_any e.1 && meets 0 (2 ^ 64 - 1) e) ≡ true = and_from _ _ refl (and_from _ _ (le-leb 0 (2 ^ 64 - 1) (omega arith)) (and_from _ _ (le-leb e.0 (2 ^ 64 - 1) (omega (arith, high, some))) (lt-ltb 0 (e.0 + 2 ^ e.1.order) (omega (arith, some))))) in
      cond-true _ _ _ passes ∙ ap (λ t. e ∷ t) (all_by es r.1 (λ q y is. sub q y (look_later e es r.0 q y is)))

  pub all_stand : Stand (map.entries m)
  all_stand = stand_by (map.entries m) rises (λ q y is. is)

  pub all_entries : entries_in is_any m 0 (2 ^ 64 - 1) ≡ map.entries m
  unfolding entries_in
  all_entries = all_by (map.entries m) rises (λ q y is. is)
