-- Searches of the entries of a finite map by number: they rise, so what a search finds first is the lowest.
use Rattle.std.proofs.Common.{◌≡◌, ◌≢◌, ℕ, ◌<◌, ◌≤◌, Bool, true, false, T, List, [], ◌∷◌, Option, Some, None, find, map as map_list, refl, sym, ap, ◌∙◌, inl, inr, arith}
use Rattle.std.specs.List.{list_any}
use Rattle.std.specs.Ordering.{nat_cmp, eq_by_cmp, is_lt}
use Rattle.std.specs.FinMap as map
use Rattle.std.specs.FinMap.Entries.{is_sorted, below_all}
use Rattle.std.proofs.lemmas.Bool.{cases_eq, cases_Bool, cond-true, cond-false, and_parts, or_right, or_left, or_from, false_from_ne_true, true≢false}
use Rattle.std.proofs.lemmas.Bool.Decides.{nat_tests}
use Rattle.std.proofs.lemmas.Option.{none-some, same_Some}

pub tie_eq : (q i : ℕ) → eq_by_cmp nat_cmp q i ≡ true → q ≡ i
tie_eq q i e = grind (arith, nat_tests)

pub eq_tie : (q i : ℕ) → q ≡ i → eq_by_cmp nat_cmp q i ≡ true
eq_tie q i e = grind (arith, nat_tests)

pub ne_tie : (q i : ℕ) → q ≢ i → eq_by_cmp nat_cmp q i ≡ false
ne_tie q i differs = false_from_ne_true _ (λ e. differs (tie_eq q i e))

below_lt : (a b : ℕ) → is_lt (nat_cmp a b) ≡ true → a < b
below_lt a b e = grind (arith, nat_tests)

told : (b : Bool) → T b → b ≡ true
told true t = refl
told false t = absurd t

module _ {X : Type 0} where
  -- each key is above k
  abbrev pub Above : ℕ → List (ℕ × X) → Type 0
  Above k [] = Unit {0}
  Above k (e ∷ es) = (k < e.0) × Above k es

  -- the keys rise
  abbrev pub Rises : List (ℕ × X) → Type 0
  Rises [] = Unit {0}
  Rises (e ∷ es) = Above e.0 es × Rises es

  above_from : (k : ℕ) (es : List (ℕ × X)) → below_all nat_cmp k es ≡ true → Above k es
  above_from k [] h = tt
  above_from k (e ∷ es) h = let p = and_parts _ _ h in (below_lt k e.0 p.0, above_from k es p.1)

  rises_from : (es : List (ℕ × X)) → is_sorted nat_cmp es ≡ true → Rises es
  rises_from [] h = tt
  rises_from (e ∷ es) h = let p = and_parts _ _ h in (above_from e.0 es p.0, rises_from es p.1)

  pub entries-rise : (m : map.FinMap nat_cmp X) → Rises (map.entries m)
  entries-rise m = rises_from (map.entries m) (told _ (map.entries_sorted m))

  -- the value at a key of the list
  abbrev pub look : ℕ → List (ℕ × X) → Option X
  look q es = map.find nat_cmp q es

  pub look_here : (q : ℕ) (e : ℕ × X) (es : List (ℕ × X)) → q ≡ e.0 → look q (e ∷ es) ≡ Some e.1
  look_here q e es same = cond-true _ _ _ (eq_tie q e.0 same)

  pub look_there : (q : ℕ) (e : ℕ × X) (es : List (ℕ × X)) → q ≢ e.0 → look q (e ∷ es) ≡ look q es
  look_there q e es differs = cond-false _ _ _ (ne_tie q e.0 differs)

  pub above_key : (k : ℕ) (es : List (ℕ × X)) → Above k es → (q : ℕ) (y : X) → look q es ≡ Some y → k < q
  above_key k [] a q y is = absurd (none-some y is)
  above_key k (e ∷ es) a q y is = elim (cases_eq q e.0) [
    | inl same ↦ omega (arith, a.0, same)
    | inr differs ↦ above_key k es a.1 q y (sym (look_there q e es differs) ∙ is)
  ]

  -- what the list has after its first entry, it has
  pub look_later : (e : ℕ × X) (es : List (ℕ × X)) → Above e.0 es → (q : ℕ) (y : X) → look q es ≡ Some y → look q (e ∷ es) ≡ Some y
  look_later e es a q y is = let later = above_key e.0 es a q y is in look_there q e es (λ same. omega (arith, later, same)) ∙ is

  -- ---- the first entry that passes a test

  pub first_is : (test : ℕ × X → Bool) (es : List (ℕ × X)) → Rises es → (k : ℕ) (x : X) → look k es ≡ Some x → test (k, x) ≡ true → ((q : ℕ) (y : X) → look q es ≡ Some y → test (q, y) ≡ true → k ≤ q) → find test es ≡ Some (k, x)
  first_is test [] r k x is passes low = absurd (none-some x is)
  first_is test (e ∷ es) r k x is passes low = elim (cases_eq k e.0) [
    | inl same ↦
        let value : e.1 ≡ x = same_Some e.1 x (sym (look_here k e es same) ∙ is) in
        let pair : e ≡ (k, x) = (λ i. (sym same i, value i)) in
        cond-true _ _ _ (ap test pair ∙ passes) ∙ ap (λ z. Some z) pair
    | inr differs ↦
        let rest : look k es ≡ Some x = sym (look_there k e es differs) ∙ is in
        let later = above_key e.0 es r.0 k x rest in
        let fails : test e ≡ false = false_from_ne_true _ (λ t. let le = low e.0 e.1 (look_here e.0 e es refl) t in omega (arith, le, later)) in
        cond-false _ _ _ fails ∙ first_is test es r.1 k x rest passes (λ q y has t. low q y (look_later e es r.0 q y has) t)
  ]

  pub first_none : (test : ℕ × X → Bool) (es : List (ℕ × X)) → Rises es → ((q : ℕ) (y : X) → look q es ≡ Some y → test (q, y) ≡ false) → find test es ≡ None
  first_none test [] r never = refl
  first_none test (e ∷ es) r never =
      cond-false _ _ _ (never e.0 e.1 (look_here e.0 e es refl))
      ∙ first_none test es r.1 (λ q y has. never q y (look_later e es r.0 q y has))

  -- this entry passes the test, and each other one that does comes after it
  pub record IsFirst (test : ℕ × X → Bool) (es : List (ℕ × X)) (k : ℕ) (x : X) : Type 0 where
    pub there : look k es ≡ Some x
    pub passes : test (k, x) ≡ true
    pub low : (q : ℕ) (y : X) → look q es ≡ Some y → test (q, y) ≡ true → k ≤ q

  pub first_some : (test : ℕ × X → Bool) (es : List (ℕ × X)) → Rises es → (k : ℕ) (x : X) → find test es ≡ Some (k, x) → IsFirst test es k x
  first_some test [] r k x is = absurd (none-some (k, x) is)
  first_some test (e ∷ es) r k x is = elim (cases_Bool (test e)) [
    | inl passes ↦
        let pair : e ≡ (k, x) = same_Some e (k, x) (sym (cond-true _ _ _ passes) ∙ is) in
        let key : e.0 ≡ k = ap (λ (z : ℕ × X). z.0) pair in
        record {
          there = look_here k e es (sym key) ∙ ap (λ (z : ℕ × X). Some z.1) pair;
          passes = sym (ap test pair) ∙ passes;
          low = λ q y has t. elim (cases_eq q e.0) [
            | inl same ↦ omega (arith, same, key)
            | inr differs ↦ let later = above_key e.0 es r.0 q y (sym (look_there q e es differs) ∙ has) in omega (arith, later, key)
          ];
        }
    | inr fails ↦
        let rest = first_some test es r.1 k x (sym (cond-false _ _ _ fails) ∙ is) in
        record {
          there = look_later e es r.0 k x rest.there;
          passes = rest.passes;
          low = λ q y has t. elim (cases_eq q e.0) [
            | inl same ↦
                let value : e.1 ≡ y = same_Some e.1 y (sym (look_here q e es same) ∙ has) in
                absurd (true≢false (sym t ∙ ap test (λ i. (same i, sym value i)) ∙ fails))
            | inr differs ↦ rest.low q y (sym (look_there q e es differs) ∙ has) t
          ];
        }
  ]

  pub none_passes : (test : ℕ × X → Bool) (es : List (ℕ × X)) → find test es ≡ None → (q : ℕ) (y : X) → look q es ≡ Some y → test (q, y) ≡ false
  none_passes test [] is q y has = absurd (none-some y has)
  none_passes test (e ∷ es) is q y has = elim (cases_Bool (test e)) [
    | inl passes ↦ absurd (none-some e (sym is ∙ cond-true _ _ _ passes))
    | inr fails ↦ elim (cases_eq q e.0) [
      | inl same ↦ let value : e.1 ≡ y = same_Some e.1 y (sym (look_here q e es same) ∙ has) in ap test (λ i. (same i, sym value i)) ∙ fails
      | inr differs ↦ none_passes test es (sym (cond-false _ _ _ fails) ∙ is) q y (sym (look_there q e es differs) ∙ has)
    ]
  ]

  -- ---- whether a value passes a test

  pub any_true : (p : X → Bool) (es : List (ℕ × X)) (k : ℕ) (x : X) → look k es ≡ Some x → p x ≡ true → list_any p (map_list (λ e. e.1) es) ≡ true
  any_true p [] k x is passes = absurd (none-some x is)
  any_true p (e ∷ es) k x is passes = elim (cases_eq k e.0) [
    | inl same ↦ or_left _ _ (ap p (same_Some e.1 x (sym (look_here k e es same) ∙ is)) ∙ passes)
    | inr differs ↦ or_right _ _ (any_true p es k x (sym (look_there k e es differs) ∙ is) passes)
  ]

  pub any_false : (p : X → Bool) (es : List (ℕ × X)) → Rises es → ((q : ℕ) (y : X) → look q es ≡ Some y → p y ≡ false) → list_any p (map_list (λ e. e.1) es) ≡ false
  any_false p [] r never = refl
  any_false p (e ∷ es) r never = or_from _ _ (never e.0 e.1 (look_here e.0 e es refl)) (any_false p es r.1 (λ q y has. never q y (look_later e es r.0 q y has)))
