-- Entries of a finite map by number that are changed one by one, and counted.
use Rattle.std.proofs.Common.{◌≡◌, ◌≢◌, ℕ, ◌+◌, ◌<◌, Bool, true, false, cond, List, [], ◌∷◌, Some, option_map, map as map_list, count_by, refl, sym, ap, ◌∙◌, inl, inr, arith, nat_cmp, Equal, Greater, ◌-◌, zero-le, ◌≤◌}
use Rattle.std.specs.FinMap.Entries.{by_order, put}
use Rattle.std.proofs.lemmas.Bool.{cases_Bool, cases_eq}
use Rattle.std.proofs.lemmas.Bool.Decides.{nat_tests}
use Rattle.std.proofs.lemmas.List.Sums.{sum_by-cons}
use Rattle.std.proofs.lemmas.Option.{none-some, same_Some}
use Rattle.xarray.proofs.EntryLemmas.{Rises, above_key, look, look_here, look_later, look_there}

cmp_same : (a b : ℕ) → a ≡ b → nat_cmp a b ≡ Equal
cmp_same a b e = grind (arith, nat_tests)

cmp_above : (a b : ℕ) → b < a → nat_cmp a b ≡ Greater
cmp_above a b e = grind (arith, nat_tests)

module _ {X : Type 0} where
  -- a change of each value by its key is seen at each key
  pub look-map : (g : ℕ → X → X) (es : List (ℕ × X)) (q : ℕ) → look q (map_list (λ (e : ℕ × X). (e.0, g e.0 e.1)) es) ≡ option_map (g q) (look q es)
  look-map g [] q = refl
  look-map g (e ∷ es) q = elim (cases_eq q e.0) [
    | inl same ↦
        look_here q (e.0, g e.0 e.1) (map_list (λ (e : ℕ × X). (e.0, g e.0 e.1)) es) same
        ∙ ap (λ k. Some (g k e.1)) (sym same)
        ∙ sym (ap (option_map (g q)) (look_here q e es same))
    | inr differs ↦
        look_there q (e.0, g e.0 e.1) (map_list (λ (e : ℕ × X). (e.0, g e.0 e.1)) es) differs
        ∙ look-map g es q
        ∙ sym (ap (option_map (g q)) (look_there q e es differs))
  ]

  one_of : (p : ℕ × X → Bool) (e : ℕ × X) (es : List (ℕ × X)) (b : Bool) → p e ≡ b → count_by p (e ∷ es) ≡ cond b 1 0 + count_by p es
  one_of p e es b is = sum_by-cons (λ x. cond (p x) 1 0) e es ∙ ap (λ z. cond z 1 0 + count_by p es) is

  pub count-same : (p q : ℕ × X → Bool) (es : List (ℕ × X)) → Rises es → ((k : ℕ) (y : X) → look k es ≡ Some y → p (k, y) ≡ q (k, y)) → count_by p es ≡ count_by q es
  count-same p q [] r same = refl
  count-same p q (e ∷ es) r same =
      one_of p e es (q e) (same e.0 e.1 (look_here e.0 e es refl))
      ∙ ap (λ n. cond (q e) 1 0 + n) (count-same p q es r.1 (λ k y has. same k y (look_later e es r.0 k y has)))
      ∙ sym (one_of q e es (q e) refl)

  pub count-none : (p : ℕ × X → Bool) (es : List (ℕ × X)) → Rises es → ((k : ℕ) (y : X) → look k es ≡ Some y → p (k, y) ≡ false) → count_by p es ≡ 0
  count-none p [] r never = refl
  count-none p (e ∷ es) r never =
      let here = one_of p e es false (never e.0 e.1 (look_here e.0 e es refl)) in
      let rest = count-none p es r.1 (λ k y has. never k y (look_later e es r.0 k y has)) in
      omega (arith, here, rest)

  -- one entry that was counted is not counted with its new value, and each other one as before
  pub count-put : (p q : ℕ × X → Bool) (es : List (ℕ × X)) → Rises es → (k : ℕ) (x v : X) → look k es ≡ Some x → p (k, x) ≡ true → q (k, v) ≡ false → ((j : ℕ) (y : X) → j ≢ k → look j es ≡ Some y → q (j, y) ≡ p (j, y)) → count_by q (put nat_cmp k v es) + 1 ≡ count_by p es
  count-put p q [] r k x v is counted gone others = absurd (none-some x is)
  count-put p q (e ∷ es) r k x v is counted gone others = elim (cases_eq k e.0) [
    | inl same ↦
        let value : e.1 ≡ x = same_Some e.1 x (sym (look_here k e es same) ∙ is) in
        let old = one_of p e es true (ap p (λ i. (sym same i, value i)) ∙ counted) in
        let now = one_of q (e.0, v) es false (ap (λ (z : ℕ). q (z, v)) (sym same) ∙ gone) in
        let rest = count-same q p es r.1 (λ j y has. let later = above_key e.0 es r.0 j y has in others j y (λ at. omega (arith, at, later, same)) (look_later e es r.0 j y has)) in
        let puts = ap (λ o. count_by q (by_order o ((k, v) ∷ e ∷ es) ((e.0, v) ∷ es) (e ∷ put nat_cmp k v es))) (cmp_same k e.0 same) in
        omega (arith, old, now, rest, puts)
    | inr differs ↦
        let there : look k es ≡ Some x = sym (look_there k e es differs) ∙ is in
        let later = above_key e.0 es r.0 k x there in
        let here : q e ≡ p e = others e.0 e.1 (λ at. differs (sym at)) (look_here e.0 e es refl) in
        let old = one_of p e es (p e) refl in
        let now = one_of q e (put nat_cmp k v es) (p e) here in
        let rest = count-put p q es r.1 k x v there counted gone (λ j y apart has. others j y apart (look_later e es r.0 j y has)) in
        let puts = ap (λ o. count_by q (by_order o ((k, v) ∷ e ∷ es) ((e.0, v) ∷ es) (e ∷ put nat_cmp k v es))) (cmp_above k e.0 later) in
        omega (arith, old, now, rest, puts)
  ]

  -- entries that are counted only at these keys are no more than the keys
  pub count-within : (p : ℕ × X → Bool) (es : List (ℕ × X)) → Rises es → (from to : ℕ) → ((k : ℕ) (y : X) → look k es ≡ Some y → p (k, y) ≡ true → (from ≤ k) × (k ≤ to)) → count_by p es ≤ to + 1 - from
  count-within p [] r from to within = zero-le
  count-within p (e ∷ es) r from to within = elim (cases_Bool (p e)) [
    | inl counted ↦
        let here = within e.0 e.1 (look_here e.0 e es refl) counted in
        let one = one_of p e es true counted in
        let rest = count-within p es r.1 (e.0 + 1) to (λ k y has t.
        let later = above_key e.0 es r.0 k y has in
        let w = within k y (look_later e es r.0 k y has) t in
        (omega (arith, later), w.1)) in
        omega (arith, one, rest, here.0, here.1)
    | inr passed ↦
        let one = one_of p e es false passed in
        let rest = count-within p es r.1 from to (λ k y has t. within k y (look_later e es r.0 k y has) t) in
        omega (arith, one, rest)
  ]
