-- A row of touched pages: which page stops a call, and one page less that a call lacks.
use Rattle.std.proofs.Common.{◌≡◌, ℕ, zero, suc, ◌+◌, ◌<◌, ◌≤◌, Bool, true, false, cond, List, refl, ap, sym, ◌∙◌, arith, inl, inr}
use Rattle.std.specs.Prelude.{◌⊎◌, Some, find, count_by}
use Rattle.std.specs.List.{range_with_len}
use Rattle.std.proofs.lemmas.List.Sums.{sum_by-cons, sum_by-le-sum_by}

-- the first that passes is one of the row
pub found_in : (test : ℕ → Bool) (a n p : ℕ) → find test (range_with_len a n) ≡ Some p → (test p ≡ true) × (a ≤ p) × (p < a + n)
found_in test a zero p e = absurd cc
found_in test a (suc n) p e = elim (test a) as (λ b. test a ≡ b → cond b (Some a) (find test (range_with_len (a + 1) n)) ≡ Some p → (test p ≡ true) × (a ≤ p) × (p < a + suc n)) [
  | true ↦ λ t k. (let same : a ≡ p = cc in (ap test (sym same) ∙ t, omega arith, omega arith))
  | false ↦ λ t k. (let x = found_in test (a + 1) n p k in let l = x.1 in let m = x.2 in (x.0, omega arith, omega arith))
] refl e

one_at : (b : Bool) → b ≡ true → ◌≡◌ {A = ℕ} (cond b 1 0) 1
one_at true e = refl
one_at false e = absurd cc

none_at : (b : Bool) → b ≡ false → ◌≡◌ {A = ℕ} (cond b 1 0) 0
none_at true e = absurd cc
none_at false e = refl

module _ (g f : ℕ → Bool) (fewer : (q : ℕ) → g q ≡ true → f q ≡ true) where
  at_most : (q : ℕ) → ◌≤◌ (cond (g q) 1 0) (cond (f q) 1 0)
  at_most q = by (g q) (f q) (fewer q)
    where
      by : (a b : Bool) → (a ≡ true → b ≡ true) → ◌≤◌ (cond a 1 0) (cond b 1 0)
      by true true h = omega arith
      by true false h = absurd (let x = h refl in cc)
      by false true h = omega arith
      by false false h = omega arith

  -- no more pass the one than the other
  pub count_le : (xs : List ℕ) → count_by g xs ≤ count_by f xs
  count_le xs = sum_by-le-sum_by (λ q. cond (g q) 1 0) (λ q. cond (f q) 1 0) xs at_most

  -- and one less, if one of the row passes the other alone
  pub count_less : (a n p : ℕ) → a ≤ p → p < a + n → f p ≡ true → g p ≡ false → count_by g (range_with_len a n) + 1 ≤ count_by f (range_with_len a n)
  count_less a zero p l m t u = absurd (omega arith)
  count_less a (suc n) p l m t u =
      let c = sum_by-cons (λ q. cond {A = ℕ} (g q) 1 0) a (range_with_len (a + 1) n) in
      let d = sum_by-cons (λ q. cond {A = ℕ} (f q) 1 0) a (range_with_len (a + 1) n) in
      elim (at_first a p l) [
        | inl e ↦ (let x = none_at (g a) (ap g e ∙ u) in let y = one_at (f a) (ap f e ∙ t) in let z = count_le (range_with_len (a + 1) n) in omega arith)
        | inr k ↦ (let x = at_most a in let z = count_less (a + 1) n p k (omega arith) t u in omega arith)
      ]
    where
      at_first : (a p : ℕ) → a ≤ p → (a ≡ p) ⊎ (a + 1 ≤ p)
      at_first a p l = grind arith
