-- A map has a lowest key that is not taken.
use Rattle.std.proofs.Common.{◌≡◌, ℕ, zero, suc, ◌+◌, ◌<◌, ◌≤◌, Bool, true, false, cond, eqb, List, [], ◌∷◌, refl, ap}
use Rattle.std.proofs.Common.{◌∙◌, arith, max, inl, inr, ◌⊎◌, Some, None, is_some, nat_cmp}
use Rattle.std.specs.Cmp.{unsigned_tied}
use Rattle.std.specs.FinMap as finmap
use Rattle.std.specs.FinMap.{FinMap, find, get-entries}
use Rattle.std.proofs.lemmas.Bool.Decides.{nat_tests}
use Rattle.machine.specs.Step.{IsLowest}

-- a number past all keys
past_keys : {X : Type 0} (es : List (ℕ × X)) → (n : ℕ) × ((q : ℕ) → n ≤ q → find nat_cmp q es ≡ None)
past_keys [] = (0, λ q h. refl)
past_keys (e ∷ es) = let r = past_keys es in (
  max r.0 (e.0 + 1),
  λ q h. ap (λ b. cond b (Some e.1) (find nat_cmp q es))
      (unsigned_tied q e.0 ∙ differs e.0 q (more r.0 e.0 q h)) ∙ r.1 q (less r.0 e.0 q h),
)
  where
    differs : (a q : ℕ) → a < q → eqb q a ≡ false
    differs a q h = grind (arith, nat_tests)

    more : (n a q : ℕ) → max n (a + 1) ≤ q → a < q
    more n a q h = omega arith

    less : (n a q : ℕ) → max n (a + 1) ≤ q → n ≤ q
    less n a q h = omega arith

-- the lowest of the numbers from k on that is not taken, where none below k is free
lowest_from : (taken : ℕ → Bool) (d k : ℕ) → taken (k + d) ≡ false → ((j : ℕ) → j < k → taken j ≡ true)
    → (m : ℕ) × IsLowest taken m
lowest_from taken zero k e h = (k, (ap taken (let s : k ≡ k + 0 = omega arith in s) ∙ e, h))
lowest_from taken (suc d) k e h =
    go (taken k) refl (λ t. lowest_from taken d (k + 1) (ap taken (let s : k + 1 + d ≡ k + suc d = omega arith in s)
    ∙ e) (λ j l. elim (split j k l) [ inl s ↦ ap taken s ∙ t | inr s ↦ h j s ]))
  where
    split : (j k : ℕ) → j < k + 1 → (j ≡ k) ⊎ (j < k)
    split j k l = grind arith

    go : (b : Bool) → taken k ≡ b → (taken k ≡ true → (m : ℕ) × IsLowest taken m) → (m : ℕ) × IsLowest taken m
    go true t on = on t
    go false t on = (k, (t, h))

pub lowest_free : {X : Type 0} (m : FinMap nat_cmp X) → (n : ℕ) × IsLowest (λ k. is_some (finmap.get m k)) n
lowest_free m = let r = past_keys (finmap.entries m) in
    lowest_from (λ k. is_some (finmap.get m k)) r.0 0
    (ap is_some (get-entries m (0 + r.0) ∙ r.1 (0 + r.0) (omega arith))) (λ j l. absurd (omega arith))
