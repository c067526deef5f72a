-- The first number of a range that passes a test, as the code looks for it.
use Rattle.std.proofs.Common.{◌≡◌, ℕ, zero, suc, ◌+◌, ◌<◌, ◌≤◌, Bool, true, false, cond, eqb, eqb-true, refl, ap}
use Rattle.std.proofs.Common.{sym, ◌∙◌, arith}
use Rattle.std.specs.Prelude.{Some, None, find}
use Rattle.std.specs.List.{range_with_len}
use Rattle.std.proofs.lemmas.Bool.Decides.{nat_tests}

some_none : (x : ℕ) → Some x ≡ None → ⊥
some_none x h = cc

further : (a q : ℕ) → a ≤ q → eqb a q ≡ false → a + 1 ≤ q
further a q l s = grind (arith, nat_tests)

-- where none is absent, each is cached
pub none_absent : (p : ℕ → Bool) (a n : ℕ) → find p (range_with_len a n) ≡ None → (q : ℕ) → a ≤ q → q < a + n
    → p q ≡ false
none_absent p a zero e q l h = absurd (omega arith)
none_absent p a (suc n) e q l h = elim (p a) as (λ b. p a ≡ b → p q ≡ false) [
  | true ↦ λ t. absurd (some_none a (sym (ap (λ b. cond b (Some a) (find p (range_with_len (a + 1) n))) t) ∙ e))
  | false ↦ λ t. elim (eqb a q) as (λ b. eqb a q ≡ b → p q ≡ false) [
    | true ↦ λ s. ap p (sym (eqb-true a q s)) ∙ t
    | false ↦ λ s. let more = further a q l s in
        none_absent p (a + 1) n (sym (ap (λ b. cond b (Some a) (find p (range_with_len (a + 1) n))) t) ∙ e) q more
        (omega arith)
  ] refl
] refl

-- one number further
