-- Lists read by `slice_get`, after one element was set.
use Rattle.std.proofs.Common.{◌≡◌, ◌≢◌, ℕ, zero, suc, ◌⊎◌, List, [], ◌∷◌, map, refl, ap, inl, inr, arith, ⊎_elim}
use Rattle.std.specs.Prelude.{slice_get, slice_set, Some}
use Rattle.std.proofs.lemmas.Option.{none-some, same_Some}

module _ {A : Type 0} where
  pub get_set : (l : List A) (i j : ℕ) (a b : A) → slice_get (slice_set l i a) j ≡ Some b
      → ((j ≡ i) × (a ≡ b)) ⊎ ((j ≢ i) × (slice_get l j ≡ Some b))
  get_set [] i j a b e = absurd (none-some b e)
  get_set (x ∷ xs) zero zero a b e = inl (refl, same_Some a b e)
  get_set (x ∷ xs) zero (suc j) a b e = inr ((λ h. omega arith), e)
  get_set (x ∷ xs) (suc i) zero a b e = inr ((λ h. omega arith), e)
  get_set (x ∷ xs) (suc i) (suc j) a b e = ⊎_elim (λ t. inl (ap suc t.0, t.1))
      (λ t. let n = t.0 in inr ((λ h. n (omega arith)), t.1)) (get_set xs i j a b e)

  pub set_here : (l : List A) (i : ℕ) (a b : A) → slice_get l i ≡ Some b → slice_get (slice_set l i a) i ≡ Some a
  set_here [] i a b e = absurd (none-some b e)
  set_here (x ∷ xs) zero a b e = refl
  set_here (x ∷ xs) (suc i) a b e = set_here xs i a b e

  pub set_else : (l : List A) (i j : ℕ) (a b : A) → j ≢ i → slice_get l j ≡ Some b
      → slice_get (slice_set l i a) j ≡ Some b
  set_else [] i j a b n e = e
  set_else (x ∷ xs) zero zero a b n e = absurd (n refl)
  set_else (x ∷ xs) zero (suc j) a b n e = e
  set_else (x ∷ xs) (suc i) zero a b n e = e
  set_else (x ∷ xs) (suc i) (suc j) a b n e = set_else xs i j a b (λ h. n (ap suc h)) e

  pub mapped_at : {B : Type 0} (f : A → B) (l : List A) (i : ℕ) (b : B) → slice_get (map f l) i ≡ Some b
      → (a : A) × (slice_get l i ≡ Some a) × (f a ≡ b)
  mapped_at f [] i b e = absurd (none-some b e)
  mapped_at f (x ∷ xs) zero b e = (x, refl, same_Some (f x) b e)
  mapped_at f (x ∷ xs) (suc i) b e = mapped_at f xs i b e
