-- A search by a test, as far as it has come.
use Rattle.std.proofs.Common.{◌≡◌, ℕ, ◌+◌, ◌<◌, ◌≤◌, zero, suc, Bool, true, false, cond, List, [], ◌∷◌, length, get_or}
use Rattle.std.proofs.Common.{drop, refl, ap, sym, ◌∙◌, arith, Some, None, find}

module _ {A : Type 0} (test : A → Bool) where
  -- the i-th passes
  pub find_here : (xs : List A) (i : ℕ) (d x : A) → i < length xs → x ≡ get_or xs i d → test x ≡ true
      → find test (drop i xs) ≡ find test xs → Some x ≡ find test xs
  find_here xs i d x h is t inv = at_place xs i d x h is t ∙ inv
    where
      at_place : (ys : List A) (j : ℕ) (d x : A) → j < length ys → x ≡ get_or ys j d → test x ≡ true
          → Some x ≡ find test (drop j ys)
      at_place [] j d x h is t = absurd (omega arith)
      at_place (y ∷ ys) zero d x h is t = ap Some is
          ∙ sym (ap (λ b. cond b (Some y) (find test ys)) (sym (ap test is) ∙ t))
      at_place (y ∷ ys) (suc j) d x h is t = at_place ys j d x (omega arith) is t

  next_at : (xs : List A) (i : ℕ) (d x : A) → i < length xs → x ≡ get_or xs i d → test x ≡ false
      → find test (drop (suc i) xs) ≡ find test (drop i xs)
  next_at [] i d x h is t = absurd (omega arith)
  next_at (y ∷ ys) zero d x h is t = sym (ap (λ b. cond b (Some y) (find test ys)) (sym (ap test is) ∙ t))
  next_at (y ∷ ys) (suc j) d x h is t = next_at ys j d x (omega arith) is t

  -- the i-th does not
  pub find_next : (xs : List A) (i : ℕ) (d x : A) → i < length xs → x ≡ get_or xs i d → test x ≡ false
      → find test (drop i xs) ≡ find test xs → find test (drop (i + 1) xs) ≡ find test xs
  find_next xs i d x h is t inv = ap (λ n. find test (drop n xs)) (let e : i + 1 ≡ suc i = omega arith in e)
      ∙ next_at xs i d x h is t ∙ inv

  -- all were looked at
  pub find_end : (xs : List A) (i : ℕ) → length xs ≤ i → find test (drop i xs) ≡ None
  find_end [] zero h = refl
  find_end [] (suc i) h = refl
  find_end (x ∷ xs) zero h = absurd (omega arith)
  find_end (x ∷ xs) (suc i) h = find_end xs i (omega arith)
