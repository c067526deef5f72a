-- How many numbers of a range are unused, after one is used.
use Rattle.std.proofs.Common.{◌≡◌, ◌≢◌, ℕ, zero, suc, ◌+◌, ◌<◌, ◌≤◌, Bool, true, false, ◌&&◌, ◌||◌, cond, not, List, [], ◌∷◌, length, filter, refl, sym, ap, ◌∙◌, arith, inl, inr, add-one}
use Rattle.std.specs.List.{range_with_len}
use Rattle.std.specs.Ordering.{nat_cmp}
use Rattle.std.specs.Cmp.{nat_cmp_total, unsigned_tied}
use Rattle.std.specs.FinSet as set
use Rattle.std.proofs.lemmas.Bool.{cases_eq, cond-false, cond-true, eq-eqb, ne_eqb}
use Rattle.std.proofs.lemmas.List.FromFn.{length-range_with_len}
use Rattle.blockmap.specs.Balance.{unused}

pub filter_alike : (p q : ℕ → Bool) → ((x : ℕ) → p x ≡ q x) → (xs : List ℕ) → filter p xs ≡ filter q xs
filter_alike p q e [] = refl
filter_alike p q e (x ∷ xs) = λ i. cond (e x i) (x ∷ filter_alike p q e xs i) (filter_alike p q e xs i)

filter_all : (p : ℕ → Bool) → ((x : ℕ) → p x ≡ true) → (xs : List ℕ) → filter p xs ≡ xs
filter_all p e [] = refl
filter_all p e (x ∷ xs) = cond-true (p x) (x ∷ filter p xs) (filter p xs) (e x) ∙ ap (λ ys. x ∷ ys) (filter_all p e xs)

-- two tests that differ at n alone, over numbers from a on
module _ (p q : ℕ → Bool) (n : ℕ) (others : (k : ℕ) → k ≢ n → q k ≡ p k) where
  same_after : (a c : ℕ) → n < a → length (filter q (range_with_len a c)) ≡ length (filter p (range_with_len a c))
  same_after a zero past = refl
  same_after a (suc c) past = step (p a) (q a) (others a (λ e. absurd (omega arith))) (same_after (a + 1) c (omega arith))
    where
      step : (x y : Bool) → y ≡ x → length (filter q (range_with_len (a + 1) c)) ≡ length (filter p (range_with_len (a + 1) c)) → length (cond y (a ∷ filter q (range_with_len (a + 1) c)) (filter q (range_with_len (a + 1) c))) ≡ length (cond x (a ∷ filter p (range_with_len (a + 1) c)) (filter p (range_with_len (a + 1) c)))
      step true true e h = ap suc h
      step true false e h = absurd cc
      step false true e h = absurd cc
      step false false e h = h

  one_fewer : (a c : ℕ) → a ≤ n → n < a + c → p n ≡ true → q n ≡ false → suc (length (filter q (range_with_len a c))) ≡ length (filter p (range_with_len a c))
  one_fewer a zero low high on off = absurd (omega arith)
  one_fewer a (suc c) low high on off = elim (cases_eq a n) [
    | inl e ↦
        ap (λ xs. suc (length xs)) (cond-false (q a) (a ∷ filter q (range_with_len (a + 1) c)) (filter q (range_with_len (a + 1) c)) (ap q e ∙ off))
        ∙ ap suc (same_after (a + 1) c (omega arith))
        ∙ sym (ap length (cond-true (p a) (a ∷ filter p (range_with_len (a + 1) c)) (filter p (range_with_len (a + 1) c)) (ap p e ∙ on)))
    | inr differs ↦ step (p a) (q a) (others a differs) (one_fewer (a + 1) c (omega arith) (omega arith) on off)
  ]
    where
      step : (x y : Bool) → y ≡ x → suc (length (filter q (range_with_len (a + 1) c))) ≡ length (filter p (range_with_len (a + 1) c)) → suc (length (cond y (a ∷ filter q (range_with_len (a + 1) c)) (filter q (range_with_len (a + 1) c)))) ≡ length (cond x (a ∷ filter p (range_with_len (a + 1) c)) (filter p (range_with_len (a + 1) c)))
      step true true e h = ap suc h
      step true false e h = absurd cc
      step false true e h = absurd cc
      step false false e h = h

pub unused-empty : (count : ℕ) → unused set.empty count ≡ count
unused-empty count = ap length (filter_all _ (λ b. ap not (set.contains-empty nat_cmp b)) (range_with_len 0 count)) ∙ length-range_with_len 0 count

pub used_now : (s : set.FinSet nat_cmp) (n : ℕ) → set.contains (set.insert s n) n ≡ true
used_now s n = set.contains-insert nat_cmp_total s n n ∙ ap (λ b. b || set.contains s n) (unsigned_tied n n ∙ eq-eqb n n refl)

pub used_other : (s : set.FinSet nat_cmp) (n k : ℕ) → k ≢ n → set.contains (set.insert s n) k ≡ set.contains s k
used_other s n k differs = set.contains-insert nat_cmp_total s n k ∙ ap (λ b. b || set.contains s k) (unsigned_tied k n ∙ ne_eqb k n differs)

pub freed_now : (s : set.FinSet nat_cmp) (n : ℕ) → set.contains (set.remove s n) n ≡ false
freed_now s n = set.contains-remove nat_cmp_total s n n ∙ ap (λ b. not b && set.contains s n) (unsigned_tied n n ∙ eq-eqb n n refl)

pub freed_other : (s : set.FinSet nat_cmp) (n k : ℕ) → k ≢ n → set.contains (set.remove s n) k ≡ set.contains s k
freed_other s n k differs = set.contains-remove nat_cmp_total s n k ∙ ap (λ b. not b && set.contains s k) (unsigned_tied k n ∙ ne_eqb k n differs)

pub unused-insert : (s : set.FinSet nat_cmp) (n count : ℕ) → n < count → set.contains s n ≡ false → unused (set.insert s n) count + 1 ≡ unused s count
unused-insert s n count within free =
    add-one (unused (set.insert s n) count)
    ∙ one_fewer (λ b. not (set.contains s b)) (λ b. not (set.contains (set.insert s n) b)) n (λ k differs. ap not (used_other s n k differs)) 0 count (omega arith) (omega arith) (ap not free) (ap not (used_now s n))

pub unused-remove : (s : set.FinSet nat_cmp) (n count : ℕ) → n < count → set.contains s n ≡ true → unused (set.remove s n) count ≡ unused s count + 1
unused-remove s n count within is =
    sym (one_fewer (λ b. not (set.contains (set.remove s n) b)) (λ b. not (set.contains s b)) n (λ k differs. sym (ap not (freed_other s n k differs))) 0 count (omega arith) (omega arith) (ap not (freed_now s n)) (ap not is))
    ∙ sym (add-one (unused s count))

-- to give back what was just taken changes nothing
pub undone : (s : set.FinSet nat_cmp) (n : ℕ) → set.contains s n ≡ false → set.remove (set.insert s n) n ≡ s
undone s n free = set.same_set nat_cmp_total set.nat_cmp-IsAntisymmetric (set.remove (set.insert s n) n) s (λ k. elim (cases_eq k n) [
  | inl e ↦ ap (set.contains (set.remove (set.insert s n) n)) e ∙ freed_now (set.insert s n) n ∙ sym (ap (set.contains s) e ∙ free)
  | inr differs ↦ freed_other (set.insert s n) n k differs ∙ used_other s n k differs
])

filter_le : (p : ℕ → Bool) (xs : List ℕ) → length (filter p xs) ≤ length xs
filter_le p [] = omega arith
filter_le p (x ∷ xs) = step (p x) (filter_le p xs)
  where
    step : (b : Bool) → length (filter p xs) ≤ length xs → length (cond b (x ∷ filter p xs) (filter p xs)) ≤ suc (length xs)
    step true h = omega arith
    step false h = omega arith

pub unused-le : (used : set.FinSet nat_cmp) (count : ℕ) → unused used count ≤ count
unused-le used count = let len = length-range_with_len 0 count in omega (arith, filter_le (λ b. not (set.contains used b)) (range_with_len 0 count), len)
