-- A vector as a map: what is found in it, and what it is after one place is set, or one is added.
use Rattle.std.proofs.Common.{◌≡◌, ◌≢◌, ℕ, ◌+◌, ◌<◌, ◌≤◌, ◌⊎◌, zero, suc, cond, eqb, eq-eqb, List, [], ◌∷◌, ◌++◌}
use Rattle.std.proofs.Common.{length, get_or, replicate, Option, Some, None, refl, ap, sym, ◌∙◌, arith, inl, inr}
use Rattle.std.proofs.Common.{length-append, get_or-set_same, get_or-set_other, true, false}
use Rattle.std.specs.Prelude.{slice_set}
use Rattle.std.specs.Ordering.{nat_cmp, eq_by_cmp}
use Rattle.std.specs.Cmp.{nat_cmp_total, unsigned_tied}
use Rattle.std.specs.FinMap as map
use Rattle.std.proofs.lemmas.Bool.Decides.{nat_tests}
use Rattle.std.proofs.lemmas.Bool.{cases_eq, cases_lt, ne_eqb}
use Rattle.std.proofs.lemmas.List.{get_or-replicate, get_or_past, length-replicate, get_or-append-add}
use Rattle.std.proofs.Math.ListN.{get_or-append}
use Rattle.maps.specs.Vectors.{entries_from, by_place}
use Rattle.maps.proofs.MapLaws.{same_nat_map}
use Rattle.maps.proofs.Maps.{get-insert_nat, get-remove_nat}

-- one place is set
pub get_or-set : {A : Type 0} (xs : List A) (i j : ℕ) (v d : A) → i < length xs
    → get_or (slice_set xs i v) j d ≡ cond (eqb j i) v (get_or xs j d)
get_or-set {A} xs i j v d h =
    elim (eqb j i) as (λ b. eqb j i ≡ b → get_or (slice_set xs i v) j d ≡ cond b v (get_or xs j d)) [
      | true ↦ λ e. grind (arith, nat_tests, get_or-set_same {A = A})
      | false ↦ λ e. grind (arith, nat_tests, get_or-set_other {A = A})
    ] refl

-- ---- the map

module _ {X : Type 0} where
  found_at : (q n : ℕ) (x : X) (o : Option X) → q ≡ n → cond (eq_by_cmp nat_cmp q n) (Some x) o ≡ Some x
  found_at q n x o e = ap (λ b. cond b (Some x) o) (unsigned_tied q n ∙ eq-eqb q n e)

  passed : (q n : ℕ) (x : X) (o : Option X) → q ≢ n → cond (eq_by_cmp nat_cmp q n) (Some x) o ≡ o
  passed q n x o e = ap (λ b. cond b (Some x) o) (unsigned_tied q n ∙ ne_eqb q n e)

  find_before : (xs : List (Option X)) (n q : ℕ) → q < n → map.find nat_cmp q (entries_from n xs) ≡ None
  find_before [] n q low = refl
  find_before (None ∷ xs) n q low = find_before xs (n + 1) q (omega (arith, low))
  find_before (Some x ∷ xs) n q low = passed q n x _ (λ e. omega (arith, low, e))
      ∙ find_before xs (n + 1) q (omega (arith, low))

  find_there : (xs : List (Option X)) (n i q : ℕ) → q ≡ n + i → map.find nat_cmp q (entries_from n xs)
      ≡ get_or xs i None
  find_there [] n i q at = refl
  find_there (None ∷ xs) n zero q at = find_before xs (n + 1) q (omega (arith, at))
  find_there (None ∷ xs) n (suc i) q at = find_there xs (n + 1) i q (omega (arith, at))
  find_there (Some x ∷ xs) n zero q at = found_at q n x _ (omega (arith, at))
  find_there (Some x ∷ xs) n (suc i) q at = passed q n x _ (λ e. omega (arith, at, e))
      ∙ find_there xs (n + 1) i q (omega (arith, at))

  pub get-by_place : (xs : List (Option X)) (q : ℕ) → map.get (by_place xs) q ≡ get_or xs q None
  get-by_place xs q = map.get-from_entries nat_cmp_total (entries_from 0 xs) q ∙ find_there xs 0 q q (omega arith)

  pub by_place-some : (xs : List (Option X)) (k : ℕ) (x : X) → k < length xs
      → by_place (slice_set xs k (Some x)) ≡ map.insert (by_place xs) k x
  by_place-some xs k x within = same_nat_map _ _ (λ q.
      get-by_place (slice_set xs k (Some x)) q
      ∙ get_or-set xs k q (Some x) None within
      ∙ ap (cond (eqb q k) (Some x)) (sym (get-by_place xs q))
      ∙ sym (get-insert_nat (by_place xs) k x q))

  pub by_place-none : (xs : List (Option X)) (k : ℕ) → k < length xs
      → by_place (slice_set xs k None) ≡ map.remove (by_place xs) k
  by_place-none xs k within = same_nat_map _ _ (λ q.
      get-by_place (slice_set xs k None) q
      ∙ get_or-set xs k q None None within
      ∙ ap (cond (eqb q k) None) (sym (get-by_place xs q))
      ∙ sym (get-remove_nat (by_place xs) k q))

  none_at : (n q : ℕ) → get_or {A = Option X} (replicate n None) q None ≡ None
  none_at n q = go (cases_lt q n)
    where
      go : (q < n) ⊎ (n ≤ q) → get_or {A = Option X} (replicate n None) q None ≡ None
      go (inl low) = get_or-replicate n q None None low
      go (inr past) = get_or_past (replicate n None) q None (omega (arith, length-replicate {A = Option X} n None, past))

  pub by_place-empty : (n : ℕ) → by_place {X = X} (replicate n None) ≡ map.empty
  by_place-empty n =
      same_nat_map _ _ (λ q. get-by_place (replicate n None) q ∙ none_at n q ∙ sym (map.get-empty nat_cmp q))

  -- a number past the end has no value
  pub by_place-past : (xs : List (Option X)) (k : ℕ) → length xs ≤ k → by_place xs ≡ map.remove (by_place xs) k
  by_place-past xs k past = same_nat_map _ _ (λ q. get-by_place xs q ∙ go q (cases_eq q k)
      ∙ sym (get-remove_nat (by_place xs) k q))
    where
      go : (q : ℕ) → (q ≡ k) ⊎ (q ≢ k) → get_or xs q None ≡ cond (eqb q k) None (map.get (by_place xs) q)
      go q (inl same) = get_or_past xs q None (omega (arith, same, past))
          ∙ sym (ap (λ b. cond b None (map.get (by_place xs) q)) (eq-eqb q k same))
      go q (inr differs) = sym (get-by_place xs q)
          ∙ sym (ap (λ b. cond b None (map.get (by_place xs) q)) (ne_eqb q k differs))

  pub by_place-push : (xs : List (Option X)) (k : ℕ) (x : X) → k ≡ length xs
      → by_place (xs ++ Some x ∷ []) ≡ map.insert (by_place xs) k x
  by_place-push xs k x at = same_nat_map _ _ (λ q. get-by_place (xs ++ Some x ∷ []) q ∙ go q (cases_eq q k)
      ∙ sym (get-insert_nat (by_place xs) k x q))
    where
      other : (q : ℕ) → q ≢ k → (q < length xs) ⊎ (length xs ≤ q) → get_or (xs ++ Some x ∷ []) q None
          ≡ get_or xs q None
      other q n (inl low) = get_or-append xs (Some x ∷ []) None q low
      other q n (inr past) = get_or_past (xs ++ Some x ∷ []) q None
          (omega (arith, length-append xs (Some x ∷ []), past, (λ (e : q ≡ length xs). n (e ∙ sym at))))
          ∙ sym (get_or_past xs q None past)

      go : (q : ℕ) → (q ≡ k) ⊎ (q ≢ k)
          → get_or (xs ++ Some x ∷ []) q None ≡ cond (eqb q k) (Some x) (map.get (by_place xs) q)
      go q (inl same) =
          ap (λ j. get_or (xs ++ Some x ∷ []) j None)
          (same ∙ at ∙ (let z : length xs ≡ length xs + 0 = omega arith in z))
          ∙ get_or-append-add xs (Some x ∷ []) 0 None
          ∙ sym (ap (λ b. cond b (Some x) (map.get (by_place xs) q)) (eq-eqb q k same))
      go q (inr differs) = other q differs (cases_lt q (length xs)) ∙ sym (get-by_place xs q)
          ∙ sym (ap (λ b. cond b (Some x) (map.get (by_place xs) q)) (ne_eqb q k differs))
