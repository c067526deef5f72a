-- Entries in rising order in a list, and the finite map that they make.
use Rattle.std.proofs.Common.{◌≡◌, ℕ, ◌+◌, ◌<◌, ◌≤◌, zero, suc, Bool, true, false, cond, not, eqb, eqb-true, ltb, T}
use Rattle.std.proofs.Common.{List, [], ◌∷◌, ◌++◌, length, get_or, take, drop, refl, ap, sym, ◌∙◌, arith, map, Option}
use Rattle.std.proofs.Common.{Some, None, position, remove, nat_cmp, is_lt}
use Rattle.std.specs.List.{prefix_len}
use Rattle.std.specs.Cmp.{nat_cmp_total}
use Rattle.std.specs.FinMap as finmap
use Rattle.std.specs.FinMap.{nat_cmp-IsAntisymmetric, from_entries, from_entries_push, len-entries}
use Rattle.std.specs.FinMap.Entries.{below_all, is_sorted}
use Rattle.std.proofs.lemmas.Bool.Decides.{nat_tests}
use Rattle.std.proofs.lemmas.List.{length-map, map-append, take-map, drop-map}
use Rattle.mapping.proofs.MapLemmas.{both_join, entries-from_entries}
use Rattle.writeback.specs.Rising.{IsRising}
use Rattle.writeback.proofs.MapLaws.{lookup, find-lookup}

below : (k q : ℕ) → k < q → T (is_lt (nat_cmp k q))
below k q h = let e : is_lt (nat_cmp k q) ≡ true = grind (arith, nat_tests) in T_from (is_lt (nat_cmp k q)) e
  where
    T_from : (b : Bool) → b ≡ true → T b
    T_from true e = tt
    T_from false e = absurd cc

different : (a b : ℕ) → a < b → eqb a b ≡ false
different a b h = grind (arith, nat_tests)

apart_keys : {Y : Type 0} (b : Bool) (x : Option Y) → b ≡ false → x ≡ cond b None x
apart_keys true x e = absurd cc
apart_keys false x e = refl

module _ {X : Type 0} where
  pub rising_low : (low k high : ℕ) (es : List (ℕ × X)) → k ≤ low → IsRising low es high → IsRising k es high
  rising_low low k high [] h r = omega arith
  rising_low low k high (e ∷ es) h r = (omega arith, r.1)

  pub rising_ends : (low high : ℕ) (es : List (ℕ × X)) → IsRising low es high → low ≤ high
  rising_ends low high [] r = r
  rising_ends low high (e ∷ es) r = let k = rising_ends (e.0 + 1) high es r.1 in omega arith

  pub rising_high : (low high top : ℕ) (es : List (ℕ × X)) → high ≤ top → IsRising low es high → IsRising low es top
  rising_high low high top [] h r = omega arith
  rising_high low high top (e ∷ es) h r = (r.0, rising_high (e.0 + 1) high top es h r.1)

  below_rising : (k low high : ℕ) (es : List (ℕ × X)) → k < low → IsRising low es high → T (below_all nat_cmp k es)
  below_rising k low high [] h r = tt
  below_rising k low high (e ∷ es) h r =
      both_join _ _ (below k e.0 (omega arith)) (below_rising k (e.0 + 1) high es (omega arith) r.1)

  pub rising_sorted : (low high : ℕ) (es : List (ℕ × X)) → IsRising low es high → T (is_sorted nat_cmp es)
  rising_sorted low high [] r = tt
  rising_sorted low high (e ∷ es) r = both_join _ _ (below_rising e.0 (e.0 + 1) high es (omega arith) r.1)
      (rising_sorted (e.0 + 1) high es r.1)

  -- the entries of the map are the list itself
  pub entries-rising : (low high : ℕ) (es : List (ℕ × X)) → IsRising low es high
      → finmap.entries (from_entries {R = nat_cmp} es) ≡ es
  entries-rising low high es r = entries-from_entries es (rising_sorted low high es r)

  pub len-rising : (low high : ℕ) (es : List (ℕ × X)) → IsRising low es high
      → finmap.len (from_entries {R = nat_cmp} es) ≡ length es
  len-rising low high es r = len-entries _ ∙ ap length (entries-rising low high es r)

  pub lookup_low : (q low high : ℕ) (es : List (ℕ × X)) → q < low → IsRising low es high → lookup q es ≡ None
  lookup_low q low high [] h r = refl
  lookup_low q low high (e ∷ es) h r =
      let later : lookup q es ≡ None = lookup_low q (e.0 + 1) high es (omega arith) r.1 in
      let apart : eqb q e.0 ≡ false = grind (arith, nat_tests) in
      ap (λ b. cond b (Some e.1) (lookup q es)) apart ∙ later

  pub lookup_high : (q low high : ℕ) (es : List (ℕ × X)) → high ≤ q → IsRising low es high → lookup q es ≡ None
  lookup_high q low high [] h r = refl
  lookup_high q low high (e ∷ es) h r =
      let later : lookup q es ≡ None = lookup_high q (e.0 + 1) high es h r.1 in
      let ends = rising_ends (e.0 + 1) high es r.1 in
      let apart : eqb q e.0 ≡ false = grind (arith, nat_tests) in
      ap (λ b. cond b (Some e.1) (lookup q es)) apart ∙ later

  -- ---- a new entry at the end

  pub rising_push : (low high : ℕ) (es : List (ℕ × X)) (v : X) → IsRising low es high
      → IsRising low (es ++ (high, v) ∷ []) (high + 1)
  rising_push low high [] v r = (r, omega arith)
  rising_push low high (e ∷ es) v r = (r.0, rising_push (e.0 + 1) high es v r.1)

  pub push_inserts : (low high : ℕ) (es : List (ℕ × X)) (v : X) → IsRising low es high
      → from_entries {R = nat_cmp} (es ++ (high, v) ∷ []) ≡ finmap.insert (from_entries es) high v
  push_inserts low high es v r = from_entries_push nat_cmp_total nat_cmp-IsAntisymmetric es high v
      (find-lookup high es ∙ lookup_high high low high es (omega arith) r)

  -- ---- an entry is taken out

  pub rising_remove : (low high : ℕ) (es : List (ℕ × X)) (i : ℕ) → i < length es → IsRising low es high
      → IsRising low (remove es i) high
  rising_remove low high [] i h r = absurd (omega arith)
  rising_remove low high (e ∷ es) zero h r = rising_low (e.0 + 1) low high es (omega arith) r.1
  rising_remove low high (e ∷ es) (suc i) h r = (r.0, rising_remove (e.0 + 1) high es i (omega arith) r.1)

  above : (low high : ℕ) (es : List (ℕ × X)) (i : ℕ) (d : ℕ × X) → i < length es → IsRising low es high
      → low ≤ (get_or es i d).0
  above low high [] i d h r = absurd (omega arith)
  above low high (e ∷ es) zero d h r = r.0
  above low high (e ∷ es) (suc i) d h r = let l = above (e.0 + 1) high es i d (omega arith) r.1 in omega (arith, l, r.0)

  pub lookup-remove : (low high : ℕ) (es : List (ℕ × X)) (i : ℕ) (d : ℕ × X) (q : ℕ) → i < length es
      → IsRising low es high → lookup q (remove es i) ≡ cond (eqb q (get_or es i d).0) None (lookup q es)
  lookup-remove low high [] i d q h r = absurd (omega arith)
  lookup-remove low high (e ∷ es) zero d q h r =
      elim (eqb q e.0) as (λ b. eqb q e.0 ≡ b → lookup q es ≡ cond b None (cond b (Some e.1) (lookup q es))) [
        | true ↦ λ t. lookup_low q (e.0 + 1) high es (let s : q ≡ e.0 = grind (arith, nat_tests) in omega arith) r.1
        | false ↦ λ t. refl
      ] refl
  lookup-remove low high (e ∷ es) (suc i) d q h r =
      let later : lookup q (remove es i) ≡ cond (eqb q (get_or es i d).0) None (lookup q es) =
      lookup-remove (e.0 + 1) high es i d q (omega arith) r.1 in
      elim (eqb q e.0) as (λ b. eqb q e.0 ≡ b
      → cond b (Some e.1) (lookup q (remove es i)) ≡ cond (eqb q (get_or es i d).0) None
      (cond b (Some e.1) (lookup q es))) [
        | true ↦ λ t. apart_keys (eqb q (get_or es i d).0) (Some e.1)
            (different q (get_or es i d).0
            (let a = eqb-true q e.0 t in let l = above (e.0 + 1) high es i d (omega arith) r.1 in omega arith))
        | false ↦ λ t. later
      ] refl

  -- ---- new values at the same keys

  pub rising_map : (f : X → X) (low high : ℕ) (es : List (ℕ × X)) → IsRising low es high
      → IsRising low (map (λ (e : ℕ × X). (e.0, f e.1)) es) high
  rising_map f low high [] r = r
  rising_map f low high (e ∷ es) r = (r.0, rising_map f (e.0 + 1) high es r.1)

-- ---- an entry by its place

pub position-map : {A B : Type 0} (p : B → Bool) (f : A → B) (xs : List A)
    → position p (map f xs) ≡ position (λ x. p (f x)) xs
position-map {A = A} p f xs = λ i. cond (ltb (prefix_map xs i) (length-map xs f i)) (Some (prefix_map xs i)) None
  where
    prefix_map : (ys : List A) → prefix_len (λ y. not (p y)) (map f ys) ≡ prefix_len (λ x. not (p (f x))) ys
    prefix_map [] = refl
    prefix_map (y ∷ ys) = ap (λ n. cond (not (p (f y))) (1 + n) 0) (prefix_map ys)

pub map-remove : {A B : Type 0} (f : A → B) (xs : List A) (i : ℕ) → map f (remove xs i) ≡ remove (map f xs) i
map-remove f xs i = map-append f (take i xs) (drop (suc i) xs)
    ∙ (λ j. sym (take-map f i xs) j ++ sym (drop-map f (suc i) xs) j)

pub get_or-map : {A B : Type 0} (f : A → B) (xs : List A) (i : ℕ) (d : A) → i < length xs
    → get_or (map f xs) i (f d) ≡ f (get_or xs i d)
get_or-map f [] i d h = absurd (omega arith)
get_or-map f (x ∷ xs) zero d h = refl
get_or-map f (x ∷ xs) (suc i) d h = get_or-map f xs i d (omega arith)
