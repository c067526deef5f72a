-- What is found in a finite map after many of its values changed, and when two maps are equal.
use Rattle.std.proofs.Common.{◌≡◌, ℕ, suc, Bool, true, false, cond, eqb, eqb-true, T, List, [], ◌∷◌, ◌++◌, length, refl}
use Rattle.std.proofs.Common.{ap, sym, ◌∙◌, arith, map, ◌&&◌, ◌||◌, Option, Some, None, option_map, nat_cmp, is_lt}
use Rattle.std.specs.Option.{option_or}
use Rattle.std.specs.List.{list_any}
use Rattle.std.specs.declared.cmp.Ordering.{Ordering}
use Rattle.std.specs.declared.cmp.Ordering.TheVariants.{Less, Equal, Greater}
use Rattle.std.specs.Ordering.{eq_by_cmp, is_eq, ordering_then}
use Rattle.std.specs.Cmp.{nat_cmp_total, unsigned_tied, IsTotalOrder, tied_then}
use Rattle.std.specs.FinMap as finmap
use Rattle.std.specs.FinMap.{FinMap, IsAntisymmetric, nat_cmp-IsAntisymmetric, find, put, get-insert, get-remove}
use Rattle.std.specs.FinMap.{get-entries, get-from_entries, get-retain_keys, same_map, entries-insert, entries_sorted}
use Rattle.std.specs.FinMap.{len-entries, len-empty, from_entries}
use Rattle.std.specs.FinMap.Entries.{below_all, is_sorted, by_order}
use Rattle.std.proofs.lemmas.Cmp.{then_total, on_total}
use Rattle.pc_types.specs.Spots.{place_cmp}
use Rattle.maps.proofs.Maps.{get-insert_nat}
use Rattle.maps.specs.Maps.{overwrite, each_value, put_some, change_at}

-- ---- the order of places

pub places_total : IsTotalOrder place_cmp
places_total = then_total (on_total (λ (x : ℕ × ℕ). x.0) nat_cmp_total) (on_total (λ (x : ℕ × ℕ). x.1) nat_cmp_total)

pub same_place : (g q f p : ℕ) → eq_by_cmp place_cmp (g, q) (f, p) ≡ (eqb g f && eqb q p)
same_place g q f p = sym (tied_then (nat_cmp g f) (nat_cmp q p)) ∙ (λ i. unsigned_tied g f i && unsigned_tied q p i)

both_equal : (a b : Ordering) → ordering_then a b ≡ Equal → (a ≡ Equal) × (b ≡ Equal)
both_equal Less b e = absurd cc
both_equal Equal b e = (refl, e)
both_equal Greater b e = absurd cc

-- only equal places tie
pub places_antisymmetric : IsAntisymmetric place_cmp
places_antisymmetric (a, b) (c, d) e = let k = both_equal (nat_cmp a c) (nat_cmp b d) e in
    λ i. (nat_cmp-IsAntisymmetric a c k.0 i, nat_cmp-IsAntisymmetric b d k.1 i)

-- ---- equal maps

pub same_nat_map : {X : Type 0} (m n : FinMap nat_cmp X) → ((q : ℕ) → finmap.get m q ≡ finmap.get n q) → m ≡ n
same_nat_map m n is = same_map nat_cmp_total nat_cmp-IsAntisymmetric m n is

pub same_place_map : {X : Type 0} (m n : FinMap place_cmp X) → ((g q : ℕ) → finmap.get m (g, q) ≡ finmap.get n (g, q))
    → m ≡ n
same_place_map m n is = same_map places_total places_antisymmetric m n (λ k. is k.0 k.1)

-- ---- one value

pub get-insert_place : {X : Type 0} (m : FinMap place_cmp X) (f p : ℕ) (x : X) (g q : ℕ)
    → finmap.get (finmap.insert m (f, p) x) (g, q) ≡ cond (eqb g f && eqb q p) (Some x) (finmap.get m (g, q))
get-insert_place m f p x g q = get-insert places_total m (f, p) x (g, q)
    ∙ ap (λ b. cond b (Some x) (finmap.get m (g, q))) (same_place g q f p)

pub get-remove_place : {X : Type 0} (m : FinMap place_cmp X) (f p g q : ℕ)
    → finmap.get (finmap.remove m (f, p)) (g, q) ≡ cond (eqb g f && eqb q p) None (finmap.get m (g, q))
get-remove_place m f p g q = get-remove places_total m (f, p) (g, q)
    ∙ ap (λ b. cond b None (finmap.get m (g, q))) (same_place g q f p)

pub get-retain_nat : {X : Type 0} (m : FinMap nat_cmp X) (keep : ℕ → Bool) (q : ℕ)
    → finmap.get (finmap.retain_keys m keep) q ≡ cond (keep q) (finmap.get m q) None
get-retain_nat m keep q = get-retain_keys m keep q (λ x e. ap keep (sym (nat_cmp-IsAntisymmetric q x e)))

pub get-retain_place : {X : Type 0} (m : FinMap place_cmp X) (keep : ℕ × ℕ → Bool) (g q : ℕ)
    → finmap.get (finmap.retain_keys m keep) (g, q) ≡ cond (keep (g, q)) (finmap.get m (g, q)) None
get-retain_place m keep g q = get-retain_keys m keep (g, q) (λ x e. ap keep (sym (places_antisymmetric (g, q) x e)))

-- ---- many values

find-append : {K X : Type 0} (R : K → K → Ordering) (es fs : List (K × X)) (q : K)
    → find R q (es ++ fs) ≡ option_or (find R q es) (find R q fs)
find-append R [] fs q = refl
find-append R (e ∷ es) fs q =
    elim (eq_by_cmp R q e.0) as (λ b. cond b (Some e.1) (find R q (es ++ fs))
    ≡ option_or (cond b (Some e.1) (find R q es)) (find R q fs)) [ true ↦ refl | false ↦ find-append R es fs q ]

pub get-overwrite : {K X : Type 0} {R : K → K → Ordering} → IsTotalOrder R
    → (es : List (K × X)) (m : FinMap R X) (q : K)
    → finmap.get (overwrite es m) q ≡ option_or (find R q es) (finmap.get m q)
get-overwrite {R} o es m q = get-from_entries o (es ++ finmap.entries m) q ∙ find-append R es (finmap.entries m) q
    ∙ ap (option_or (find R q es)) (sym (get-entries m q))

-- each value changed, by its place
find-each_place : {X : Type 0} (g : ℕ × ℕ → X → X) (q : ℕ × ℕ) (es : List ((ℕ × ℕ) × X))
    → find place_cmp q (map (λ e. (e.0, g e.0 e.1)) es) ≡ option_map (g q) (find place_cmp q es)
find-each_place g q [] = refl
find-each_place g q (e ∷ es) =
    elim (place_cmp q e.0) as (λ r. place_cmp q e.0 ≡ r
    → cond (is_eq r) (Some (g e.0 e.1)) (find place_cmp q (map (λ e. (e.0, g e.0 e.1)) es))
    ≡ option_map (g q) (cond (is_eq r) (Some e.1) (find place_cmp q es))) [
      | Less ↦ λ _. find-each_place g q es
      | Equal ↦ λ t. ap (λ k. Some (g k e.1)) (sym (places_antisymmetric q e.0 t))
      | Greater ↦ λ _. find-each_place g q es
    ] refl

pub get-each_place : {X : Type 0} (g : ℕ × ℕ → X → X) (m : FinMap place_cmp X) (q : ℕ × ℕ)
    → finmap.get (each_value g m) q ≡ option_map (g q) (finmap.get m q)
get-each_place g m q = get-from_entries places_total (map (λ e. (e.0, g e.0 e.1)) (finmap.entries m)) q
    ∙ find-each_place g q (finmap.entries m) ∙ ap (option_map (g q)) (sym (get-entries m q))

-- the value at one key changed
pub get-change_at : {X : Type 0} (k : ℕ) (f : X → X) (m : FinMap nat_cmp X) (q : ℕ)
    → finmap.get (change_at k f m) q ≡ cond (eqb q k) (option_map f (finmap.get m q)) (finmap.get m q)
get-change_at {X} k f m q = go (finmap.get m k) refl
  where
    here : (o : Option X) → finmap.get m k ≡ o → eqb q k ≡ true → finmap.get m q ≡ o
    here o e s = ap (finmap.get m) (eqb-true q k s) ∙ e

    go : (o : Option X) → finmap.get m k ≡ o
        → finmap.get (put_some k (option_map f o) m) q ≡ cond (eqb q k) (option_map f (finmap.get m q)) (finmap.get m q)
    go None e =
        elim (eqb q k) as (λ b. eqb q k ≡ b → finmap.get m q ≡ cond b (option_map f (finmap.get m q)) (finmap.get m q))
        [ true ↦ λ s. here None e s ∙ sym (ap (option_map f) (here None e s)) | false ↦ λ s. refl ] refl
    go (Some x) e = get-insert_nat m k (f x) q
        ∙ elim (eqb q k) as (λ b. eqb q k ≡ b
        → cond b (Some (f x)) (finmap.get m q) ≡ cond b (option_map f (finmap.get m q)) (finmap.get m q))
        [ true ↦ λ s. sym (ap (option_map f) (here (Some x) e s)) | false ↦ λ s. refl ] refl

-- ---- the entries of a map whose values are changed

both_true : (a b : Bool) → T (a && b) → T a × T b
both_true true b h = (tt, h)
both_true false b h = absurd h

both_join : (a b : Bool) → T a → T b → T (a && b)
both_join true b p q = q
both_join false b p q = p

none_at_zero : {A : Type 0} (es : List A) → length es ≡ 0 → es ≡ []
none_at_zero [] e = refl
none_at_zero (x ∷ es) e = absurd (omega arith)

pub no_entries : {K X : Type 0} (R : K → K → Ordering) → finmap.entries (finmap.empty {X = X} {R = R}) ≡ []
no_entries {X = X} R = none_at_zero _ (sym (len-entries (finmap.empty {X = X} {R = R})) ∙ len-empty R X)

module _ {X : Type 0} where
  put_first : (k : ℕ) (v : X) (es : List (ℕ × X)) → T (below_all nat_cmp k es) → put nat_cmp k v es ≡ (k, v) ∷ es
  put_first k v [] h = refl
  put_first k v (y ∷ es) h = go (nat_cmp k y.0) (both_true _ _ h).0
    where
      go : (o : Ordering) → T (is_lt o) → by_order o ((k, v) ∷ y ∷ es) ((y.0, v) ∷ es) (y ∷ put nat_cmp k v es) ≡ (k, v)
          ∷ y ∷ es
      go Less h = refl
      go Equal h = absurd h
      go Greater h = absurd h

  entries-from_entries : (es : List (ℕ × X)) → T (is_sorted nat_cmp es) → finmap.entries (from_entries {R = nat_cmp} es)
      ≡ es
  entries-from_entries [] h = no_entries nat_cmp
  entries-from_entries (e ∷ es) h =
      let parts = both_true _ _ h in
      entries-insert nat_cmp_total (from_entries es) e.0 e.1
      ∙ ap (put nat_cmp e.0 e.1) (entries-from_entries es parts.1) ∙ put_first e.0 e.1 es parts.0

  below-map : (f : ℕ → X → X) (k : ℕ) (es : List (ℕ × X)) → T (below_all nat_cmp k es)
      → T (below_all nat_cmp k (map (λ (e : ℕ × X). (e.0, f e.0 e.1)) es))
  below-map f k [] h = tt
  below-map f k (y ∷ es) h = let parts = both_true _ _ h in both_join _ _ parts.0 (below-map f k es parts.1)

  sorted-map : (f : ℕ → X → X) (es : List (ℕ × X)) → T (is_sorted nat_cmp es)
      → T (is_sorted nat_cmp (map (λ (e : ℕ × X). (e.0, f e.0 e.1)) es))
  sorted-map f [] h = tt
  sorted-map f (y ∷ es) h = let parts = both_true _ _ h in
      both_join _ _ (below-map f y.0 es parts.0) (sorted-map f es parts.1)

  length-map : (f : ℕ → X → X) (es : List (ℕ × X)) → length {A = ℕ × X} (map (λ (e : ℕ × X). (e.0, f e.0 e.1)) es)
      ≡ length es
  length-map f [] = refl
  length-map f (y ∷ es) = ap suc (length-map f es)

  pub entries-each_value : (f : ℕ → X → X) (m : FinMap nat_cmp X)
      → finmap.entries (each_value f m) ≡ map (λ (e : ℕ × X). (e.0, f e.0 e.1)) (finmap.entries m)
  entries-each_value f m = entries-from_entries _ (sorted-map f (finmap.entries m) (entries_sorted m))

  pub len-each_value : (f : ℕ → X → X) (m : FinMap nat_cmp X) → finmap.len (each_value f m) ≡ finmap.len m
  len-each_value f m = len-entries (each_value f m) ∙ ap length (entries-each_value f m)
      ∙ length-map f (finmap.entries m) ∙ sym (len-entries m)

-- ---- values that a test finds

pub any_value : {K X : Type 0} (R : K → K → Ordering) (test : X → Bool) (q : K) (x : X) (es : List (K × X))
    → find R q es ≡ Some x → test x ≡ true → list_any test (map (λ (e : K × X). e.1) es) ≡ true
any_value R test q x [] e t = absurd cc
any_value R test q x (y ∷ es) e t =
    elim (test y.1) as (λ b. test y.1 ≡ b → (b || list_any test (map (λ e. e.1) es)) ≡ true) [
      | true ↦ λ _. refl
      | false ↦ λ n. any_value R test q x es
          (elim (eq_by_cmp R q y.0) as (λ b. cond b (Some y.1) (find R q es) ≡ Some x → find R q es ≡ Some x) [
            | true ↦ λ k. absurd (let a : y.1 ≡ x = cc in let c = ap test a in cc)
            | false ↦ λ k. k
          ] e) t
    ] refl
