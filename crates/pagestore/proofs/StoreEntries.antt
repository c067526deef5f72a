-- A map of which some values are seen, each through a function, and a set of places.
use Rattle.std.proofs.Common.{◌≡◌, ℕ, ◌+◌, ◌≤◌, Bool, true, false, cond, not, eqb, eqb-true, List, [], ◌∷◌, length}
use Rattle.std.proofs.Common.{refl, ap, sym, ◌∙◌, arith, map}
use Rattle.std.specs.Prelude.{◌&&◌, ◌||◌, Option, Some, None, option_map, is_some, filter_map}
use Rattle.std.specs.Option.{option_and_then, option_or}
use Rattle.std.specs.List.{list_any, cons_option}
use Rattle.std.specs.Ordering.{nat_cmp, eq_by_cmp}
use Rattle.std.specs.Cmp.{nat_cmp_total, unsigned_tied}
use Rattle.std.specs.FinMap as finmap
use Rattle.std.specs.FinMap.{FinMap, find, from_entries, get-from_entries, get-empty, len-insert, len-empty}
use Rattle.std.specs.FinMap.{len-entries, contains_key-keys}
use Rattle.std.specs.FinSet as set
use Rattle.std.specs.FinSet.{contains-insert, contains-remove, same_set}
use Rattle.pc_types.specs.Spots.{place_cmp}
use Rattle.mapping.proofs.MapLemmas.{AllEntries, all_entries}
use Rattle.pagestore.specs.Store.{each_seen, put_at, put_in}
use Rattle.maps.proofs.MapLaws.{same_nat_map, places_total, places_antisymmetric, same_place}
use Rattle.maps.proofs.Maps.{get-insert_nat, get-remove_nat}

-- ---- the values that are seen

abbrev seen_list : {X Y : Type 0} → (X → Option Y) → List (ℕ × X) → List (ℕ × Y)
seen_list f es = filter_map (λ e. option_map (λ y. (e.0, y)) (f e.1)) es

find-cons : {Y : Type 0} (q k : ℕ) (o : Option Y) (rest : List (ℕ × Y))
    → find nat_cmp q (cons_option (option_map (λ y. (k, y)) o) rest) ≡ cond (eq_by_cmp nat_cmp q k)
    (option_or o (find nat_cmp q rest)) (find nat_cmp q rest)
find-cons q k None rest =
    elim (eq_by_cmp nat_cmp q k) as (λ b. find nat_cmp q rest ≡ cond b (find nat_cmp q rest) (find nat_cmp q rest))
    [ true ↦ refl | false ↦ refl ]
find-cons q k (Some y) rest = refl

either_seen : {Y : Type 0} (o : Option Y) (a : Bool) → option_or o (cond a o None) ≡ o
either_seen None true = refl
either_seen None false = refl
either_seen (Some y) a = refl

same_key : {X Y : Type 0} (f : X → Option Y) (m : FinMap nat_cmp X) (k q : ℕ) (x : X) → finmap.get m k ≡ Some x
    → eq_by_cmp nat_cmp q k ≡ true → f x ≡ option_and_then f (finmap.get m q)
same_key f m k q x at s =
    sym (ap (λ k. option_and_then f (finmap.get m k)) (eqb-true q k (sym (unsigned_tied q k) ∙ s))
    ∙ ap (option_and_then f) at)

find-seen : {X Y : Type 0} (f : X → Option Y) (m : FinMap nat_cmp X) (q : ℕ) (es : List (ℕ × X))
    → AllEntries (λ e. finmap.get m e.0 ≡ Some e.1) es
    → find nat_cmp q (seen_list f es) ≡ cond (list_any (eq_by_cmp nat_cmp q) (map (λ (e : ℕ × X). e.0) es))
    (option_and_then f (finmap.get m q)) None
find-seen f m q [] h = refl
find-seen {X} {Y} f m q (e ∷ es) h =
    let rest = find-seen f m q es h.1 in
    let any = list_any (eq_by_cmp nat_cmp q) (map (λ (e : ℕ × X). e.0) es) in
    find-cons q e.0 (f e.1) (seen_list f es)
    ∙ elim (eq_by_cmp nat_cmp q e.0) as (λ b. eq_by_cmp nat_cmp q e.0 ≡ b
    → cond b (option_or (f e.1) (find nat_cmp q (seen_list f es))) (find nat_cmp q (seen_list f es))
    ≡ cond (b || any) (option_and_then f (finmap.get m q)) None) [
      | true ↦ λ s. (λ i. option_or (same_key f m e.0 q e.1 h.0 s i) (rest i))
          ∙ either_seen (option_and_then f (finmap.get m q)) any
      | false ↦ λ s. rest
    ] refl

only_there : {X Y : Type 0} (f : X → Option Y) (o : Option X)
    → cond (is_some o) (option_and_then f o) None ≡ option_and_then f o
only_there f None = refl
only_there f (Some x) = refl

pub get-each_seen : {X Y : Type 0} (f : X → Option Y) (m : FinMap nat_cmp X) (q : ℕ)
    → finmap.get (each_seen f m) q ≡ option_and_then f (finmap.get m q)
get-each_seen f m q =
    get-from_entries nat_cmp_total (seen_list f (finmap.entries m)) q
    ∙ find-seen f m q (finmap.entries m) (all_entries (λ e. finmap.get m e.0 ≡ Some e.1) m (λ q x e. e))
    ∙ ap (λ b. cond b (option_and_then f (finmap.get m q)) None) (sym (contains_key-keys m q))
    ∙ only_there f (finmap.get m q)

same_seen : {X Y : Type 0} (f g : X → Option Y) (o : Option X) → ((x : X) → o ≡ Some x → g x ≡ f x)
    → option_and_then g o ≡ option_and_then f o
same_seen f g None h = refl
same_seen f g (Some x) h = h x refl

pub each_seen-same : {X Y : Type 0} (f g : X → Option Y) (m : FinMap nat_cmp X)
    → ((q : ℕ) (x : X) → finmap.get m q ≡ Some x → g x ≡ f x) → each_seen g m ≡ each_seen f m
each_seen-same f g m h =
    same_nat_map _ _ (λ q. get-each_seen g m q ∙ same_seen f g (finmap.get m q) (h q) ∙ sym (get-each_seen f m q))

pub each_seen-empty : {X Y : Type 0} (f : X → Option Y) → each_seen f finmap.empty ≡ finmap.empty
each_seen-empty f = same_nat_map _ _ (λ q. get-each_seen f finmap.empty q ∙ ap (option_and_then f) (get-empty nat_cmp q)
    ∙ sym (get-empty nat_cmp q))

-- ---- one value changes

pub get-put_at : {X : Type 0} (m : FinMap nat_cmp X) (k : ℕ) (o : Option X) (q : ℕ)
    → finmap.get (put_at k o m) q ≡ cond (eqb q k) o (finmap.get m q)
get-put_at m k None q = get-remove_nat m k q
get-put_at m k (Some x) q = get-insert_nat m k x q

put_seen : {X Y : Type 0} (f g : X → Option Y) (m : FinMap nat_cmp X) (k q : ℕ) (o : Option X) (b : Bool) → eqb q k ≡ b
    → ((y : X) → eqb q k ≡ false → finmap.get m q ≡ Some y → g y ≡ f y)
    → option_and_then g (cond b o (finmap.get m q)) ≡ cond b (option_and_then g o) (finmap.get (each_seen f m) q)
put_seen f g m k q o true e h = refl
put_seen f g m k q o false e h = same_seen f g (finmap.get m q) (λ y s. h y e s) ∙ sym (get-each_seen f m q)

-- the value at one key changes, and the others are seen as before
pub each_seen-put : {X Y : Type 0} (f g : X → Option Y) (m : FinMap nat_cmp X) (k : ℕ) (o : Option X)
    → ((q : ℕ) (y : X) → eqb q k ≡ false → finmap.get m q ≡ Some y → g y ≡ f y)
    → each_seen g (put_at k o m) ≡ put_at k (option_and_then g o) (each_seen f m)
each_seen-put f g m k o h =
    same_nat_map _ _ (λ q. get-each_seen g (put_at k o m) q ∙ ap (option_and_then g) (get-put_at m k o q)
    ∙ put_seen f g m k q o (eqb q k) refl (h q) ∙ sym (get-put_at (each_seen f m) k (option_and_then g o) q))

as_it_was : {X : Type 0} (m : FinMap nat_cmp X) (k q : ℕ) (b : Bool) → eqb q k ≡ b
    → cond b (finmap.get m k) (finmap.get m q) ≡ finmap.get m q
as_it_was m k q true e = ap (finmap.get m) (sym (eqb-true q k e))
as_it_was m k q false e = refl

-- what stands there already
pub put_at-same : {X : Type 0} (m : FinMap nat_cmp X) (k : ℕ) (o : Option X) → finmap.get m k ≡ o → put_at k o m ≡ m
put_at-same m k o e =
    same_nat_map _ _ (λ q. get-put_at m k o q ∙ ap (λ o. cond (eqb q k) o (finmap.get m q)) (sym e)
    ∙ as_it_was m k q (eqb q k) refl)

gone_again : {X : Type 0} (m : FinMap nat_cmp X) (k : ℕ) → finmap.get m k ≡ None → (v : X) (q : ℕ) (b : Bool)
    → eqb q k ≡ b → cond b None (cond b (Some v) (finmap.get m q)) ≡ finmap.get m q
gone_again m k e v q true s = sym (ap (finmap.get m) (eqb-true q k s) ∙ e)
gone_again m k e v q false s = refl

-- what was put in at an absent key is taken out again
pub taken_back : {X : Type 0} (m : FinMap nat_cmp X) (k : ℕ) (v : X) → finmap.get m k ≡ None
    → finmap.remove (finmap.insert m k v) k ≡ m
taken_back m k v e =
    same_nat_map _ _ (λ q. get-remove_nat (finmap.insert m k v) k q ∙ ap (cond (eqb q k) None) (get-insert_nat m k v q)
    ∙ gone_again m k e v q (eqb q k) refl)

-- what is put in twice is put in once
pub insert-twice : {X : Type 0} (m : FinMap nat_cmp X) (k : ℕ) (v w : X)
    → finmap.insert (finmap.insert m k v) k w ≡ finmap.insert m k w
insert-twice {X} m k v w =
    same_nat_map _ _ (λ q. get-insert_nat (finmap.insert m k v) k w q
    ∙ ap (cond (eqb q k) (Some w)) (get-insert_nat m k v q) ∙ once (eqb q k) (finmap.get m q)
    ∙ sym (get-insert_nat m k w q))
  where
    once : (t : Bool) (o : Option X) → cond t (Some w) (cond t (Some v) o) ≡ cond t (Some w) o
    once true o = refl
    once false o = refl

-- ---- how many values are seen

len-from_entries : {Y : Type 0} (es : List (ℕ × Y)) → finmap.len (from_entries {R = nat_cmp} es) ≤ length es
len-from_entries {Y} [] = omega (arith, len-empty nat_cmp Y)
len-from_entries (e ∷ es) =
    let rest = len-from_entries es in
    let one = len-insert nat_cmp_total (from_entries {R = nat_cmp} es) e.0 e.1 in
    let most : (b : Bool) (n : ℕ) → cond b n (n + 1) ≤ n + 1 = λ b n. elim b as (λ b. cond b n (n + 1) ≤ n + 1)
    [ true ↦ omega arith | false ↦ omega arith ] in
    omega (
      arith,
      rest,
      one,
      most (finmap.contains_key (from_entries {R = nat_cmp} es) e.0)
          (finmap.len (from_entries {R = nat_cmp} es)),
    )

length-cons_option : {Y : Type 0} (o : Option Y) (ys : List Y) → length (cons_option o ys) ≤ length ys + 1
length-cons_option None ys = omega arith
length-cons_option (Some y) ys = omega arith

length-seen : {X Y : Type 0} (f : X → Option Y) (es : List (ℕ × X)) → length (seen_list f es) ≤ length es
length-seen f [] = omega arith
length-seen f (e ∷ es) =
    omega (arith, length-seen f es, length-cons_option (option_map (λ y. (e.0, y)) (f e.1)) (seen_list f es))

pub len-each_seen : {X Y : Type 0} (f : X → Option Y) (m : FinMap nat_cmp X) → finmap.len (each_seen f m) ≤ finmap.len m
len-each_seen f m =
    omega (arith, len-from_entries (seen_list f (finmap.entries m)), length-seen f (finmap.entries m), len-entries m)

-- ---- a set of places

pub contains-put_in : (s : set.FinSet place_cmp) (f p : ℕ) (b : Bool) (g q : ℕ)
    → set.contains (put_in (f, p) b s) (g, q) ≡ cond (eqb g f && eqb q p) b (set.contains s (g, q))
contains-put_in s f p false g q = contains-remove places_total s (f, p) (g, q)
    ∙ ap (λ t. not t && set.contains s (g, q)) (same_place g q f p) ∙ cut (eqb g f && eqb q p) (set.contains s (g, q))
  where
    cut : (t c : Bool) → (not t && c) ≡ cond t false c
    cut true c = refl
    cut false c = refl
contains-put_in s f p true g q = contains-insert places_total s (f, p) (g, q)
    ∙ ap (λ t. t || set.contains s (g, q)) (same_place g q f p) ∙ joined (eqb g f && eqb q p) (set.contains s (g, q))
  where
    joined : (t c : Bool) → (t || c) ≡ cond t true c
    joined true c = refl
    joined false c = refl

pub same_places : (s t : set.FinSet place_cmp) → ((g q : ℕ) → set.contains s (g, q) ≡ set.contains t (g, q)) → s ≡ t
same_places s t is = same_set places_total places_antisymmetric s t (λ k. is k.0 k.1)

no_change : (s : set.FinSet place_cmp) (f p g q : ℕ) (a b : Bool) → eqb g f ≡ a → eqb q p ≡ b
    → cond (a && b) (set.contains s (f, p)) (set.contains s (g, q)) ≡ set.contains s (g, q)
no_change s f p g q true true e d = λ i. set.contains s (sym (eqb-true g f e) i, sym (eqb-true q p d) i)
no_change s f p g q true false e d = refl
no_change s f p g q false b e d = refl

-- a place that is in it already, or not in it
pub put_in-same : (s : set.FinSet place_cmp) (f p : ℕ) (b : Bool) → set.contains s (f, p) ≡ b → put_in (f, p) b s ≡ s
put_in-same s f p b e =
    same_places _ _ (λ g q. contains-put_in s f p b g q
    ∙ ap (λ b. cond (eqb g f && eqb q p) b (set.contains s (g, q))) (sym e)
    ∙ no_change s f p g q (eqb g f) (eqb q p) refl refl)

-- a place that is put in and taken out again
pub put_in-again : (s : set.FinSet place_cmp) (f p : ℕ) → set.contains s (f, p) ≡ false
    → put_in (f, p) false (put_in (f, p) true s) ≡ s
put_in-again s f p e =
    same_places _ _ (λ g q. contains-put_in (put_in (f, p) true s) f p false g q
    ∙ ap (cond (eqb g f && eqb q p) false) (contains-put_in s f p true g q)
    ∙ once (eqb g f && eqb q p) (set.contains s (g, q))
    ∙ ap (λ b. cond (eqb g f && eqb q p) b (set.contains s (g, q))) (sym e)
    ∙ no_change s f p g q (eqb g f) (eqb q p) refl refl)
  where
    once : (t c : Bool) → cond t false (cond t true c) ≡ cond t false c
    once true c = refl
    once false c = refl
