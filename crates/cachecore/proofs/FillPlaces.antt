-- The pages that are filling are as many as the fills in flight that are not dropped.
use Rattle.std.proofs.Common.{◌≡◌, ℕ, ◌+◌, Bool, true, false, cond, not, eqb, eqb-true, eq-eqb, T, List, [], ◌∷◌, refl}
use Rattle.std.proofs.Common.{ap, sym, ◌∙◌, arith, map, count_by}
use Rattle.std.specs.Prelude.{◌&&◌, ◌||◌, Some, sum_by}
use Rattle.std.specs.List.{list_any}
use Rattle.std.specs.Ordering.{nat_cmp}
use Rattle.std.specs.Cmp.{unsigned_tied}
use Rattle.std.specs.FinMap as finmap
use Rattle.std.specs.FinMap.{FinMap, get-entries, entries_sorted}
use Rattle.std.specs.FinMap.Entries.{below_all, is_sorted}
use Rattle.std.specs.FinSet as set
use Rattle.std.specs.FinSet.{FinSet, contains-empty, contains-insert, len-empty, len-insert, same_set}
use Rattle.std.proofs.lemmas.Bool.Decides.{nat_tests}
use Rattle.std.proofs.lemmas.List.Sums.{sum_by-cons}
use Rattle.pc_types.specs.Kinds.{is_fill}
use Rattle.pc_types.specs.Spots.{place_cmp}
use Rattle.machine.specs.State.{Request, fills}
use Rattle.maps.proofs.MapLaws.{places_total, places_antisymmetric, same_place}
use Rattle.maps.proofs.Found.{both_true, above}

abbrev pub is_live_fill : Request → Bool
is_live_fill r = is_fill r.kind && not r.dropped

-- the places of the fills in a list that are not dropped
places_of : List (ℕ × Request) → FinSet place_cmp
places_of [] = set.empty
places_of (e ∷ es) = cond (is_live_fill e.1) (set.insert (places_of es) (e.1.file, e.1.page)) (places_of es)

-- ---- which places they are

turned : (a b : ℕ) → eqb a b ≡ eqb b a
turned a b = elim (eqb b a) as (λ c. eqb b a ≡ c → eqb a b ≡ c)
    [ true ↦ λ e. eq-eqb a b (sym (eqb-true b a e)) | false ↦ λ e. grind (arith, nat_tests) ] refl

contains-places : (f p : ℕ) (es : List (ℕ × Request))
    → set.contains (places_of es) (f, p) ≡ list_any (fills f p) (map (λ (e : ℕ × Request). e.1) es)
unfolding places_of
contains-places f p [] = contains-empty place_cmp (f, p)
contains-places f p (e ∷ es) = go (is_live_fill e.1) (contains-places f p es)
  where
    go : (b : Bool) → set.contains (places_of es) (f, p) ≡ list_any (fills f p) (map (λ (x : ℕ × Request). x.1) es)
        → set.contains (cond b (set.insert (places_of es) (e.1.file, e.1.page)) (places_of es)) (f, p)
        ≡ ((b && (eqb e.1.file f && eqb e.1.page p)) || list_any (fills f p) (map (λ (x : ℕ × Request). x.1) es))
    go true rest = contains-insert places_total (places_of es) (e.1.file, e.1.page) (f, p)
        ∙ (λ i. same_place f p e.1.file e.1.page i || rest i)
        ∙ (λ i. (turned f e.1.file i && turned p e.1.page i)
        || list_any (fills f p) (map (λ (x : ℕ × Request). x.1) es))
    go false rest = rest

-- ---- how many

-- two fills in the list that are not dropped are of two pages
Apart : List (ℕ × Request) → Type 0
Apart es =
    (t u : ℕ) (r q : Request) → finmap.find nat_cmp t es ≡ Some r → finmap.find nat_cmp u es ≡ Some q
    → is_live_fill r ≡ true → is_live_fill q ≡ true → r.file ≡ q.file → r.page ≡ q.page → t ≡ u

find_head : (e : ℕ × Request) (es : List (ℕ × Request)) → finmap.find nat_cmp e.0 (e ∷ es) ≡ Some e.1
find_head e es = ap (λ b. cond b (Some e.1) (finmap.find nat_cmp e.0 es)) (unsigned_tied e.0 e.0 ∙ eq-eqb e.0 e.0 refl)

find_tail : (e : ℕ × Request) (es : List (ℕ × Request)) → T (below_all nat_cmp e.0 es) → (u : ℕ) (q : Request)
    → finmap.find nat_cmp u es ≡ Some q → finmap.find nat_cmp u (e ∷ es) ≡ Some q
find_tail e es low u q is =
    let more = above e.0 u q es low is in
    let not_head : eqb u e.0 ≡ false = grind (arith, nat_tests) in
    ap (λ b. cond b (Some e.1) (finmap.find nat_cmp u es)) (unsigned_tied u e.0 ∙ not_head) ∙ is

-- one that passes is found by its serial
pub passing : (test : Request → Bool) (es : List (ℕ × Request)) → T (is_sorted nat_cmp es)
    → list_any test (map (λ (e : ℕ × Request). e.1) es) ≡ true
    → (u : ℕ) × (q : Request) × (finmap.find nat_cmp u es ≡ Some q) × (test q ≡ true)
passing test [] s h = absurd cc
passing test (e ∷ es) s h =
    let parts = both_true _ _ s in
    elim (test e.1) as (λ b. test e.1 ≡ b → (b || list_any test (map (λ (x : ℕ × Request). x.1) es)) ≡ true
    → (u : ℕ) × (q : Request) × (finmap.find nat_cmp u (e ∷ es) ≡ Some q) × (test q ≡ true)) [
      | true ↦ λ t _. (e.0, e.1, find_head e es, t)
      | false ↦ λ _ k. (let x = passing test es parts.1 k in (x.0, x.1, find_tail e es parts.0 x.0 x.1 x.2, x.3))
    ] refl h

pub fills_parts : (f p : ℕ) (r : Request) → fills f p r ≡ true → (is_live_fill r ≡ true) × (r.file ≡ f) × (r.page ≡ p)
fills_parts f p r h = go (is_live_fill r) (eqb r.file f) (eqb r.page p) refl refl refl h
  where
    go : (a b c : Bool) → is_live_fill r ≡ a → eqb r.file f ≡ b → eqb r.page p ≡ c → (a && (b && c)) ≡ true
        → (is_live_fill r ≡ true) × (r.file ≡ f) × (r.page ≡ p)
    go true true true x y z _ = (x, eqb-true r.file f y, eqb-true r.page p z)
    go true true false x y z h = absurd cc
    go true false c x y z h = absurd cc
    go false b c x y z h = absurd cc

-- the first one's page is no other's
first_apart : (e : ℕ × Request) (es : List (ℕ × Request)) → T (is_sorted nat_cmp (e ∷ es)) → Apart (e ∷ es)
    → is_live_fill e.1 ≡ true → set.contains (places_of es) (e.1.file, e.1.page) ≡ false
unfolding Apart
first_apart e es s apart live = contains-places e.1.file e.1.page es
    ∙ none (list_any (fills e.1.file e.1.page) (map (λ (x : ℕ × Request). x.1) es)) refl
  where
    none : (b : Bool) → list_any (fills e.1.file e.1.page) (map (λ (x : ℕ × Request). x.1) es) ≡ b → b ≡ false
    none false k = refl
    none true k =
        let parts = both_true _ _ s in
        let x = passing (fills e.1.file e.1.page) es parts.1 k in
        let is = fills_parts e.1.file e.1.page x.1 x.3 in
        let same = apart e.0 x.0 e.1 x.1 (find_head e es) (find_tail e es parts.0 x.0 x.1 x.2) live is.0 (sym is.1)
        (sym is.2) in
        let more = above e.0 x.0 x.1 es parts.0 x.2 in
        absurd (omega arith)

others_apart : (e : ℕ × Request) (es : List (ℕ × Request)) → T (below_all nat_cmp e.0 es) → Apart (e ∷ es) → Apart es
unfolding Apart
others_apart e es low apart t u r q a b = apart t u r q (find_tail e es low t r a) (find_tail e es low u q b)

len-places : (es : List (ℕ × Request)) → T (is_sorted nat_cmp es) → Apart es
    → set.len (places_of es) ≡ sum_by (λ (e : ℕ × Request). cond (is_live_fill e.1) 1 0) es
unfolding places_of
len-places [] s apart = len-empty place_cmp
len-places (e ∷ es) s apart =
    let parts = both_true _ _ s in
    go (is_live_fill e.1) refl (len-places es parts.1 (others_apart e es parts.0 apart))
    ∙ sym (sum_by-cons (λ (x : ℕ × Request). cond (is_live_fill x.1) 1 0) e es)
  where
    go : (b : Bool) → is_live_fill e.1 ≡ b
        → set.len (places_of es) ≡ sum_by (λ (x : ℕ × Request). cond (is_live_fill x.1) 1 0) es
        → set.len (cond b (set.insert (places_of es) (e.1.file, e.1.page)) (places_of es)) ≡ cond b 1 0
        + sum_by (λ (x : ℕ × Request). cond (is_live_fill x.1) 1 0) es
    go false k rest = omega arith
    go true k rest =
        let there = first_apart e es s apart k in
        let more : set.len (set.insert (places_of es) (e.1.file, e.1.page)) ≡ set.len (places_of es) + 1 =
        len-insert places_total (places_of es) (e.1.file, e.1.page)
        ∙ ap (λ b. cond b (set.len (places_of es)) (set.len (places_of es) + 1)) there in
        omega arith

counted : (es : List (ℕ × Request)) → sum_by (λ (e : ℕ × Request). cond (is_live_fill e.1) 1 0) es
    ≡ count_by is_live_fill (map (λ (e : ℕ × Request). e.1) es)
counted [] = refl
counted (e ∷ es) = sum_by-cons (λ (x : ℕ × Request). cond (is_live_fill x.1) 1 0) e es
    ∙ ap (λ n. cond (is_live_fill e.1) 1 0 + n) (counted es)
    ∙ sym (sum_by-cons (λ r. cond (is_live_fill r) 1 0) e.1 (map (λ (x : ℕ × Request). x.1) es))

-- a set of the filling pages has as many as there are fills that are not dropped
pub len-filling : (m : FinMap nat_cmp Request) (s : FinSet place_cmp)
    → ((f p : ℕ) → set.contains s (f, p) ≡ list_any (fills f p) (finmap.values m))
    → ((t u : ℕ) (r q : Request) → finmap.get m t ≡ Some r → finmap.get m u ≡ Some q → is_live_fill r ≡ true
    → is_live_fill q ≡ true → r.file ≡ q.file → r.page ≡ q.page → t ≡ u)
    → set.len s ≡ count_by is_live_fill (finmap.values m)
unfolding Apart
len-filling m s is apart =
    let same : s ≡ places_of (finmap.entries m) =
    same_set places_total places_antisymmetric s (places_of (finmap.entries m))
    (λ place. is place.0 place.1 ∙ sym (contains-places place.0 place.1 (finmap.entries m))) in
    ap set.len same
    ∙ len-places (finmap.entries m) (entries_sorted m)
    (λ t u r q a b. apart t u r q (get-entries m t ∙ a) (get-entries m u ∙ b))
    ∙ counted (finmap.entries m)
