-- Blocks given to pages one after the other.
use Rattle.std.proofs.Common.{◌≡◌, ℕ, zero, suc, ◌+◌, ◌-◌, ◌<◌, ◌≤◌, Bool, true, false, cond, not, eqb, eqb-true, List}
use Rattle.std.proofs.Common.{[], ◌∷◌, length, filter, map, refl, ap, sym, subst, ◌∙◌, arith}
use Rattle.std.specs.Prelude.{◌&&◌, ◌||◌, Option, Some, None, is_some, option_map, count_by, Result, Ok, Err, is_err}
use Rattle.std.specs.Prelude.{IfOk, IfSome, OnOk, IsOkUnless}
use Rattle.std.specs.Option.{option_or}
use Rattle.std.specs.List.{range_with_len, zip}
use Rattle.std.specs.Ordering.{nat_cmp}
use Rattle.std.specs.Cmp.{unsigned_tied}
use Rattle.std.specs.FinMap as finmap
use Rattle.std.specs.FinMap.{find}
use Rattle.std.proofs.lemmas.Bool.{false≢true}
use Rattle.std.proofs.lemmas.Bool.Decides.{nat_tests}
use Rattle.std.proofs.lemmas.List.Sums.{length-filter}
use Rattle.pc_types.specs.Spots.{Spot, place_cmp}
use Rattle.pc_types.specs.declared.ids.BlockNo.{BlockNo}
use Rattle.pc_types.specs.declared.refusal.Refusal.{Refusal}
use Rattle.pc_types.specs.declared.refusal.Refusal.TheVariants.{NoEntry}
use Rattle.blockmap.specs.Blocks.{Blocks, Spots, IsLowestFree, is_free, free_blocks, is_mapped}
use Rattle.blockmap.proofs.MapLemmas.{mapped-added, put_here, tie_same}
use Rattle.maps.specs.Maps.{overwrite}
use Rattle.cachecore.specs.Placing.{is_bare, placed_on, with_placed}
use Rattle.maps.proofs.MapLaws.{places_total, same_place_map, same_place, get-overwrite, get-insert_place}
use Rattle.maps.proofs.MapLaws.{get-remove_place}
use Rattle.machine.proofs.changes.ChangeLaws.{find_placed}

-- ---- the numbers of a range that pass a test

kept_alike : (p q : ℕ → Bool) (a n : ℕ) → ((k : ℕ) → a ≤ k → p k ≡ q k)
    → filter p (range_with_len a n) ≡ filter q (range_with_len a n)
kept_alike p q a zero h = refl
kept_alike p q a (suc n) h = λ i. cond (h a (omega arith) i) (a ∷ kept_alike p q (a + 1) n (λ k l. h k (omega arith)) i)
    (kept_alike p q (a + 1) n (λ k l. h k (omega arith)) i)

further : (a x : ℕ) → a ≤ x → eqb a x ≡ false → a + 1 ≤ x
further a x l e = grind (arith, nat_tests)

-- the lowest that passes comes first, and without it the others are left
lowest_first : (p q : ℕ → Bool) (x a n : ℕ) → a ≤ x → x < a + n → p x ≡ true → ((k : ℕ) → k < x → p k ≡ false)
    → ((k : ℕ) → q k ≡ (p k && not (eqb k x))) → filter p (range_with_len a n) ≡ x ∷ filter q (range_with_len a n)
lowest_first p q x a zero l h t below is = absurd (omega arith)
lowest_first p q x a (suc n) l h t below is =
    elim (eqb a x) as (λ b. eqb a x ≡ b
    → cond (p a) (a ∷ filter p (range_with_len (a + 1) n)) (filter p (range_with_len (a + 1) n)) ≡ x
    ∷ cond (q a) (a ∷ filter q (range_with_len (a + 1) n)) (filter q (range_with_len (a + 1) n))) [
      | true ↦ λ e.
          let same : a ≡ x = eqb-true a x e in
          let passes : p a ≡ true = ap p same ∙ t in
          let fails : q a ≡ false = is a ∙ (λ i. passes i && not (e i)) in
          let rest : filter p (range_with_len (a + 1) n) ≡ filter q (range_with_len (a + 1) n) =
          kept_alike p q (a + 1) n (λ k m. sym (is k ∙ later k (omega (arith, same)))) in
          (λ i. cond (passes i) (same i ∷ rest i) (rest i))
          ∙ sym (ap (λ b. x ∷ cond b (a ∷ filter q (range_with_len (a + 1) n)) (filter q (range_with_len (a + 1) n)))
          fails)
      | false ↦ λ e.
          let more : a + 1 ≤ x = further a x l e in
          let fails : p a ≡ false = below a (omega arith) in
          let fails_too : q a ≡ false = is a ∙ (λ i. fails i && not (eqb a x)) in
          ap (λ b. cond b (a ∷ filter p (range_with_len (a + 1) n)) (filter p (range_with_len (a + 1) n))) fails
          ∙ lowest_first p q x (a + 1) n more (omega arith) t below is
          ∙ sym (ap (λ b. x ∷ cond b (a ∷ filter q (range_with_len (a + 1) n)) (filter q (range_with_len (a + 1) n)))
          fails_too)
    ] refl
  where
    keeps : (b : Bool) → (b && true) ≡ b
    keeps true = refl
    keeps false = refl

    later : (k : ℕ) → x < k → (p k && not (eqb k x)) ≡ p k
    later k m = let apart : eqb k x ≡ false = grind (arith, nat_tests) in ap (λ b. p k && not b) apart ∙ keeps (p k)

-- a number below the range is not among them
none_beside : (keep : ℕ → Bool) (q a n : ℕ) (bs : List ℕ) → q < a
    → find nat_cmp q (zip (filter keep (range_with_len a n)) bs) ≡ None
none_beside keep q a zero bs h = refl
none_beside keep q a (suc n) bs h = step (keep a) bs (λ cs. none_beside keep q (a + 1) n cs (omega arith))
  where
    apart : eqb q a ≡ false
    apart = grind (arith, nat_tests)

    step : (b : Bool) (bs : List ℕ)
        → ((cs : List ℕ) → find nat_cmp q (zip (filter keep (range_with_len (a + 1) n)) cs) ≡ None)
        → find nat_cmp q (zip (cond b (a ∷ filter keep (range_with_len (a + 1) n))
        (filter keep (range_with_len (a + 1) n))) bs) ≡ None
    step true [] later = refl
    step true (b ∷ bs) later =
        ap (λ t. cond t (Some b) (find nat_cmp q (zip (filter keep (range_with_len (a + 1) n)) bs)))
        (unsigned_tied q a ∙ apart) ∙ later bs
    step false bs later = later bs

-- ---- maps

tied : (g q f p : ℕ) → (eqb g f && eqb q p) ≡ true → ◌≡◌ {A = ℕ × ℕ} (g, q) (f, p)
tied g q f p t = tie_same (g, q) (f, p) (same_place g q f p ∙ t)

twice : {A : Type 0} (b : Bool) (x : Option A) (v : A) (y : Option A) → (b ≡ true → x ≡ None)
    → option_or x (cond b (Some v) y) ≡ option_or (cond b (Some v) x) y
twice true x v y h = ap (λ o. option_or o (Some v)) (h refl)
twice false x v y h = refl

-- an entry that stands in front is put in before the others, which have other keys
overwrite-front : (f p : ℕ) (v : Spot) (es : List ((ℕ × ℕ) × Spot)) (m : Spots) → find place_cmp (f, p) es ≡ None
    → overwrite (((f, p), v) ∷ es) m ≡ overwrite es (finmap.insert m (f, p) v)
overwrite-front f p v es m none = same_place_map _ _ (λ g q.
    get-overwrite places_total (((f, p), v) ∷ es) m (g, q)
    ∙ ap (λ b. option_or (cond b (Some v) (find place_cmp (g, q) es)) (finmap.get m (g, q))) (same_place g q f p)
    ∙ sym (twice (eqb g f && eqb q p) (find place_cmp (g, q) es) v (finmap.get m (g, q))
    (λ t. ap (λ k. find place_cmp k es) (tied g q f p t) ∙ none))
    ∙ sym (get-overwrite places_total es (finmap.insert m (f, p) v) (g, q)
    ∙ ap (option_or (find place_cmp (g, q) es)) (get-insert_place m f p v g q)))

restored : {A : Type 0} (b : Bool) (x : A) (o : Option A) → (b ≡ true → o ≡ None) → cond b None (cond b (Some x) o) ≡ o
restored true x o h = sym (h refl)
restored false x o h = refl

-- what a page was given is taken back
pub taken_back : (m : Spots) (f p : ℕ) (v : Spot) → finmap.get m (f, p) ≡ None
    → finmap.remove (finmap.insert m (f, p) v) (f, p) ≡ m
taken_back m f p v none = same_place_map _ _ (λ g q.
    get-remove_place (finmap.insert m (f, p) v) f p g q
    ∙ ap (cond (eqb g f && eqb q p) None) (get-insert_place m f p v g q)
    ∙ restored (eqb g f && eqb q p) v (finmap.get m (g, q)) (λ t. ap (finmap.get m) (tied g q f p t) ∙ none))

-- ---- pages in turn

pub placed_none : (b : Blocks) (f p : ℕ) → with_placed b f (range_with_len p (p - p)) ≡ b
placed_none b f p =
    let none : p - p ≡ 0 = omega arith in
    let same : placed_on b f [] ≡ b.spots = same_place_map _ _ (λ g q. get-overwrite places_total [] b.spots (g, q)) in
    ap (λ n. with_placed b f (range_with_len p n)) none
    ∙ (λ i. record { count = b.count; spots = same i; held = b.held })

module _ (b : Blocks) (f p end : ℕ) (less : p < end) where
  one_more : end - p ≡ suc (end - (p + 1))
  one_more = omega arith

  count_is : count_by (is_bare b f) (range_with_len p (end - p))
      ≡ length (cond (is_bare b f p) (p ∷ filter (is_bare b f) (range_with_len (p + 1) (end - (p + 1))))
      (filter (is_bare b f) (range_with_len (p + 1) (end - (p + 1)))))
  count_is = sym (length-filter (is_bare b f) (range_with_len p (end - p)))
      ∙ ap (λ n. length (filter (is_bare b f) (range_with_len p n))) one_more

  later_count : length (filter (is_bare b f) (range_with_len (p + 1) (end - (p + 1)))) ≡ count_by (is_bare b f)
      (range_with_len (p + 1) (end - (p + 1)))
  later_count = length-filter (is_bare b f) (range_with_len (p + 1) (end - (p + 1)))

  -- a page that has a block is passed over
  module _ (there : is_bare b f p ≡ false) where
    pub count_past : count_by (is_bare b f) (range_with_len p (end - p)) ≡ count_by (is_bare b f)
        (range_with_len (p + 1) (end - (p + 1)))
    count_past =
        count_is ∙ ap (λ t. length (cond t (p ∷ filter (is_bare b f) (range_with_len (p + 1) (end - (p + 1))))
        (filter (is_bare b f) (range_with_len (p + 1) (end - (p + 1)))))) there ∙ later_count

    pub placed_past : with_placed b f (range_with_len (p + 1) (end - (p + 1)))
        ≡ with_placed b f (range_with_len p (end - p))
    placed_past =
        sym (ap (λ n. with_placed b f (range_with_len p n)) one_more
        ∙ ap (λ t. let m : Spots =
        overwrite (map (λ (e : ℕ × ℕ). ((f, e.0), record { block = e.1; valid = 0 }))
        (zip (cond t (p ∷ filter (is_bare b f) (range_with_len (p + 1) (end - (p + 1))))
        (filter (is_bare b f) (range_with_len (p + 1) (end - (p + 1))))) (free_blocks b))) b.spots in
        let c : Blocks = record { count = b.count; spots = m; held = b.held } in c) there)

  -- one that has none gets the lowest free one
  module _ (none : finmap.get b.spots (f, p) ≡ None) where
    bare : is_bare b f p ≡ true
    bare = ap (λ o. not (is_some o)) none

    pub count_more : count_by (is_bare b f) (range_with_len p (end - p)) ≡ count_by (is_bare b f)
        (range_with_len (p + 1) (end - (p + 1))) + 1
    count_more =
        count_is ∙ ap (λ t. length (cond t (p ∷ filter (is_bare b f) (range_with_len (p + 1) (end - (p + 1))))
        (filter (is_bare b f) (range_with_len (p + 1) (end - (p + 1)))))) bare ∙ omega (arith, later_count)

    module _ (x : ℕ) (low : IsLowestFree b x) where
      abbrev pub given : Spot
      given = record { block = x; valid = 0 }

      abbrev pub c : Blocks
      c = record b { spots = finmap.insert b.spots (f, p) given }

      flip : (e m h : Bool) → not ((e || m) || h) ≡ (not (m || h) && not e)
      flip true true true = refl
      flip true true false = refl
      flip true false true = refl
      flip true false false = refl
      flip false true h = refl
      flip false false true = refl
      flip false false false = refl

      swapped : (k : ℕ) → eqb x k ≡ eqb k x
      swapped k = grind (arith, nat_tests)

      one_fewer : (k : ℕ) → is_free c k ≡ (is_free b k && not (eqb k x))
      one_fewer k =
          ap (λ m. not (m || finmap.contains_key b.held k)) (mapped-added b.spots (f, p) given k none)
          ∙ flip (eqb x k) (is_mapped b.spots k) (finmap.contains_key b.held k)
          ∙ ap (λ e. is_free b k && not e) (swapped k)

      pub free_first : free_blocks b ≡ x ∷ free_blocks c
      free_first = lowest_first (is_free b) (is_free c) x 0 b.count (omega arith) (let w = low.within in omega arith)
          low.free low.lowest one_fewer

      others : (k : ℕ) → p + 1 ≤ k → is_bare c f k ≡ is_bare b f k
      others k l =
          let apart : eqb k p ≡ false = grind (arith, nat_tests) in
          ap (λ o. not (is_some o)) (get-insert_place b.spots f p given f k
          ∙ (λ i. cond (eqb f f && apart i) (Some given) (finmap.get b.spots (f, k))) ∙ never (eqb f f))
        where
          never : (t : Bool) → cond (t && false) (Some given) (finmap.get b.spots (f, k)) ≡ finmap.get b.spots (f, k)
          never true = refl
          never false = refl

      left_over : filter (is_bare c f) (range_with_len (p + 1) (end - (p + 1)))
          ≡ filter (is_bare b f) (range_with_len (p + 1) (end - (p + 1)))
      left_over = kept_alike (is_bare c f) (is_bare b f) (p + 1) (end - (p + 1)) others

      pub room_left : count_by (is_bare b f) (range_with_len p (end - p)) ≤ length (free_blocks b)
          → count_by (is_bare c f) (range_with_len (p + 1) (end - (p + 1))) ≤ length (free_blocks c)
      room_left h =
          let n = count_more in
          let m = ap length free_first in
          let same : count_by (is_bare c f) (range_with_len (p + 1) (end - (p + 1))) ≡ count_by (is_bare b f)
          (range_with_len (p + 1) (end - (p + 1))) =
          sym (length-filter (is_bare c f) (range_with_len (p + 1) (end - (p + 1)))) ∙ ap length left_over
          ∙ later_count in
          omega (arith, h, n, m, same)

      abbrev taking : List (ℕ × ℕ) → List ((ℕ × ℕ) × Spot)
      taking es = map (λ (e : ℕ × ℕ). ((f, e.0), record { block = e.1; valid = 0 })) es

      pub placed_more : with_placed c f (range_with_len (p + 1) (end - (p + 1)))
          ≡ with_placed b f (range_with_len p (end - p))
      placed_more =
          let rest : List ℕ = filter (is_bare b f) (range_with_len (p + 1) (end - (p + 1))) in
          let all : placed_on b f (range_with_len p (end - p)) ≡ overwrite (taking ((p, x) ∷ zip rest (free_blocks c)))
          b.spots =
          ap (λ n. placed_on b f (range_with_len p n)) one_more
          ∙ (λ i. overwrite (taking (zip (cond (bare i) (p ∷ rest) rest) (free_first i))) b.spots) in
          let absent : find place_cmp (f, p) (taking (zip rest (free_blocks c))) ≡ None =
          find_placed f f p (zip rest (free_blocks c))
          ∙ nothing (eqb f f) _ (none_beside (is_bare b f) p (p + 1) (end - (p + 1)) (free_blocks c)
          (omega arith)) in
          let same : placed_on c f (range_with_len (p + 1) (end - (p + 1)))
          ≡ placed_on b f (range_with_len p (end - p)) =
          ap (λ ps. overwrite (taking (zip ps (free_blocks c))) c.spots) left_over
          ∙ sym (overwrite-front f p given (taking (zip rest (free_blocks c))) b.spots absent) ∙ sym all in
          λ i. record { count = b.count; spots = same i; held = b.held }
        where
          nothing : (t : Bool) (o : Option ℕ) → o ≡ None
              → cond t (option_map (λ (k : ℕ). let y : Spot = record { block = k; valid = 0 } in y) o) None ≡ None
          nothing true o e = ap (option_map (λ (k : ℕ). let y : Spot = record { block = k; valid = 0 } in y)) e
          nothing false o e = refl

      -- it is not held
      pub not_held : finmap.get b.held x ≡ None
      not_held = go (is_mapped b.spots x) (finmap.get b.held x) low.free
        where
          go : (m : Bool) (o : Option Bool) → not (m || is_some o) ≡ true → o ≡ None
          go m None h = refl
          go true (Some y) h = absurd (false≢true h)
          go false (Some y) h = absurd (false≢true h)

-- ---- a page is given its block, and it is taken back

-- what `assign` leaves where it goes well
pub record IsGiven (b : Blocks) (f p : ℕ) (now : Blocks) : Type 0 where
  pub block : ℕ
  pub none : finmap.get b.spots (f, p) ≡ None
  pub low : IsLowestFree b block
  pub is : now ≡ record b { spots = finmap.insert b.spots (f, p) (record { block = block; valid = 0 }) }

pub is_given : (b now : Blocks) (f p : ℕ) (r : Result BlockNo Refusal) → finmap.get b.spots (f, p) ≡ None
    → false ≡ is_err r → IfOk r (λ x. IsLowestFree b x.0)
    → IfOk r (λ x. now ≡ record b { spots = finmap.insert b.spots (f, p) (record { block = x.0; valid = 0 }) })
    → IsGiven b f p now
is_given b now f p (Ok x) none ok low is = record { block = x.0; none = none; low = low; is = is }
is_given b now f p (Err e) none ok low is = absurd (false≢true ok)

module _ (b now : Blocks) (f p end : ℕ) (less : p < end) (g : IsGiven b f p now) where
  pub room_given : count_by (is_bare b f) (range_with_len p (end - p)) ≤ length (free_blocks b)
      → count_by (is_bare now f) (range_with_len (p + 1) (end - (p + 1))) ≤ length (free_blocks now)
  room_given h =
      subst (λ (n : Blocks). count_by (is_bare n f) (range_with_len (p + 1) (end - (p + 1))) ≤ length (free_blocks n))
      (sym g.is) (room_left b f p end less g.none g.block g.low h)

  pub placed_given : (final : Blocks) → final ≡ with_placed now f (range_with_len (p + 1) (end - (p + 1)))
      → final ≡ with_placed b f (range_with_len p (end - p))
  placed_given final e = e ∙ ap (λ (n : Blocks). with_placed n f (range_with_len (p + 1) (end - (p + 1)))) g.is
      ∙ placed_more b f p end less g.none g.block g.low

  there : finmap.get now.spots (f, p) ≡ Some (record { block = g.block; valid = 0 })
  there = ap (λ (n : Blocks). finmap.get n.spots (f, p)) g.is
      ∙ put_here b.spots (f, p) (record { block = g.block; valid = 0 })

  -- what `unassign` asks for
  pub given_unwritten : IfSome (finmap.get now.spots (f, p)) (λ spot. spot.valid ≡ 0)
  given_unwritten = subst (λ (o : Option Spot). IfSome o (λ spot. spot.valid ≡ 0)) (sym there) refl

  pub given_unheld : IfSome (finmap.get now.spots (f, p)) (λ spot. finmap.get now.held spot.block ≡ None)
  given_unheld = subst (λ (o : Option Spot). IfSome o (λ spot. finmap.get now.held spot.block ≡ None)) (sym there)
      (ap (λ (n : Blocks). finmap.get n.held g.block) g.is ∙ not_held b f p end less g.none g.block g.low)

  pub undone : (r : Result (Unit {0}) Refusal) (final : Blocks)
      → OnOk r (final ≡ record now { spots = finmap.remove now.spots (f, p) })
      → (r ≡ Err NoEntry → finmap.get now.spots (f, p) ≡ None) → IsOkUnless r NoEntry → final ≡ b
  undone (Ok u) final freed none only =
      freed ∙ ap (λ (n : Blocks). let m : Blocks = record n { spots = finmap.remove n.spots (f, p) } in m) g.is
      ∙ (λ i. record {
        count = b.count;
        spots = taken_back b.spots f p (record { block = g.block; valid = 0 })
            g.none i;
        held = b.held;
      })
  undone (Err e) final freed none only = absurd (let at = there in let gone = none (ap Err only) in cc)
