-- The entries of an array move under wider keys, one after another.
use Rattle.std.proofs.Common.{◌≡◌, ℕ, ◌+◌, ◌-◌, ◌*◌, ◌/◌, ◌%◌, ◌^◌, ◌<◌, ◌≤◌, ◌&&◌, Bool, true, false, cond, eqb, List, [], ◌∷◌, Option, Some, None, filter, map as map_list, refl, sym, ap, subst, ◌∙◌, arith, le-leb, lt-ltb}
use Rattle.std.specs.Option.{option_or}
use Rattle.std.specs.Ordering.{eq_by_cmp}
use Rattle.std.specs.FinMap as map
use Rattle.std.proofs.lemmas.Bool.{and_from, and_parts, cond-true, eqb-true}
use Rattle.std.proofs.lemmas.Nat.{mul-add-lt, pow_pos}
use Rattle.pc_types.specs.Spots.{Spot, place_cmp}
use Rattle.xarray.specs.MarkedArray.{Range, Ranges, entries_in, found_of, is_any, meets, stored}
use Rattle.xarray.specs.declared.entry.Found.{Found}
use Rattle.xarray.proofs.EntryLemmas.{Rises, entries-rise, look, look_here, look_later}
use Rattle.xarray.proofs.Singles as singles
use Rattle.blockmap.specs.Keys.{AreSpots, key_of, place_of, spot_of, spots}
use Rattle.blockmap.proofs.PlaceLemmas.{file_below, key_back, page_below, place_back, places_antisymmetric, places_total, same_place}
use Rattle.blockmap.proofs.SpotLemmas.{HasEntry, are-empty, are-insert, get-spots, listed, spot_in, spots-empty, spots-insert}

-- each entry that a walk has left is the array's
abbrev pub Stand : Ranges → List Found → Type 0
Stand m [] = Unit {0}
Stand m (f ∷ walk) = HasEntry m f.first f.value × Stand m walk

-- the blocks of the pages that a walk has left
abbrev pub left : ℕ → List Found → List ((ℕ × ℕ) × Spot)
left bits walk = map_list (λ f. (place_of bits f.first, spot_of f.value)) walk

-- what a page has is in the wide array, or is left
pub record IsMoving (from to : ℕ) (m wide : Ranges) (walk : List Found) : Type 0 where
  pub are : AreSpots to wide
  pub stand : Stand m walk
  pub same : (place : ℕ × ℕ) → map.get (spots from m) place ≡ option_or (map.get (spots to wide) place) (map.find place_cmp place (left from walk))

-- ---- the walk

left_all : (bits : ℕ) (es : List (ℕ × Range)) → left bits (map_list found_of es) ≡ listed bits es
left_all bits [] = refl
left_all bits (e ∷ es) = ap (λ t. (place_of bits e.0, spot_of e.1.value) ∷ t) (left_all bits es)

module _ (bits : ℕ) (m : Ranges) (are : AreSpots bits m) where
  stand_by : (es : List (ℕ × Range)) → Rises es → ((q : ℕ) (y : Range) → look q es ≡ Some y → look q (map.entries m) ≡ Some y) → Stand m (map_list found_of es)
  stand_by [] r sub = tt
  stand_by (e ∷ es) r sub = (
    record { range = e.1; there = map.get-entries m e.0 ∙ sub e.0 e.1 (look_here e.0 e es refl); value = refl },
    stand_by es r.1 (λ q y is. sub q y (look_later e es r.0 q y is)),
  )

  -- a walk over all indexes has all entries
  all_by : 2 ^ bits ≤ 2 ^ 36 → (es : List (ℕ × Range)) → Rises es → ((q : ℕ) (y : Range) → look q es ≡ Some y → look q (map.entries m) ≡ Some y) → filter (λ e. is_any e.1 && meets 0 (2 ^ 64 - 1) e) es ≡ es
  all_by most [] r sub = refl
  all_by most (e ∷ es) r sub =
      let within : e.0 < 64 * 2 ^ bits = are.within e.0 e.1 (map.get-entries m e.0 ∙ sub e.0 e.1 (look_here e.0 e es refl)) in
      let some = pow_pos e.1.order in
      let passes : (is_any e.1 && meets 0 (2 ^ 64 - 1) e) ≡ true = and_from _ _ refl (and_from _ _ (le-leb 0 (2 ^ 64 - 1) (omega arith)) (and_from _ _ (le-leb e.0 (2 ^ 64 - 1) (omega arith)) (lt-ltb 0 (e.0 + 2 ^ e.1.order) (omega (arith, some))))) in
      cond-true _ _ _ passes ∙ ap (λ t. e ∷ t) (all_by most es r.1 (λ q y is. sub q y (look_later e es r.0 q y is)))

  all_entries : 2 ^ bits ≤ 2 ^ 36 → entries_in is_any m 0 (2 ^ 64 - 1) ≡ map.entries m
  unfolding entries_in
  all_entries most = all_by most (map.entries m) (entries-rise m) (λ q y is. is)

-- ---- the moves

pub moving_begins : (from to : ℕ) (m : Ranges) (walk : List Found) → AreSpots from m → 2 ^ from ≤ 2 ^ 36 → walk ≡ map_list found_of (entries_in is_any m 0 (2 ^ 64 - 1)) → IsMoving from to m map.empty walk
moving_begins from to m walk are most is =
    let all : walk ≡ map_list found_of (map.entries m) = is ∙ ap (map_list found_of) (all_entries from m are most) in
    record {
      are = are-empty to;
      stand = subst (Stand m) (sym all) (stand_by from m are (map.entries m) (entries-rise m) (λ q y is. is));
      same = λ place.
          let bare : map.get (spots to map.empty) place ≡ None = ap (λ s. map.get s place) (spots-empty to) ∙ map.get-empty place_cmp place in
          map.get-from_entries places_total (listed from (map.entries m)) place
          ∙ ap (map.find place_cmp place) (sym (ap (left from) all ∙ left_all from (map.entries m)))
          ∙ ap (λ o. option_or o (map.find place_cmp place (left from walk))) (sym bare);
    }

-- the entry that comes next moves to its wide key
module _ (from to : ℕ) (m wide : Ranges) (f : Found) (walk : List Found) (are : AreSpots from m) (wider : 2 ^ from ≤ 2 ^ to) (moving : IsMoving from to m wide (f ∷ walk)) where
  entry : HasEntry m f.first f.value
  entry = moving.stand.0

  pub file_fits : f.first / 2 ^ from < 64
  file_fits = file_below from f.first (are.within f.first entry.range entry.there)

  pub page_fits : f.first % 2 ^ from < 2 ^ to
  page_fits = let below : f.first % 2 ^ from < 2 ^ from = page_below from f.first in omega arith

  pub value_fits : f.value < 2 ^ 45
  value_fits =
      let fits : entry.range.value < 2 ^ 45 = are.fits f.first entry.range entry.there in
      let same : entry.range.value ≡ f.value = entry.value in
      omega arith

  moved : Range
  moved = singles.stored_range f.value (map.get wide (key_of to (place_of from f.first)))

  moved_order : moved.order ≡ 0
  unfolding moved
  moved_order = by_case f.value (map.get wide (key_of to (place_of from f.first))) (λ r is. moving.are.single.order (key_of to (place_of from f.first)) r is)
    where
      by_case : (v : ℕ) (o : Option Range) → ((r : Range) → o ≡ Some r → r.order ≡ 0) → (singles.stored_range v o).order ≡ 0
      by_case v None h = refl
      by_case v (Some r) h = h r refl

  moved_value : moved.value ≡ f.value
  unfolding moved
  moved_value = by_case f.value (map.get wide (key_of to (place_of from f.first)))
    where
      by_case : (v : ℕ) (o : Option Range) → (singles.stored_range v o).value ≡ v
      by_case v None = refl
      by_case v (Some r) = refl

  stores : stored wide (key_of to (place_of from f.first)) f.value ≡ map.insert wide (key_of to (place_of from f.first)) moved
  unfolding moved
  stores = singles.stored-insert wide moving.are.single (key_of to (place_of from f.first)) f.value

  moved_are : AreSpots to (stored wide (key_of to (place_of from f.first)) f.value)
  moved_are =
      let fits : f.value < 2 ^ 45 = value_fits in
      let same : moved.value ≡ f.value = moved_value in
      let below : f.first / 2 ^ from * 2 ^ to + f.first % 2 ^ from < 2 ^ to * 64 = mul-add-lt (f.first / 2 ^ from) (2 ^ to) (f.first % 2 ^ from) 64 file_fits page_fits in
      subst (AreSpots to) (sym stores) (are-insert to wide (key_of to (place_of from f.first)) moved moving.are moved_order (omega arith) (omega arith))

  moved_spots : spots to (stored wide (key_of to (place_of from f.first)) f.value) ≡ map.insert (spots to wide) (place_of from f.first) (spot_of f.value)
  moved_spots =
      ap (spots to) stores
      ∙ spots-insert to wide (key_of to (place_of from f.first)) moved
      ∙ (λ i. map.insert (spots to wide) (place_back to (f.first / 2 ^ from) (f.first % 2 ^ from) page_fits i) (spot_of (moved_value i)))

  entry_spot : map.get (spots from m) (place_of from f.first) ≡ Some (spot_of f.value)
  entry_spot =
      get-spots from m (f.first / 2 ^ from) (f.first % 2 ^ from) (page_below from f.first)
      ∙ ap spot_in (ap (map.get m) (key_back from f.first) ∙ entry.there)
      ∙ ap (λ v. Some (spot_of v)) entry.value

  here : (place : ℕ × ℕ) → eq_by_cmp place_cmp place (place_of from f.first) ≡ true → map.get (spots from m) place ≡ Some (spot_of f.value)
  here place tie =
      let pair = and_parts (eqb place.0 (f.first / 2 ^ from)) (eqb place.1 (f.first % 2 ^ from)) (sym (same_place place.0 place.1 (f.first / 2 ^ from) (f.first % 2 ^ from)) ∙ tie) in
      let file = eqb-true place.0 (f.first / 2 ^ from) pair.0 in
      let page = eqb-true place.1 (f.first % 2 ^ from) pair.1 in
      (λ i. map.get (spots from m) (file i, page i)) ∙ entry_spot

  by_tie : (o : Option Spot) (b : Bool) (s : Spot) (x y : Option Spot) → (b ≡ true → o ≡ Some s) → o ≡ option_or x (cond b (Some s) y) → o ≡ option_or (cond b (Some s) x) y
  by_tie o true s x y is was = is refl
  by_tie o false s x y is was = was

  pub moving_goes_on : IsMoving from to m (stored wide (key_of to (place_of from f.first)) f.value) walk
  moving_goes_on = record {
    are = moved_are;
    stand = moving.stand.1;
    same = λ place.
        by_tie (map.get (spots from m) place) (eq_by_cmp place_cmp place (place_of from f.first)) (spot_of f.value) (map.get (spots to wide) place) (map.find place_cmp place (left from walk)) (here place) (moving.same place)
        ∙ ap (λ o. option_or o (map.find place_cmp place (left from walk)))
        (sym (ap (λ s. map.get s place) moved_spots ∙ map.get-insert places_total (spots to wide) (place_of from f.first) (spot_of f.value) place));
  }

pub moving_ends : (from to : ℕ) (m wide : Ranges) (walk : List Found) → IsMoving from to m wide walk → walk ≡ [] → spots to wide ≡ spots from m
moving_ends from to m wide walk moving over = map.same_map places_total places_antisymmetric (spots to wide) (spots from m) (λ place.
    sym (moving.same place ∙ ap (λ w. option_or (map.get (spots to wide) place) (map.find place_cmp place (left from w))) over ∙ or_none (map.get (spots to wide) place)))
  where
    or_none : (o : Option Spot) → option_or o None ≡ o
    or_none None = refl
    or_none (Some s) = refl
