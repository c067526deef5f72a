-- The pages' blocks that an array keeps, after each of its changes.
use Rattle.std.proofs.Common.{◌≡◌, ℕ, ◌+◌, ◌-◌, ◌*◌, ◌/◌, ◌%◌, ◌^◌, ◌<◌, ◌≤◌, ◌⊎◌, true, false, cond, eqb, eqb-true, List, [], ◌∷◌, Option, Some, None, is_some, option_map, map as map_list, refl, sym, ap, subst, ◌∙◌, arith, inl, inr, IsSome, Ok, Err}
use Rattle.std.specs.Prelude.{Result, OnOk, OnErr}
use Rattle.std.specs.Ordering.{nat_cmp, eq_by_cmp}
use Rattle.std.specs.Cmp.{nat_cmp_total, unsigned_tied}
use Rattle.std.specs.FinMap as map
use Rattle.std.proofs.lemmas.Bool.{and_parts, cases_Bool, cases_eq, cases_lt, ne_eqb, eq-eqb, cond-true, cond-false, false≢true}
use Rattle.std.proofs.lemmas.Nat.{mul-add-lt, pow_pos}
use Rattle.std.proofs.lemmas.Option.{same_Some, none-some}
use Rattle.pc_types.specs.Spots.{Spot, place_cmp}
use Rattle.xarray.specs.MarkedArray.{Range, Ranges, entry_at, erased, found_of, is_any, lowest, stored, unmarked, with_value}
use Rattle.xarray.specs.declared.entry.Found.{Found}
use Rattle.xarray.proofs.Singles as singles
use Rattle.idalloc.proofs.MarkLemmas.{found_entry, found_none, get_here, get_there}
use Rattle.blockmap.specs.Blocks.{Spots}
use Rattle.blockmap.specs.Keys.{AreSpots, IsFirstFrom, IsPageFrom, NoneFrom, key_of, place_of, spot_of, spots}
use Rattle.blockmap.proofs.PlaceLemmas.{key_of_file, page_below, place_back, places_antisymmetric, places_total, same_place, tie_beyond, tie_here, tie_there}

abbrev pub spot_in : Option Range → Option Spot
spot_in = option_map (λ (r : Range). spot_of r.value)

-- the entry with a value
pub record HasEntry (m : Ranges) (k word : ℕ) : Type 0 where
  pub range : Range
  pub there : map.get m k ≡ Some range
  pub value : range.value ≡ word

module _ (bits : ℕ) where
  -- ---- look-ups

  abbrev pub listed : List (ℕ × Range) → List ((ℕ × ℕ) × Spot)
  listed es = map_list (λ e. (place_of bits e.0, spot_of e.1.value)) es

  find_within : (file page : ℕ) → page < 2 ^ bits → (es : List (ℕ × Range)) → map.find place_cmp (file, page) (listed es) ≡ spot_in (map.find nat_cmp (key_of bits (file, page)) es)
  find_within file page within [] = refl
  find_within file page within (e ∷ es) = elim (cases_eq (key_of bits (file, page)) e.0) [
    | inl same ↦
        cond-true (eq_by_cmp place_cmp (file, page) (place_of bits e.0)) (Some (spot_of e.1.value)) (map.find place_cmp (file, page) (listed es)) (tie_here bits file page e.0 within same)
        ∙ sym (ap spot_in (cond-true (eq_by_cmp nat_cmp (key_of bits (file, page)) e.0) (Some e.1) (map.find nat_cmp (key_of bits (file, page)) es) (unsigned_tied (key_of bits (file, page)) e.0 ∙ eq-eqb (key_of bits (file, page)) e.0 same)))
    | inr differs ↦
        cond-false (eq_by_cmp place_cmp (file, page) (place_of bits e.0)) (Some (spot_of e.1.value)) (map.find place_cmp (file, page) (listed es)) (tie_there bits file page e.0 differs)
        ∙ find_within file page within es
        ∙ sym (ap spot_in (cond-false (eq_by_cmp nat_cmp (key_of bits (file, page)) e.0) (Some e.1) (map.find nat_cmp (key_of bits (file, page)) es) (unsigned_tied (key_of bits (file, page)) e.0 ∙ ne_eqb (key_of bits (file, page)) e.0 differs)))
  ]

  find_beyond : (file page : ℕ) → 2 ^ bits ≤ page → (es : List (ℕ × Range)) → map.find place_cmp (file, page) (listed es) ≡ None
  find_beyond file page beyond [] = refl
  find_beyond file page beyond (e ∷ es) =
      cond-false (eq_by_cmp place_cmp (file, page) (place_of bits e.0)) (Some (spot_of e.1.value)) (map.find place_cmp (file, page) (listed es)) (tie_beyond bits file page e.0 beyond)
      ∙ find_beyond file page beyond es

  pub get-spots : (m : Ranges) (file page : ℕ) → page < 2 ^ bits → map.get (spots bits m) (file, page) ≡ spot_in (map.get m (key_of bits (file, page)))
  get-spots m file page within =
      map.get-from_entries places_total (listed (map.entries m)) (file, page)
      ∙ find_within file page within (map.entries m)
      ∙ ap spot_in (sym (map.get-entries m (key_of bits (file, page))))

  pub get-beyond : (m : Ranges) (file page : ℕ) → 2 ^ bits ≤ page → map.get (spots bits m) (file, page) ≡ None
  get-beyond m file page beyond = map.get-from_entries places_total (listed (map.entries m)) (file, page) ∙ find_beyond file page beyond (map.entries m)

  same_spots : (m n : Spots) → ((file page : ℕ) → map.get m (file, page) ≡ map.get n (file, page)) → m ≡ n
  same_spots m n is = map.same_map places_total places_antisymmetric m n (λ k. is k.0 k.1)

  pub spots-empty : spots bits map.empty ≡ map.empty
  spots-empty = same_spots (spots bits map.empty) map.empty (λ file page. elim (cases_lt page (2 ^ bits)) [
    | inl within ↦ get-spots map.empty file page within ∙ ap spot_in (map.get-empty nat_cmp (key_of bits (file, page))) ∙ sym (map.get-empty place_cmp (file, page))
    | inr beyond ↦ get-beyond map.empty file page beyond ∙ sym (map.get-empty place_cmp (file, page))
  ])

  insert_tied : (m : Ranges) (key : ℕ) (r : Range) (file page : ℕ) → page < 2 ^ bits → spot_in (cond (eq_by_cmp nat_cmp (key_of bits (file, page)) key) (Some r) (map.get m (key_of bits (file, page)))) ≡ cond (eq_by_cmp place_cmp (file, page) (place_of bits key)) (Some (spot_of r.value)) (map.get (spots bits m) (file, page))
  insert_tied m key r file page within = elim (cases_eq (key_of bits (file, page)) key) [
    | inl e ↦
        ap spot_in (cond-true (eq_by_cmp nat_cmp (key_of bits (file, page)) key) (Some r) (map.get m (key_of bits (file, page))) (unsigned_tied (key_of bits (file, page)) key ∙ eq-eqb (key_of bits (file, page)) key e))
        ∙ sym (cond-true (eq_by_cmp place_cmp (file, page) (place_of bits key)) (Some (spot_of r.value)) (map.get (spots bits m) (file, page)) (tie_here bits file page key within e))
    | inr differs ↦
        ap spot_in (cond-false (eq_by_cmp nat_cmp (key_of bits (file, page)) key) (Some r) (map.get m (key_of bits (file, page))) (unsigned_tied (key_of bits (file, page)) key ∙ ne_eqb (key_of bits (file, page)) key differs))
        ∙ sym (get-spots m file page within)
        ∙ sym (cond-false (eq_by_cmp place_cmp (file, page) (place_of bits key)) (Some (spot_of r.value)) (map.get (spots bits m) (file, page)) (tie_there bits file page key differs))
  ]

  remove_tied : (m : Ranges) (key file page : ℕ) → page < 2 ^ bits → spot_in (cond (eq_by_cmp nat_cmp (key_of bits (file, page)) key) None (map.get m (key_of bits (file, page)))) ≡ cond (eq_by_cmp place_cmp (file, page) (place_of bits key)) None (map.get (spots bits m) (file, page))
  remove_tied m key file page within = elim (cases_eq (key_of bits (file, page)) key) [
    | inl e ↦
        ap spot_in (cond-true (eq_by_cmp nat_cmp (key_of bits (file, page)) key) None (map.get m (key_of bits (file, page))) (unsigned_tied (key_of bits (file, page)) key ∙ eq-eqb (key_of bits (file, page)) key e))
        ∙ sym (cond-true (eq_by_cmp place_cmp (file, page) (place_of bits key)) None (map.get (spots bits m) (file, page)) (tie_here bits file page key within e))
    | inr differs ↦
        ap spot_in (cond-false (eq_by_cmp nat_cmp (key_of bits (file, page)) key) None (map.get m (key_of bits (file, page))) (unsigned_tied (key_of bits (file, page)) key ∙ ne_eqb (key_of bits (file, page)) key differs))
        ∙ sym (get-spots m file page within)
        ∙ sym (cond-false (eq_by_cmp place_cmp (file, page) (place_of bits key)) None (map.get (spots bits m) (file, page)) (tie_there bits file page key differs))
  ]

  -- an entry's change is its page's
  pub spots-insert : (m : Ranges) (key : ℕ) (r : Range) → spots bits (map.insert m key r) ≡ map.insert (spots bits m) (place_of bits key) (spot_of r.value)
  spots-insert m key r = same_spots (spots bits (map.insert m key r)) (map.insert (spots bits m) (place_of bits key) (spot_of r.value)) (λ file page. elim (cases_lt page (2 ^ bits)) [
    | inl within ↦
        get-spots (map.insert m key r) file page within
        ∙ ap spot_in (map.get-insert nat_cmp_total m key r (key_of bits (file, page)))
        ∙ insert_tied m key r file page within
        ∙ sym (map.get-insert places_total (spots bits m) (place_of bits key) (spot_of r.value) (file, page))
    | inr beyond ↦
        get-beyond (map.insert m key r) file page beyond
        ∙ sym (get-beyond m file page beyond)
        ∙ sym (cond-false (eq_by_cmp place_cmp (file, page) (place_of bits key)) (Some (spot_of r.value)) (map.get (spots bits m) (file, page)) (tie_beyond bits file page key beyond))
        ∙ sym (map.get-insert places_total (spots bits m) (place_of bits key) (spot_of r.value) (file, page))
  ])

  pub spots-remove : (m : Ranges) (key : ℕ) → spots bits (map.remove m key) ≡ map.remove (spots bits m) (place_of bits key)
  spots-remove m key = same_spots (spots bits (map.remove m key)) (map.remove (spots bits m) (place_of bits key)) (λ file page. elim (cases_lt page (2 ^ bits)) [
    | inl within ↦
        get-spots (map.remove m key) file page within
        ∙ ap spot_in (map.get-remove nat_cmp_total m key (key_of bits (file, page)))
        ∙ remove_tied m key file page within
        ∙ sym (map.get-remove places_total (spots bits m) (place_of bits key) (file, page))
    | inr beyond ↦
        get-beyond (map.remove m key) file page beyond
        ∙ sym (get-beyond m file page beyond)
        ∙ sym (cond-false (eq_by_cmp place_cmp (file, page) (place_of bits key)) None (map.get (spots bits m) (file, page)) (tie_beyond bits file page key beyond))
        ∙ sym (map.get-remove places_total (spots bits m) (place_of bits key) (file, page))
  ])

  -- ---- what the calls read

  value_of_option : (k : ℕ) (o : Option Range) → option_map (λ e. e.1.value) (singles.at_index k o) ≡ option_map (λ (r : Range). r.value) o
  value_of_option k None = refl
  value_of_option k (Some r) = refl

  value_at : (m : Ranges) (k : ℕ) → AreSpots bits m → option_map (λ e. e.1.value) (entry_at m k) ≡ option_map (λ (r : Range). r.value) (map.get m k)
  value_at m k are = ap (option_map (λ e. e.1.value)) (singles.entry_at-get m are.single k) ∙ value_of_option k (map.get m k)

  has_entry : (m : Ranges) (k word : ℕ) (o : Option Range) → map.get m k ≡ o → Some word ≡ option_map (λ (r : Range). r.value) o → HasEntry m k word
  has_entry m k word None at h = absurd (none-some word (sym h))
  has_entry m k word (Some r) at h = record { range = r; there = at; value = sym (same_Some word r.value h) }

  pub entry_of : (m : Ranges) (k word : ℕ) → AreSpots bits m → Some word ≡ option_map (λ e. e.1.value) (entry_at m k) → HasEntry m k word
  entry_of m k word are h = has_entry m k word (map.get m k) refl (h ∙ value_at m k are)

  pub word_fits : (m : Ranges) (k word : ℕ) → AreSpots bits m → Some word ≡ option_map (λ e. e.1.value) (entry_at m k) → word < 2 ^ 45
  word_fits m k word are h =
      let e : HasEntry m k word = entry_of m k word are h in
      let f : e.range.value < 2 ^ 45 = are.fits k e.range e.there in
      let v : e.range.value ≡ word = e.value in
      omega arith

  pub spot_read : (m : Ranges) (k word file page : ℕ) → AreSpots bits m → page < 2 ^ bits → k ≡ key_of bits (file, page) → Some word ≡ option_map (λ e. e.1.value) (entry_at m k) → map.get (spots bits m) (file, page) ≡ Some (spot_of word)
  spot_read m k word file page are within same h =
      let e : HasEntry m k word = entry_of m k word are h in
      get-spots m file page within ∙ ap spot_in (ap (map.get m) (sym same) ∙ e.there) ∙ ap (λ w. Some (spot_of w)) e.value

  no_range : (o : Option Range) → None ≡ option_map (λ (r : Range). r.value) o → o ≡ None
  no_range None h = refl
  no_range (Some r) h = absurd (none-some r.value h)

  pub none_read : (m : Ranges) (k file page : ℕ) → AreSpots bits m → page < 2 ^ bits → k ≡ key_of bits (file, page) → None ≡ option_map (λ e. e.1.value) (entry_at m k) → map.get (spots bits m) (file, page) ≡ None
  none_read m k file page are within same h = get-spots m file page within ∙ ap spot_in (ap (map.get m) (sym same) ∙ no_range (map.get m k) (h ∙ value_at m k are))

  no_spot : (o : Option Range) → spot_in o ≡ None → o ≡ None
  no_spot None h = refl
  no_spot (Some r) h = absurd (none-some (spot_of r.value) (sym h))

  pub absent_at : (m : Ranges) (k file page : ℕ) → page < 2 ^ bits → k ≡ key_of bits (file, page) → map.get (spots bits m) (file, page) ≡ None → map.get m k ≡ None
  absent_at m k file page within same h = ap (map.get m) same ∙ no_spot (map.get m (key_of bits (file, page))) (sym (get-spots m file page within) ∙ h)

  -- the entry under a page's block
  some_range : (m : Ranges) (k : ℕ) (o : Option Range) → map.get m k ≡ o → is_some (spot_in o) ≡ true → (r : Range) × (map.get m k ≡ Some r)
  some_range m k None at h = absurd (false≢true h)
  some_range m k (Some r) at h = (r, at)

  pub range_at : (m : Ranges) (k file page : ℕ) → page < 2 ^ bits → k ≡ key_of bits (file, page) → is_some (map.get (spots bits m) (file, page)) ≡ true → (r : Range) × (map.get m k ≡ Some r)
  range_at m k file page within same h = some_range m k (map.get m k) refl (ap (λ j. is_some (spot_in (map.get m j))) same ∙ sym (ap is_some (get-spots m file page within)) ∙ h)

  -- ---- what the calls change

  pub are-empty : AreSpots bits map.empty
  are-empty = record { single = singles.single-empty; within = λ i r is. absurd (none-some r (sym (map.get-empty nat_cmp i) ∙ is)); fits = λ i r is. absurd (none-some r (sym (map.get-empty nat_cmp i) ∙ is)) }

  pub are-insert : (m : Ranges) (i : ℕ) (r : Range) → AreSpots bits m → r.order ≡ 0 → i < 64 * 2 ^ bits → r.value < 2 ^ 45 → AreSpots bits (map.insert m i r)
  are-insert m i r are order within fits = record {
    single = singles.single-insert m are.single i r order;
    within = λ q s is. elim (cases_eq q i) [
      | inl e ↦ subst (λ k. k < 64 * 2 ^ bits) (sym e) within
      | inr differs ↦ are.within q s (sym (get_there m i r q differs) ∙ is)
    ];
    fits = λ q s is. elim (cases_eq q i) [
      | inl e ↦
          let h : r ≡ s = same_Some r s (sym (get_here m i r) ∙ ap (map.get (map.insert m i r)) (sym e) ∙ is) in
          let v : r.value ≡ s.value = ap (λ (z : Range). z.value) h in
          omega arith
      | inr differs ↦ are.fits q s (sym (get_there m i r q differs) ∙ is)
    ];
  }

  are-remove : (m : Ranges) (i : ℕ) → AreSpots bits m → AreSpots bits (map.remove m i)
  are-remove m i are = record { single = singles.single-remove m are.single i; within = λ q s is. are.within q s (was q s is); fits = λ q s is. are.fits q s (was q s is) }
    where
      was : (q : ℕ) (s : Range) → map.get (map.remove m i) q ≡ Some s → map.get m q ≡ Some s
      was q s is = elim (cases_eq q i) [
        | inl e ↦ absurd (none-some s (sym (map.get-remove nat_cmp_total m i q ∙ cond-true (eq_by_cmp nat_cmp q i) None (map.get m q) (unsigned_tied q i ∙ eq-eqb q i e)) ∙ is))
        | inr differs ↦ sym (map.get-remove nat_cmp_total m i q ∙ cond-false (eq_by_cmp nat_cmp q i) None (map.get m q) (unsigned_tied q i ∙ ne_eqb q i differs)) ∙ is
      ]

  spot_back : (block valid : ℕ) → valid ≤ 4096 → spot_of (block * 8192 + valid) ≡ record { block = block; valid = valid }
  spot_back block valid small =
      let high : (block * 8192 + valid) / 8192 ≡ block = omega arith in
      let low : (block * 8192 + valid) % 8192 ≡ valid = omega arith in
      λ i. record { block = high i; valid = low i }

  -- a page gets a block
  pub added-are : (m : Ranges) (k word file page : ℕ) → AreSpots bits m → file < 64 → page < 2 ^ bits → k ≡ key_of bits (file, page) → word < 2 ^ 45 → AreSpots bits (map.insert m k (unmarked 0 word))
  added-are m k word file page are few within same fits =
      let below : file * 2 ^ bits + page < 2 ^ bits * 64 = mul-add-lt file (2 ^ bits) page 64 few within in
      are-insert m k (unmarked 0 word) are refl (omega arith) fits

  pub added : (m : Ranges) (k word block valid file page : ℕ) → page < 2 ^ bits → k ≡ key_of bits (file, page) → word ≡ block * 8192 + valid → valid ≤ 4096 → spots bits (map.insert m k (unmarked 0 word)) ≡ map.insert (spots bits m) (file, page) (record { block = block; valid = valid })
  added m k word block valid file page within same is small =
      spots-insert m k (unmarked 0 word)
      ∙ (λ i. map.insert (spots bits m) ((ap (place_of bits) same ∙ place_back bits file page within) i) ((ap spot_of is ∙ spot_back block valid small) i))

  pub no_entry : (m : Ranges) (k file page : ℕ) → AreSpots bits m → page < 2 ^ bits → k ≡ key_of bits (file, page) → map.get (spots bits m) (file, page) ≡ None → entry_at m k ≡ None
  no_entry m k file page are within same h = singles.entry_at-none m are.single k (absent_at m k file page within same h)

  -- a page's block is another
  pub held_entry : (m : Ranges) (k file page : ℕ) → AreSpots bits m → page < 2 ^ bits → k ≡ key_of bits (file, page) → is_some (map.get (spots bits m) (file, page)) ≡ true → IsSome (entry_at m k)
  held_entry m k file page are within same h =
      let r = range_at m k file page within same h in
      rw (singles.entry_at-some m are.single k r.0 r.1) refl

  pub set-are : (m : Ranges) (k word file page : ℕ) → AreSpots bits m → page < 2 ^ bits → k ≡ key_of bits (file, page) → is_some (map.get (spots bits m) (file, page)) ≡ true → word < 2 ^ 45 → AreSpots bits (stored m k word)
  set-are m k word file page are within same h fits =
      let r = range_at m k file page within same h in
      subst (AreSpots bits) (sym (singles.stored-some m are.single k word r.0 r.1)) (are-insert m k (with_value word r.0) are (are.single.order k r.0 r.1) (are.within k r.0 r.1) fits)

  pub set : (m : Ranges) (k word block valid file page : ℕ) → AreSpots bits m → page < 2 ^ bits → k ≡ key_of bits (file, page) → is_some (map.get (spots bits m) (file, page)) ≡ true → word ≡ block * 8192 + valid → valid ≤ 4096 → spots bits (stored m k word) ≡ map.insert (spots bits m) (file, page) (record { block = block; valid = valid })
  set m k word block valid file page are within same h is small =
      let r = range_at m k file page within same h in
      ap (spots bits) (singles.stored-some m are.single k word r.0 r.1)
      ∙ spots-insert m k (with_value word r.0)
      ∙ (λ i. map.insert (spots bits m) ((ap (place_of bits) same ∙ place_back bits file page within) i) ((ap spot_of is ∙ spot_back block valid small) i))

  -- a page's block goes
  pub erased-are : (m : Ranges) (k : ℕ) → AreSpots bits m → AreSpots bits (erased m k)
  erased-are m k are = subst (AreSpots bits) (sym (singles.erased-remove m are.single k)) (are-remove m k are)

  pub erased-spots : (m : Ranges) (k file page : ℕ) → AreSpots bits m → page < 2 ^ bits → k ≡ key_of bits (file, page) → spots bits (erased m k) ≡ map.remove (spots bits m) (file, page)
  erased-spots m k file page are within same =
      ap (spots bits) (singles.erased-remove m are.single k)
      ∙ spots-remove m k
      ∙ ap (map.remove (spots bits m)) (ap (place_of bits) same ∙ place_back bits file page within)

  -- a page that has a block lies below the width
  pub low_page : (m : Ranges) (file page : ℕ) → is_some (map.get (spots bits m) (file, page)) ≡ true → page < 2 ^ bits
  low_page m file page there = elim (cases_lt page (2 ^ bits)) [
    | inl within ↦ within
    | inr beyond ↦ absurd (false≢true (sym (ap is_some (get-beyond m file page beyond)) ∙ there))
  ]

  pub gone_beyond : (m : Ranges) (file page : ℕ) → 2 ^ bits ≤ page → spots bits m ≡ map.remove (spots bits m) (file, page)
  gone_beyond m file page beyond = same_spots (spots bits m) (map.remove (spots bits m) (file, page)) (λ g q.
      by_key g q (cases_Bool (eq_by_cmp place_cmp (g, q) (file, page))) ∙ sym (map.get-remove places_total (spots bits m) (file, page) (g, q)))
    where
      by_key : (g q : ℕ) → (eq_by_cmp place_cmp (g, q) (file, page) ≡ true) ⊎ (eq_by_cmp place_cmp (g, q) (file, page) ≡ false) → map.get (spots bits m) (g, q) ≡ cond (eq_by_cmp place_cmp (g, q) (file, page)) None (map.get (spots bits m) (g, q))
      by_key g q (inl tie) =
          let pair = and_parts (eqb g file) (eqb q page) (sym (same_place g q file page) ∙ tie) in
          let same : q ≡ page = eqb-true q page pair.1 in
          get-beyond m g q (omega arith)
          ∙ sym (cond-true (eq_by_cmp place_cmp (g, q) (file, page)) None (map.get (spots bits m) (g, q)) tie)
      by_key g q (inr apart) = sym (cond-false (eq_by_cmp place_cmp (g, q) (file, page)) None (map.get (spots bits m) (g, q)) apart)

  -- ---- a search

  entry_page : (m : Ranges) (file from low high first : ℕ) (r : Range) → 2 ^ bits ≤ 2 ^ 36 → low ≡ file * 2 ^ bits + from → high ≡ file * 2 ^ bits + (2 ^ bits - 1) → map.get m first ≡ Some r → low ≤ first → first ≤ high → IsPageFrom (spots bits m) file from (first % 2 ^ bits)
  entry_page m file from low high first r most low_is high_is there above below =
      let page : first % 2 ^ bits < 2 ^ bits = page_below bits first in
      let back : file * 2 ^ bits + first % 2 ^ bits ≡ first = key_of_file bits file first (omega arith) (omega (arith, pow_pos bits)) in
      record {
        within = omega arith;
        low = omega arith;
        there = ap is_some (get-spots m file (first % 2 ^ bits) page) ∙ ap (λ k. is_some (spot_in (map.get m k))) back ∙ ap (λ o. is_some (spot_in o)) there;
      }

  absent_of : (o : Option Range) → ((r : Range) → o ≡ Some r → ⊥) → o ≡ None
  absent_of None h = refl
  absent_of (Some r) h = absurd (h r refl)

  -- what a search finds
  module _ (m : Ranges) (file from low high : ℕ) (f : Found) (most : 2 ^ bits ≤ 2 ^ 36) (are : AreSpots bits m) (low_is : low ≡ file * 2 ^ bits + from) (high_is : high ≡ file * 2 ^ bits + (2 ^ bits - 1)) (h : Some f ≡ option_map found_of (lowest is_any m low high)) where
    the_lowest : (r : Range) × singles.IsLowest m is_any low high f.first r × (r.value ≡ f.value)
    the_lowest =
        let x = found_entry (lowest is_any m low high) f h in
        let at = ap (λ (g : Found). g.first) x.2 in
        (x.0.1, subst (λ k. singles.IsLowest m is_any low high k x.0.1) at (singles.lowest-some m are.single is_any low high x.0.0 x.0.1 x.1), ap (λ (g : Found). g.value) x.2)

    pub found_fits : f.value < 2 ^ 45
    found_fits =
        let x = the_lowest in
        let fits : x.0.value < 2 ^ 45 = are.fits f.first x.0 x.1.there in
        let same : x.0.value ≡ f.value = x.2 in
        omega arith

    found_back : key_of bits (file, f.first % 2 ^ bits) ≡ f.first
    found_back =
        let x = the_lowest in
        let above : low ≤ f.first = x.1.low in
        let below : f.first ≤ high = x.1.high in
        key_of_file bits file f.first (omega arith) (omega (arith, pow_pos bits))

    pub search_found : IsFirstFrom (spots bits m) file from (f.first % 2 ^ bits)
    search_found =
        let x = the_lowest in
        let above : low ≤ f.first = x.1.low in
        let below : f.first ≤ high = x.1.high in
        let back : file * 2 ^ bits + f.first % 2 ^ bits ≡ f.first = found_back in
        let page : f.first % 2 ^ bits < 2 ^ bits = page_below bits f.first in
        record {
          is = entry_page m file from low high f.first x.0 most low_is high_is x.1.there above below;
          bare = λ q start before.
              get-spots m file q (omega arith)
              ∙ ap spot_in (absent_of (map.get m (key_of bits (file, q))) (λ r there.
              let least : f.first ≤ file * 2 ^ bits + q = x.1.first (key_of bits (file, q)) r there refl (omega arith) (omega arith) in
              omega arith));
        }

    pub search_spot : map.get (spots bits m) (file, f.first % 2 ^ bits) ≡ Some (spot_of f.value)
    search_spot =
        let x = the_lowest in
        get-spots m file (f.first % 2 ^ bits) (page_below bits f.first)
        ∙ ap spot_in (ap (map.get m) found_back ∙ x.1.there)
        ∙ ap (λ w. Some (spot_of w)) x.2

  pub search_none : (m : Ranges) (file from low high : ℕ) → AreSpots bits m → low ≡ file * 2 ^ bits + from → high ≡ file * 2 ^ bits + (2 ^ bits - 1) → None ≡ option_map found_of (lowest is_any m low high) → NoneFrom (spots bits m) file from
  search_none m file from low high are low_is high_is h =
      let none = singles.none-lowest m are.single is_any low high (found_none (lowest is_any m low high) h) in
      record {
        each = λ page above. elim (cases_lt page (2 ^ bits)) [
          | inl below ↦ get-spots m file page below ∙ ap spot_in (absent_of (map.get m (key_of bits (file, page))) (λ r there. none.each (key_of bits (file, page)) r there refl (omega arith) (omega arith)))
          | inr beyond ↦ get-beyond m file page beyond
        ];
      }

  pub none_beyond : (m : Ranges) (file from : ℕ) → 2 ^ bits ≤ from → NoneFrom (spots bits m) file from
  none_beyond m file from beyond = record { each = λ page above. get-beyond m file page (omega arith) }

-- what follows from either outcome
pub of_result : {T E A B P : Type 0} (r : Result T E) → OnOk r A → OnErr r B → (A → P) → (B → P) → P
of_result (Ok x) a b f g = f a
of_result (Err e) a b f g = g b
