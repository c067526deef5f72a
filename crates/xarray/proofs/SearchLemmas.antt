-- What walks and searches of the nodes find in the array.
use Rattle.std.proofs.Common.{◌≡◌, ℕ, ◌+◌, ◌-◌, ◌*◌, ◌/◌, ◌%◌, ◌^◌, ◌<◌, ◌≤◌, ◌⊎◌, Bool, true, false, eqb, Option, Some, None, refl, sym, ap, ◌∙◌, inl, inr, arith, subst, eqb-true, ne_eqb, MatchBool}
use Rattle.std.specs.FinMap as map
use Rattle.std.specs.List.{list_any}
use Rattle.std.proofs.lemmas.Bool.{cases_eq, cases_lt, cases_order}
use Rattle.std.proofs.lemmas.Option.{none-some, same_Some}
use Rattle.std.proofs.Math.Nat.{mul-div_cancel, one-le-pow}
use Rattle.slab.specs.Slab.{Slab}
use Rattle.radix.specs.declared.node.Node.{Node}
use Rattle.radix.specs.declared.entry.Entry.{Entry}
use Rattle.radix.specs.declared.entry.Entry.TheVariants.{Leaf, Sibling}
use Rattle.radix.specs.Entries as radix
use Rattle.radix.specs.Entries.{HasMarked, HasNoEntry, HasNoMarked, HasNoNext, HasNoNextEntry, IsBare, IsClear, IsFound, IsFree, IsLeaf, IsNext, IsNextEntry}
use Rattle.radix.proofs.Places.{place-levels, place-mono}
use Rattle.radix.proofs.RunLemmas.{unmarked_none}
use Rattle.std.specs.Ordering.{nat_cmp}
use Rattle.std.specs.Cmp.{nat_cmp_total}
use Rattle.xarray.proofs.EntryLemmas.{any_false, any_true, entries-rise}
use Rattle.xarray.specs.declared.entry.Mark.{Mark}
use Rattle.xarray.specs.MarkedArray.{Range, Ranges, entry_at, has_mark, is_any, lowest, mark_number}
use Rattle.xarray.specs.Standing.{IsLeafOf, IsOutside, IsSpot, IsStart, Stands, level_of, place_of, span_of}
use Rattle.xarray.proofs.RangeLemmas.{at-holds, at-none, at-some, lowest-is, lowest-none, lowest-some, none-at, none-lowest}
use Rattle.xarray.proofs.SpanLemmas.{index_high, index_low, placed, pos64, slot_high, slot_low, span_some, least_from, within}
use Rattle.xarray.proofs.StandLemmas.{aligned_at, leaf-is, owner_named}
use Rattle.xarray.proofs.ChangeLemmas.{mark_low}

-- each entry of a kind that ends after an index begins in the slot of the index or later
abbrev pub IsPast : Ranges → (Range → Bool) → ℕ → Type 0
IsPast m kind from = (q : ℕ) (y : Range) → map.get m q ≡ Some y → kind y ≡ true → from < q + 2 ^ y.order → from / 64 ^ level_of y.order ≤ place_of q y.order

pub outside_past : (m : Ranges) (kind : Range → Bool) (from : ℕ) → IsOutside m from → IsPast m kind from
outside_past m kind from outside = λ q y has is high. place-mono from q (level_of y.order) (outside.each q y has high)

module _ (s : Slab Node) (m : Ranges) (stands : Stands s m) where
  -- each slot of an entry has some of it
  slot-some : (q : ℕ) (y : Range) → map.get m q ≡ Some y → (place : ℕ) → place_of q y.order ≤ place → place < place_of q y.order + span_of y.order → (x : Entry) × (radix.entry_at s (level_of y.order) place ≡ Some x)
  slot-some q y has place low high = elim (cases_eq place (place_of q y.order)) [
    | inl same ↦ (Leaf y.value, ap (radix.entry_at s (level_of y.order)) same ∙ (stands.each q y has).leaf)
    | inr differs ↦
        let p = place_of q y.order in
        let e : p + (place - p) ≡ place = omega (arith, low) in
        (Sibling (p % 64), ap (radix.entry_at s (level_of y.order)) (sym e) ∙ (stands.each q y has).rest (place - p) (omega (arith, low, differs)) (omega (arith, low, high)))
  ]

  pub walked_none : (index : ℕ) → HasNoEntry s index → entry_at m index ≡ None
  walked_none index none =
      at-none m stands.shape index (λ q y has low high.
      let even = aligned_at s m stands q y has in
      let x = slot-some q y has (index / 64 ^ level_of y.order) (slot_low q y.order even index low) (slot_high q y.order even index high) in
      none-some x.0 (sym (none.each (level_of y.order)) ∙ x.1))

  -- ---- the entry that a walk came to

  module _ (first : ℕ) (r : Range) (there : map.get m first ≡ Some r) (level place value : ℕ) (level_is : level_of r.order ≡ level) (place_is : place_of first r.order ≡ place) (value_is : r.value ≡ value) where
    pub first_is : first ≡ place * 64 ^ level
    first_is = (placed first r.order (aligned_at s m stands first r there)).first_is ∙ ap (λ z. z * 64 ^ level_of r.order) place_is ∙ ap (λ l. place * 64 ^ l) level_is

    pub first_fits : place * 64 ^ level < 2 ^ 64
    first_fits =
        let e = stands.shape.within first r there in
        let f = one-le-pow r.order 2 (omega arith) in
        omega (arith, e, f, first_is)

    pub spot_from : (index made : ℕ) → made ≡ place * 64 ^ level → place ≤ index / 64 ^ level → index / 64 ^ level < place + span_of r.order → IsSpot m (entry_at m index) made level value
    spot_from index made is low high =
        let even = aligned_at s m stands first r there in
        let at : index / 64 ^ level_of r.order ≡ index / 64 ^ level = ap (λ l. index / 64 ^ l) level_is in
        let key : first ≡ made = first_is ∙ sym is in
        record {
          range = r;
          is = at-holds m stands.shape index first r there (index_low first r.order even index (omega (arith, low, at, place_is))) (index_high first r.order even index (omega (arith, high, at, place_is))) ∙ ap (λ (z : ℕ). Some (z, r)) key;
          there = ap (map.get m) (sym key) ∙ there;
          level_is = level_is;
          value_is = value_is;
          top = stands.shape.order first r there;
          within = let e = stands.shape.within first r there in omega (arith, e, key);
        }

  pub spot_leaf : (index level value made : ℕ) → IsFound s index level (Leaf value) → made ≡ index / 64 ^ level * 64 ^ level → IsSpot m (entry_at m index) made level value
  spot_leaf index level value made found is =
      let t = leaf-is s m stands level (index / 64 ^ level) value found.entry in
      spot_from t.first t.range t.there level (index / 64 ^ level) value t.level_is t.place_is t.value_is index made is (omega arith) (omega (arith, span_some t.range.order))

  -- the first slot that a sibling names
  pub record IsNamed (index level named : ℕ) : Type 0 where
    pub first : ℕ
    pub range : Range
    pub there : map.get m first ≡ Some range
    pub level_is : level_of range.order ≡ level
    pub place_is : place_of first range.order ≡ index / 64 ^ level / 64 * 64 + named
    pub low : index / 64 ^ level / 64 * 64 + named ≤ index / 64 ^ level
    pub high : index / 64 ^ level < index / 64 ^ level / 64 * 64 + named + span_of range.order
    pub small : named < 64
    pub leaf : radix.entry_at s level (index / 64 ^ level / 64 * 64 + named) ≡ Some (Leaf range.value)

  pub named_at : (index level named : ℕ) → IsFound s index level (Sibling named) → IsNamed index level named
  named_at index level named found =
      let place = index / 64 ^ level in
      let own = stands.owned level place (Sibling named) found.entry in
      let n = owner_named s m stands level place own named found.entry in
      let p = place_of own.first own.range.order in
      let fits = within own.first own.range.order (aligned_at s m stands own.first own.range own.there) in
      let high = own.high in
      let at : p ≡ place / 64 * 64 + named = omega (arith, n.0, n.1, fits, high) in
      record {
        first = own.first;
        range = own.range;
        there = own.there;
        level_is = own.level_is;
        place_is = at;
        low = omega (arith, n.0, at);
        high = omega (arith, high, at);
        small = omega (arith, n.1);
        leaf = ap (λ z. radix.entry_at s level z) (sym at) ∙ ap (λ l. radix.entry_at s l p) (sym own.level_is) ∙ (stands.each own.first own.range own.there).leaf;
      }

  -- ---- where a search begins

  pub start_none : (index : ℕ) → entry_at m index ≡ None → IsStart m index index
  start_none index none = record {
    low = omega arith;
    outside = record {
      each = λ q y has high. elim (cases_lt q index) [
        | inl before ↦ absurd (none-at m index none q y has (omega (arith, before)) high)
        | inr after ↦ after
      ];
    };
    reach = λ q y has high. high;
    same = λ kind to le. refl;
  }

  -- an entry that ends after the first index of another one begins there or after that one
  not_before : (first q : ℕ) (r y : Range) → map.get m first ≡ Some r → map.get m q ≡ Some y → first < q + 2 ^ y.order → (q ≡ first) ⊎ (first + 2 ^ r.order ≤ q)
  not_before first q r y there has high = elim (cases_order first q) [
    | inr (inl before) ↦ inr (stands.shape.disjoint first q r y there has before)
    | inl same ↦ inl (sym same)
    | inr (inr after) ↦ let e = stands.shape.disjoint q first y r has there after in absurd (omega (arith, e, high))
  ]

  -- the lowest entry is the same from an index before, where each entry that ends after that one ends after this
  lowest_from : (kind : Range → Bool) (start index to : ℕ) → start ≤ index → index ≤ to → ((q : ℕ) (y : Range) → map.get m q ≡ Some y → start < q + 2 ^ y.order → index < q + 2 ^ y.order) → lowest kind m start to ≡ lowest kind m index to
  lowest_from kind start index to before le reach = by_lowest (lowest kind m start to) refl
    where
      by_lowest : (o : Option (ℕ × Range)) → lowest kind m start to ≡ o → lowest kind m start to ≡ lowest kind m index to
      by_lowest None none = none ∙ sym (lowest-none m kind index to (λ q y has is within low high. none-lowest m kind start to none q y has is (omega (arith, before, le)) low (omega (arith, before, high))))
      by_lowest (Some e) is =
          let p = lowest-some m kind start to e.0 e.1 is in
          is ∙ sym (lowest-is m kind index to e.0 e.1 p.there p.is le p.low (reach e.0 e.1 p.there p.high) (λ q y has k low high. p.least q y has k low (omega (arith, before, high))))

  pub start_spot : (index first level value : ℕ) → IsSpot m (entry_at m index) first level value → IsStart m index first
  start_spot index first level value spot =
      let at = at-some m index first spot.range spot.is in
      record {
        low = at.low;
        outside = record {
          each = λ q y has high. elim (not_before first q spot.range y spot.there has high) [
            | inl same ↦ omega (arith, same)
            | inr after ↦ omega (arith, after)
          ];
        };
        reach = λ q y has high. ends_after q y has high at.high;
        same = λ kind to le. lowest_from kind first index to at.low le (λ q y has high. ends_after q y has high at.high);
      }
    where
      ends_after : (q : ℕ) (y : Range) → map.get m q ≡ Some y → first < q + 2 ^ y.order → index < first + 2 ^ spot.range.order → index < q + 2 ^ y.order
      ends_after q y has high within = elim (not_before first q spot.range y spot.there has high) [
        | inl same ↦
            let e : spot.range ≡ y = same_Some spot.range y (sym spot.there ∙ ap (map.get m) (sym same) ∙ has) in
            let w = ap (λ (z : Range). 2 ^ z.order) e in
            omega (arith, within, w, same)
        | inr after ↦ omega (arith, within, after)
      ]

  -- ---- the lowest entry of a kind, from what a search by slots hits

  module _ (kind : Range → Bool) (Hit : ℕ → ℕ → Type 0) (hits : (q : ℕ) (y : Range) → map.get m q ≡ Some y → kind y ≡ true → Hit (level_of y.order) (place_of q y.order)) (from to : ℕ) (past : IsPast m kind from) where
    hit_at : (q : ℕ) (y : Range) → map.get m q ≡ Some y → kind y ≡ true → from < q + 2 ^ y.order → q < from → Hit (level_of y.order) (from / 64 ^ level_of y.order)
    hit_at q y has is high before =
        let at : place_of q y.order ≡ from / 64 ^ level_of y.order = let e = past q y has is high in let f = place-mono q from (level_of y.order) (omega (arith, before)) in omega (arith, e, f) in
        subst (Hit (level_of y.order)) at (hits q y has is)

    pub none_hit : ((level index : ℕ) → from ≤ index → Hit level (index / 64 ^ level) → ⊥) → lowest kind m from to ≡ None
    none_hit never =
        lowest-none m kind from to (λ q y has is le low high. elim (cases_lt q from) [
          | inl before ↦ never (level_of y.order) from (omega arith) (hit_at q y has is high before)
          | inr after ↦ never (level_of y.order) q after (hits q y has is)
        ])

    module _ (level place value : ℕ) (t : IsLeafOf m level place value) (low : from / 64 ^ level ≤ place) (least : (other index : ℕ) → from ≤ index → Hit other (index / 64 ^ other) → place ≤ index / 64 ^ level) where
      least_first : (q : ℕ) (y : Range) → map.get m q ≡ Some y → kind y ≡ true → from < q + 2 ^ y.order → t.first ≤ q
      least_first q y has is high = elim (cases_lt q from) [
        | inl before ↦
            let e = least (level_of y.order) from (omega arith) (hit_at q y has is high before) in
            let f : place * 64 ^ level ≤ from = least_from from (64 ^ level) place e in
            elim (cases_lt q t.first) [
              | inl less ↦ let g = stands.shape.disjoint q t.first y t.range has t.there less in absurd (omega (arith, f, g, t.first_is, high))
              | inr done ↦ done
            ]
        | inr after ↦
            let e = least (level_of y.order) q after (hits q y has is) in
            let f : place * 64 ^ level ≤ q = least_from q (64 ^ level) place e in
            omega (arith, f, t.first_is)
      ]

      pub past_hit : to < t.first → lowest kind m from to ≡ None
      past_hit beyond = lowest-none m kind from to (λ q y has is le low high. let e = least_first q y has is high in omega (arith, e, beyond, low))

      ends_after : from < t.first + 2 ^ t.range.order
      ends_after =
          let even = aligned_at s m stands t.first t.range t.there in
          let at : from / 64 ^ level_of t.range.order ≡ from / 64 ^ level = ap (λ l. from / 64 ^ l) t.level_is in
          let pl = t.place_is in
          index_high t.first t.range.order even from (omega (arith, at, pl, low, span_some t.range.order))

      pub spot_hit : kind t.range ≡ true → from ≤ to → t.first ≤ to → (made : ℕ) → made ≡ t.first → IsSpot m (lowest kind m from to) made level value
      spot_hit is le within made same =
          record {
            range = t.range;
            is = lowest-is m kind from to t.first t.range t.there is le within ends_after (λ q y has k low high. least_first q y has k high) ∙ ap (λ (z : ℕ). Some (z, t.range)) (sym same);
            there = ap (map.get m) same ∙ t.there;
            level_is = t.level_is;
            value_is = t.value_is;
            top = stands.shape.order t.first t.range t.there;
            within = let e = stands.shape.within t.first t.range t.there in omega (arith, e, same);
          }

  -- the entry that holds the first index is the lowest
  pub spot_here : (kind : Range → Bool) (from to first level value : ℕ) → from ≤ to → (spot : IsSpot m (entry_at m from) first level value) → kind spot.range ≡ true → IsSpot m (lowest kind m from to) first level value
  spot_here kind from to first level value le spot is =
      let at = at-some m from first spot.range spot.is in
      record {
        range = spot.range;
        is = lowest-is m kind from to first spot.range spot.there is le (let low = at.low in omega (arith, low, le)) at.high
            (λ q y has k low high. elim (cases_lt q first) [
              | inl before ↦ let e = stands.shape.disjoint q first y spot.range has spot.there before in let l = at.low in absurd (omega (arith, e, high, l))
              | inr after ↦ after
            ]);
        there = spot.there;
        level_is = spot.level_is;
        value_is = spot.value_is;
        top = spot.top;
        within = spot.within;
      }

  -- ---- any entry

  hits_any : (q : ℕ) (y : Range) → map.get m q ≡ Some y → is_any y ≡ true → IsLeaf (radix.entry_at s (level_of y.order) (place_of q y.order))
  hits_any q y has is = rw ((stands.each q y has).leaf) tt

  pub leaf_some : (level place : ℕ) → IsLeaf (radix.entry_at s level place) → (v : ℕ) × (radix.entry_at s level place ≡ Some (Leaf v))
  leaf_some level place leaf = by_entry (radix.entry_at s level place) refl leaf
    where
      by_entry : (o : Option Entry) → radix.entry_at s level place ≡ o → IsLeaf o → (v : ℕ) × (radix.entry_at s level place ≡ Some (Leaf v))
      by_entry None e l = absurd l
      by_entry (Some (Leaf v)) e l = (v, e)
      by_entry (Some (Sibling f)) e l = absurd l

  module _ (from to : ℕ) (outside : IsOutside m from) where
    past : IsPast m is_any from
    past = outside_past m is_any from outside

    pub any_none : HasNoNextEntry s from → lowest is_any m from to ≡ None
    any_none none = none_hit is_any (λ l p. IsLeaf (radix.entry_at s l p)) hits_any from to past none.each

    pub any_past : (level place value : ℕ) (t : IsLeafOf m level place value) → IsNextEntry s from level place → to < t.first → lowest is_any m from to ≡ None
    any_past level place value t next beyond = past_hit is_any (λ l p. IsLeaf (radix.entry_at s l p)) hits_any from to past level place value t next.after next.lowest beyond

    pub any_spot : (level place value : ℕ) (t : IsLeafOf m level place value) → IsNextEntry s from level place → from ≤ to → t.first ≤ to → (made : ℕ) → made ≡ t.first → IsSpot m (lowest is_any m from to) made level value
    any_spot level place value t next le within made same = spot_hit is_any (λ l p. IsLeaf (radix.entry_at s l p)) hits_any from to past level place value t next.after next.lowest refl le within made same

  -- ---- an entry with a mark

  pub marked_leaf : (number level place : ℕ) → number < 3 → radix.mark_at number s level place ≡ 1 → (v : ℕ) × (radix.entry_at s level place ≡ Some (Leaf v))
  marked_leaf number level place low marked = by_entry (radix.entry_at s level place) refl
    where
      by_entry : (o : Option Entry) → radix.entry_at s level place ≡ o → (v : ℕ) × (radix.entry_at s level place ≡ Some (Leaf v))
      by_entry None e = absurd (let z = unmarked_none s number level place e in omega (arith, z, marked))
      by_entry (Some (Leaf v)) e = (v, e)
      by_entry (Some (Sibling f)) e = absurd (let z = stands.quiet number level place f low e in omega (arith, z, marked))

  module _ (mark : Mark) where
    pub mark_of_leaf : (level place value : ℕ) (t : IsLeafOf m level place value) → has_mark mark t.range ≡ eqb (radix.mark_at (mark_number mark) s level place) 1
    mark_of_leaf level place value t = (stands.each t.first t.range t.there).marks mark ∙ ap (λ l. eqb (radix.mark_at (mark_number mark) s l (place_of t.first t.range.order)) 1) t.level_is ∙ ap (λ p. eqb (radix.mark_at (mark_number mark) s level p) 1) t.place_is

    hits_mark : (q : ℕ) (y : Range) → map.get m q ≡ Some y → has_mark mark y ≡ true → radix.mark_at (mark_number mark) s (level_of y.order) (place_of q y.order) ≡ 1
    hits_mark q y has is = eqb-true _ 1 (sym ((stands.each q y has).marks mark) ∙ is)

    module _ (from to : ℕ) (past : IsPast m (has_mark mark) from) where
      pub mark_none : HasNoNext s (mark_number mark) from → lowest (has_mark mark) m from to ≡ None
      mark_none none = none_hit (has_mark mark) (λ l p. radix.mark_at (mark_number mark) s l p ≡ 1) hits_mark from to past none.each

      pub mark_past : (level place value : ℕ) (t : IsLeafOf m level place value) → IsNext s (mark_number mark) from level place → to < t.first → lowest (has_mark mark) m from to ≡ None
      mark_past level place value t next beyond = past_hit (has_mark mark) (λ l p. radix.mark_at (mark_number mark) s l p ≡ 1) hits_mark from to past level place value t next.after next.lowest beyond

      pub mark_spot : (level place value : ℕ) (t : IsLeafOf m level place value) → IsNext s (mark_number mark) from level place → from ≤ to → t.first ≤ to → (made : ℕ) → made ≡ t.first → IsSpot m (lowest (has_mark mark) m from to) made level value
      mark_spot level place value t next le within made same = spot_hit (has_mark mark) (λ l p. radix.mark_at (mark_number mark) s l p ≡ 1) hits_mark from to past level place value t next.after next.lowest (mark_of_leaf level place value t ∙ ap (λ z. eqb z 1) next.marked) le within made same

  -- ---- whether any entry has a mark, and whether there is any

  pub any_marked : (mark : Mark) (number : ℕ) → number ≡ mark_number mark → (r : Bool) → MatchBool r (HasMarked s number) (HasNoMarked s number) → r ≡ list_any (has_mark mark) (map.values m)
  any_marked mark number names true h =
      let low : number < 3 = let e = mark_low mark in omega (arith, e, names) in
      let v = marked_leaf number h.level h.place low h.is in
      let t = leaf-is s m stands h.level h.place v.0 v.1 in
      sym (any_true (has_mark mark) (map.entries m) t.first t.range (sym (map.get-entries m t.first) ∙ t.there)
      (mark_of_leaf mark h.level h.place v.0 t ∙ ap (λ n. eqb (radix.mark_at n s h.level h.place) 1) (sym names) ∙ ap (λ z. eqb z 1) h.is))
  any_marked mark number names false h =
      sym (any_false (has_mark mark) (map.entries m) (entries-rise m)
      (λ q y has. (stands.each q y (map.get-entries m q ∙ has)).marks mark ∙ ap (λ n. eqb (radix.mark_at n s (level_of y.order) (place_of q y.order)) 1) (sym names) ∙ ne_eqb _ _ (h.each (level_of y.order) (place_of q y.order))))

  pub bare_empty : IsBare s → m ≡ map.empty
  bare_empty bare =
      map.same_map nat_cmp_total map.nat_cmp-IsAntisymmetric m map.empty
      (λ q. by_get q (map.get m q) refl ∙ sym (map.get-empty nat_cmp q))
    where
      by_get : (q : ℕ) (o : Option Range) → map.get m q ≡ o → o ≡ None
      by_get q None is = refl
      by_get q (Some r) is = absurd (none-some (Leaf r.value) (sym (bare.each (level_of r.order) (place_of q r.order)) ∙ (stands.each q r is).leaf))

  pub empty_bare : m ≡ map.empty → IsBare s
  empty_bare empty = record { each = λ level place. by_entry level place (radix.entry_at s level place) refl }
    where
      by_entry : (level place : ℕ) (o : Option Entry) → radix.entry_at s level place ≡ o → o ≡ None
      by_entry level place None is = refl
      by_entry level place (Some x) is =
          let own = stands.owned level place x is in
          absurd (none-some own.range (sym (map.get-empty nat_cmp own.first) ∙ ap (λ z. map.get z own.first) (sym empty) ∙ own.there))

  -- ---- where a range meets none

  module _ (first order : ℕ) (aligned : first % 2 ^ order ≡ 0) (free : (q : ℕ) (y : Range) → map.get m q ≡ Some y → q < first + 2 ^ order → first < q + 2 ^ y.order → ⊥) where
    pub clear_above : IsClear s (level_of order) first
    clear_above = record { each = λ above low. by_entry above (radix.entry_at s above (first / 64 ^ above)) refl }
      where
        by_entry : (above : ℕ) (o : Option Entry) → radix.entry_at s above (first / 64 ^ above) ≡ o → o ≡ None
        by_entry above None is = refl
        by_entry above (Some x) is =
            let own = stands.owned above (first / 64 ^ above) x is in
            let even = aligned_at s m stands own.first own.range own.there in
            let at : first / 64 ^ level_of own.range.order ≡ first / 64 ^ above = ap (λ l. first / 64 ^ l) own.level_is in
            let own_low = own.low in
            let own_high = own.high in
            let a = index_low own.first own.range.order even first (omega (arith, at, own_low)) in
            let b = index_high own.first own.range.order even first (omega (arith, at, own_high)) in
            let some = one-le-pow order 2 (omega arith) in
            absurd (free own.first own.range own.there (omega (arith, a, some)) b)

    pub free_under : (level j : ℕ) → level ≡ level_of order → j < span_of order → IsFree s level (first / 64 ^ level + j)
    free_under level j same low = record { each = λ d below at sum under. by_entry d below at sum under (radix.entry_at s below at) refl }
      where
        by_entry : (d below at : ℕ) → level ≡ below + d → at / 64 ^ d ≡ first / 64 ^ level + j → (o : Option Entry) → radix.entry_at s below at ≡ o → o ≡ None
        by_entry d below at sum under None is = refl
        by_entry d below at sum under (Some x) is =
            let own = stands.owned below at x is in
            let even = aligned_at s m stands own.first own.range own.there in
            let index = at * 64 ^ below in
            let here : index / 64 ^ below ≡ at = mul-div_cancel at (pos64 below) in
            let there : index / 64 ^ level_of own.range.order ≡ at = ap (λ l. index / 64 ^ l) own.level_is ∙ here in
            let up : index / 64 ^ level_of order ≡ first / 64 ^ level + j = ap (λ l. index / 64 ^ l) (sym same ∙ sum) ∙ sym (place-levels index below d) ∙ ap (λ z. z / 64 ^ d) here ∙ under in
            let base : first / 64 ^ level ≡ place_of first order = ap (λ l. first / 64 ^ l) same in
            let own_low = own.low in
            let own_high = own.high in
            let a = index_low own.first own.range.order even index (omega (arith, there, own_low)) in
            let b = index_high own.first own.range.order even index (omega (arith, there, own_high)) in
            let c = index_low first order aligned index (omega (arith, up, base)) in
            let e = index_high first order aligned index (omega (arith, up, base, low)) in
            absurd (free own.first own.range own.there (omega (arith, a, e)) (omega (arith, b, c)))
