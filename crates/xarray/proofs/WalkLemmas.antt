-- A walk over the entries of a kind, from each to the next.
use Rattle.std.proofs.Common.{◌≡◌, ℕ, ◌+◌, ◌*◌, ◌/◌, ◌%◌, ◌^◌, ◌<◌, ◌≤◌, ◌&&◌, Bool, true, false, ltb, leb, List, [], ◌∷◌, find, filter, Option, Some, None, IfSome, MatchOption, map as map_list, subst, refl, sym, ap, ◌∙◌, inl, inr, arith, leb-true, ltb-true, le-leb, lt-ltb}
use Rattle.std.specs.FinMap as map
use Rattle.std.proofs.lemmas.Bool.{cases_Bool, cases_order, cond-true, cond-false, and_parts, and_from, false_from_ne_true}
use Rattle.std.proofs.lemmas.Nat.{pow_pos}
use Rattle.std.proofs.lemmas.Option.{none-some, same_Some}
use Rattle.slab.specs.Slab.{Slab}
use Rattle.radix.specs.declared.node.Node.{Node}
use Rattle.radix.specs.declared.entry.Position.{Position}
use Rattle.radix.specs.declared.entry.Twig.{Twig}
use Rattle.radix.specs.Entries.{StandsAt}
use Rattle.xarray.specs.declared.entry.Mark.{Mark}
use Rattle.xarray.specs.MarkedArray.{IsArray, Range, Ranges, entries_in, found_of, lowest, meets}
use Rattle.xarray.specs.Standing.{IsOutside, IsSpot, span_of}
use Rattle.xarray.specs.View.{ranges_of}
use Rattle.xarray.specs.Walks.{IsAbove, IsAfter, IsOn, IsPlace, kind_of, left}
use Rattle.xarray.proofs.SpanLemmas.{end_is as span_end, last_slot, level_low, span_some, within}
use Rattle.xarray.proofs.EntryLemmas.{Rises, above_key, entries-rise, look, look_here, look_later}

-- ---- lists

-- what is not found is not left
pub filter-none : {X : Type 0} (test : X → Bool) (xs : List X) → find test xs ≡ None → filter test xs ≡ []
filter-none test [] none = refl
filter-none test (x ∷ xs) none = elim (cases_Bool (test x)) [
  | inl passes ↦ absurd (none-some x (sym none ∙ cond-true _ _ _ passes))
  | inr fails ↦ cond-false _ _ _ fails ∙ filter-none test xs (sym (cond-false _ _ _ fails) ∙ none)
]

-- two tests that agree at each entry
pub filter-same : {X : Type 0} (p q : ℕ × X → Bool) (es : List (ℕ × X)) → Rises es → ((k : ℕ) (y : X) → look k es ≡ Some y → p (k, y) ≡ q (k, y)) → filter p es ≡ filter q es
filter-same p q [] r same = refl
filter-same p q (e ∷ es) r same =
    let rest = filter-same p q es r.1 (λ k y has. same k y (look_later e es r.0 k y has)) in
    let here = same e.0 e.1 (look_here e.0 e es refl) in
    elim (cases_Bool (q e)) [
      | inl passes ↦ cond-true _ _ _ (here ∙ passes) ∙ ap (λ t. e ∷ t) rest ∙ sym (cond-true _ _ _ passes)
      | inr fails ↦ cond-false _ _ _ (here ∙ fails) ∙ rest ∙ sym (cond-false _ _ _ fails)
    ]

-- ---- one step

module _ (kind : Range → Bool) (from to : ℕ) where
  -- the test of a walk that has come to an index
  abbrev tested : ℕ → ℕ × Range → Bool
  tested k e = kind e.1 && meets k to e

  record IsMet (k : ℕ) (e : ℕ × Range) : Type 0 where
    is : kind e.1 ≡ true
    le : k ≤ to
    low : e.0 ≤ to
    high : k < e.0 + 2 ^ e.1.order

  met : (k : ℕ) (e : ℕ × Range) → tested k e ≡ true → IsMet k e
  met k e t =
      let a = and_parts (kind e.1) (meets k to e) t in
      let b = and_parts (leb k to) (leb e.0 to && ltb k (e.0 + 2 ^ e.1.order)) a.1 in
      let c = and_parts (leb e.0 to) (ltb k (e.0 + 2 ^ e.1.order)) b.1 in
      record { is = a.0; le = leb-true _ _ b.0; low = leb-true _ _ c.0; high = ltb-true _ _ c.1 }

  meet : (k : ℕ) (e : ℕ × Range) → kind e.1 ≡ true → k ≤ to → e.0 ≤ to → k < e.0 + 2 ^ e.1.order → tested k e ≡ true
  meet k e is le low high = and_from _ _ is (and_from _ _ (le-leb k to le) (and_from _ _ (le-leb e.0 to low) (lt-ltb _ _ high)))

  -- two tests that hold in the same cases
  agree : (a b : Bool) → (a ≡ true → b ≡ true) → (b ≡ true → a ≡ true) → a ≡ b
  agree true b f g = sym (f refl)
  agree false b f g = sym (false_from_ne_true b (λ t. absurd (let e : false ≡ true = g t in cc)))

  -- entries that begin at an index or later are the same from there
  same_later : (next : ℕ) → from < next → (k : ℕ) (y : Range) → next ≤ k → tested from (k, y) ≡ tested next (k, y)
  same_later next after k y low =
      agree (tested from (k, y)) (tested next (k, y))
      (λ t. let e = met from (k, y) t in let l = e.low in let h = e.high in meet next (k, y) e.is (omega (arith, low, l)) e.low (above k y low))
      (λ t. let e = met next (k, y) t in let l = e.le in let h = e.high in meet from (k, y) e.is (omega (arith, after, l)) e.low (omega (arith, after, h)))
    where
      above : (k : ℕ) (y : Range) → next ≤ k → next < k + 2 ^ y.order
      above k y low = let some = pow_pos y.order in omega (arith, low, some)

  step_of : (es : List (ℕ × Range)) → Rises es → ((q k : ℕ) (y x : Range) → look q es ≡ Some y → look k es ≡ Some x → q < k → q + 2 ^ y.order ≤ k)
      → (first : ℕ) (r : Range) (next : ℕ) → next ≡ first + 2 ^ r.order → find (tested from) es ≡ Some (first, r) → filter (tested from) es ≡ (first, r) ∷ filter (tested next) es
  step_of [] rises apart first r next ends is = absurd (none-some (first, r) is)
  step_of (e ∷ es) rises apart first r next ends is = elim (cases_Bool (tested from e)) [
    | inl passes ↦
        let pair : e ≡ (first, r) = same_Some e (first, r) (sym (cond-true _ _ _ passes) ∙ is) in
        let at = ap (λ (z : ℕ × Range). z.0 + 2 ^ z.1.order) pair in
        let high = (met from e passes).high in
        let gone : tested next e ≡ false = false_from_ne_true _ (λ t. let h = (met next e t).high in omega (arith, h, at, ends)) in
        cond-true _ _ _ passes ∙ (λ i. pair i ∷ filter-same (tested from) (tested next) es rises.1
        (λ k y has. same_later next (omega (arith, high, at, ends)) k y (let a = apart e.0 k e.1 y (look_here e.0 e es refl) (look_later e es rises.0 k y has) (above_key e.0 es rises.0 k y has) in omega (arith, a, at, ends))) i)
        ∙ ap (λ t. (first, r) ∷ t) (sym (cond-false _ _ _ gone))
    | inr fails ↦
        let rest : find (tested from) es ≡ Some (first, r) = sym (cond-false _ _ _ fails) ∙ is in
        let later = step_of es rises.1 (λ q k y x a b. apart q k y x (look_later e es rises.0 q y a) (look_later e es rises.0 k x b)) first r next ends rest in
        let found = found_met es first r rest in
        let le = found.le in
        let high = found.high in
        let gone : tested next e ≡ false = false_from_ne_true _ (λ t.
        let h = met next e t in
        let over = h.high in
        absurd (let w : true ≡ false = sym (meet from e h.is le h.low (omega (arith, over, ends, high))) ∙ fails in cc)) in
        cond-false _ _ _ fails ∙ later ∙ ap (λ t. (first, r) ∷ t) (sym (cond-false _ _ _ gone))
  ]
    where
      found_met : (es : List (ℕ × Range)) (first : ℕ) (r : Range) → find (tested from) es ≡ Some (first, r) → IsMet from (first, r)
      found_met [] first r is = absurd (none-some (first, r) is)
      found_met (e ∷ es) first r is = elim (cases_Bool (tested from e)) [
        | inl passes ↦ met from (first, r) (sym (ap (tested from) (same_Some e (first, r) (sym (cond-true _ _ _ passes) ∙ is))) ∙ passes)
        | inr fails ↦ found_met es first r (sym (cond-false _ _ _ fails) ∙ is)
      ]

-- ---- the entries that a walk has left

module _ (kind : Range → Bool) (m : Ranges) (from to : ℕ) where
  -- nothing is left where a search finds nothing
  pub walk_none : lowest kind m from to ≡ None → entries_in kind m from to ≡ []
  unfolding lowest entries_in
  walk_none none = filter-none _ (map.entries m) none

  -- what a search finds comes first, and the walk goes on after it
  pub walk_some : IsArray m → (first : ℕ) (r : Range) (next : ℕ) → next ≡ first + 2 ^ r.order → lowest kind m from to ≡ Some (first, r) → entries_in kind m from to ≡ (first, r) ∷ entries_in kind m next to
  unfolding lowest entries_in
  walk_some array first r next ends is =
      step_of kind from to (map.entries m) (entries-rise m)
      (λ q k y x a b before. array.disjoint q k y x (map.get-entries m q ∙ a) (map.get-entries m k ∙ b) before)
      first r next ends is

  -- past the last index nothing is left
  pub walk_past : to < from → entries_in kind m from to ≡ []
  unfolding entries_in
  walk_past over = filter-none _ (map.entries m) (none_past (map.entries m))
    where
      none_past : (es : List (ℕ × Range)) → find (tested kind from to from) es ≡ None
      none_past [] = refl
      none_past (e ∷ es) = cond-false _ _ _ (false_from_ne_true _ (λ t. let le = (met kind from to from e t).le in omega (arith, over, le))) ∙ none_past es

-- a walk may begin before its first index, where no other entry comes in
pub walk_from : (kind : Range → Bool) (m : Ranges) (index start to : ℕ) → start ≤ index → index ≤ to → ((first : ℕ) (r : Range) → map.get m first ≡ Some r → start < first + 2 ^ r.order → index < first + 2 ^ r.order) → entries_in kind m start to ≡ entries_in kind m index to
unfolding entries_in
walk_from kind m index start to before le reach =
    filter-same _ _ (map.entries m) (entries-rise m)
    (λ k y has. agree kind start to (tested kind start to start (k, y)) (tested kind start to index (k, y))
    (λ t. let e = met kind start to start (k, y) t in meet kind start to index (k, y) e.is le e.low (reach k y (map.get-entries m k ∙ has) e.high))
    (λ t. let e = met kind start to index (k, y) t in let h = e.high in meet kind start to start (k, y) e.is (omega (arith, before, le)) e.low (omega (arith, before, h))))

-- ---- a step of a walk

module _ (m : Ranges) (array : IsArray m) (mark : Option Mark) (from to first level value : ℕ) (spot : IsSpot m (lowest (kind_of mark) m from to) first level value) (order last : ℕ) (orders : order ≡ spot.range.order) (ends : last + 1 ≡ first + 2 ^ order) where
  end_is : last + 1 ≡ first + 2 ^ spot.range.order
  end_is = ends ∙ ap (λ k. first + 2 ^ k) orders

  pub step_first : (next : Option ℕ) → MatchOption next (to ≤ last) (λ n. (n ≡ last + 1) × (last < to)) → left mark m (Some from) to ≡ record { first = first; order = order; value = value } ∷ left mark m next to
  step_first next after = by_next next after
    where
      one : left mark m (Some from) to ≡ record { first = first; order = order; value = value } ∷ map_list found_of (entries_in (kind_of mark) m (last + 1) to)
      one =
          ap (map_list found_of) (walk_some (kind_of mark) m from to array first spot.range (last + 1) end_is spot.is)
          ∙ (λ i. record { first = first; order = sym orders i; value = spot.value_is i } ∷ map_list found_of (entries_in (kind_of mark) m (last + 1) to))

      by_next : (next : Option ℕ) → MatchOption next (to ≤ last) (λ n. (n ≡ last + 1) × (last < to)) → left mark m (Some from) to ≡ record { first = first; order = order; value = value } ∷ left mark m next to
      by_next None over = one ∙ ap (λ es. record { first = first; order = order; value = value } ∷ map_list found_of es) (walk_past (kind_of mark) m (last + 1) to (omega (arith, over)))
      by_next (Some n) is = one ∙ ap (λ k. record { first = first; order = order; value = value } ∷ map_list found_of (entries_in (kind_of mark) m k to)) (sym is.0)

  outside_after : IsOutside m (last + 1)
  outside_after = record {
    each = λ q y has high. elim (cases_order q first) [
      | inr (inl before) ↦ let e = array.disjoint q first y spot.range has spot.there before in absurd (omega (arith, e, high, end_is, pow_pos spot.range.order))
      | inl same ↦
          let e : y ≡ spot.range = same_Some y spot.range (sym has ∙ ap (map.get m) same ∙ spot.there) in
          let w = ap (λ (z : Range). 2 ^ z.order) e in
          absurd (omega (arith, high, end_is, w, same))
      | inr (inr after) ↦ let e = array.disjoint first q spot.range y spot.there has after in omega (arith, e, end_is)
    ];
  }

  -- the last slot of an entry is in the node of its first one, and ends where the entry ends
  pub slot_after : (s : Slab Node) (cursor : ℕ) → StandsAt s cursor level (first / 64 ^ level / 64) → (place : ℕ) → place ≡ last / 64 ^ level → IsAfter s (record { cursor = cursor; level = level; place = place }) (last + 1)
  slot_after s cursor stands place is =
      let k = spot.range.order in
      let aligned = array.aligned first spot.range spot.there in
      let fits = within first k aligned in
      let p : last / 64 ^ level + 1 ≡ first / 64 ^ level + span_of k = subst (λ l. last / 64 ^ l + 1 ≡ first / 64 ^ l + span_of k) spot.level_is (last_slot first k aligned last end_is) in
      let whole : first + 2 ^ k ≡ (first / 64 ^ level + span_of k) * 64 ^ level = subst (λ l. first + 2 ^ k ≡ (first / 64 ^ l + span_of k) * 64 ^ l) spot.level_is (span_end first k aligned) in
      let low : first / 64 ^ level % 64 + span_of k ≤ 64 = subst (λ l. first / 64 ^ l % 64 + span_of k ≤ 64) spot.level_is fits in
      let some = span_some k in
      let ends : place + 1 ≡ first / 64 ^ level + span_of k = omega (arith, is, p) in
      record {
        low = let top = level_low k spot.top in let l = spot.level_is in omega (arith, top, l);
        stands = subst (StandsAt s cursor level) (omega (arith, ends, low, some)) stands;
        after = end_is ∙ whole ∙ ap (λ z. z * 64 ^ level) (sym ends);
      }

  pub step_place : (s : Slab Node) → ranges_of s ≡ m → (next : Option ℕ) → MatchOption next (to ≤ last) (λ n. (n ≡ last + 1) × (last < to)) → (twig : Option Twig) (slot : Option Position) → ((n : ℕ) → n ≡ last + 1 → IfSome twig (λ t. IsOn s mark n t)) → ((n : ℕ) → n ≡ last + 1 → twig ≡ None → IfSome slot (λ p. IsAfter s p n)) → IsPlace s mark next to twig slot
  step_place s same next after twig slot on comes = record {
    outside = λ n is. subst (λ m. IsOutside m n) (sym same) (subst (IsOutside m) (sym (this next n after is).0) outside_after);
    le = λ n is. let a = this next n after is in omega (arith, a.0, a.1);
    on = λ n is. on n (this next n after is).0;
    after = λ n is. comes n (this next n after is).0;
  }
    where
      this : (next : Option ℕ) (n : ℕ) → MatchOption next (to ≤ last) (λ n. (n ≡ last + 1) × (last < to)) → next ≡ Some n → (n ≡ last + 1) × (last < to)
      this None n h is = absurd (none-some n is)
      this (Some x) n h is = let e = same_Some x n is in (sym e ∙ h.0, h.1)

  -- the twig of its last slot, if that is of the lowest level
  pub step_twig : (s : Slab Node) (place : ℕ) → place ≡ last / 64 ^ level → (twig : Option Twig) → IfSome twig (λ t. (level ≡ 0) × IsOn s mark (place + 1) t) → (n : ℕ) → n ≡ last + 1 → IfSome twig (λ t. IsOn s mark n t)
  step_twig s place at None on n is = tt
  step_twig s place at (Some t) on n is =
      let whole : last / 64 ^ level ≡ last = ap (λ l. last / 64 ^ l) on.0 ∙ (let e : last / 64 ^ 0 ≡ last = omega arith in e) in
      subst (λ z. IsOn s mark z t) (let e : place + 1 ≡ n = omega (arith, at, whole, is) in e) on.1

-- ---- a slot of the lowest level

module _ (s : Slab Node) (slot : Position) (low : slot.level ≡ 0) where
  pub slot_stands : (from : ℕ) → IsAfter s slot from → StandsAt s slot.cursor 0 (slot.place / 64)
  slot_stands from after = subst (λ l. StandsAt s slot.cursor l (slot.place / 64)) low after.stands

  pub slot_next : (from : ℕ) → IsAfter s slot from → from ≡ slot.place + 1
  slot_next from after = after.after ∙ ap (λ l. (slot.place + 1) * 64 ^ l) low ∙ (let e : (slot.place + 1) * 64 ^ 0 ≡ slot.place + 1 = omega arith in e)

  pub slot_above : (above : Option ℕ) → IsAbove s slot above → IfSome above (λ k. StandsAt s k 1 (slot.place / 64 / 64))
  slot_above above up = subst (λ l. IfSome above (λ k. StandsAt s k (l + 1) (slot.place / 64 / 64))) low up

-- a slot of the lowest level comes right before the index
pub slot_after_is : (s : Slab Node) (slot : Position) (from : ℕ) → slot.level ≡ 0 → StandsAt s slot.cursor 0 (slot.place / 64) → from ≡ slot.place + 1 → IsAfter s slot from
slot_after_is s slot from low stands after = record {
  low = omega (arith, low);
  stands = subst (λ l. StandsAt s slot.cursor l (slot.place / 64)) (sym low) stands;
  after = after ∙ (let e : slot.place + 1 ≡ (slot.place + 1) * 64 ^ 0 = omega arith in e) ∙ ap (λ l. (slot.place + 1) * 64 ^ l) (sym low);
}
