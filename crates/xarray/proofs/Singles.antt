-- Arrays whose entries have one index each: what the words of a marked array say there, in terms of the map alone.
use Rattle.std.proofs.Common.{◌≡◌, ◌≢◌, ℕ, ◌+◌, ◌^◌, ◌<◌, ◌≤◌, ◌&&◌, ◌⊎◌, Bool, true, cond, ltb, leb, Option, Some, None, option_map, refl, sym, ap, subst, ◌∙◌, inl, inr, arith, leb-true, ltb-true, le-leb, lt-ltb}
use Rattle.std.specs.Ordering.{nat_cmp, eq_by_cmp}
use Rattle.std.specs.Cmp.{nat_cmp_total}
use Rattle.std.specs.FinMap as map
use Rattle.std.proofs.lemmas.Bool.{cases_eq, cond-true, cond-false, and_parts, and_from, false_from_ne_true, true≢false}
use Rattle.std.proofs.lemmas.Option.{none-some, same_Some}
use Rattle.xarray.specs.declared.entry.Mark.{Mark}
use Rattle.xarray.specs.declared.entry.Mark.TheVariants.{M0, M1, M2}
use Rattle.xarray.specs.declared.entry.Marks.{Marks}
use Rattle.xarray.specs.MarkedArray.{Range, Ranges, entry_at, lowest, stored, erased, remarked, given, changed, store_at, erase_at, mark_at, marks_after, marks_of, give_at, change_at, in_range, meets, unmarked, with_value, with_mark, with_marks}
use Rattle.xarray.proofs.EntryLemmas.{entries-rise, eq_tie, first_is, first_none, first_some, ne_tie, none_passes}

-- every entry has order 0
pub record AllSingle (m : Ranges) : Type 0 where
  pub order : (first : ℕ) (r : Range) → map.get m first ≡ Some r → r.order ≡ 0

-- it holds of the empty array, and a change of an entry of one index keeps it
pub single-empty : AllSingle map.empty
single-empty = record { order = λ first r is. absurd (none-some r (sym (map.get-empty nat_cmp first) ∙ is)) }

module _ (m : Ranges) (single : AllSingle m) where
  pub single-insert : (index : ℕ) (r : Range) → r.order ≡ 0 → AllSingle (map.insert m index r)
  single-insert index r is_zero = record {
    order = λ first q is. by_key first q (cases_eq first index) (sym (map.get-insert nat_cmp_total m index r first) ∙ is);
  }
    where
      by_key : (first : ℕ) (q : Range) → (first ≡ index) ⊎ (first ≢ index) → cond (eq_by_cmp nat_cmp first index) (Some r) (map.get m first) ≡ Some q → q.order ≡ 0
      by_key first q (inl same) is =
          let e : r ≡ q = same_Some r q (sym (cond-true (eq_by_cmp nat_cmp first index) (Some r) (map.get m first) (eq_tie first index same)) ∙ is) in
          sym (ap (λ (z : Range). z.order) e) ∙ is_zero
      by_key first q (inr differs) is = single.order first q (sym (cond-false (eq_by_cmp nat_cmp first index) (Some r) (map.get m first) (ne_tie first index differs)) ∙ is)

  pub single-remove : (index : ℕ) → AllSingle (map.remove m index)
  single-remove index = record {
    order = λ first q is. by_key first q (cases_eq first index) (sym (map.get-remove nat_cmp_total m index first) ∙ is);
  }
    where
      by_key : (first : ℕ) (q : Range) → (first ≡ index) ⊎ (first ≢ index) → cond (eq_by_cmp nat_cmp first index) None (map.get m first) ≡ Some q → q.order ≡ 0
      by_key first q (inl same) is = absurd (none-some q (sym (cond-true (eq_by_cmp nat_cmp first index) None (map.get m first) (eq_tie first index same)) ∙ is))
      by_key first q (inr differs) is = single.order first q (sym (cond-false (eq_by_cmp nat_cmp first index) None (map.get m first) (ne_tie first index differs)) ∙ is)

-- the entry at an index as a search answers it
abbrev pub at_index : ℕ → Option Range → Option (ℕ × Range)
at_index index = option_map (λ r. (index, r))

order_one : (first index : ℕ) (r : Range) → r.order ≡ 0 → index < first + 2 ^ r.order → index ≤ first
order_one first index r is_zero high = let h : index < first + 2 ^ 0 = rw is_zero at high in omega (arith, h)

one_order : (first index : ℕ) (r : Range) → r.order ≡ 0 → index ≤ first → index < first + 2 ^ r.order
one_order first index r is_zero low = rw is_zero (omega (arith, low))

-- what a store leaves at its index
abbrev pub stored_range : ℕ → Option Range → Range
stored_range value None = unmarked 0 value
stored_range value (Some r) = with_value value r

pub same_order : (mark : Mark) (is_set : Bool) (r : Range) → (with_mark mark is_set r).order ≡ r.order
same_order M0 is_set r = refl
same_order M1 is_set r = refl
same_order M2 is_set r = refl

-- this is the lowest entry of the kind from index `from` to index `to`
pub record IsLowest (m : Ranges) (kind : Range → Bool) (from to index : ℕ) (r : Range) : Type 0 where
  pub there : map.get m index ≡ Some r
  pub is : kind r ≡ true
  pub low : from ≤ index
  pub high : index ≤ to
  pub first : (q : ℕ) (y : Range) → map.get m q ≡ Some y → kind y ≡ true → from ≤ q → q ≤ to → index ≤ q

-- no entry from index `from` to index `to` is of the kind
pub record HasNone (m : Ranges) (kind : Range → Bool) (from to : ℕ) : Type 0 where
  pub each : (q : ℕ) (y : Range) → map.get m q ≡ Some y → kind y ≡ true → from ≤ q → q ≤ to → ⊥

-- to take away what is not there changes nothing
absent : (m : Ranges) (index : ℕ) → map.get m index ≡ None → m ≡ map.remove m index
absent m index none =
    map.same_map nat_cmp_total map.nat_cmp-IsAntisymmetric m (map.remove m index)
    (λ q. by_key q (cases_eq q index) ∙ sym (map.get-remove nat_cmp_total m index q))
  where
    by_key : (q : ℕ) → (q ≡ index) ⊎ (q ≢ index) → map.get m q ≡ cond (eq_by_cmp nat_cmp q index) None (map.get m q)
    by_key q (inl same) = ap (map.get m) same ∙ none ∙ sym (cond-true (eq_by_cmp nat_cmp q index) None (map.get m q) (eq_tie q index same))
    by_key q (inr differs) = sym (cond-false (eq_by_cmp nat_cmp q index) None (map.get m q) (ne_tie q index differs))

module _ (m : Ranges) (single : AllSingle m) where
  holds : (index first : ℕ) (r : Range) → map.get m first ≡ Some r → in_range index (first, r) ≡ true → first ≡ index
  holds index first r is t =
      let p = and_parts (leb first index) (ltb index (first + 2 ^ r.order)) t in
      let high = order_one first index r (single.order first r is) (ltb-true _ _ p.1) in
      omega (arith, leb-true first index p.0, high)

  held : (index : ℕ) (r : Range) → map.get m index ≡ Some r → in_range index (index, r) ≡ true
  held index r is = and_from _ _ (le-leb index index (omega arith)) (lt-ltb _ _ (one_order index index r (single.order index r is) (omega arith)))

  -- the entry at an index is the one under this key
  pub entry_at-get : (index : ℕ) → entry_at m index ≡ at_index index (map.get m index)
  unfolding entry_at
  entry_at-get index = by_get (map.get m index) refl
    where
      by_get : (o : Option Range) → map.get m index ≡ o → entry_at m index ≡ at_index index o
      by_get None is =
          first_none (in_range index) (map.entries m) (entries-rise m)
          (λ q y has. false_from_ne_true _ (λ t.
          let there = map.get-entries m q ∙ has in
          none-some y (sym is ∙ ap (map.get m) (sym (holds index q y there t)) ∙ there)))
      by_get (Some r) is =
          first_is (in_range index) (map.entries m) (entries-rise m) index r (sym (map.get-entries m index) ∙ is) (held index r is)
          (λ q y has t. let e = holds index q y (map.get-entries m q ∙ has) t in omega (arith, e))

  pub entry_at-some : (index : ℕ) (r : Range) → map.get m index ≡ Some r → entry_at m index ≡ Some (index, r)
  entry_at-some index r is = entry_at-get index ∙ ap (at_index index) is

  pub entry_at-none : (index : ℕ) → map.get m index ≡ None → entry_at m index ≡ None
  entry_at-none index is = entry_at-get index ∙ ap (at_index index) is

  pub stored-some : (index value : ℕ) (r : Range) → map.get m index ≡ Some r → stored m index value ≡ map.insert m index (with_value value r)
  unfolding stored
  stored-some index value r is = ap (store_at m index value) (entry_at-some index r is)

  pub stored-none : (index value : ℕ) → map.get m index ≡ None → stored m index value ≡ map.insert m index (unmarked 0 value)
  unfolding stored
  stored-none index value is = ap (store_at m index value) (entry_at-none index is)

  pub erased-remove : (index : ℕ) → erased m index ≡ map.remove m index
  unfolding erased
  erased-remove index = by_get (map.get m index) refl
    where
      by_get : (o : Option Range) → map.get m index ≡ o → erase_at m (entry_at m index) ≡ map.remove m index
      by_get (Some r) is = ap (erase_at m) (entry_at-some index r is)
      by_get None is = ap (erase_at m) (entry_at-none index is) ∙ absent m index is

  pub remarked-some : (index : ℕ) (mark : Mark) (is_set : Bool) (r : Range) → map.get m index ≡ Some r → remarked m index mark is_set ≡ map.insert m index (with_mark mark is_set r)
  unfolding remarked
  remarked-some index mark is_set r is = ap (mark_at m mark is_set) (entry_at-some index r is)

  pub remarked-none : (index : ℕ) (mark : Mark) (is_set : Bool) → map.get m index ≡ None → remarked m index mark is_set ≡ m
  unfolding remarked
  remarked-none index mark is_set is = ap (mark_at m mark is_set) (entry_at-none index is)

  -- ---- the changes, key by key

  pub given-some : (index : ℕ) (marks : Marks) (r : Range) → map.get m index ≡ Some r → given m index marks ≡ map.insert m index (with_marks marks r)
  unfolding given
  given-some index marks r is = ap (give_at m marks) (entry_at-some index r is)

  pub given-none : (index : ℕ) (marks : Marks) → map.get m index ≡ None → given m index marks ≡ m
  unfolding given
  given-none index marks is = ap (give_at m marks) (entry_at-none index is)

  pub changed-given : (index : ℕ) (clear set : Marks) (r : Range) → map.get m index ≡ Some r → changed m index clear set ≡ given m index (marks_after clear set (marks_of r))
  unfolding changed
  changed-given index clear set r is = ap (change_at m clear set) (entry_at-some index r is) ∙ sym (given-some index (marks_after clear set (marks_of r)) r is)

  pub changed-none : (index : ℕ) (clear set : Marks) → map.get m index ≡ None → changed m index clear set ≡ m
  unfolding changed
  changed-none index clear set is = ap (change_at m clear set) (entry_at-none index is)

  pub stored-insert : (index value : ℕ) → stored m index value ≡ map.insert m index (stored_range value (map.get m index))
  stored-insert index value = by_get (map.get m index) refl
    where
      by_get : (o : Option Range) → map.get m index ≡ o → stored m index value ≡ map.insert m index (stored_range value o)
      by_get None is = stored-none index value is
      by_get (Some r) is = stored-some index value r is

  pub get-remarked-here : (index : ℕ) (mark : Mark) (is_set : Bool) → map.get (remarked m index mark is_set) index ≡ option_map (with_mark mark is_set) (map.get m index)
  get-remarked-here index mark is_set = by_get (map.get m index) refl
    where
      by_get : (o : Option Range) → map.get m index ≡ o → map.get (remarked m index mark is_set) index ≡ option_map (with_mark mark is_set) o
      by_get None is = ap (λ n. map.get n index) (remarked-none index mark is_set is) ∙ is
      by_get (Some r) is =
          ap (λ n. map.get n index) (remarked-some index mark is_set r is)
          ∙ map.get-insert nat_cmp_total m index (with_mark mark is_set r) index
          ∙ cond-true (eq_by_cmp nat_cmp index index) (Some (with_mark mark is_set r)) (map.get m index) (eq_tie index index refl)

  pub get-remarked-other : (index : ℕ) (mark : Mark) (is_set : Bool) (q : ℕ) → q ≢ index → map.get (remarked m index mark is_set) q ≡ map.get m q
  get-remarked-other index mark is_set q differs = by_get (map.get m index) refl
    where
      by_get : (o : Option Range) → map.get m index ≡ o → map.get (remarked m index mark is_set) q ≡ map.get m q
      by_get None is = ap (λ n. map.get n q) (remarked-none index mark is_set is)
      by_get (Some r) is =
          ap (λ n. map.get n q) (remarked-some index mark is_set r is)
          ∙ map.get-insert nat_cmp_total m index (with_mark mark is_set r) q
          ∙ cond-false (eq_by_cmp nat_cmp q index) (Some (with_mark mark is_set r)) (map.get m q) (ne_tie q index differs)

  pub single-stored : (index value : ℕ) → AllSingle (stored m index value)
  single-stored index value = by_get (map.get m index) refl
    where
      by_get : (o : Option Range) → map.get m index ≡ o → AllSingle (stored m index value)
      by_get None is = subst AllSingle (sym (stored-none index value is)) (single-insert m single index (unmarked 0 value) refl)
      by_get (Some r) is = subst AllSingle (sym (stored-some index value r is)) (single-insert m single index (with_value value r) (single.order index r is))

  pub single-erased : (index : ℕ) → AllSingle (erased m index)
  single-erased index = subst AllSingle (sym (erased-remove index)) (single-remove m single index)

  pub single-remarked : (index : ℕ) (mark : Mark) (is_set : Bool) → AllSingle (remarked m index mark is_set)
  single-remarked index mark is_set = by_get (map.get m index) refl
    where
      by_get : (o : Option Range) → map.get m index ≡ o → AllSingle (remarked m index mark is_set)
      by_get None is = subst AllSingle (sym (remarked-none index mark is_set is)) single
      by_get (Some r) is = subst AllSingle (sym (remarked-some index mark is_set r is)) (single-insert m single index (with_mark mark is_set r) (same_order mark is_set r ∙ single.order index r is))

  -- ---- the lowest entry of a kind

  module _ (kind : Range → Bool) (from to : ℕ) where
    pub met : (q : ℕ) (r : Range) → map.get m q ≡ Some r → meets from to (q, r) ≡ true → (from ≤ q) × (q ≤ to)
    met q r is t =
        let a = and_parts (leb from to) (leb q to && ltb from (q + 2 ^ r.order)) t in
        let b = and_parts (leb q to) (ltb from (q + 2 ^ r.order)) a.1 in
        (order_one q from r (single.order q r is) (ltb-true _ _ b.1), leb-true _ _ b.0)

    pub meeting : (q : ℕ) (r : Range) → map.get m q ≡ Some r → from ≤ q → q ≤ to → meets from to (q, r) ≡ true
    meeting q r is low high = and_from _ _ (le-leb from to (omega (arith, low, high))) (and_from _ _ (le-leb q to high) (lt-ltb _ _ (one_order q from r (single.order q r is) low)))

    pub lowest-is : (index : ℕ) (r : Range) → IsLowest m kind from to index r → lowest kind m from to ≡ Some (index, r)
    unfolding lowest
    lowest-is index r p =
        first_is _ (map.entries m) (entries-rise m) index r (sym (map.get-entries m index) ∙ p.there)
        (and_from _ _ p.is (meeting index r p.there p.low p.high))
        (λ q y has t.
        let there = map.get-entries m q ∙ has in
        let k = and_parts (kind y) (meets from to (q, y)) t in
        let w = met q y there k.1 in
        p.first q y there k.0 w.0 w.1)

    pub lowest-none : HasNone m kind from to → lowest kind m from to ≡ None
    unfolding lowest
    lowest-none p =
        first_none _ (map.entries m) (entries-rise m)
        (λ q y has. false_from_ne_true _ (λ t.
        let there = map.get-entries m q ∙ has in
        let k = and_parts (kind y) (meets from to (q, y)) t in
        let w = met q y there k.1 in
        p.each q y there k.0 w.0 w.1))

    pub lowest-some : (index : ℕ) (r : Range) → lowest kind m from to ≡ Some (index, r) → IsLowest m kind from to index r
    unfolding lowest
    lowest-some index r is =
        let f = first_some _ (map.entries m) (entries-rise m) index r is in
        let there = map.get-entries m index ∙ f.there in
        let k = and_parts (kind r) (meets from to (index, r)) f.passes in
        let w = met index r there k.1 in
        record {
          there = there;
          is = k.0;
          low = w.0;
          high = w.1;
          first = λ q y has t low high. f.low q y (sym (map.get-entries m q) ∙ has) (and_from _ _ t (meeting q y has low high));
        }

    pub none-lowest : lowest kind m from to ≡ None → HasNone m kind from to
    unfolding lowest
    none-lowest is = record {
      each = λ q y has t low high.
          true≢false (sym (and_from _ _ t (meeting q y has low high)) ∙ none_passes _ (map.entries m) is q y (sym (map.get-entries m q) ∙ has));
    }
