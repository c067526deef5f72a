-- What the words of a marked array say where its ranges are aligned and disjoint.
use Rattle.std.proofs.Common.{◌≡◌, ◌≢◌, ℕ, ◌+◌, ◌%◌, ◌^◌, ◌<◌, ◌≤◌, ◌&&◌, ◌⊎◌, Bool, true, ltb, leb, Some, None, refl, sym, ap, ◌∙◌, inl, inr, arith, leb-true, ltb-true, le-leb, lt-ltb}
use Rattle.std.specs.Ordering.{nat_cmp, eq_by_cmp}
use Rattle.std.specs.Cmp.{nat_cmp_total}
use Rattle.std.specs.FinMap as map
use Rattle.std.proofs.lemmas.Bool.{cases_eq, cases_order, cond-true, cond-false, and_parts, and_from, false_from_ne_true, true≢false}
use Rattle.std.proofs.lemmas.Option.{none-some, same_Some}
use Rattle.xarray.specs.declared.entry.Mark.{Mark}
use Rattle.xarray.specs.declared.entry.Mark.TheVariants.{M0, M1, M2}
use Rattle.xarray.specs.declared.entry.Marks.{Marks}
use Rattle.xarray.specs.MarkedArray.{IsArray, Range, Ranges, entry_at, lowest, stored, erased, remarked, given, changed, store_at, erase_at, mark_at, marks_after, marks_of, give_at, change_at, in_range, meets, unmarked, with_value, with_mark, with_marks}
use Rattle.xarray.proofs.EntryLemmas.{entries-rise, eq_tie, first_is, first_none, first_some, ne_tie, none_passes}

-- ---- a key that is changed

pub get-put : (m : Ranges) (k q : ℕ) (v : Range) → q ≡ k → map.get (map.insert m k v) q ≡ Some v
get-put m k q v same = map.get-insert nat_cmp_total m k v q ∙ cond-true (eq_by_cmp nat_cmp q k) (Some v) (map.get m q) (eq_tie q k same)

pub get-put_other : (m : Ranges) (k q : ℕ) (v : Range) → q ≢ k → map.get (map.insert m k v) q ≡ map.get m q
get-put_other m k q v differs = map.get-insert nat_cmp_total m k v q ∙ cond-false (eq_by_cmp nat_cmp q k) (Some v) (map.get m q) (ne_tie q k differs)

pub get-taken : (m : Ranges) (k q : ℕ) → q ≡ k → map.get (map.remove m k) q ≡ None
get-taken m k q same = map.get-remove nat_cmp_total m k q ∙ cond-true (eq_by_cmp nat_cmp q k) None (map.get m q) (eq_tie q k same)

pub get-taken_other : (m : Ranges) (k q : ℕ) → q ≢ k → map.get (map.remove m k) q ≡ map.get m q
get-taken_other m k q differs = map.get-remove nat_cmp_total m k q ∙ cond-false (eq_by_cmp nat_cmp q k) None (map.get m q) (ne_tie q k differs)

pub was_put : (m : Ranges) (k : ℕ) (v : Range) (q : ℕ) (y : Range) → map.get (map.insert m k v) q ≡ Some y → ((q ≡ k) × (y ≡ v)) ⊎ ((q ≢ k) × (map.get m q ≡ Some y))
was_put m k v q y is = elim (cases_eq q k) [
  | inl same ↦ inl (same, same_Some y v (sym is ∙ get-put m k q v same))
  | inr differs ↦ inr (differs, sym (get-put_other m k q v differs) ∙ is)
]

pub was_left : (m : Ranges) (k q : ℕ) (y : Range) → map.get (map.remove m k) q ≡ Some y → (q ≢ k) × (map.get m q ≡ Some y)
was_left m k q y is = elim (cases_eq q k) [
  | inl same ↦ absurd (none-some y (sym (get-taken m k q same) ∙ is))
  | inr differs ↦ (differs, sym (get-taken_other m k q differs) ∙ is)
]

-- ---- one entry

module _ (m : Ranges) (array : IsArray m) where
  -- no index has two
  pub one_entry : (first other index : ℕ) (r q : Range) → map.get m first ≡ Some r → map.get m other ≡ Some q → first ≤ index → index < first + 2 ^ r.order → other ≤ index → index < other + 2 ^ q.order → first ≡ other
  one_entry first other index r q is has low high from to = elim (cases_order first other) [
    | inr (inl before) ↦ let e = array.disjoint first other r q is has before in absurd (omega (arith, e, high, from))
    | inl same ↦ same
    | inr (inr after) ↦ let e = array.disjoint other first q r has is after in absurd (omega (arith, e, to, low))
  ]

  pub at-holds : (index first : ℕ) (r : Range) → map.get m first ≡ Some r → first ≤ index → index < first + 2 ^ r.order → entry_at m index ≡ Some (first, r)
  unfolding entry_at
  at-holds index first r is low high =
      first_is (in_range index) (map.entries m) (entries-rise m) first r (sym (map.get-entries m first) ∙ is)
      (and_from _ _ (le-leb first index low) (lt-ltb _ _ high))
      (λ q y has t.
      let p = and_parts (leb q index) (ltb index (q + 2 ^ y.order)) t in
      let e = one_entry first q index r y is (map.get-entries m q ∙ has) low high (leb-true q index p.0) (ltb-true _ _ p.1) in
      omega (arith, e))

  pub at-none : (index : ℕ) → ((q : ℕ) (y : Range) → map.get m q ≡ Some y → q ≤ index → index < q + 2 ^ y.order → ⊥) → entry_at m index ≡ None
  unfolding entry_at
  at-none index never =
      first_none (in_range index) (map.entries m) (entries-rise m)
      (λ q y has. false_from_ne_true _ (λ t.
      let p = and_parts (leb q index) (ltb index (q + 2 ^ y.order)) t in
      never q y (map.get-entries m q ∙ has) (leb-true q index p.0) (ltb-true _ _ p.1)))

-- an index has this entry
pub record IsEntryAt (m : Ranges) (index first : ℕ) (r : Range) : Type 0 where
  pub there : map.get m first ≡ Some r
  pub low : first ≤ index
  pub high : index < first + 2 ^ r.order

module _ (m : Ranges) where
  pub at-some : (index first : ℕ) (r : Range) → entry_at m index ≡ Some (first, r) → IsEntryAt m index first r
  unfolding entry_at
  at-some index first r is =
      let f = first_some (in_range index) (map.entries m) (entries-rise m) first r is in
      let p = and_parts (leb first index) (ltb index (first + 2 ^ r.order)) f.passes in
      record { there = map.get-entries m first ∙ f.there; low = leb-true first index p.0; high = ltb-true _ _ p.1 }

  pub none-at : (index : ℕ) → entry_at m index ≡ None → (q : ℕ) (y : Range) → map.get m q ≡ Some y → q ≤ index → index < q + 2 ^ y.order → ⊥
  unfolding entry_at
  none-at index none q y has low high =
      true≢false (sym (and_from _ _ (le-leb q index low) (lt-ltb _ _ high)) ∙ none_passes (in_range index) (map.entries m) none q y (sym (map.get-entries m q) ∙ has))

  -- ---- the changes

  pub stored-some : (index value first : ℕ) (r : Range) → entry_at m index ≡ Some (first, r) → stored m index value ≡ map.insert m first (with_value value r)
  unfolding stored
  stored-some index value first r is = ap (store_at m index value) is

  pub stored-none : (index value : ℕ) → entry_at m index ≡ None → stored m index value ≡ map.insert m index (unmarked 0 value)
  unfolding stored
  stored-none index value is = ap (store_at m index value) is

  pub erased-some : (index first : ℕ) (r : Range) → entry_at m index ≡ Some (first, r) → erased m index ≡ map.remove m first
  unfolding erased
  erased-some index first r is = ap (erase_at m) is

  pub erased-none : (index : ℕ) → entry_at m index ≡ None → erased m index ≡ m
  unfolding erased
  erased-none index is = ap (erase_at m) is

  pub remarked-some : (index first : ℕ) (mark : Mark) (is_set : Bool) (r : Range) → entry_at m index ≡ Some (first, r) → remarked m index mark is_set ≡ map.insert m first (with_mark mark is_set r)
  unfolding remarked
  remarked-some index first mark is_set r is = ap (mark_at m mark is_set) is

  pub remarked-none : (index : ℕ) (mark : Mark) (is_set : Bool) → entry_at m index ≡ None → remarked m index mark is_set ≡ m
  unfolding remarked
  remarked-none index mark is_set is = ap (mark_at m mark is_set) is

  pub given-some : (index first : ℕ) (marks : Marks) (r : Range) → entry_at m index ≡ Some (first, r) → given m index marks ≡ map.insert m first (with_marks marks r)
  unfolding given
  given-some index first marks r is = ap (give_at m marks) is

  pub given-none : (index : ℕ) (marks : Marks) → entry_at m index ≡ None → given m index marks ≡ m
  unfolding given
  given-none index marks is = ap (give_at m marks) is

  pub changed-some : (index first : ℕ) (clear set : Marks) (r : Range) → entry_at m index ≡ Some (first, r) → changed m index clear set ≡ map.insert m first (with_marks (marks_after clear set (marks_of r)) r)
  unfolding changed
  changed-some index first clear set r is = ap (change_at m clear set) is

  pub changed-none : (index : ℕ) (clear set : Marks) → entry_at m index ≡ None → changed m index clear set ≡ m
  unfolding changed
  changed-none index clear set is = ap (change_at m clear set) is

  -- ---- the lowest entry of a kind

  module _ (kind : Range → Bool) (from to : ℕ) where
    pub met : (q : ℕ) (r : Range) → meets from to (q, r) ≡ true → (from ≤ to) × (q ≤ to) × (from < q + 2 ^ r.order)
    met q r t =
        let a = and_parts (leb from to) (leb q to && ltb from (q + 2 ^ r.order)) t in
        let b = and_parts (leb q to) (ltb from (q + 2 ^ r.order)) a.1 in
        (leb-true _ _ a.0, leb-true _ _ b.0, ltb-true _ _ b.1)

    pub meeting : (q : ℕ) (r : Range) → from ≤ to → q ≤ to → from < q + 2 ^ r.order → meets from to (q, r) ≡ true
    meeting q r le low high = and_from _ _ (le-leb from to le) (and_from _ _ (le-leb q to low) (lt-ltb _ _ high))

    pub lowest-is : (first : ℕ) (r : Range) → map.get m first ≡ Some r → kind r ≡ true → from ≤ to → first ≤ to → from < first + 2 ^ r.order → ((q : ℕ) (y : Range) → map.get m q ≡ Some y → kind y ≡ true → q ≤ to → from < q + 2 ^ y.order → first ≤ q) → lowest kind m from to ≡ Some (first, r)
    unfolding lowest
    lowest-is first r there is le low high least =
        first_is _ (map.entries m) (entries-rise m) first r (sym (map.get-entries m first) ∙ there)
        (and_from _ _ is (meeting first r le low high))
        (λ q y has t.
        let k = and_parts (kind y) (meets from to (q, y)) t in
        let w = met q y k.1 in
        least q y (map.get-entries m q ∙ has) k.0 w.1 w.2)

    pub lowest-none : ((q : ℕ) (y : Range) → map.get m q ≡ Some y → kind y ≡ true → from ≤ to → q ≤ to → from < q + 2 ^ y.order → ⊥) → lowest kind m from to ≡ None
    unfolding lowest
    lowest-none never =
        first_none _ (map.entries m) (entries-rise m)
        (λ q y has. false_from_ne_true _ (λ t.
        let k = and_parts (kind y) (meets from to (q, y)) t in
        let w = met q y k.1 in
        never q y (map.get-entries m q ∙ has) k.0 w.0 w.1 w.2))

    pub none-lowest : lowest kind m from to ≡ None → (q : ℕ) (y : Range) → map.get m q ≡ Some y → kind y ≡ true → from ≤ to → q ≤ to → from < q + 2 ^ y.order → ⊥
    unfolding lowest
    none-lowest none q y has is le low high =
        true≢false (sym (and_from _ _ is (meeting q y le low high)) ∙ none_passes _ (map.entries m) none q y (sym (map.get-entries m q) ∙ has))

-- the lowest entry of a kind
pub record IsLowest (m : Ranges) (kind : Range → Bool) (from to first : ℕ) (r : Range) : Type 0 where
  pub there : map.get m first ≡ Some r
  pub is : kind r ≡ true
  pub le : from ≤ to
  pub low : first ≤ to
  pub high : from < first + 2 ^ r.order
  pub least : (q : ℕ) (y : Range) → map.get m q ≡ Some y → kind y ≡ true → q ≤ to → from < q + 2 ^ y.order → first ≤ q

pub lowest-some : (m : Ranges) (kind : Range → Bool) (from to first : ℕ) (r : Range) → lowest kind m from to ≡ Some (first, r) → IsLowest m kind from to first r
unfolding lowest
lowest-some m kind from to first r is =
    let f = first_some _ (map.entries m) (entries-rise m) first r is in
    let k = and_parts (kind r) (meets from to (first, r)) f.passes in
    let w = met m kind from to first r k.1 in
    record {
      there = map.get-entries m first ∙ f.there;
      is = k.0;
      le = w.0;
      low = w.1;
      high = w.2;
      least = λ q y has t low high. f.low q y (sym (map.get-entries m q) ∙ has) (and_from _ _ t (meeting m kind from to q y w.0 low high));
    }

-- ---- changes keep the shape

module _ (m : Ranges) (array : IsArray m) (k : ℕ) (r : Range) (order : r.order ≤ 63) (aligned : k % 2 ^ r.order ≡ 0) (within : k + 2 ^ r.order ≤ 2 ^ 64) (value : r.value < 2 ^ 63) (apart : (q : ℕ) (y : Range) → q ≢ k → map.get m q ≡ Some y → (q < k → q + 2 ^ y.order ≤ k) × (k < q → k + 2 ^ r.order ≤ q)) where
  by_key : (P : ℕ → Range → Type 0) → P k r → ((q : ℕ) (y : Range) → map.get m q ≡ Some y → P q y) → (q : ℕ) (y : Range) → map.get (map.insert m k r) q ≡ Some y → P q y
  by_key P here there q y is = elim (was_put m k r q y is) [
    | inl w ↦ rw (w.0, w.1) here
    | inr w ↦ there q y w.1
  ]

  pub array-put : IsArray (map.insert m k r)
  array-put = record {
    order = by_key (λ q y. y.order ≤ 63) order array.order;
    aligned = by_key (λ q y. q % 2 ^ y.order ≡ 0) aligned array.aligned;
    within = by_key (λ q y. q + 2 ^ y.order ≤ 2 ^ 64) within array.within;
    value = by_key (λ q y. y.value < 2 ^ 63) value array.value;
    disjoint = λ first other x y is has before. elim (was_put m k r first x is) [
      | inl a ↦ elim (was_put m k r other y has) [
        | inl b ↦ absurd (omega (arith, a.0, b.0, before))
        | inr b ↦ let e = (apart other y b.0 b.1).1 (omega (arith, a.0, before)) in rw (a.0, a.1) e
      ]
      | inr a ↦ elim (was_put m k r other y has) [
        | inl b ↦ let e = (apart first x a.0 a.1).0 (omega (arith, b.0, before)) in omega (arith, e, b.0)
        | inr b ↦ array.disjoint first other x y a.1 b.1 before
      ]
    ];
  }

pub array-left : (m : Ranges) → IsArray m → (k : ℕ) → IsArray (map.remove m k)
array-left m array k = record {
  order = λ q y is. array.order q y (was_left m k q y is).1;
  aligned = λ q y is. array.aligned q y (was_left m k q y is).1;
  within = λ q y is. array.within q y (was_left m k q y is).1;
  value = λ q y is. array.value q y (was_left m k q y is).1;
  disjoint = λ first other x y is has before. array.disjoint first other x y (was_left m k first x is).1 (was_left m k other y has).1 before;
}

same_power : (a b n : ℕ) → a ≡ b → n + 2 ^ a ≡ n + 2 ^ b
same_power a b n e = ap (λ z. n + 2 ^ z) e

-- an entry that keeps its range
pub array-kept : (m : Ranges) → IsArray m → (k : ℕ) (old new : Range) → map.get m k ≡ Some old → new.order ≡ old.order → new.value < 2 ^ 63 → IsArray (map.insert m k new)
array-kept m array k old new is same small =
    array-put m array k new (omega (arith, array.order k old is, same)) (ap (λ z. k % 2 ^ z) same ∙ array.aligned k old is)
    (let e = array.within k old is in let p = same_power new.order old.order k same in omega (arith, e, p)) small
    (λ q y differs has. (λ before. array.disjoint q k y old has is before, λ after. let e = array.disjoint k q old y is has after in let p = same_power new.order old.order k same in omega (arith, e, p)))

-- the later of two changes of a key stands
pub put-put : (m : Ranges) (k : ℕ) (v w : Range) → map.insert (map.insert m k v) k w ≡ map.insert m k w
put-put m k v w =
    map.same_map nat_cmp_total map.nat_cmp-IsAntisymmetric (map.insert (map.insert m k v) k w) (map.insert m k w)
    (λ q. elim (cases_eq q k) [
      | inl same ↦ get-put (map.insert m k v) k q w same ∙ sym (get-put m k q w same)
      | inr differs ↦ get-put_other (map.insert m k v) k q w differs ∙ get-put_other m k q v differs ∙ sym (get-put_other m k q w differs)
    ])

-- an entry that gets three marks, one after another
pub given-by : (m one two three : Ranges) (first : ℕ) (marks : Marks) (r : Range) → map.get m first ≡ Some r
    → ((x : Range) → map.get m first ≡ Some x → one ≡ map.insert m first (with_mark M0 marks.m0 x))
    → ((x : Range) → map.get one first ≡ Some x → two ≡ map.insert one first (with_mark M1 marks.m1 x))
    → ((x : Range) → map.get two first ≡ Some x → three ≡ map.insert two first (with_mark M2 marks.m2 x))
    → three ≡ map.insert m first (with_marks marks r)
given-by m one two three first marks r there p q t =
    let a = with_mark M0 marks.m0 r in
    let b = with_mark M1 marks.m1 a in
    let c = with_mark M2 marks.m2 b in
    let one_is = p r there in
    let two_is : two ≡ map.insert m first b = q a (ap (λ n. map.get n first) one_is ∙ get-put m first first a refl) ∙ ap (λ n. map.insert n first b) one_is ∙ put-put m first a b in
    t b (ap (λ n. map.get n first) two_is ∙ get-put m first first b refl) ∙ ap (λ n. map.insert n first c) two_is ∙ put-put m first b c

-- a change that is taken back by a removal
pub remove-put : (m : Ranges) (k : ℕ) (v : Range) → map.remove (map.insert m k v) k ≡ map.remove m k
remove-put m k v =
    map.same_map nat_cmp_total map.nat_cmp-IsAntisymmetric (map.remove (map.insert m k v) k) (map.remove m k)
    (λ q. elim (cases_eq q k) [
      | inl same ↦ get-taken (map.insert m k v) k q same ∙ sym (get-taken m k q same)
      | inr differs ↦ get-taken_other (map.insert m k v) k q differs ∙ get-put_other m k q v differs ∙ sym (get-taken_other m k q differs)
    ])
