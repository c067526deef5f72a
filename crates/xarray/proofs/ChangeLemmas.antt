-- What changes of slots do to the array that stands in them.
use Rattle.std.proofs.Common.{◌≡◌, ◌≢◌, ℕ, ◌+◌, ◌-◌, ◌*◌, ◌/◌, ◌%◌, ◌^◌, ◌<◌, ◌≤◌, ◌⊎◌, false, eqb, Option, Some, None, refl, sym, ap, ◌∙◌, inl, inr, arith, subst}
use Rattle.std.specs.FinMap as map
use Rattle.std.proofs.lemmas.Bool.{cases_eq, cases_lt}
use Rattle.std.proofs.lemmas.Option.{none-some, same_Some}
use Rattle.slab.specs.Slab.{Slab}
use Rattle.radix.specs.declared.node.Node.{Node}
use Rattle.radix.specs.declared.entry.Entry.{Entry}
use Rattle.radix.specs.declared.entry.Entry.TheVariants.{Leaf, Sibling}
use Rattle.radix.specs.Entries as radix
use Rattle.radix.specs.Entries.{ClearsRun, HasNoMark, PutsBit, PutsEntry, PutsRun, SameEntries}
use Rattle.radix.proofs.RunLemmas.{unmarked_none}
use Rattle.std.proofs.Math.Nat.{mul-div_cancel, one-le-pow}
use Rattle.xarray.specs.declared.entry.Mark.{Mark}
use Rattle.xarray.specs.declared.entry.Mark.TheVariants.{M0, M1, M2}
use Rattle.xarray.specs.MarkedArray.{Range, Ranges, has_mark, mark_number, unmarked, with_mark, with_value}
use Rattle.xarray.specs.Standing.{IsAt, IsOwned, Stands, level_of, place_of, span_of}
use Rattle.xarray.proofs.RangeLemmas.{array-kept, array-left, array-put, get-put, get-put_other, get-taken_other, was_left, was_put}
use Rattle.xarray.proofs.SpanLemmas.{index_high, index_low, pos64, span_some}
use Rattle.xarray.proofs.StandLemmas.{aligned_at, leaf≢sibling, one_owner}

pub mark_low : (mark : Mark) → mark_number mark < 3
mark_low M0 = omega arith
mark_low M1 = omega arith
mark_low M2 = omega arith

-- an entry whose slots did not change
pub at_kept : (old new : Slab Node) (first : ℕ) (r : Range) → ((j : ℕ) → j < span_of r.order → radix.entry_at new (level_of r.order) (place_of first r.order + j) ≡ radix.entry_at old (level_of r.order) (place_of first r.order + j)) → ((mark : ℕ) → mark < 3 → radix.mark_at mark new (level_of r.order) (place_of first r.order) ≡ radix.mark_at mark old (level_of r.order) (place_of first r.order)) → IsAt old first r → IsAt new first r
at_kept old new first r slots marks at =
    let zero_more : place_of first r.order ≡ place_of first r.order + 0 = omega arith in
    record {
      leaf = ap (radix.entry_at new (level_of r.order)) zero_more ∙ slots 0 (span_some r.order) ∙ ap (radix.entry_at old (level_of r.order)) (sym zero_more) ∙ at.leaf;
      rest = λ j some within. slots j within ∙ at.rest j some within;
      marks = λ mark. at.marks mark ∙ ap (λ z. eqb z 1) (sym (marks (mark_number mark) (mark_low mark)));
    }

pub owned_by : (m n : Ranges) (level place : ℕ) (own : IsOwned m level place) (r : Range) → map.get n own.first ≡ Some r → r.order ≡ own.range.order → IsOwned n level place
owned_by m n level place own r there same = record {
  first = own.first;
  range = r;
  there = there;
  level_is = ap level_of same ∙ own.level_is;
  low = let e = ap (place_of own.first) same in let f = own.low in omega (arith, e, f);
  high = let e = ap (place_of own.first) same in let g = ap span_of same in let f = own.high in omega (arith, e, f, g);
}

-- ---- the same entries

pub stands_same : (old new : Slab Node) (m : Ranges) → Stands old m → SameEntries old new → Stands new m
stands_same old new m stands same = record {
  shape = stands.shape;
  each = λ first r is. at_kept old new first r (λ j within. same.entries _ _) (λ mark low. same.marks mark _ _ low) (stands.each first r is);
  owned = λ level place x is. stands.owned level place x (sym (same.entries level place) ∙ is);
  quiet = λ mark level place first low is. same.marks mark level place low ∙ stands.quiet mark level place first low (sym (same.entries level place) ∙ is);
}

-- ---- an entry that keeps its range

module _ (old : Slab Node) (m : Ranges) (stands : Stands old m) (first : ℕ) (r : Range) (is : map.get m first ≡ Some r) where
  abbrev pub Elsewhere : ℕ → ℕ → Type 0
  Elsewhere level place = level ≡ level_of r.order → place ≡ place_of first r.order → ⊥

  pub other_entry : (q : ℕ) (y : Range) → q ≢ first → map.get m q ≡ Some y → (j : ℕ) → j < span_of y.order → Elsewhere (level_of y.order) (place_of q y.order + j)
  other_entry q y differs has j within same at =
      differs (one_owner old m stands q first y r (place_of q y.order + j) has is same (omega arith) (omega (arith, within)) (omega (arith, at)) (omega (arith, at, span_some r.order)))

  own_later : (j : ℕ) → 0 < j → Elsewhere (level_of r.order) (place_of first r.order + j)
  own_later j some same at = omega (arith, some, at)

  module _ (new : Slab Node) (r' : Range) (order : r'.order ≡ r.order) (small : r'.value < 2 ^ 63) (leaf : radix.entry_at new (level_of r.order) (place_of first r.order) ≡ Some (Leaf r'.value)) (marks_here : (mark : Mark) → has_mark mark r' ≡ eqb (radix.mark_at (mark_number mark) new (level_of r.order) (place_of first r.order)) 1) (entries : (level place : ℕ) → Elsewhere level place → radix.entry_at new level place ≡ radix.entry_at old level place) (marks : (mark level place : ℕ) → mark < 3 → Elsewhere level place → radix.mark_at mark new level place ≡ radix.mark_at mark old level place) where
    here : IsAt new first r'
    here = record {
      leaf = ap (λ z. radix.entry_at new (level_of z) (place_of first z)) order ∙ leaf;
      rest = λ j some within.
          ap (λ z. radix.entry_at new (level_of z) (place_of first z + j)) order
          ∙ entries (level_of r.order) (place_of first r.order + j) (own_later j some)
          ∙ (stands.each first r is).rest j some (let e = ap span_of order in omega (arith, within, e))
          ∙ ap (λ z. Some (Sibling (place_of first z % 64))) (sym order);
      marks = λ mark. marks_here mark ∙ ap (λ z. eqb (radix.mark_at (mark_number mark) new (level_of z) (place_of first z)) 1) (sym order);
    }

    left_or_here : (level place : ℕ) → (Elsewhere level place) ⊎ ((level ≡ level_of r.order) × (place ≡ place_of first r.order))
    left_or_here level place = elim (cases_eq level (level_of r.order)) [
      | inl same ↦ elim (cases_eq place (place_of first r.order)) [
        | inl at ↦ inr (same, at)
        | inr differs ↦ inl (λ a b. differs b)
      ]
      | inr differs ↦ inl (λ a b. differs a)
    ]

    owned_now : (level place : ℕ) → IsOwned m level place → IsOwned (map.insert m first r') level place
    owned_now level place own = elim (cases_eq own.first first) [
      | inl same ↦
          let e : r ≡ own.range = same_Some r own.range (sym is ∙ ap (map.get m) (sym same) ∙ own.there) in
          owned_by m (map.insert m first r') level place own r' (get-put m first own.first r' same) (order ∙ ap (λ (z : Range). z.order) e)
      | inr differs ↦ owned_by m (map.insert m first r') level place own own.range (get-put_other m first own.first r' differs ∙ own.there) refl
    ]

    pub stands_changed : Stands new (map.insert m first r')
    stands_changed = record {
      shape = array-kept m stands.shape first r r' is order small;
      each = λ q y has. elim (was_put m first r' q y has) [
        | inl w ↦ rw (w.0, w.1) here
        | inr w ↦
            at_kept old new q y
            (λ j within. entries (level_of y.order) (place_of q y.order + j) (other_entry q y w.0 w.1 j within))
            (λ mark low. marks mark (level_of y.order) (place_of q y.order) low (λ same at. other_entry q y w.0 w.1 0 (span_some y.order) same (omega (arith, at))))
            (stands.each q y w.1)
      ];
      owned = λ level place x has. elim (left_or_here level place) [
        | inl apart ↦ owned_now level place (stands.owned level place x (sym (entries level place apart) ∙ has))
        | inr at ↦ record {
          first = first;
          range = r';
          there = get-put m first first r' refl;
          level_is = ap level_of order ∙ sym at.0;
          low = let e = ap (place_of first) order in omega (arith, e, at.1);
          high = let e = ap (place_of first) order in let f = span_some r'.order in omega (arith, e, f, at.1);
        }
      ];
      quiet = λ mark level place named low has. elim (left_or_here level place) [
        | inl apart ↦ marks mark level place low apart ∙ stands.quiet mark level place named low (sym (entries level place apart) ∙ has)
        | inr at ↦ absurd (leaf≢sibling r'.value named (sym leaf ∙ ap (λ z. radix.entry_at new z (place_of first r.order)) (sym at.0) ∙ ap (radix.entry_at new level) (sym at.1) ∙ has))
      ];
    }

  -- another value
  pub stands_valued : (new : Slab Node) (level value : ℕ) → level_of r.order ≡ level → value < 2 ^ 63 → PutsEntry old new level (first / 64 ^ level) (Some (Leaf value)) → Stands new (map.insert m first (with_value value r))
  stands_valued new level value same small puts =
      let p : PutsEntry old new (level_of r.order) (place_of first r.order) (Some (Leaf value)) = subst (λ l. PutsEntry old new l (first / 64 ^ l) (Some (Leaf value))) (sym same) puts in
      stands_changed new (with_value value r) refl small p.entry
      (λ mark. marks_valued mark ∙ (stands.each first r is).marks mark ∙ ap (λ z. eqb z 1) (sym (p.marks (mark_number mark) _ _ (mark_low mark))))
      (λ level place apart. p.others level place apart)
      (λ mark level place low apart. p.marks mark level place low)
    where
      marks_valued : (mark : Mark) → has_mark mark (with_value value r) ≡ has_mark mark r
      marks_valued M0 = refl
      marks_valued M1 = refl
      marks_valued M2 = refl

  -- another mark
  pub stands_marked : (new : Slab Node) (level number bit : ℕ) (mark : Mark) → level_of r.order ≡ level → number ≡ mark_number mark → PutsBit old new number level (first / 64 ^ level) bit → Stands new (map.insert m first (with_mark mark (eqb bit 1) r))
  stands_marked new level number bit mark same names puts =
      stands_changed new (with_mark mark (eqb bit 1) r) (order_marked mark) (let e = value_marked mark in let small = stands.shape.value first r is in omega (arith, e, small))
      (p.entries _ _ ∙ (stands.each first r is).leaf ∙ ap (λ (z : ℕ). Some (Leaf z)) (sym (value_marked mark)))
      here_marked
      (λ level place apart. p.entries level place)
      (λ other level place low apart. elim (cases_eq other (mark_number mark)) [
        | inl e ↦ ap (λ n. radix.mark_at n new level place) e ∙ p.others level place apart ∙ ap (λ n. radix.mark_at n old level place) (sym e)
        | inr differs ↦ p.other_marks other level place low differs
      ])
    where
      l : ℕ
      l = level_of r.order

      at : ℕ
      at = place_of first r.order

      p : PutsBit old new (mark_number mark) (level_of r.order) (place_of first r.order) bit
      p = subst (λ n. PutsBit old new n (level_of r.order) (place_of first r.order) bit) names (subst (λ l. PutsBit old new number l (first / 64 ^ l) bit) (sym same) puts)

      order_marked : (mark : Mark) → (with_mark mark (eqb bit 1) r).order ≡ r.order
      order_marked M0 = refl
      order_marked M1 = refl
      order_marked M2 = refl

      value_marked : (mark : Mark) → (with_mark mark (eqb bit 1) r).value ≡ r.value
      value_marked M0 = refl
      value_marked M1 = refl
      value_marked M2 = refl

      -- the mark that changed, and one that did not
      this : eqb bit 1 ≡ eqb (radix.mark_at (mark_number mark) new l at) 1
      this = ap (λ z. eqb z 1) (sym p.changed)

      that : (other : Mark) → mark_number other ≢ mark_number mark → has_mark other r ≡ eqb (radix.mark_at (mark_number other) new l at) 1
      that other differs = (stands.each first r is).marks other ∙ ap (λ z. eqb z 1) (sym (p.other_marks (mark_number other) l at (mark_low other) differs))

      has_marked : (mark other : Mark) → eqb bit 1 ≡ eqb (radix.mark_at (mark_number mark) new l at) 1 → ((other : Mark) → mark_number other ≢ mark_number mark → has_mark other r ≡ eqb (radix.mark_at (mark_number other) new l at) 1) → has_mark other (with_mark mark (eqb bit 1) r) ≡ eqb (radix.mark_at (mark_number other) new l at) 1
      has_marked M0 M0 a b = a
      has_marked M0 M1 a b = b M1 (omega arith)
      has_marked M0 M2 a b = b M2 (omega arith)
      has_marked M1 M0 a b = b M0 (omega arith)
      has_marked M1 M1 a b = a
      has_marked M1 M2 a b = b M2 (omega arith)
      has_marked M2 M0 a b = b M0 (omega arith)
      has_marked M2 M1 a b = b M1 (omega arith)
      has_marked M2 M2 a b = a

      here_marked : (other : Mark) → has_mark other (with_mark mark (eqb bit 1) r) ≡ eqb (radix.mark_at (mark_number other) new l at) 1
      here_marked other = has_marked mark other this that

  -- ---- an entry goes

  pub stands_cleared : (new : Slab Node) (level span : ℕ) → level_of r.order ≡ level → span ≡ span_of r.order → ClearsRun old new level (first / 64 ^ level) span → Stands new (map.remove m first)
  stands_cleared new level span same spans puts = record {
    shape = array-left m stands.shape first;
    each = λ q y has.
        let w = was_left m first q y has in
        at_kept old new q y
        (λ j within. c.others (level_of y.order) (place_of q y.order + j) (not_own q y w.0 w.1 j within))
        (λ mark low. c.marks mark _ _ low)
        (stands.each q y w.1);
    owned = λ level place x has.
        let own = stands.owned level place x (sym (c.others level place (in_run level place x has)) ∙ has) in
        elim (cases_eq own.first first) [
          | inl at ↦
              let e : r ≡ own.range = same_Some r own.range (sym is ∙ ap (map.get m) (sym at) ∙ own.there) in
              let f = ap (λ (z : Range). place_of own.first z.order) e in
              let f' = ap (λ z. place_of z r.order) at in
              let g = ap (λ (z : Range). span_of z.order) e in
              let low = own.low in
              let high = own.high in
              absurd (in_run level place x has (sym own.level_is ∙ ap (λ (z : Range). level_of z.order) (sym e)) (omega (arith, f, f', low)) (omega (arith, f, f', g, high)))
          | inr differs ↦ owned_by m (map.remove m first) level place own own.range (get-taken_other m first own.first differs ∙ own.there) refl
        ];
    quiet = λ mark level place named low has. c.marks mark level place low ∙ stands.quiet mark level place named low (sym (c.others level place (in_run level place (Sibling named) has)) ∙ has);
  }
    where
      c : ClearsRun old new (level_of r.order) (place_of first r.order) (span_of r.order)
      c = subst (λ l. ClearsRun old new l (first / 64 ^ l) (span_of r.order)) (sym same) (subst (λ n. ClearsRun old new level (first / 64 ^ level) n) spans puts)

      in_run : (level place : ℕ) (x : Entry) → radix.entry_at new level place ≡ Some x → level ≡ level_of r.order → place_of first r.order ≤ place → place < place_of first r.order + span_of r.order → ⊥
      in_run level place x has l low high =
          let p = place_of first r.order in
          let e : p + (place - p) ≡ place = omega (arith, low) in
          let gone = c.gone (place - p) (omega (arith, low, high)) in
          none-some x (sym gone ∙ ap (radix.entry_at new (level_of r.order)) e ∙ ap (λ z. radix.entry_at new z place) (sym l) ∙ has)

      not_own : (q : ℕ) (y : Range) → q ≢ first → map.get m q ≡ Some y → (j : ℕ) → j < span_of y.order → level_of y.order ≡ level_of r.order → place_of first r.order ≤ place_of q y.order + j → place_of q y.order + j < place_of first r.order + span_of r.order → ⊥
      not_own q y differs has j within l low high =
          differs (one_owner old m stands q first y r (place_of q y.order + j) has is l (omega arith) (omega (arith, within)) low high)

-- ---- an entry comes

module _ (old : Slab Node) (m : Ranges) (stands : Stands old m) (first order value : ℕ) (top : order ≤ 63) (aligned : first % 2 ^ order ≡ 0) (within : first + 2 ^ order ≤ 2 ^ 64) (small : value < 2 ^ 63) (free : (q : ℕ) (y : Range) → map.get m q ≡ Some y → q < first + 2 ^ order → first < q + 2 ^ y.order → ⊥) where
  -- no slot of its is another's
  not_taken : (level place : ℕ) → IsOwned m level place → level ≡ level_of order → place_of first order ≤ place → place < place_of first order + span_of order → ⊥
  not_taken level place own l low high =
      let w = 64 ^ level in
      let index = place * w in
      let e : index / w ≡ place = mul-div_cancel place (pos64 level) in
      let e' : index / 64 ^ level_of order ≡ place = ap (λ z. index / 64 ^ z) (sym l) ∙ e in
      let e'' : index / 64 ^ level_of own.range.order ≡ place = ap (λ z. index / 64 ^ z) own.level_is ∙ e in
      let even = aligned_at old m stands own.first own.range own.there in
      let own_low = own.low in
      let own_high = own.high in
      let a = index_low first order aligned index (omega (arith, e', low)) in
      let b = index_high first order aligned index (omega (arith, e', high)) in
      let c = index_low own.first own.range.order even index (omega (arith, e'', own_low)) in
      let d = index_high own.first own.range.order even index (omega (arith, e'', own_high)) in
      free own.first own.range own.there (omega (arith, b, c)) (omega (arith, a, d))

  not_there : (q : ℕ) (y : Range) → map.get m q ≡ Some y → q ≢ first
  not_there q y has same =
      let some = pow_some order in
      let more = pow_some y.order in
      free q y has (omega (arith, same, some)) (omega (arith, same, more))
    where
      pow_some : (k : ℕ) → 0 < 2 ^ k
      pow_some k = one-le-pow k 2 (omega arith)

  pub free_slot : (j : ℕ) → j < span_of order → radix.entry_at old (level_of order) (place_of first order + j) ≡ None
  free_slot j low = by_entry (radix.entry_at old (level_of order) (place_of first order + j)) refl
    where
      by_entry : (o : Option Entry) → radix.entry_at old (level_of order) (place_of first order + j) ≡ o → o ≡ None
      by_entry None is = refl
      by_entry (Some x) is = absurd (not_taken (level_of order) (place_of first order + j) (stands.owned _ _ x is) refl (omega arith) (omega (arith, low)))

  module _ (new : Slab Node) (level span : ℕ) (same : level ≡ level_of order) (spans : span ≡ span_of order) (puts : PutsRun old new level (first / 64 ^ level) span value) (bare : HasNoMark new level (first / 64 ^ level)) where
    p : PutsRun old new (level_of order) (place_of first order) (span_of order) value
    p = subst (λ l. PutsRun old new l (first / 64 ^ l) (span_of order) value) same (subst (λ n. PutsRun old new level (first / 64 ^ level) n value) spans puts)

    b : HasNoMark new (level_of order) (place_of first order)
    b = subst (λ l. HasNoMark new l (first / 64 ^ l)) same bare

    come : IsAt new first (unmarked order value)
    come = record { leaf = p.first; rest = p.rest; marks = λ mark. no_mark mark ∙ ap (λ z. eqb z 1) (sym (b.each (mark_number mark) (mark_low mark))) }
      where
        no_mark : (mark : Mark) → has_mark mark (unmarked order value) ≡ false
        no_mark M0 = refl
        no_mark M1 = refl
        no_mark M2 = refl

    outside : (level place : ℕ) → (level ≡ level_of order → place_of first order ≤ place → place < place_of first order + span_of order → ⊥) ⊎ ((level ≡ level_of order) × (place_of first order ≤ place) × (place < place_of first order + span_of order))
    outside level place = elim (cases_eq level (level_of order)) [
      | inl l ↦ elim (cases_lt place (place_of first order)) [
        | inl before ↦ inl (λ a b c. omega (arith, before, b))
        | inr from ↦ elim (cases_lt place (place_of first order + span_of order)) [
          | inl to ↦ inr (l, from, to)
          | inr after ↦ inl (λ a b c. omega (arith, after, c))
        ]
      ]
      | inr differs ↦ inl (λ a b c. differs a)
    ]

    pub stands_put : Stands new (map.insert m first (unmarked order value))
    stands_put = record {
      shape = array-put m stands.shape first (unmarked order value) top aligned within small (λ q y differs has. (λ before. ends_before q y has before, λ after. begins_after q y has after));
      each = λ q y has. elim (was_put m first (unmarked order value) q y has) [
        | inl w ↦ rw (w.0, w.1) come
        | inr w ↦
            at_kept old new q y
            (λ j low. p.others (level_of y.order) (place_of q y.order + j) (λ l a z. not_taken (level_of y.order) (place_of q y.order + j) (own q y w.1 j low) l a z))
            (λ mark low. p.marks mark _ _ low)
            (stands.each q y w.1)
      ];
      owned = λ level place x has. elim (outside level place) [
        | inl apart ↦
            let o = stands.owned level place x (sym (p.others level place apart) ∙ has) in
            owned_by m (map.insert m first (unmarked order value)) level place o o.range (get-put_other m first o.first (unmarked order value) (not_there o.first o.range o.there) ∙ o.there) refl
        | inr at ↦ record { first = first; range = unmarked order value; there = get-put m first first (unmarked order value) refl; level_is = sym at.0; low = at.1; high = at.2 }
      ];
      quiet = λ mark level place named low has. p.marks mark level place low ∙ elim (outside level place) [
        | inl apart ↦ stands.quiet mark level place named low (sym (p.others level place apart) ∙ has)
        | inr at ↦
            let j = place - place_of first order in
            let e : place ≡ place_of first order + j = let from = at.1 in omega (arith, from) in
            unmarked_none old mark level place (ap (λ z. radix.entry_at old z place) at.0 ∙ ap (radix.entry_at old (level_of order)) e ∙ free_slot j (let to = at.2 in let from = at.1 in omega (arith, to, from)))
      ];
    }
      where
        own : (q : ℕ) (y : Range) → map.get m q ≡ Some y → (j : ℕ) → j < span_of y.order → IsOwned m (level_of y.order) (place_of q y.order + j)
        own q y has j low = record { first = q; range = y; there = has; level_is = refl; low = omega arith; high = omega (arith, low) }

        ends_before : (q : ℕ) (y : Range) → map.get m q ≡ Some y → q < first → q + 2 ^ y.order ≤ first
        ends_before q y has before = elim (cases_lt first (q + 2 ^ y.order)) [
          | inl over ↦ absurd (free q y has (omega (arith, before)) over)
          | inr done ↦ done
        ]

        begins_after : (q : ℕ) (y : Range) → map.get m q ≡ Some y → first < q → first + 2 ^ order ≤ q
        begins_after q y has after = elim (cases_lt q (first + 2 ^ order)) [
          | inl over ↦ absurd (free q y has over (omega (arith, after)))
          | inr done ↦ done
        ]
