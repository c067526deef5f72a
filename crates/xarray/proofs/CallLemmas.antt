-- What the calls over the nodes do to the array that stands in them.
use Rattle.std.proofs.Common.{◌≡◌, ◌≢◌, ℕ, ◌+◌, ◌-◌, ◌*◌, ◌/◌, ◌%◌, ◌^◌, ◌<◌, ◌≤◌, Bool, false, eqb, ltb, Option, Some, None, IsSome, is_some, option_map, refl, sym, ap, ◌∙◌, inl, inr, arith, subst, Result, Ok, Err, OnErr, lt-ltb, ltb-true}
use Rattle.std.specs.FinMap as map
use Rattle.std.specs.Ordering.{nat_cmp}
use Rattle.std.proofs.lemmas.Bool.{cases_lt, le-ltb, true≢false, false_from_ne_true}
use Rattle.std.proofs.lemmas.Option.{none-some, same_Some}
use Rattle.std.proofs.lemmas.Nat.{div-add-mod', div_below, mul-le, one_shl, pow-add, pow_below}
use Rattle.std.proofs.Math.Nat.{mul-div_cancel, one-le-pow}
use Rattle.slab.specs.Slab.{Slab}
use Rattle.radix.specs.declared.node.Node.{Node}
use Rattle.radix.specs.declared.entry.Entry.{Entry}
use Rattle.radix.specs.declared.entry.Entry.TheVariants.{Leaf, Sibling}
use Rattle.radix.specs.Entries as radix
use Rattle.radix.specs.Entries.{ClearsRun, HasNoMark, IsBare, IsClear, IsFree, IsFound, IsLeaf, IsNext, PutsBit, PutsEntry, PutsRun, SameEntries, StandsAt}
use Rattle.xarray.specs.declared.entry.Mark.{Mark}
use Rattle.xarray.specs.declared.entry.Mark.TheVariants.{M0, M1, M2}
use Rattle.xarray.specs.declared.entry.Marks.{Marks}
use Rattle.xarray.specs.MarkedArray.{Range, Ranges, entry_at, erased, has_mark, is_any, lowest, mark_number, marks_of, remarked, stored, unmarked, with_mark, with_value}
use Rattle.xarray.specs.Standing.{IsFirstSlot, IsLeafOf, IsOutside, IsSpot, Stands, TagsNext, level_of, place_of, span_of}
use Rattle.xarray.specs.View.{IsRanged, is_sibling, ranges_of, reaches}
use Rattle.xarray.proofs.RangeLemmas.{erased-some, get-put, lowest-none, none-at, none-lowest, remarked-some, remove-put, stored-some}
use Rattle.xarray.proofs.Singles.{same_order}
use Rattle.xarray.proofs.SpanLemmas.{level_low, pos64, within}
use Rattle.xarray.proofs.StandLemmas.{aligned_at, leaf-is, named_here, not_reached, reached, sibling_here}
use Rattle.xarray.proofs.ChangeLemmas.{mark_low, stands_cleared, stands_marked, stands_put, stands_same, stands_valued}
use Rattle.xarray.proofs.SearchLemmas.{bare_empty, clear_above, empty_bare, first_fits, free_under, mark_past, mark_spot, marked_leaf, named_at, outside_past, spot_from}
use Rattle.xarray.proofs.ViewLemmas.{is_ranged, ranges-is}

pub on_err : {T E : Type 0} (P : Type 0) (r : Result T E) → P → OnErr r P
on_err P (Ok x) p = tt
on_err P (Err e) p = p

-- a shift by the bits of an order within its level
pub one_span : (order : ℕ) → 1 * 2 ^ (order % 6) % 2 ^ 64 ≡ span_of order
one_span order = one_shl (order % 6) 64 (omega arith)

-- a range that begins below 2 ^ 64 ends there
pub fit_by : (first order : ℕ) → first % 2 ^ order ≡ 0 → order ≤ 63 → first < 2 ^ 64 → first + 2 ^ order ≤ 2 ^ 64
fit_by first order aligned top high =
    let w = 2 ^ order in
    let whole : first / w * w + first % w ≡ first = div-add-mod' first w in
    let all : 2 ^ 64 ≡ 2 ^ (64 - order) * w = ap (λ k. 2 ^ k) (let e : 64 ≡ 64 - order + order = omega (arith, top) in e) ∙ pow-add 2 (64 - order) order in
    let less : first / w < 2 ^ (64 - order) = div_below first w (2 ^ (64 - order)) (one-le-pow order 2 (omega arith)) (omega (arith, high, all)) in
    let up : (first / w + 1) * w ≤ 2 ^ (64 - order) * w = mul-le (first / w + 1) w (2 ^ (64 - order)) w (omega (arith, less)) (omega arith) in
    let more : (first / w + 1) * w ≡ first / w * w + w = omega arith in
    omega (arith, whole, aligned, all, up, more)

abbrev no_ranges : Ranges
no_ranges = map.empty

pub stands_bare : (s : Slab Node) → IsBare s → Stands s map.empty
stands_bare s bare = record {
  shape = record {
    order = λ first r is. none first r is;
    aligned = λ first r is. none first r is;
    within = λ first r is. none first r is;
    value = λ first r is. none first r is;
    disjoint = λ first other r q is has before. none first r is;
  };
  each = λ first r is. none first r is;
  owned = λ level place x is. absurd (none-some x (sym (bare.each level place) ∙ is));
  quiet = λ mark level place first low is. absurd (none-some (Sibling first) (sym (bare.each level place) ∙ is));
}
  where
    none : {P : Type 0} (first : ℕ) (r : Range) → map.get no_ranges first ≡ Some r → P
    none first r is = absurd (none-some r (sym (map.get-empty nat_cmp first) ∙ is))

pub one_meets_none : (m : Ranges) (first : ℕ) → entry_at m first ≡ None → lowest is_any m first (first + 1 - 1) ≡ None
one_meets_none m first none = lowest-none m is_any first (first + 1 - 1) (λ q y has is le low high. none-at m first none q y has (omega (arith, low)) high)

pub as_run : (old new : Slab Node) (level place value : ℕ) → PutsEntry old new level place (Some (Leaf value)) → PutsRun old new level place 1 value
as_run old new level place value puts = record {
  first = puts.entry;
  rest = λ j some one. absurd (omega (arith, some, one));
  others = λ other at apart. puts.others other at (λ l e. apart l (omega (arith, e)) (omega (arith, e)));
  marks = puts.marks;
}

pub as_cleared : (old new : Slab Node) (level place span : ℕ) → span ≡ 1 → PutsEntry old new level place None → ClearsRun old new level place span
as_cleared old new level place span one puts = record {
  gone = λ j low. let e : place + j ≡ place = omega (arith, low, one) in ap (radix.entry_at new level) e ∙ puts.entry;
  others = λ other at apart. puts.others other at (λ l e. apart l (omega (arith, e)) (omega (arith, e, one)));
  marks = puts.marks;
}

same_slab : (s : Slab Node) → SameEntries s s
same_slab s = record { entries = λ level place. refl; marks = λ mark level place low. refl }

-- an entry whose mark changes keeps its first slot
pub first_remarked : (m new : Ranges) (first level : ℕ) (mark : Mark) (is_set : Bool) (slot : IsFirstSlot m first level) → new ≡ map.insert m first (with_mark mark is_set slot.range) → IsFirstSlot new first level
first_remarked m new first level mark is_set slot now =
    let order = same_order mark is_set slot.range in
    let top = slot.top in
    record {
      range = with_mark mark is_set slot.range;
      there = ap (λ n. map.get n first) now ∙ get-put m first first (with_mark mark is_set slot.range) refl;
      level_is = ap level_of order ∙ slot.level_is;
      top = omega (arith, order, top);
    }

module _ (s : Slab Node) (inv : IsRanged s) where
  abbrev m : Ranges
  m = ranges_of s

  pub same_now : (new : Slab Node) → SameEntries s new → ranges_of new ≡ ranges_of s
  same_now new same = ranges-is new m (stands_same s new m inv.stands same)

  pub same_ranged : (new : Slab Node) → SameEntries s new → IsRanged new
  same_ranged new same = is_ranged new m (stands_same s new m inv.stands same)

  -- ---- an entry comes

  pub meets_none : (first order : ℕ) → lowest is_any m first (first + 2 ^ order - 1) ≡ None → (q : ℕ) (y : Range) → map.get m q ≡ Some y → q < first + 2 ^ order → first < q + 2 ^ y.order → ⊥
  meets_none first order none q y has low high =
      let some = one-le-pow order 2 (omega arith) in
      none-lowest m is_any first (first + 2 ^ order - 1) none q y has refl (omega (arith, some)) (omega (arith, low)) high

  module _ (mid new : Slab Node) (first order value level span : ℕ) (same : SameEntries s mid) (top : order ≤ 63) (aligned : first % 2 ^ order ≡ 0) (small : value < 2 ^ 63) (high : first < 2 ^ 64) (none : lowest is_any m first (first + 2 ^ order - 1) ≡ None) where
    st : Stands mid m
    st = stands_same s mid m inv.stands same

    pub put_clear : IsClear mid (level_of order) first
    put_clear = clear_above mid m st first order aligned (meets_none first order none)

    pub put_free : (j : ℕ) → j < 1 * 2 ^ (order % 6) % 2 ^ 64 → IsFree mid (level_of order) (first / 64 ^ level_of order + j)
    put_free j low = let e = one_span order in free_under mid m st first order aligned (meets_none first order none) (level_of order) j refl (omega (arith, e, low))

    fits : first + 2 ^ order ≤ 2 ^ 64
    fits = fit_by first order aligned top high

    now : level ≡ level_of order → span ≡ span_of order → PutsRun mid new level (first / 64 ^ level) span value → HasNoMark new level (first / 64 ^ level) → Stands new (map.insert m first (unmarked order value))
    now levels spans puts bare = stands_put mid m st first order value top aligned fits small (meets_none first order none) new level span levels spans puts bare

    pub put_now : level ≡ level_of order → span ≡ span_of order → PutsRun mid new level (first / 64 ^ level) span value → HasNoMark new level (first / 64 ^ level) → ranges_of new ≡ map.insert m first (unmarked order value)
    put_now levels spans puts bare = ranges-is new _ (now levels spans puts bare)

    pub put_ranged : level ≡ level_of order → span ≡ span_of order → PutsRun mid new level (first / 64 ^ level) span value → HasNoMark new level (first / 64 ^ level) → IsRanged new
    put_ranged levels spans puts bare = is_ranged new _ (now levels spans puts bare)

  -- ---- an entry that was found

  module _ (index first level value : ℕ) (spot : IsSpot m (entry_at m index) first level value) where
    pub spot_held : IsSome (entry_at m index)
    spot_held = ap (λ (o : Option (ℕ × Range)). is_some o) spot.is

    pub spot_value : Some value ≡ option_map (λ (e : ℕ × Range). e.1.value) (entry_at m index)
    spot_value = ap (λ (v : ℕ). Some v) (sym spot.value_is) ∙ sym (ap (option_map (λ (e : ℕ × Range). e.1.value)) spot.is)

  module _ (found : Option (ℕ × Range)) (first level value : ℕ) (spot : IsSpot m found first level value) where
    pub spot_leaf_at : radix.entry_at s level (first / 64 ^ level) ≡ Some (Leaf value)
    spot_leaf_at =
        ap (λ l. radix.entry_at s l (first / 64 ^ l)) (sym spot.level_is) ∙ (inv.stands.each first spot.range spot.there).leaf ∙ ap (λ (z : ℕ). Some (Leaf z)) spot.value_is

    pub spot_first : IsFirstSlot m first level
    spot_first = record { range = spot.range; there = spot.there; level_is = spot.level_is; top = spot.top }

    pub spot_low : level ≤ 10
    spot_low = let e = level_low spot.range.order (inv.stands.shape.order first spot.range spot.there) in let f = spot.level_is in omega (arith, e, f)

    pub valued : (new : Slab Node) (other : ℕ) → other < 2 ^ 63 → PutsEntry s new level (first / 64 ^ level) (Some (Leaf other)) → Stands new (map.insert m first (with_value other spot.range))
    valued new other small puts = stands_valued s m inv.stands first spot.range spot.there new level other spot.level_is small puts

    pub remarks : (new : Slab Node) (number bit : ℕ) (mark : Mark) → number ≡ mark_number mark → PutsBit s new number level (first / 64 ^ level) bit → Stands new (map.insert m first (with_mark mark (eqb bit 1) spot.range))
    remarks new number bit mark names puts = stands_marked s m inv.stands first spot.range spot.there new level number bit mark spot.level_is names puts

    pub valued_now : (new : Slab Node) (other index : ℕ) → other < 2 ^ 63 → found ≡ entry_at m index → PutsEntry s new level (first / 64 ^ level) (Some (Leaf other)) → ranges_of new ≡ stored m index other
    valued_now new other index small is puts = ranges-is new _ (valued new other small puts) ∙ sym (stored-some m index other first spot.range (sym is ∙ spot.is))

    pub valued_ranged : (new : Slab Node) (other : ℕ) → other < 2 ^ 63 → PutsEntry s new level (first / 64 ^ level) (Some (Leaf other)) → IsRanged new
    valued_ranged new other small puts = is_ranged new _ (valued new other small puts)

    pub marked_now : (new : Slab Node) (number bit index : ℕ) (mark : Mark) → number ≡ mark_number mark → found ≡ entry_at m index → PutsBit s new number level (first / 64 ^ level) bit → ranges_of new ≡ remarked m index mark (eqb bit 1)
    marked_now new number bit index mark names is puts = ranges-is new _ (remarks new number bit mark names puts) ∙ sym (remarked-some m index first mark (eqb bit 1) spot.range (sym is ∙ spot.is))

    pub marked_ranged : (new : Slab Node) (number bit : ℕ) (mark : Mark) → number ≡ mark_number mark → PutsBit s new number level (first / 64 ^ level) bit → IsRanged new
    marked_ranged new number bit mark names puts = is_ranged new _ (remarks new number bit mark names puts)

    pub bit_is : (number : ℕ) (mark : Mark) → number ≡ mark_number mark → eqb (radix.mark_at number s level (first / 64 ^ level)) 1 ≡ has_mark mark spot.range
    bit_is number mark names =
        ap (λ n. eqb (radix.mark_at n s level (first / 64 ^ level)) 1) names
        ∙ ap (λ l. eqb (radix.mark_at (mark_number mark) s l (first / 64 ^ l)) 1) (sym spot.level_is)
        ∙ sym ((inv.stands.each first spot.range spot.there).marks mark)

  -- ---- the marks of an entry, at its first slot

  module _ (first level : ℕ) (slot : IsFirstSlot m first level) (r : Range) (there : map.get m first ≡ Some r) where
    first_level : level_of r.order ≡ level
    first_level = ap (λ (z : Range). level_of z.order) (same_Some r slot.range (sym there ∙ slot.there)) ∙ slot.level_is

    first_bit : (mark : Mark) → eqb (radix.mark_at (mark_number mark) s level (first / 64 ^ level)) 1 ≡ has_mark mark r
    first_bit mark =
        ap (λ l. eqb (radix.mark_at (mark_number mark) s l (first / 64 ^ l)) 1) (sym first_level) ∙ sym ((inv.stands.each first r there).marks mark)

    pub first_marks : (a b c : Bool) → a ≡ eqb (radix.mark_at 0 s level (first / 64 ^ level)) 1 → b ≡ eqb (radix.mark_at 1 s level (first / 64 ^ level)) 1 → c ≡ eqb (radix.mark_at 2 s level (first / 64 ^ level)) 1 → ◌≡◌ {A = Marks} (record { m0 = a; m1 = b; m2 = c }) (marks_of r)
    first_marks a b c x y z = λ i. record { m0 = (x ∙ first_bit M0) i; m1 = (y ∙ first_bit M1) i; m2 = (z ∙ first_bit M2) i }

    first_stands : (new : Slab Node) (number bit : ℕ) (mark : Mark) → number ≡ mark_number mark → PutsBit s new number level (first / 64 ^ level) bit → Stands new (map.insert m first (with_mark mark (eqb bit 1) r))
    first_stands new number bit mark names puts = stands_marked s m inv.stands first r there new level number bit mark first_level names puts

    first_now : (new : Slab Node) (number bit : ℕ) (mark : Mark) → number ≡ mark_number mark → PutsBit s new number level (first / 64 ^ level) bit → ranges_of new ≡ map.insert m first (with_mark mark (eqb bit 1) r)
    first_now new number bit mark names puts = ranges-is new _ (first_stands new number bit mark names puts)

    pub first_ranged : (new : Slab Node) (number bit : ℕ) (mark : Mark) → number ≡ mark_number mark → PutsBit s new number level (first / 64 ^ level) bit → IsRanged new
    first_ranged new number bit mark names puts = is_ranged new _ (first_stands new number bit mark names puts)

  -- ---- an entry of one index comes where its node is

  module _ (first value : ℕ) (small : value < 2 ^ 63) (high : first < 2 ^ 64) (none : entry_at m first ≡ None) where
    even : first % 2 ^ 0 ≡ 0
    even = omega arith

    pub fill_free : IsFree s 0 (first / 64 ^ 0)
    fill_free = subst (IsFree s 0) (omega arith) (free_under s m inv.stands first 0 even (meets_none first 0 (one_meets_none m first none)) 0 0 refl (omega arith))

    pub fill_now : (new : Slab Node) → PutsEntry s new 0 (first / 64 ^ 0) (Some (Leaf value)) → HasNoMark new 0 (first / 64 ^ 0) → ranges_of new ≡ map.insert m first (unmarked 0 value)
    fill_now new puts bare = put_now s new first 0 value 0 1 (same_slab s) (omega arith) even small high (one_meets_none m first none) refl refl (as_run s new 0 (first / 64 ^ 0) value puts) bare

    pub fill_ranged : (new : Slab Node) → PutsEntry s new 0 (first / 64 ^ 0) (Some (Leaf value)) → HasNoMark new 0 (first / 64 ^ 0) → IsRanged new
    fill_ranged new puts bare = put_ranged s new first 0 value 0 1 (same_slab s) (omega arith) even small high (one_meets_none m first none) refl refl (as_run s new 0 (first / 64 ^ 0) value puts) bare

  pub count_is : (n : ℕ) → (IsBare s → n ≡ 0) × (n ≡ 0 → IsBare s) → (ranges_of s ≡ map.empty → n ≡ 0) × (n ≡ 0 → ranges_of s ≡ map.empty)
  count_is n bare = (λ empty. bare.0 (empty_bare s m inv.stands empty), λ none. bare_empty s m inv.stands (bare.1 none))

  -- ---- whether a slot is a sibling of the first

  module _ (first level step : ℕ) (slot : IsFirstSlot m first level) (low : step < 6) (r : Range) (there : map.get m first ≡ Some r) where
    same_range : slot.range ≡ r
    same_range = same_Some slot.range r (sym slot.there ∙ there)

    level_here : level_of r.order ≡ level
    level_here = ap (λ (z : Range). level_of z.order) (sym same_range) ∙ slot.level_is

    at_level : reaches s level (first / 64 ^ level) step ≡ reaches s (level_of r.order) (place_of first r.order) step
    at_level = ap (λ l. reaches s l (first / 64 ^ l) step) (sym level_here)

    reach_is : reaches s level (first / 64 ^ level) step ≡ ltb step (r.order % 6)
    reach_is = elim (cases_lt step (r.order % 6)) [
      | inl below ↦ at_level ∙ reached s m inv.stands first r there step below ∙ sym (lt-ltb _ _ below)
      | inr above ↦ at_level ∙ not_reached s m inv.stands first r there step low above ∙ sym (false_from_ne_true _ (λ t. let e = ltb-true _ _ t in omega (arith, e, above)))
    ]

    reach_at : (at : ℕ) → at ≡ first / 64 ^ level % 64 + 2 ^ step → at < 64 → is_sibling (first / 64 ^ level % 64) (radix.entry_at s level (first / 64 ^ level / 64 * 64 + at % 64)) ≡ ltb step (r.order % 6)
    reach_at at sum small =
        let place : first / 64 ^ level / 64 * 64 + at % 64 ≡ first / 64 ^ level + 2 ^ step = omega (arith, sum, small) in
        ap (λ z. is_sibling (first / 64 ^ level % 64) (radix.entry_at s level z)) place ∙ reach_is

    reach_past : (at : ℕ) → at ≡ first / 64 ^ level % 64 + 2 ^ step → 64 ≤ at → false ≡ ltb step (r.order % 6)
    reach_past at sum big = sym (false_from_ne_true _ (λ t.
        let below = ltb-true _ _ t in
        let fits = within first r.order (aligned_at s m inv.stands first r there) in
        let p : first / 64 ^ level ≡ place_of first r.order = ap (λ l. first / 64 ^ l) (sym level_here) in
        let up = pow_below step (r.order % 6) below in
        omega (arith, fits, p, up, sum, big)))

    module _ (at : ℕ) (sum : at ≡ first / 64 ^ level % 64 + 2 ^ step) where
      abbrev beside : Option Entry
      beside = radix.entry_at s level (first / 64 ^ level / 64 * 64 + at % 64)

      pub follows_reach : beside ≡ Some (Sibling (first / 64 ^ level % 64)) → ltb at 64 ≡ ltb step (r.order % 6)
      follows_reach is = elim (cases_lt at 64) [
        | inl small ↦ lt-ltb at 64 small ∙ sym (sibling_here (first / 64 ^ level % 64) _ is) ∙ reach_at at sum small
        | inr big ↦ le-ltb at 64 big ∙ reach_past at sum big
      ]

      pub apart_reach : beside ≢ Some (Sibling (first / 64 ^ level % 64)) → false ≡ ltb step (r.order % 6)
      apart_reach differs = elim (cases_lt at 64) [
        | inl small ↦ sym (false_from_ne_true _ (λ t. differs (named_here (first / 64 ^ level % 64) _ t))) ∙ reach_at at sum small
        | inr big ↦ reach_past at sum big
      ]

  -- ---- a leaf that a search found

  pub leaf_low : (level place v : ℕ) → radix.entry_at s level place ≡ Some (Leaf v) → (level ≤ 10) × (place * 64 ^ level < 2 ^ 64)
  leaf_low level place v leaf =
      let t = leaf-is s m inv.stands level place v leaf in
      let low = level_low t.range.order (inv.stands.shape.order t.first t.range t.there) in
      let same = t.level_is in
      (omega (arith, low, same), first_fits s m inv.stands t.first t.range t.there level place v t.level_is t.place_is t.value_is)

-- an entry without siblings
pub order_one : (m : Ranges) (first level : ℕ) → IsFirstSlot m first level → (r : Range) → map.get m first ≡ Some r → false ≡ ltb 0 (r.order % 6) → 6 * level ≡ r.order
order_one m first level slot r there none =
    let same : level_of slot.range.order ≡ level_of r.order = ap (λ (z : Range). level_of z.order) (same_Some slot.range r (sym slot.there ∙ there)) in
    let level_is = slot.level_is in
    elim (cases_lt 0 (r.order % 6)) [
      | inl some ↦ absurd (true≢false (sym (lt-ltb _ _ some) ∙ sym none))
      | inr zero ↦ omega (arith, same, level_is, zero)
    ]

-- an entry ends where no sibling of its own is beside its first slot
pub single_ends : (s : Slab Node) (inv : IsRanged s) (first level : ℕ) → IsFirstSlot (ranges_of s) first level → (r : Range) → map.get (ranges_of s) first ≡ Some r → (at : ℕ) → at ≡ first / 64 ^ level % 64 + 1 → at < 64 → radix.entry_at s level (first / 64 ^ level / 64 * 64 + at) ≢ Some (Sibling (first / 64 ^ level % 64)) → 6 * level ≡ r.order
single_ends s inv first level slot r there at is small none =
    let same : level_of r.order ≡ level = ap (λ (z : Range). level_of z.order) (sym (same_Some slot.range r (sym slot.there ∙ there))) ∙ slot.level_is in
    order_one (ranges_of s) first level slot r there (sym (false_from_ne_true _ (λ t.
    let sibling = (inv.stands.each first r there).rest 1 (omega arith) (pow_below 0 (r.order % 6) (ltb-true 0 (r.order % 6) t)) in
    let p : first / 64 ^ level ≡ place_of first r.order = ap (λ l. first / 64 ^ l) (sym same) in
    let q : first / 64 ^ level / 64 * 64 + at ≡ place_of first r.order + 1 = omega (arith, is, small, p) in
    none (ap (radix.entry_at s level) q ∙ ap (λ l. radix.entry_at s l (place_of first r.order + 1)) (sym same) ∙ sibling ∙ ap (λ z. Some (Sibling (z % 64))) (sym p)))))

-- or none at all
pub beside_ends : (s : Slab Node) (inv : IsRanged s) (first level : ℕ) → IsFirstSlot (ranges_of s) first level → (r : Range) → map.get (ranges_of s) first ≡ Some r → (at : ℕ) → at ≡ first / 64 ^ level % 64 + 1 → at < 64 → ((f : ℕ) → radix.entry_at s level (first / 64 ^ level / 64 * 64 + at) ≢ Some (Sibling f)) → 6 * level ≡ r.order
beside_ends s inv first level slot r there at is small none = single_ends s inv first level slot r there at is small (none (first / 64 ^ level % 64))

pub place_again : (first level place : ℕ) → first ≡ place * 64 ^ level → first / 64 ^ level ≡ place
place_again first level place is = ap (λ z. z / 64 ^ level) is ∙ mul-div_cancel place (pos64 level)

pub leaf_there : (s : Slab Node) (first level place : ℕ) → first ≡ place * 64 ^ level → IsLeaf (radix.entry_at s level place) → IsLeaf (radix.entry_at s level (first / 64 ^ level))
leaf_there s first level place is leaf = subst (λ z. IsLeaf (radix.entry_at s level z)) (sym (place_again first level place is)) leaf

pub some_none : {X : Type 0} (o : Option X) → IsSome o → o ≡ None → ⊥
some_none None some none = true≢false (sym some)
some_none (Some x) some none = none-some x (sym none)

pub none_past : (m : Ranges) (kind : Range → Bool) (from to : ℕ) → to < from → lowest kind m from to ≡ None
none_past m kind from to over = lowest-none m kind from to (λ q y has is le low high. omega (arith, over, le))

module _ (s : Slab Node) (inv : IsRanged s) (index first level value : ℕ) (spot : IsSpot (ranges_of s) (entry_at (ranges_of s) index) first level value) where
  pub spot_within : (order : ℕ) → order ≡ spot.range.order → first / 64 ^ level % 64 + 1 * 2 ^ (order % 6) % 2 ^ 64 ≤ 64
  spot_within order same =
      let w = within first spot.range.order (aligned_at s (ranges_of s) inv.stands first spot.range spot.there) in
      let p : first / 64 ^ level ≡ place_of first spot.range.order = ap (λ l. first / 64 ^ l) (sym spot.level_is) in
      let e = ap (λ z. 1 * 2 ^ (z % 6) % 2 ^ 64) same ∙ one_span spot.range.order in
      omega (arith, w, p, e)

  module _ (one two three new : Slab Node) (order : ℕ) (same : order ≡ spot.range.order) (p : PutsBit s one 0 level (first / 64 ^ level) 0) (q : PutsBit one two 1 level (first / 64 ^ level) 0) (r : PutsBit two three 2 level (first / 64 ^ level) 0) (clears : ClearsRun three new level (first / 64 ^ level) (1 * 2 ^ (order % 6) % 2 ^ 64)) where
    first_map : Ranges
    first_map = map.insert (ranges_of s) first (with_mark M0 false spot.range)

    gone : Stands new (map.remove (map.insert (map.insert (map.insert (ranges_of s) first (with_mark M0 false spot.range)) first (with_mark M1 false (with_mark M0 false spot.range))) first (with_mark M2 false (with_mark M1 false (with_mark M0 false spot.range)))) first)
    gone =
        let a = with_mark M0 false spot.range in
        let b = with_mark M1 false a in
        let c = with_mark M2 false b in
        let m = ranges_of s in
        let m1 = map.insert m first a in
        let m2 = map.insert m1 first b in
        let m3 = map.insert m2 first c in
        let s1 = stands_marked s m inv.stands first spot.range spot.there one level 0 0 M0 spot.level_is refl p in
        let s2 = stands_marked one m1 s1 first a (get-put m first first a refl) two level 1 0 M1 spot.level_is refl q in
        let s3 = stands_marked two m2 s2 first b (get-put m1 first first b refl) three level 2 0 M2 spot.level_is refl r in
        stands_cleared three m3 s3 first c (get-put m2 first first c refl) new level (1 * 2 ^ (order % 6) % 2 ^ 64) spot.level_is (one_span order ∙ ap span_of same) clears

    pub erased_now : ranges_of new ≡ erased (ranges_of s) index
    erased_now =
        ranges-is new _ gone
        ∙ remove-put _ first _
        ∙ remove-put _ first _
        ∙ remove-put (ranges_of s) first (with_mark M0 false spot.range)
        ∙ sym (erased-some (ranges_of s) index first spot.range spot.is)

    pub erased_ranged : IsRanged new
    erased_ranged = is_ranged new _ gone

-- a mark of the array that a call sees
pub first_set : (s : Slab Node) (inv : IsRanged s) (seen : Slab Node) → s ≡ seen → (first level : ℕ) → IsFirstSlot (ranges_of seen) first level → (r : Range) → map.get (ranges_of seen) first ≡ Some r → (new : Slab Node) (number bit : ℕ) (mark : Mark) (is_set : Bool) → number ≡ mark_number mark → PutsBit s new number level (first / 64 ^ level) bit → is_set ≡ eqb bit 1 → ranges_of new ≡ map.insert (ranges_of seen) first (with_mark mark is_set r)
first_set s inv seen same first level slot r there new number bit mark is_set names puts is =
    let at = rw (sym same) at slot in
    let has = rw (sym same) at there in
    first_now s inv first level at r has new number bit mark names puts
    ∙ ap (λ b. map.insert (ranges_of s) first (with_mark mark b r)) (sym is)
    ∙ ap (λ z. map.insert (ranges_of z) first (with_mark mark is_set r)) same

-- a sibling's first slot
module _ (s : Slab Node) (inv : IsRanged s) (index level named : ℕ) (found : IsFound s index level (Sibling named)) where
  abbrev at : ℕ
  at = index / 64 ^ level / 64 * 64 + named

  pub named_small : named < 64
  named_small = (named_at s (ranges_of s) inv.stands index level named found).small

  pub named_leaf : IsLeaf (radix.entry_at s level (index / 64 ^ level / 64 * 64 + named))
  named_leaf = rw ((named_at s (ranges_of s) inv.stands index level named found).leaf) tt

  pub named_fits : (index / 64 ^ level / 64 * 64 + named) * 64 ^ level < 2 ^ 64
  named_fits = let n = named_at s (ranges_of s) inv.stands index level named found in first_fits s (ranges_of s) inv.stands n.first n.range n.there level at n.range.value n.level_is n.place_is refl

  pub named_low : index / 64 ^ level / 64 * 64 + named ≤ index / 64 ^ level
  named_low = (named_at s (ranges_of s) inv.stands index level named found).low

  pub named_spot : (made value : ℕ) → made ≡ at * 64 ^ level → radix.entry_at s level at ≡ Some (Leaf value) → IsSpot (ranges_of s) (entry_at (ranges_of s) index) made level value
  named_spot made value is leaf =
      let n = named_at s (ranges_of s) inv.stands index level named found in
      let same : n.range.value ≡ value = same_leaf n.range.value value (sym n.leaf ∙ leaf) in
      spot_from s (ranges_of s) inv.stands n.first n.range n.there level at value n.level_is n.place_is same index made is n.low n.high
    where
      same_leaf : (a b : ℕ) → ◌≡◌ {A = Option Entry} (Some (Leaf a)) (Some (Leaf b)) → a ≡ b
      same_leaf a b e = cc

-- a cursor stays good for the first slot in its node
pub stands_beside : (s : Slab Node) (cursor level first index place : ℕ) → first ≡ place * 64 ^ level → place / 64 ≡ index / 64 ^ level / 64 → StandsAt s cursor level (index / 64 ^ level / 64) → StandsAt s cursor level (first / 64 ^ level / 64)
stands_beside s cursor level first index place is beside stands = subst (StandsAt s cursor level) (sym beside ∙ ap (λ z. z / 64) (sym (place_again first level place is))) stands

module _ (s : Slab Node) (inv : IsRanged s) (from to : ℕ) (mark other : Mark) (first level value : ℕ) (spot : IsSpot (ranges_of s) (lowest (has_mark mark) (ranges_of s) from to) first level value) where
  pub tags : (new : Slab Node) (number last order : ℕ) → number ≡ mark_number other → PutsBit s new number level (first / 64 ^ level) 1 → order ≡ spot.range.order → last + 1 ≡ first + 2 ^ order → TagsNext (ranges_of s) (ranges_of new) from to mark other last
  tags new number last order names puts same ends = record {
    first = first;
    range = spot.range;
    is = spot.is;
    now = ranges-is new _ (remarks s inv _ first level value spot new number 1 other names puts);
    last_is = ends ∙ ap (λ z. first + 2 ^ z) same;
    array = inv.stands.shape;
  }

-- a slot that a search by a mark found
module _ (s : Slab Node) (inv : IsRanged s) (from to : ℕ) (mark : Mark) (number : ℕ) (names : number ≡ mark_number mark) (outside : IsOutside (ranges_of s) from) (level place first : ℕ) (next : IsNext s number from level place) where
  pub hit : (v : ℕ) × (radix.entry_at s level place ≡ Some (Leaf v))
  hit = marked_leaf s (ranges_of s) inv.stands number level place (let e = mark_low mark in omega (arith, e, names)) next.marked

  abbrev pub hit_value : ℕ
  hit_value = hit.0

  pub hit_low : level ≤ 10
  hit_low = (leaf_low s inv level place hit.0 hit.1).0

  pub hit_fits : place * 64 ^ level < 2 ^ 64
  hit_fits = (leaf_low s inv level place hit.0 hit.1).1

  there : IsLeafOf (ranges_of s) level place hit_value
  there = leaf-is s (ranges_of s) inv.stands level place hit.0 hit.1

  next_named : IsNext s (mark_number mark) from level place
  next_named = subst (λ n. IsNext s n from level place) names next

  module _ (is : first ≡ place * 64 ^ level) where
    pub hit_past : to < first → lowest (has_mark mark) (ranges_of s) from to ≡ None
    hit_past past = mark_past s (ranges_of s) inv.stands mark from to (outside_past (ranges_of s) (has_mark mark) from outside) level place hit_value there next_named (omega (arith, is, there.first_is, past))

    pub hit_spot : from ≤ to → first ≤ to → IsSpot (ranges_of s) (lowest (has_mark mark) (ranges_of s) from to) first level hit_value
    hit_spot le low = mark_spot s (ranges_of s) inv.stands mark from to (outside_past (ranges_of s) (has_mark mark) from outside) level place hit_value there next_named le (omega (arith, is, there.first_is, low)) first (omega (arith, is, there.first_is))

    pub hit_order : (t : Slab Node) → s ≡ t → (le : from ≤ to) (low : first ≤ to) (order : ℕ) → ((r : Range) → map.get (ranges_of t) first ≡ Some r → order ≡ r.order) → order ≡ (hit_spot le low).range.order
    hit_order t same le low order tells = tells (hit_spot le low).range (subst (λ z. map.get (ranges_of z) first ≡ Some (hit_spot le low).range) same (hit_spot le low).there)

    pub hit_ends : (t : Slab Node) → s ≡ t → from ≤ to → first ≤ to → (order : ℕ) → ((r : Range) → map.get (ranges_of t) first ≡ Some r → order ≡ r.order) → (order ≤ 63) × (first + 2 ^ order ≤ 2 ^ 64)
    hit_ends t same le low order tells =
        let o = hit_order t same le low order tells in
        let p = ap (λ z. 2 ^ z) o in
        let top = (hit_spot le low).top in
        let within = (hit_spot le low).within in
        (omega (arith, top, o), omega (arith, within, p))

    pub hit_stands : (cursor : ℕ) → StandsAt s cursor level (place / 64) → StandsAt s cursor level (first / 64 ^ level / 64)
    hit_stands cursor stands = subst (λ p. StandsAt s cursor level (p / 64)) (sym (place_again first level place is)) stands
