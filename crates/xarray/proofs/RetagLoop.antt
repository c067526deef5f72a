-- One step of a retag, and its end.
use Rattle.std.proofs.Common.{◌≡◌, ◌≢◌, ℕ, ◌+◌, ◌-◌, ◌^◌, ◌<◌, ◌≤◌, ◌⊎◌, inl, inr, min, true, Option, Some, None, sym, ap, ◌∙◌, arith}
use Rattle.std.specs.FinMap as map
use Rattle.xarray.specs.declared.entry.Mark.{Mark}
use Rattle.xarray.specs.MarkedArray.{Range, Ranges, count_of, has_mark, lowest, retagged, with_mark}
use Rattle.std.proofs.lemmas.Bool.{cases_order}
use Rattle.xarray.proofs.Singles.{same_order}
use Rattle.xarray.specs.Standing.{IsOutside, IsStart, TagsNext}
use Rattle.slab.specs.Slab.{Slab}
use Rattle.radix.specs.declared.node.Node.{Node}
use Rattle.xarray.specs.MarkedArray.{Array}
use Rattle.xarray.specs.View.{array_of, ranges_of}
use Rattle.xarray.proofs.RangeLemmas.{lowest-none, lowest-some, was_put}
use Rattle.xarray.proofs.RetagLemmas.{count-end, count-start, count-step, retag-start, retag-end, retag-step}

-- what is left to do is the whole of what was to be done
pub record Goes (now : Ranges) (next : ℕ) (m : Ranges) (from to : ℕ) (mark other : Mark) (count : ℕ) : Type 0 where
  pub retags : retagged now next to mark other ≡ retagged m from to mark other
  pub counts : min (count + count_of now next to mark) (2 ^ 64 - 1) ≡ min (count_of m from to mark) (2 ^ 64 - 1)

pub goes-on : (old now m : Ranges) (next from to count more last : ℕ) (mark other : Mark) → TagsNext old now next to mark other last → more ≡ min (count + 1) (2 ^ 64 - 1) → Goes old next m from to mark other count → Goes now (last + 1) m from to mark other more
goes-on old now m next from to count more last mark other t is g = record {
  retags = ap (λ n. retagged n (last + 1) to mark other) t.now ∙ retag-step old t.array next to mark other t.first t.range t.is (last + 1) t.last_is ∙ g.retags;
  counts =
      let e = ap (λ n. count_of n (last + 1) to mark + 1) t.now ∙ count-step old t.array next to mark other t.first t.range t.is (last + 1) t.last_is in
      let c = g.counts in
      omega (arith, e, c, is);
}

pub starts : (m : Ranges) (from start to : ℕ) (mark other : Mark) → from ≤ to → IsStart m from start → Goes m start m from to mark other 0
starts m from start to mark other le begins = record {
  retags = retag-start m from start to mark le begins other;
  counts = let e = count-start m from start to mark le begins in omega (arith, e);
}

-- the search goes on after the entry that was found
pub outside_next : (old now : Ranges) (next to : ℕ) (mark other : Mark) (last : ℕ) → TagsNext old now next to mark other last → IsOutside now (last + 1)
outside_next old now next to mark other last t = record {
  each = λ q y has high. by_key q y high (was_put old t.first (with_mark other true t.range) q y (ap (λ n. map.get n q) (sym t.now) ∙ has));
}
  where
    there : map.get old t.first ≡ Some t.range
    there = (lowest-some old (has_mark mark) next to t.first t.range t.is).there

    by_key : (q : ℕ) (y : Range) → last + 1 < q + 2 ^ y.order → ((q ≡ t.first) × (y ≡ with_mark other true t.range)) ⊎ ((q ≢ t.first) × (map.get old q ≡ Some y)) → last + 1 ≤ q
    by_key q y high (inl w) =
        let e = ap (λ (z : Range). 2 ^ z.order) w.1 in
        let f = ap (λ z. 2 ^ z) (same_order other true t.range) in
        let ends = t.last_is in
        absurd (omega (arith, high, ends, w.0, e, f))
    by_key q y high (inr w) = elim (cases_order q t.first) [
      | inr (inl before) ↦
          let e = t.array.disjoint q t.first y t.range w.1 there before in
          let ends = t.last_is in
          absurd (omega (arith, e, high, ends))
      | inl same ↦ absurd (w.0 same)
      | inr (inr after) ↦
          let e = t.array.disjoint t.first q t.range y there w.1 after in
          let ends = t.last_is in
          omega (arith, e, ends)
    ]

module _ (now m : Ranges) (next from to count : ℕ) (mark other : Mark) (g : Goes now next m from to mark other count) where
  pub all_done : lowest (has_mark mark) now next to ≡ None → now ≡ retagged m from to mark other
  all_done none = sym (retag-end now next to mark other none) ∙ g.retags

  pub all_counted : lowest (has_mark mark) now next to ≡ None → count < 2 ^ 64 → count ≡ min (count_of m from to mark) (2 ^ 64 - 1)
  all_counted none small =
      let e = count-end now next to mark none in
      let c = g.counts in
      omega (arith, e, c, small)

pub past_end : (now : Ranges) (next to : ℕ) (mark : Mark) → to < next → lowest (has_mark mark) now next to ≡ None
past_end now next to mark over = lowest-none now (has_mark mark) next to (λ q y has is le low high. omega (arith, over, le))

-- the entry that was found ends at the first index of the search or later
pub ends_later : (old now : Ranges) (from to : ℕ) (mark other : Mark) (last : ℕ) → TagsNext old now from to mark other last → from ≤ last
ends_later old now from to mark other last t =
    let p = lowest-some old (has_mark mark) from to t.first t.range t.is in
    let high = p.high in
    let ends = t.last_is in
    omega (arith, high, ends)

-- the array that is left
pub array_at : (s new : Slab Node) (ready : Option (ℕ × ℕ)) (m : Ranges) → new ≡ s → ready ≡ None → ranges_of s ≡ m → ◌≡◌ {A = Array} (array_of new ready) (record { ranges = m; ready = None })
array_at s new ready m same none is = λ i. record { ranges = (ap ranges_of same ∙ is) i; ready = none i }

pub left : {A B : Type 0} → A × B → A
left p = p.0

pub right : {A B : Type 0} → A × B → B
right p = p.1
