-- What a search by a mark finds where an entry may hold its first index.
use Rattle.std.proofs.Common.{◌≡◌, ℕ, Bool, false, MatchBool, Option, ◌+◌, ◌-◌, ◌*◌, ◌/◌, ◌%◌, ◌^◌, ◌<◌, ◌≤◌, true, eqb, eqb-true, Some, None, refl, sym, ap, ◌∙◌, inl, inr, arith}
use Rattle.std.specs.FinMap as map
use Rattle.std.proofs.lemmas.Bool.{cases_lt, false_from_ne_true}
use Rattle.std.proofs.lemmas.Option.{same_Some}
use Rattle.slab.specs.Slab.{Slab}
use Rattle.radix.specs.declared.node.Node.{Node}
use Rattle.radix.specs.declared.entry.Entry.TheVariants.{Leaf}
use Rattle.radix.specs.Entries as radix
use Rattle.radix.specs.Entries.{HasNoHeld, HasNoMarkedAt, HasNoNext, IsHeld, IsMarkedAt, IsNext, IsNextHeld}
use Rattle.xarray.specs.declared.entry.Mark.{Mark}
use Rattle.xarray.specs.MarkedArray.{Range, Ranges, entry_at, has_mark, is_marked, lowest, mark_number}
use Rattle.xarray.specs.Standing.{IsLeafOf, IsSpot, Stands, level_of, place_of, span_of}
use Rattle.xarray.proofs.ChangeLemmas.{mark_low}
use Rattle.xarray.proofs.RangeLemmas.{at-some}
use Rattle.xarray.proofs.SearchLemmas.{IsPast, first_is, mark_none, mark_of_leaf, mark_past, mark_spot, marked_leaf, named_at, spot_from, spot_here}
use Rattle.xarray.proofs.SpanLemmas.{slot_high, slot_low, span_some, within}
use Rattle.xarray.proofs.StandLemmas.{aligned_at, leaf-is}

module _ (s : Slab Node) (m : Ranges) (stands : Stands s m) (mark : Mark) (from to : ℕ) where
  -- where no entry with the mark holds the index at a further slot
  not_held : HasNoHeld s (mark_number mark) from → IsPast m (has_mark mark) from
  not_held none = λ q y has is high. elim (cases_lt (place_of q y.order) (from / 64 ^ level_of y.order)) [
    | inl before ↦
        let even = aligned_at s m stands q y has in
        let p = place_of q y.order in
        let at = from / 64 ^ level_of y.order in
        let below = slot_high q y.order even from high in
        let fits = within q y.order even in
        let e : p + (at - p) ≡ at = omega (arith, before) in
        let named = ap (radix.entry_at s (level_of y.order)) (sym e) ∙ (stands.each q y has).rest (at - p) (omega (arith, before)) (omega (arith, before, below)) in
        let first : at / 64 * 64 + p % 64 ≡ p = omega (arith, before, below, fits) in
        let set : eqb (radix.mark_at (mark_number mark) s (level_of y.order) p) 1 ≡ true = sym ((stands.each q y has).marks mark) ∙ is in
        absurd (none.each (level_of y.order) (p % 64) (omega arith) named (ap (radix.mark_at (mark_number mark) s (level_of y.order)) first ∙ eqb-true _ 1 set))
    | inr done ↦ done
  ]

  pub held_none : HasNoNext s (mark_number mark) from × HasNoHeld s (mark_number mark) from → lowest (has_mark mark) m from to ≡ None
  held_none none = mark_none s m stands mark from to (not_held none.1) none.0

  module _ (level place : ℕ) where
    pub held_leaf : IsNextHeld s (mark_number mark) from level place → (v : ℕ) × (radix.entry_at s level place ≡ Some (Leaf v))
    held_leaf (inl held) = marked_leaf s m stands (mark_number mark) level place (mark_low mark) held.marked
    held_leaf (inr next) = marked_leaf s m stands (mark_number mark) level place (mark_low mark) next.0.marked

    module _ (value : ℕ) (t : IsLeafOf m level place value) where
      -- the entry that holds the index
      here : (made : ℕ) → made ≡ t.first → IsHeld s (mark_number mark) from level place → IsSpot m (entry_at m from) made level value
      here made is held =
          let n = named_at s m stands from level held.named held.found in
          let first = first_is s m stands n.first n.range n.there level (from / 64 ^ level / 64 * 64 + held.named) n.range.value n.level_is n.place_is refl in
          let one : n.first ≡ t.first = first ∙ ap (λ z. z * 64 ^ level) (sym held.place_is) ∙ sym t.first_is in
          let range : n.range ≡ t.range = same_Some n.range t.range (sym n.there ∙ ap (map.get m) one ∙ t.there) in
          let span : span_of n.range.order ≡ span_of t.range.order = ap (λ (z : Range). span_of z.order) range in
          let n_low = n.low in
          let n_high = n.high in
          let at = held.place_is in
          spot_from s m stands t.first t.range t.there level place value t.level_is t.place_is t.value_is from made (is ∙ t.first_is) (omega (arith, n_low, at)) (omega (arith, n_high, at, span))

      pub held_spot : IsNextHeld s (mark_number mark) from level place → from ≤ to → t.first ≤ to → (made : ℕ) → made ≡ t.first → IsSpot m (lowest (has_mark mark) m from to) made level value
      held_spot (inl held) le low made is =
          let spot = here made is held in
          let range : spot.range ≡ t.range = same_Some spot.range t.range (sym spot.there ∙ ap (map.get m) is ∙ t.there) in
          spot_here s m stands (has_mark mark) from to made level value le spot (ap (has_mark mark) range ∙ mark_of_leaf s m stands mark level place value t ∙ ap (λ z. eqb z 1) held.marked)
      held_spot (inr next) le low made is = mark_spot s m stands mark from to (not_held next.1) level place value t next.0 le low made is

      pub held_past : IsNextHeld s (mark_number mark) from level place → from ≤ to → to < t.first → lowest (has_mark mark) m from to ≡ None
      held_past (inl held) le beyond =
          let spot = here t.first refl held in
          let at = at-some m from t.first spot.range spot.is in
          let low = at.low in
          absurd (omega (arith, low, le, beyond))
      held_past (inr next) le beyond = mark_past s m stands mark from to (not_held next.1) level place value t next.0 beyond

  -- ---- the mark of the entry that has the index

  -- an entry with the mark that has it
  spot_marked : (level place value made : ℕ) (t : IsLeafOf m level place value) → made ≡ t.first → radix.mark_at (mark_number mark) s level place ≡ 1 → IsSpot m (entry_at m from) made level value → is_marked mark (entry_at m from) ≡ true
  spot_marked level place value made t is marked spot =
      let same : spot.range ≡ t.range = same_Some spot.range t.range (sym spot.there ∙ ap (map.get m) is ∙ t.there) in
      ap (is_marked mark) spot.is ∙ ap (has_mark mark) same ∙ mark_of_leaf s m stands mark level place value t ∙ ap (λ z. eqb z 1) marked

  marked_true : IsMarkedAt s (mark_number mark) from → is_marked mark (entry_at m from) ≡ true
  marked_true at =
      let leaf = marked_leaf s m stands (mark_number mark) at.level at.place (mark_low mark) at.marked in
      let t = leaf-is s m stands at.level at.place leaf.0 leaf.1 in
      elim at.at [
        | inl same ↦ spot_marked at.level at.place leaf.0 (at.place * 64 ^ at.level) t (sym t.first_is) at.marked (spot_from s m stands t.first t.range t.there at.level at.place leaf.0 t.level_is t.place_is t.value_is from (at.place * 64 ^ at.level) refl (omega (arith, same)) (omega (arith, same, span_some t.range.order)))
        | inr held ↦ spot_marked at.level at.place leaf.0 t.first t refl at.marked (here at.level at.place leaf.0 t t.first refl held)
      ]

  marked_false : HasNoMarkedAt s (mark_number mark) from → is_marked mark (entry_at m from) ≡ false
  marked_false none = by_entry (entry_at m from) refl
    where
      hit : (q : ℕ) (y : Range) → map.get m q ≡ Some y → q ≤ from → from < q + 2 ^ y.order → has_mark mark y ≡ true → ⊥
      hit q y has low high is =
          let past = not_held none.held q y has is high in
          let at = slot_low q y.order (aligned_at s m stands q y has) from low in
          let same : place_of q y.order ≡ from / 64 ^ level_of y.order = omega (arith, past, at) in
          let set : eqb (radix.mark_at (mark_number mark) s (level_of y.order) (place_of q y.order)) 1 ≡ true = sym ((stands.each q y has).marks mark) ∙ is in
          none.here (level_of y.order) (ap (radix.mark_at (mark_number mark) s (level_of y.order)) (sym same) ∙ eqb-true _ 1 set)

      by_entry : (o : Option (ℕ × Range)) → entry_at m from ≡ o → is_marked mark (entry_at m from) ≡ false
      by_entry None is = ap (is_marked mark) is
      by_entry (Some e) is = let h = at-some m from e.0 e.1 is in ap (is_marked mark) is ∙ false_from_ne_true _ (hit e.0 e.1 h.there h.low h.high)

  pub marked_by : (b : Bool) → MatchBool b (IsMarkedAt s (mark_number mark) from) (HasNoMarkedAt s (mark_number mark) from) → b ≡ is_marked mark (entry_at m from)
  marked_by true at = sym (marked_true at)
  marked_by false none = sym (marked_false none)
