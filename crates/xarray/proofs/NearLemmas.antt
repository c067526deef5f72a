-- The next entry of a walk, where it is in the node of the one before and has one index.
use Rattle.std.proofs.Common.{◌≡◌, ℕ, ◌+◌, ◌*◌, ◌/◌, ◌%◌, ◌^◌, ◌<◌, ◌≤◌, zero, suc, [], ◌∷◌, Option, Some, None, IfSome, MatchOption, true, map as map_list, subst, refl, sym, ap, ◌∙◌, inl, inr, arith}
use Rattle.std.specs.FinMap as map
use Rattle.std.proofs.lemmas.Bool.{cases_eq}
use Rattle.std.proofs.lemmas.Option.{none-some, same_Some}
use Rattle.std.proofs.Math.Nat.{one-le-pow, pow-suc}
use Rattle.slab.specs.Slab.{Slab}
use Rattle.radix.specs.declared.node.Node.{Node}
use Rattle.radix.specs.declared.entry.Ahead.{Ahead}
use Rattle.radix.specs.declared.entry.Entry.TheVariants.{Sibling}
use Rattle.radix.specs.declared.entry.Onward.{Onward}
use Rattle.radix.specs.declared.entry.Position.{Position}
use Rattle.radix.specs.declared.entry.Twig.{Twig}
use Rattle.radix.specs.Entries as radix
use Rattle.radix.specs.Twigs.{IsTwig, mark_of}
use Rattle.radix.specs.Entries.{IsAlone, IsNextAt, IsNextEntryAt, IsSingle, StandsAt}
use Rattle.xarray.specs.declared.entry.Mark.{Mark}
use Rattle.xarray.specs.declared.entry.Found.{Found}
use Rattle.xarray.specs.MarkedArray.{Range, Ranges, found_of, has_mark, is_any, lowest, mark_number}
use Rattle.xarray.specs.Standing.{IsFirstSlot, IsLeafOf, IsOutside, IsSpot, level_of}
use Rattle.xarray.specs.View.{IsRanged, ranges_of}
use Rattle.xarray.specs.Walks.{IsNear, IsOn, IsPlace, kind_of, left, number_of}
use Rattle.xarray.proofs.CallLemmas.{single_ends}
use Rattle.xarray.proofs.SearchLemmas.{any_past, any_spot, mark_past, mark_spot, outside_past}
use Rattle.xarray.proofs.SpanLemmas.{within}
use Rattle.xarray.proofs.StandLemmas.{leaf-is}
use Rattle.xarray.proofs.WalkLemmas.{step_first, step_place, walk_none}

module _ (s : Slab Node) (inv : IsRanged s) (from to first value : ℕ) (outside : IsOutside (ranges_of s) from) (le : from ≤ to) (single : IsSingle s first) where
  abbrev m : Ranges
  m = ranges_of s

  at_zero : first / 64 ^ 0 ≡ first
  at_zero = omega arith

  -- an entry of the lowest level without further slots has one index
  one_index : IsLeafOf m 0 first value → (r : Range) → map.get m first ≡ Some r → 0 ≡ r.order
  one_index t r there =
      let is : t.first ≡ first = let e = t.first_is in omega (arith, e) in
      let here : map.get m first ≡ Some t.range = ap (map.get m) (sym is) ∙ t.there in
      let slot : IsFirstSlot m first 0 = record { range = t.range; there = here; level_is = t.level_is; top = inv.stands.shape.order t.first t.range t.there } in
      let low : level_of r.order ≡ 0 = ap (λ (z : Range). level_of z.order) (sym (same_Some t.range r (sym here ∙ there))) ∙ t.level_is in
      elim (cases_eq (first % 64) 63) [
        | inl last ↦
            let fits = within first r.order (inv.stands.shape.aligned first r there) in
            let at : first / 64 ^ level_of r.order ≡ first = ap (λ l. first / 64 ^ l) low ∙ at_zero in
            let span = small_order (r.order % 6) (omega (arith, fits, at, last)) in
            omega (arith, low, span)
        | inr inner ↦
            let beside : first / 64 ^ 0 / 64 * 64 + (first % 64 + 1) ≡ first + 1 = omega (arith, at_zero) in
            let e = single_ends s inv first 0 slot r there (first % 64 + 1) (ap (λ z. z % 64 + 1) (sym at_zero)) (omega (arith, inner))
            (λ has. single.ends (omega (arith, inner)) (ap (radix.entry_at s 0) (sym beside) ∙ has ∙ ap (λ z. Some (Sibling (z % 64))) at_zero)) in
            omega (arith, e)
      ]
    where
      small_order : (e : ℕ) → 2 ^ e ≤ 1 → e ≡ 0
      small_order zero low = refl
      small_order (suc e) low = absurd (let p = one-le-pow e 2 (omega arith) in let q : 2 ^ suc e ≡ 2 ^ e * 2 = pow-suc 2 e in omega (arith, low, p, q))

  pub near_any : IsNextEntryAt s from first value → IsNear m is_any from to first value
  near_any is =
      let t = leaf-is s m inv.stands 0 first value is.entry in
      let same : t.first ≡ first = let e = t.first_is in omega (arith, e) in
      record {
        past = λ beyond. any_past s m inv.stands from to outside 0 first value t is.next (omega (arith, same, beyond));
        spot = λ low. any_spot s m inv.stands from to outside 0 first value t is.next le (omega (arith, same, low)) first (sym same);
        single = one_index t;
        array = inv.stands.shape;
      }

  pub near_marked : (mark : Mark) → IsNextAt s (mark_number mark) from first value → IsNear m (has_mark mark) from to first value
  near_marked mark is =
      let t = leaf-is s m inv.stands 0 first value is.entry in
      let same : t.first ≡ first = let e = t.first_is in omega (arith, e) in
      let after = outside_past m (has_mark mark) from outside in
      record {
        past = λ beyond. mark_past s m inv.stands mark from to after 0 first value t is.next (omega (arith, same, beyond));
        spot = λ low. mark_spot s m inv.stands mark from to after 0 first value t is.next le (omega (arith, same, low)) first (sym same);
        single = one_index t;
        array = inv.stands.shape;
      }

-- what a look at the node answers
module _ (s : Slab Node) (inv : IsRanged s) (from : ℕ) (outside : IsOutside (ranges_of s) from) where
  alone_single : (place : ℕ) → IsAlone s place → IsSingle s place
  alone_single place alone = record { ends = λ inner. alone.each (place % 64) inner }

  pub near_any_if : (o : Option Ahead) → IfSome o (λ r. IsNextEntryAt s from r.place r.value) → IfSome o (λ r. r.is_alone ≡ true → IsAlone s r.place) → IfSome o (λ r. r.is_alone ≡ true → (to : ℕ) → from ≤ to → IsNear (ranges_of s) is_any from to r.place r.value)
  near_any_if None none alone = tt
  near_any_if (Some r) is alone = λ tells to le. near_any s inv from to r.place r.value outside le (alone_single r.place (alone tells)) is

  pub near_marked_if : (mark : Mark) (number : ℕ) → number ≡ mark_number mark → (o : Option Ahead) → IfSome o (λ r. IsNextAt s number from r.place r.value) → IfSome o (λ r. r.is_alone ≡ true → IsAlone s r.place) → IfSome o (λ r. r.is_alone ≡ true → (to : ℕ) → from ≤ to → IsNear (ranges_of s) (has_mark mark) from to r.place r.value)
  near_marked_if mark number names None none alone = tt
  near_marked_if mark number names (Some r) is alone = λ tells to le. near_marked s inv from to r.place r.value outside le (alone_single r.place (alone tells)) mark (subst (λ n. IsNextAt s n from r.place r.value) names is)

  -- what a step by a twig answers
  pub near_on_if : (number : ℕ) (o : Option Onward) → IfSome o (λ r. IsNextAt s number from r.place r.value) → (number ≡ 3 → IfSome o (λ r. IsNextEntryAt s from r.place r.value)) → IfSome o (λ r. IsSingle s r.place) → IfSome o (λ r. (mark : Option Mark) → number ≡ number_of mark → (to : ℕ) → from ≤ to → IsNear (ranges_of s) (kind_of mark) from to r.place r.value)
  near_on_if number None next entry single = tt
  near_on_if number (Some r) next entry single = by_kind
    where
      by_kind : (mark : Option Mark) → number ≡ number_of mark → (to : ℕ) → from ≤ to → IsNear (ranges_of s) (kind_of mark) from to r.place r.value
      by_kind None is = λ to le. near_any s inv from to r.place r.value outside le single (entry is)
      by_kind (Some mark) is = λ to le. near_marked s inv from to r.place r.value outside le single mark (subst (λ n. IsNextAt s n from r.place r.value) is next)

-- ---- the step to it

module _ (m : Ranges) (mark : Option Mark) (from to first value : ℕ) (near : IsNear m (kind_of mark) from to first value) where
  pub near_none : to < first → left mark m (Some from) to ≡ []
  near_none beyond = ap (map_list found_of) (walk_none (kind_of mark) m from to (near.past beyond))

  module _ (low : first ≤ to) (next : Option ℕ) (after : MatchOption next (to ≤ first) (λ n. (n ≡ first + 1) × (first < to))) where
    spot : IsSpot m (lowest (kind_of mark) m from to) first 0 value
    spot = near.spot low

    ends : first + 1 ≡ first + 2 ^ 0
    ends = omega arith

    pub near_first : (found : Found) → found ≡ record { first = first; order = 0; value = value } → left mark m (Some from) to ≡ found ∷ left mark m next to
    near_first found is =
        step_first m near.array mark from to first 0 value spot 0 first (near.single spot.range spot.there) ends next after
        ∙ ap (λ f. f ∷ left mark m next to) (sym is)

    pub near_place : (s : Slab Node) → ranges_of s ≡ m → (twig : Twig) → IsTwig s (first + 1) twig → mark_of twig ≡ number_of mark → (slot : Option Position) → IsPlace s mark next to (Some twig) slot
    near_place s same twig on mark_is slot =
        step_place m near.array mark from to first 0 value spot 0 first (near.single spot.range spot.there) ends s same next after (Some twig) slot
        (λ n is. subst (λ z. IsOn s mark z twig) (sym is) (record { twig = on; mark_is = mark_is }))
        (λ n is none. absurd (none-some twig (sym none)))

pub on_twig : (s : Slab Node) (mark : Option Mark) (from : ℕ) (o : Option Twig) → IfSome o (λ t. IsOn s mark from t) → IfSome o (λ t. IsTwig s from t)
on_twig s mark from None on = tt
on_twig s mark from (Some t) on = on.twig
