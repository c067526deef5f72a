-- What the steps of a split do to the array that stands in the nodes.
use Rattle.std.proofs.Common.{◌≡◌, ℕ, suc, zero, ◌+◌, ◌-◌, ◌*◌, ◌/◌, ◌%◌, ◌^◌, ◌<◌, ◌≤◌, Some, refl, sym, ap, ◌∙◌, arith, subst}
use Rattle.std.specs.FinMap as map
use Rattle.std.proofs.lemmas.Nat.{mul-le, one_shl, pow-add}
use Rattle.std.proofs.lemmas.Option.{same_Some}
use Rattle.std.proofs.Math.Nat.{mod-eq_of_lt, mul-div_cancel, mul_comm, pow-le-pow_right, pow-suc}
use Rattle.slab.specs.Slab.{Slab}
use Rattle.radix.specs.declared.node.Node.{Node}
use Rattle.radix.specs.Parts.{Parts}
use Rattle.xarray.specs.MarkedArray.{Range, Ranges, parts}
use Rattle.xarray.specs.Rows.{IsRow, IsWhole, tree_of}
use Rattle.xarray.specs.Standing.{Stands, level_of, span_of}
use Rattle.xarray.specs.View.{IsRanged, ranges_of}
use Rattle.radix.proofs.Places.{pow64}
use Rattle.xarray.proofs.CallLemmas.{one_span}
use Rattle.xarray.proofs.PartLemmas.{get-part, parts_over, within_parts}
use Rattle.xarray.proofs.PartStands.{stands_parts}
use Rattle.xarray.proofs.SpanLemmas.{placed, pos64, within}
use Rattle.xarray.proofs.StandLemmas.{aligned_at}
use Rattle.xarray.proofs.ViewLemmas.{is_ranged, ranges-is}

-- ---- one entry

pub whole_order : (m : Ranges) (first from level : ℕ) (whole : IsWhole m first from level) (r : Range) → map.get m first ≡ Some r → r.order ≡ from
whole_order m first from level whole r is = ap (λ (z : Range). z.order) (same_Some r whole.range (sym is ∙ whole.there)) ∙ whole.order_is

-- in an array that is the same
pub whole_again : (m now : Ranges) (first from level : ℕ) → now ≡ m → IsWhole m first from level → IsWhole now first from (from / 6)
whole_again m now first from level same whole = record {
  range = whole.range;
  there = ap (λ z. map.get z first) same ∙ whole.there;
  order_is = whole.order_is;
  level_is = refl;
  top = whole.top;
}

module _ (s : Slab Node) (inv : IsRanged s) (first from level : ℕ) (whole : IsWhole (ranges_of s) first from level) where
  abbrev m : Ranges
  m = ranges_of s

  pub whole_within : first / 64 ^ level % 64 + 1 * 2 ^ (from % 6) % 2 ^ 64 ≤ 64
  whole_within =
      let r = whole.range in
      let w = within first r.order (aligned_at s m inv.stands first r whole.there) in
      let l : first / 64 ^ level_of r.order ≡ first / 64 ^ level = ap (λ z. first / 64 ^ z) (ap level_of whole.order_is ∙ whole.level_is) in
      let e : span_of r.order ≡ span_of from = ap span_of whole.order_is in
      omega (arith, w, l, e, one_span from)

  -- in its node
  module _ (new : Slab Node) (step span : ℕ) (fits : step ≤ from % 6) (spans : span ≡ 2 ^ (from % 6)) (p : Parts s new level (first / 64 ^ level) level (first / 64 ^ level) span step) where
    cut_stands : (r : Range) → map.get m first ≡ Some r → Stands new (parts m first (6 * level + step) r (2 ^ (from - (6 * level + step))))
    cut_stands r is =
        let same = whole_order m first from level whole r is in
        let l : level_of r.order ≡ level = ap level_of same ∙ whole.level_is in
        let count : span ≡ 2 ^ (r.order - 6 * level) = spans ∙ ap (λ e. 2 ^ e) (let e : from % 6 ≡ r.order - 6 * level = omega (arith, same, l) in e) in
        let q : Parts s new (level_of r.order) (first / 64 ^ level_of r.order) level (first / 64 ^ level) (2 ^ (r.order - 6 * level)) step =
        subst (λ z. Parts s new z (first / 64 ^ z) level (first / 64 ^ level) (2 ^ (r.order - 6 * level)) step) (sym l) (subst (λ n. Parts s new level (first / 64 ^ level) level (first / 64 ^ level) n step) count p) in
        subst (λ o. Stands new (parts m first (6 * level + step) r (2 ^ (o - (6 * level + step))))) same
        (stands_parts s new m inv.stands first r is level step (omega (arith, fits)) (omega (arith, fits, same, l)) (λ differs. absurd (differs (sym l))) q)

    pub cut_now : (r : Range) → map.get m first ≡ Some r → ranges_of new ≡ parts m first (6 * level + step) r (2 ^ (from - (6 * level + step)))
    cut_now r is = ranges-is new _ (cut_stands r is)

    pub cut_ranged : IsRanged new
    cut_ranged = is_ranged new _ (cut_stands whole.range whole.there)

-- by a node below it
module _ (s : Slab Node) (inv : IsRanged s) (first level : ℕ) (whole : IsWhole (ranges_of s) first (6 * level) level) (inner : 0 < level) (new : Slab Node) (step : ℕ) (small : step < 6) (p : Parts s new level (first / 64 ^ level) (level - 1) (first / 64 ^ level * 64) 64 step) where
  abbrev n : Ranges
  n = ranges_of s

  -- the first slot of the node
  base_is : first / 64 ^ level * 64 ≡ first / 64 ^ (level - 1)
  base_is =
      let low = level - 1 in
      let w = 64 ^ low in
      let place = first / 64 ^ level in
      let l : level_of whole.range.order ≡ level = ap level_of whole.order_is ∙ whole.level_is in
      let e : first ≡ place * 64 ^ level = (placed first whole.range.order (aligned_at s n inv.stands first whole.range whole.there)).first_is ∙ ap (λ z. first / 64 ^ z * 64 ^ z) l in
      let up : 64 ^ level ≡ w * 64 = ap (λ z. 64 ^ z) (let e : level ≡ suc low = omega (arith, inner) in e) ∙ pow-suc 64 low in
      let f : place * (w * 64) ≡ place * 64 * w = omega arith in
      sym (ap (λ z. z / w) (e ∙ ap (λ z. place * z) up ∙ f) ∙ mul-div_cancel (place * 64) (pos64 low))

  expand_stands : (r : Range) → map.get n first ≡ Some r → Stands new (parts n first (6 * (level - 1) + step) r (2 ^ (6 - step)))
  expand_stands r is =
      let low = level - 1 in
      let same = whole_order n first (6 * level) level whole r is in
      let l : level_of r.order ≡ level = ap level_of same ∙ whole.level_is in
      let count : 64 ≡ 2 ^ (r.order - 6 * low) = ap (λ e. 2 ^ e) (let e : 6 ≡ r.order - 6 * low = omega (arith, same, inner) in e) in
      let one = ap (λ e. 2 ^ e) (let e : r.order % 6 ≡ 0 = omega (arith, same) in e) in
      let q : Parts s new (level_of r.order) (first / 64 ^ level_of r.order) low (first / 64 ^ low) (2 ^ (r.order - 6 * low)) step =
      subst (λ z. Parts s new z (first / 64 ^ z) low (first / 64 ^ low) (2 ^ (r.order - 6 * low)) step) (sym l)
      (subst (λ b. Parts s new level (first / 64 ^ level) low b (2 ^ (r.order - 6 * low)) step) base_is
      (subst (λ n. Parts s new level (first / 64 ^ level) low (first / 64 ^ level * 64) n step) count p)) in
      subst (λ e. Stands new (parts n first (6 * low + step) r (2 ^ e))) (let e : r.order - (6 * low + step) ≡ 6 - step = omega (arith, same, inner, small) in e)
      (stands_parts s new n inv.stands first r is low step small (omega (arith, same, inner, small)) (λ differs. one) q)

  pub expand_now : (r : Range) → map.get n first ≡ Some r → ranges_of new ≡ parts n first (6 * (level - 1) + step) r (2 ^ (6 - step))
  expand_now r is = ranges-is new _ (expand_stands r is)

  pub expand_ranged : IsRanged new
  expand_ranged = is_ranged new _ (expand_stands whole.range whole.there)

-- ---- how many nodes

trees : (levels : ℕ) → 63 * tree_of levels + 1 ≡ 64 ^ levels
trees zero = refl
trees (suc levels) = let e = trees levels in let f = pow-suc 64 levels in omega (arith, e, f)

-- as the code computes it
pub nodes_are : (levels span : ℕ) → levels ≤ 10 → span < 6 → (1 * 2 ^ (6 * levels) % 2 ^ 64 - 1) / 63 * 2 ^ span % 2 ^ 64 ≡ 2 ^ span * tree_of levels
nodes_are levels span low small =
    let t = tree_of levels in
    let e : 1 * 2 ^ (6 * levels) % 2 ^ 64 - 1 ≡ t * 63 = ap (λ z. z - 1) (one_shl (6 * levels) 64 (omega (arith, low)) ∙ pow64 levels ∙ sym (trees levels)) ∙ omega arith in
    let f : (1 * 2 ^ (6 * levels) % 2 ^ 64 - 1) / 63 ≡ t = ap (λ z. z / 63) e ∙ mul-div_cancel t (omega arith) in
    let most : 64 ^ levels ≤ 64 ^ 10 = pow-le-pow_right {n = 64} (omega arith) low in
    let wide : 2 ^ span ≤ 2 ^ 5 = pow-le-pow_right {n = 2} (omega arith) {j = 5} (omega (arith, small)) in
    let up : t * 2 ^ span ≤ t * 32 = mul-le t (2 ^ span) t 32 (omega arith) (omega (arith, wide)) in
    let fits : t * 2 ^ span < 2 ^ 64 = let all = trees levels in omega (arith, up, most, all) in
    ap (λ z. z * 2 ^ span % 2 ^ 64) f ∙ mod-eq_of_lt fits ∙ mul_comm t (2 ^ span)

-- a node for each slot of a level, and those of the levels below
pub rooms : (from level low : ℕ) → low < level → 6 * level ≤ from → 2 ^ (from - 6 * level) * tree_of (level - low) ≡ 2 ^ (from - 6 * (level - 1)) * tree_of (level - 1 - low) + 2 ^ (from - 6 * level)
rooms from level low below fits =
    let n = 2 ^ (from - 6 * level) in
    let t = tree_of (level - 1 - low) in
    let tree : tree_of (level - low) ≡ 1 + 64 * t = ap tree_of (let e : level - low ≡ suc (level - 1 - low) = omega (arith, below) in e) in
    let wide : 2 ^ (from - 6 * (level - 1)) ≡ 64 * n = ap (λ k. 2 ^ k) (let e : from - 6 * (level - 1) ≡ 6 + (from - 6 * level) = omega (arith, below, fits) in e) ∙ pow-add 2 6 (from - 6 * level) in
    let e : n * (1 + 64 * t) ≡ 64 * n * t + n = omega arith in
    ap (λ z. n * z) tree ∙ e ∙ ap (λ z. z * t + n) (sym wide)

-- ---- level by level

pub row_of : (m now : Ranges) (first order count : ℕ) (r : Range) → now ≡ parts m first order r count → IsRow now first order count r
row_of m now first order count r is = record {
  each = λ i low. ap (λ z. map.get z (first + i * 2 ^ order)) is ∙ get-part m first order r count i low;
}

pub level_down : (m now new : Ranges) (first from order great : ℕ) (r : Range) → order ≤ great → great ≤ from → now ≡ parts m first great r (2 ^ (from - great)) → new ≡ parts now first order r (2 ^ (from - order)) → new ≡ parts m first order r (2 ^ (from - order))
level_down m now new first from order great r le top so_far is =
    let e : 2 ^ (from - great) * 2 ^ (great - order) ≡ 2 ^ (from - order) = sym (pow-add 2 (from - great) (great - order)) ∙ ap (λ k. 2 ^ k) (let e : from - great + (great - order) ≡ from - order = omega (arith, le, top) in e) in
    is
    ∙ ap (λ z. parts z first order r (2 ^ (from - order))) so_far
    ∙ parts_over m first order great r (2 ^ (from - great)) (2 ^ (from - order)) (within_parts first order great (2 ^ (from - great)) (2 ^ (from - order)) le (omega (arith, e)))

-- the same of an order that is written otherwise
pub parts_at : (m : Ranges) (first from a b : ℕ) (r : Range) → a ≡ b → parts m first a r (2 ^ (from - a)) ≡ parts m first b r (2 ^ (from - b))
parts_at m first from a b r same = ap (λ k. parts m first k r (2 ^ (from - k))) same
