-- What stands at a slot, told by the array.
use Rattle.std.proofs.Common.{◌≡◌, ℕ, suc, zero, ◌+◌, ◌-◌, ◌*◌, ◌/◌, ◌%◌, ◌^◌, ◌<◌, ◌≤◌, Bool, true, false, Option, Some, None, sym, ap, ◌∙◌, inl, inr, arith, eqb-true}
use Rattle.std.specs.FinMap as map
use Rattle.std.proofs.lemmas.Bool.{cases_eq, cases_order, cond-true, cond-false, false_from_ne_true, true≢false}
use Rattle.std.proofs.lemmas.Option.{same_Some}
use Rattle.std.proofs.lemmas.Nat.{pow_below}
use Rattle.std.proofs.Math.Nat.{pow-le-pow_right, one-le-pow, mul-div_cancel}
use Rattle.slab.specs.Slab.{Slab}
use Rattle.radix.specs.declared.node.Node.{Node}
use Rattle.radix.specs.declared.entry.Entry.{Entry}
use Rattle.radix.specs.declared.entry.Entry.TheVariants.{Leaf, Sibling}
use Rattle.radix.specs.Entries as radix
use Rattle.xarray.specs.MarkedArray.{Range, Ranges}
use Rattle.xarray.specs.Standing.{IsAt, IsLeafOf, IsOwned, Stands, level_of, place_of, span_of}
use Rattle.xarray.specs.View.{climb, is_sibling, reaches}
use Rattle.xarray.proofs.SpanLemmas.{index_low, index_high, placed, pos64, span_small, span_some}

pub leaf≢sibling : (v f : ℕ) → ◌≡◌ {A = Option Entry} (Some (Leaf v)) (Some (Sibling f)) → ⊥
leaf≢sibling v f e = cc

pub sibling_here : (f : ℕ) (x : Option Entry) → x ≡ Some (Sibling f) → is_sibling f x ≡ true
sibling_here f x e = rw e (grind (arith))

pub named_here : (f : ℕ) (x : Option Entry) → is_sibling f x ≡ true → x ≡ Some (Sibling f)
named_here f None t = absurd (true≢false (sym t))
named_here f (Some (Leaf v)) t = absurd (true≢false (sym t))
named_here f (Some (Sibling g)) t = ap (λ (z : ℕ). Some (Sibling z)) (eqb-true g f t)

module _ (s : Slab Node) (m : Ranges) (stands : Stands s m) where
  pub aligned_at : (first : ℕ) (r : Range) → map.get m first ≡ Some r → first % 2 ^ r.order ≡ 0
  aligned_at first r is = stands.shape.aligned first r is

  -- slots of one level are of one entry where they are
  pub one_owner : (first other : ℕ) (r q : Range) (place : ℕ) → map.get m first ≡ Some r → map.get m other ≡ Some q → level_of r.order ≡ level_of q.order → place_of first r.order ≤ place → place < place_of first r.order + span_of r.order → place_of other q.order ≤ place → place < place_of other q.order + span_of q.order → first ≡ other
  one_owner first other r q place is has same low high from to =
      let w = 64 ^ level_of r.order in
      let index = place * w in
      let e : index / w ≡ place = mul-div_cancel place (pos64 (level_of r.order)) in
      let e' : index / 64 ^ level_of q.order ≡ place = ap (λ l. index / 64 ^ l) (sym same) ∙ e in
      let a = index_low first r.order (aligned_at first r is) index (omega (arith, low, e)) in
      let b = index_high first r.order (aligned_at first r is) index (omega (arith, high, e)) in
      let c = index_low other q.order (aligned_at other q has) index (omega (arith, from, e')) in
      let d = index_high other q.order (aligned_at other q has) index (omega (arith, to, e')) in
      elim (cases_order first other) [
        | inr (inl before) ↦ let x = stands.shape.disjoint first other r q is has before in absurd (omega (arith, x, b, c))
        | inl done ↦ done
        | inr (inr after) ↦ let x = stands.shape.disjoint other first q r has is after in absurd (omega (arith, x, a, d))
      ]

  -- the slot of an entry that is no first one names the first
  module _ (level place : ℕ) (own : IsOwned m level place) where
    here : (first : ℕ) (r : Range) → map.get m first ≡ Some r → IsAt s first r
    here = stands.each

    pub owner_first : (v : ℕ) → radix.entry_at s level place ≡ Some (Leaf v) → place ≡ place_of own.first own.range.order
    owner_first v leaf = elim (cases_eq place (place_of own.first own.range.order)) [
      | inl same ↦ same
      | inr differs ↦
          let l = own.level_is in
          let low = own.low in
          let high = own.high in
          let p = place_of own.first own.range.order in
          let e : p + (place - p) ≡ place = omega (arith, low) in
          let sib = (here own.first own.range own.there).rest (place - p) (omega (arith, low, differs)) (omega (arith, low, high)) in
          absurd (leaf≢sibling v (p % 64) (sym leaf ∙ ap (λ z. radix.entry_at s z place) (sym l) ∙ ap (λ z. radix.entry_at s (level_of own.range.order) z) (sym e) ∙ sib))
    ]

    pub owner_named : (f : ℕ) → radix.entry_at s level place ≡ Some (Sibling f) → (place_of own.first own.range.order < place) × (f ≡ place_of own.first own.range.order % 64)
    owner_named f sibling = elim (cases_eq place (place_of own.first own.range.order)) [
      | inl same ↦
          let leaf = (here own.first own.range own.there).leaf in
          absurd (leaf≢sibling own.range.value f (sym leaf ∙ ap (λ z. radix.entry_at s z (place_of own.first own.range.order)) own.level_is ∙ ap (λ z. radix.entry_at s level z) (sym same) ∙ sibling))
      | inr differs ↦
          let l = own.level_is in
          let low = own.low in
          let high = own.high in
          let p = place_of own.first own.range.order in
          let e : p + (place - p) ≡ place = omega (arith, low) in
          let sib = (here own.first own.range own.there).rest (place - p) (omega (arith, low, differs)) (omega (arith, low, high)) in
          let same : Some (Sibling f) ≡ Some (Sibling (p % 64)) = sym sibling ∙ ap (λ z. radix.entry_at s z place) (sym l) ∙ ap (λ z. radix.entry_at s (level_of own.range.order) z) (sym e) ∙ sib in
          (omega (arith, low, differs), cc)
    ]

  -- ---- the order of an entry

  module _ (first : ℕ) (r : Range) (is : map.get m first ≡ Some r) where
    abbrev pub l : ℕ
    l = level_of r.order

    abbrev pub p : ℕ
    p = place_of first r.order

    some_step : (step : ℕ) → 0 < 2 ^ step
    some_step step = one-le-pow step 2 (omega arith)

    -- the slot so many after the first is its sibling exactly where the entry has it
    pub reached : (step : ℕ) → step < r.order % 6 → reaches s l p step ≡ true
    reached step low = sibling_here (p % 64) _ ((stands.each first r is).rest (2 ^ step) (some_step step) (pow_below step (r.order % 6) low))

    pub not_reached : (step : ℕ) → step < 6 → r.order % 6 ≤ step → reaches s l p step ≡ false
    not_reached step small high = false_from_ne_true _ (λ t.
        let e = named_here (p % 64) _ t in
        let own = stands.owned l (p + 2 ^ step) (Sibling (p % 64)) e in
        let named = owner_named l (p + 2 ^ step) own (p % 64) e in
        let width : span_of r.order ≤ 2 ^ step = pow-le-pow_right {n = 2} (omega arith) high in
        let most : 2 ^ step ≤ 32 = pow-le-pow_right {n = 2} (omega arith) {j = 5} (omega (arith, small)) in
        let span = span_small own.range.order in
        let q = place_of own.first own.range.order in
        let to = own.high in
        let same : q ≡ p = omega (arith, named.0, named.1, most, span, to, some_step step) in
        let owner = one_owner first own.first r own.range p is own.there (sym own.level_is) (omega arith) (omega (arith, span_some r.order)) (omega (arith, same)) (omega (arith, same, span_some own.range.order)) in
        let range : r ≡ own.range = same_Some r own.range (sym is ∙ ap (map.get m) owner ∙ own.there) in
        let spans : span_of r.order ≡ span_of own.range.order = ap (λ (z : Range). span_of z.order) range in
        omega (arith, to, same, spans, width))

    climbs : (test : ℕ → Bool) (e step more : ℕ) → step ≤ e → e ≤ step + more → ((i : ℕ) → i < e → test i ≡ true) → test e ≡ false → climb test step more ≡ e
    climbs test e step zero low high yes_below no_at = omega (arith, low, high)
    climbs test e step (suc more) low high yes_below no_at = elim (cases_eq step e) [
      | inl same ↦ cond-false (test step) (climb test (suc step) more) step (ap test same ∙ no_at) ∙ same
      | inr differs ↦ cond-true (test step) (climb test (suc step) more) step (yes_below step (omega (arith, low, differs))) ∙ climbs test e (suc step) more (omega (arith, low, differs)) (omega (arith, high)) yes_below no_at
    ]

    pub order-is : 6 * l + climb (reaches s l p) 0 6 ≡ r.order
    order-is =
        let c = climbs (reaches s l p) (r.order % 6) 0 6 (omega arith) (omega arith) reached (not_reached (r.order % 6) (omega arith) (omega arith)) in
        omega (arith, c)

module _ (s : Slab Node) (m : Ranges) (stands : Stands s m) where
  pub leaf-is : (level place v : ℕ) → radix.entry_at s level place ≡ Some (Leaf v) → IsLeafOf m level place v
  leaf-is level place v leaf =
      let own = stands.owned level place (Leaf v) leaf in
      let at = owner_first s m stands level place own v leaf in
      let here = (stands.each own.first own.range own.there).leaf in
      let same : Some (Leaf own.range.value) ≡ Some (Leaf v) = sym here ∙ ap (λ l. radix.entry_at s l (place_of own.first own.range.order)) own.level_is ∙ ap (radix.entry_at s level) (sym at) ∙ leaf in
      let f = (placed own.first own.range.order (aligned_at s m stands own.first own.range own.there)).first_is in
      record {
        first = own.first;
        range = own.range;
        there = own.there;
        level_is = own.level_is;
        place_is = sym at;
        value_is = same_leaf own.range.value v same;
        first_is = f ∙ ap (λ z. z * 64 ^ level_of own.range.order) (sym at) ∙ ap (λ l. place * 64 ^ l) own.level_is;
      }
    where
      same_leaf : (a b : ℕ) → ◌≡◌ {A = Option Entry} (Some (Leaf a)) (Some (Leaf b)) → a ≡ b
      same_leaf a b e = cc
