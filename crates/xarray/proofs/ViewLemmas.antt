-- The finite map of the nodes is the array that stands in them.
use Rattle.std.proofs.Common.{◌≡◌, ◌≢◌, ℕ, suc, zero, ◌+◌, ◌*◌, ◌/◌, ◌%◌, ◌^◌, ◌<◌, ◌≤◌, ◌⊎◌, true, eqb, List, [], ◌∷◌, ◌++◌, get_or, Option, Some, None, refl, sym, ap, ◌∙◌, inl, inr, arith, eqb-true, subst}
use Rattle.std.specs.Ordering.{nat_cmp, eq_by_cmp}
use Rattle.std.specs.Cmp.{nat_cmp_total}
use Rattle.std.specs.FinMap as map
use Rattle.std.proofs.lemmas.Bool.{cases_eq, cases_Bool, cond-true, cond-false}
use Rattle.std.proofs.lemmas.Option.{none-some, same_Some}
use Rattle.std.proofs.lemmas.Nat.{div-add-mod'}
use Rattle.slab.specs.Slab.{Slab}
use Rattle.radix.specs.declared.node.Node.{Node}
use Rattle.radix.specs.declared.entry.Entry.{Entry}
use Rattle.radix.specs.declared.entry.Entry.TheVariants.{Leaf, Sibling}
use Rattle.radix.specs.Entries as radix
use Rattle.radix.specs.Entries.{node_at}
use Rattle.radix.proofs.TreeLemmas.{node_at-found}
use Rattle.xarray.specs.declared.entry.Mark.TheVariants.{M0, M1, M2}
use Rattle.xarray.specs.MarkedArray.{Range, Ranges}
use Rattle.xarray.specs.Standing.{Stands, level_of, place_of}
use Rattle.xarray.specs.View.{IsRanged, add, firsts, indexes, or_else, pick, range_at, range_from, range_in, range_of, ranges_of}
use Rattle.xarray.proofs.EntryLemmas.{eq_tie, tie_eq}
use Rattle.xarray.proofs.SpanLemmas.{level_low, placed}
use Rattle.xarray.proofs.StandLemmas.{aligned_at, leaf-is, order-is}

abbrev Among : ℕ → List ℕ → Type 0
Among q [] = ⊥
Among q (i ∷ is) = (q ≡ i) ⊎ Among q is

module _ {X : Type 0} (f : ℕ → Option X) where
  skip : (q i : ℕ) (o : Option X) (es : List (ℕ × X)) → q ≢ i → map.find nat_cmp q (add i o es) ≡ map.find nat_cmp q es
  skip q i None es differs = refl
  skip q i (Some v) es differs = elim (cases_Bool (eq_by_cmp nat_cmp q i)) [
    | inl e ↦ absurd (differs (tie_eq q i e))
    | inr e ↦ rw e refl
  ]

  hit : (q i : ℕ) (v : X) (es : List (ℕ × X)) → q ≡ i → map.find nat_cmp q (add i (Some v) es) ≡ Some v
  hit q i v es same = rw (eq_tie q i same) refl

  find-none : (is : List ℕ) (q : ℕ) → f q ≡ None → map.find nat_cmp q (pick f is) ≡ None
  find-none [] q none = refl
  find-none (i ∷ is) q none = elim (cases_eq q i) [
    | inl same ↦ ap (λ o. map.find nat_cmp q (add i o (pick f is))) (ap f (sym same) ∙ none) ∙ find-none is q none
    | inr differs ↦ skip q i (f i) (pick f is) differs ∙ find-none is q none
  ]

  find-some : (is : List ℕ) (q : ℕ) (v : X) → f q ≡ Some v → Among q is → map.find nat_cmp q (pick f is) ≡ Some v
  find-some [] q v some among = absurd among
  find-some (i ∷ is) q v some among = elim (cases_eq q i) [
    | inl same ↦ ap (λ o. map.find nat_cmp q (add i o (pick f is))) (ap f (sym same) ∙ some) ∙ hit q i v (pick f is) same
    | inr differs ↦ skip q i (f i) (pick f is) differs ∙ find-some is q v some (elim among [ inl e ↦ absurd (differs e) | inr later ↦ later ])
  ]

among_left : (q : ℕ) (xs ys : List ℕ) → Among q xs → Among q (xs ++ ys)
among_left q [] ys h = absurd h
among_left q (x ∷ xs) ys (inl e) = inl e
among_left q (x ∷ xs) ys (inr h) = inr (among_left q xs ys h)

among_right : (q : ℕ) (xs ys : List ℕ) → Among q ys → Among q (xs ++ ys)
among_right q [] ys h = h
among_right q (x ∷ xs) ys h = inr (among_right q xs ys h)

among_firsts : (n : Node) (count offset q : ℕ) → offset < count → q ≡ (n.prefix * 64 + offset) * 64 ^ n.level → Among q (firsts n count)
among_firsts n zero offset q low is = absurd (omega arith)
among_firsts n (suc count) offset q low is = elim (cases_eq offset count) [
  | inl e ↦ inl (is ∙ ap (λ z. (n.prefix * 64 + z) * 64 ^ n.level) e)
  | inr differs ↦ inr (among_firsts n count offset q (omega (arith, low, differs)) is)
]

among_indexes : (xs : List (Option Node)) (key : ℕ) (n : Node) (offset q : ℕ) → get_or xs key None ≡ Some n → offset < 64 → q ≡ (n.prefix * 64 + offset) * 64 ^ n.level → Among q (indexes xs)
among_indexes [] key n offset q at low is = absurd (none-some n at)
among_indexes (None ∷ xs) zero n offset q at low is = absurd (none-some n at)
among_indexes (None ∷ xs) (suc key) n offset q at low is = among_indexes xs key n offset q at low is
among_indexes (Some m ∷ xs) zero n offset q at low is =
    let e : n ≡ m = sym (same_Some m n at) in
    among_left q (firsts m 64) (indexes xs) (among_firsts m 64 offset q low (is ∙ ap (λ (z : Node). (z.prefix * 64 + offset) * 64 ^ z.level) e))
among_indexes (Some m ∷ xs) (suc key) n offset q at low is = among_right q (firsts m 64) (indexes xs) (among_indexes xs key n offset q at low is)

-- a leaf's first index is among those of the slots
module _ (s : Slab Node) (level place value : ℕ) (leaf : radix.entry_at s level place ≡ Some (Leaf value)) where
  pub leaf_among : Among (place * 64 ^ level) (indexes s.slots)
  leaf_among = by_node (node_at s.slots level (place / 64)) refl
    where
      by_node : (o : Option Node) → node_at s.slots level (place / 64) ≡ o → Among (place * 64 ^ level) (indexes s.slots)
      by_node None e = absurd (none-some (Leaf value) (let g : radix.entry_at s level place ≡ None = rw e refl in sym g ∙ leaf))
      by_node (Some n) e =
          let f = node_at-found s.slots level (place / 64) n e in
          let at : place ≡ n.prefix * 64 + place % 64 = let p = f.at_prefix in omega (arith, p) in
          among_indexes s.slots f.key n (place % 64) (place * 64 ^ level) f.there (omega arith) (ap (λ z. z * 64 ^ level) at ∙ ap (λ l. (n.prefix * 64 + place % 64) * 64 ^ l) (sym f.at_level))

module _ (s : Slab Node) (q : ℕ) where
  from-some : (level more : ℕ) (x : Range) → range_from s q level more ≡ Some x → (l : ℕ) × (range_in s q l ≡ Some x)
  from-some level zero x is = absurd (none-some x is)
  from-some level (suc more) x is = by_here (range_in s q level) refl (λ none. from-some (suc level) more x none)
    where
      by_here : (o : Option Range) → range_in s q level ≡ o → (range_from s q (suc level) more ≡ Some x → (l : ℕ) × (range_in s q l ≡ Some x)) → (l : ℕ) × (range_in s q l ≡ Some x)
      by_here None e later = later (sym (ap (λ o. or_else o (range_from s q (suc level) more)) e) ∙ is)
      by_here (Some y) e later = (level, e ∙ sym (ap (λ o. or_else o (range_from s q (suc level) more)) e) ∙ is)

  from-none : (level more : ℕ) → range_from s q level more ≡ None → (l : ℕ) → level ≤ l → l < level + more → range_in s q l ≡ None
  from-none level zero is l low high = absurd (omega (arith, low, high))
  from-none level (suc more) is l low high = by_here (range_in s q level) refl (λ none differs. from-none (suc level) more none l (omega (arith, low, differs)) (omega (arith, high)))
    where
      by_here : (o : Option Range) → range_in s q level ≡ o → (range_from s q (suc level) more ≡ None → l ≢ level → range_in s q l ≡ None) → range_in s q l ≡ None
      by_here None e later = elim (cases_eq l level) [
        | inl same ↦ ap (range_in s q) same ∙ e
        | inr differs ↦ later (sym (ap (λ o. or_else o (range_from s q (suc level) more)) e) ∙ is) differs
      ]
      by_here (Some y) e later = absurd (none-some y (sym is ∙ ap (λ o. or_else o (range_from s q (suc level) more)) e))

module _ (s : Slab Node) (m : Ranges) (stands : Stands s m) where
  range-here : (q : ℕ) (r : Range) → map.get m q ≡ Some r → range_in s q (level_of r.order) ≡ Some r
  range-here q r is =
      let w = 64 ^ level_of r.order in
      let f = (placed q r.order (aligned_at s m stands q r is)).first_is in
      let whole = div-add-mod' q w in
      let even : q % w ≡ 0 = omega (arith, f, whole) in
      let at = stands.each q r is in
      cond-true (eqb (q % w) 0) (range_of s (level_of r.order) (q / w) (radix.entry_at s (level_of r.order) (q / w))) None (ap (λ z. eqb z 0) even)
      ∙ ap (range_of s (level_of r.order) (place_of q r.order)) at.leaf
      ∙ (λ i. Some (record { order = order-is s m stands q r is i; value = r.value; first_mark = sym (at.marks M0) i; second_mark = sym (at.marks M1) i; third_mark = sym (at.marks M2) i }))

  range-back : (q level : ℕ) (x : Range) → range_in s q level ≡ Some x → map.get m q ≡ Some x
  range-back q level x is = elim (cases_Bool (eqb (q % w) 0)) [
    | inl even ↦ by_entry even (radix.entry_at s level (q / w)) refl (sym (cond-true (eqb (q % w) 0) _ None even) ∙ is)
    | inr odd ↦ absurd (none-some x (sym (cond-false (eqb (q % w) 0) (range_of s level (q / w) (radix.entry_at s level (q / w))) None odd) ∙ is))
  ]
    where
      w : ℕ
      w = 64 ^ level

      by_entry : eqb (q % w) 0 ≡ true → (o : Option Entry) → radix.entry_at s level (q / w) ≡ o → range_of s level (q / w) o ≡ Some x → map.get m q ≡ Some x
      by_entry even None e has = absurd (none-some x has)
      by_entry even (Some (Sibling first)) e has = absurd (none-some x has)
      by_entry even (Some (Leaf value)) e has =
          let t = leaf-is s m stands level (q / w) value e in
          let whole = div-add-mod' q w in
          let none = eqb-true (q % w) 0 even in
          let key : t.first ≡ q = omega (arith, t.first_is, whole, none) in
          let there : map.get m q ≡ Some t.range = ap (map.get m) (sym key) ∙ t.there in
          let here : range_in s q level ≡ Some t.range = ap (range_in s q) (sym t.level_is) ∙ range-here q t.range there in
          there ∙ sym here ∙ is

  range-at : (q : ℕ) → range_at s q ≡ map.get m q
  range-at q = by_view (range_at s q) refl
    where
      by_get : (o : Option Range) → map.get m q ≡ o → range_at s q ≡ None → ◌≡◌ {A = Option Range} None o
      by_get None has is = refl
      by_get (Some r) has is =
          let low = level_low r.order (stands.shape.order q r has) in
          absurd (none-some r (sym (from-none s q 0 11 is (level_of r.order) (omega arith) (omega (arith, low))) ∙ range-here q r has))

      by_view : (o : Option Range) → range_at s q ≡ o → o ≡ map.get m q
      by_view None is = by_get (map.get m q) refl is
      by_view (Some x) is = let f = from-some s q 0 11 x is in sym (range-back q f.0 x f.1)

  pub ranges-is : ranges_of s ≡ m
  unfolding ranges_of
  ranges-is =
      map.same_map nat_cmp_total map.nat_cmp-IsAntisymmetric (ranges_of s) m
      (λ q. map.get-from_entries nat_cmp_total (pick (range_at s) (indexes s.slots)) q ∙ by_get q (map.get m q) refl)
    where
      by_get : (q : ℕ) (o : Option Range) → map.get m q ≡ o → map.find nat_cmp q (pick (range_at s) (indexes s.slots)) ≡ o
      by_get q None is = find-none (range_at s) (indexes s.slots) q (range-at q ∙ is)
      by_get q (Some r) is =
          let f = (placed q r.order (aligned_at s m stands q r is)).first_is in
          find-some (range_at s) (indexes s.slots) q r (range-at q ∙ is)
          (subst (λ z. Among z (indexes s.slots)) (sym f) (leaf_among s (level_of r.order) (place_of q r.order) r.value (stands.each q r is).leaf))

  pub is_ranged : IsRanged s
  is_ranged = record { stands = subst (Stands s) (sym ranges-is) stands }
