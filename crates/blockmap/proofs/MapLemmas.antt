-- Which blocks the pages have, after each change of one page.
use Rattle.std.proofs.Common.{◌≡◌, ◌≢◌, ℕ, ◌||◌, ◌⊎◌, Bool, true, false, eqb, List, [], ◌∷◌, Option, Some, None, is_some, refl, sym, ap, ◌∙◌, inl, inr}
use Rattle.std.specs.List.{list_any}
use Rattle.std.specs.Ordering.{eq_by_cmp}
use Rattle.std.specs.FinMap as map
use Rattle.std.proofs.lemmas.Bool.{and_from, and_parts, cases_Bool, cond-false, cond-true, eq-eqb, eqb-true, false_from_ne_true, false≢true, or_cases, or_left, or_right, true≢false}
use Rattle.pc_types.specs.Spots.{Spot, place_cmp}
use Rattle.blockmap.specs.Blocks.{Spots, has_block, is_mapped, with_valid}
use Rattle.blockmap.proofs.PlaceLemmas.{places_antisymmetric, places_total, same_place}

-- ---- tests of lists

pub same_bool : (a b : Bool) → (a ≡ true → b ≡ true) → (b ≡ true → a ≡ true) → a ≡ b
same_bool true true f g = refl
same_bool true false f g = sym (f refl)
same_bool false true f g = g refl
same_bool false false f g = refl

pub any_weaker : {X : Type 0} (t f : X → Bool) → ((x : X) → t x ≡ true → f x ≡ true) → (xs : List X) → list_any t xs ≡ true → list_any f xs ≡ true
any_weaker t f w [] h = h
any_weaker t f w (x ∷ xs) h = elim (or_cases (t x) (list_any t xs) h) [
  | inl here ↦ or_left (f x) (list_any f xs) (w x here)
  | inr later ↦ or_right (f x) (list_any f xs) (any_weaker t f w xs later)
]

pub any_some : {X : Type 0} (f : X → Bool) → (xs : List X) → list_any f xs ≡ true → (x : X) × (f x ≡ true)
any_some f [] h = absurd (false≢true h)
any_some f (x ∷ xs) h = elim (or_cases (f x) (list_any f xs) h) [
  | inl here ↦ (x, here)
  | inr later ↦ any_some f xs later
]

pub any_alike : {X : Type 0} (f g : X → Bool) → ((x : X) → f x ≡ g x) → (xs : List X) → list_any f xs ≡ list_any g xs
any_alike f g e [] = refl
any_alike f g e (x ∷ xs) = λ i. e x i || any_alike f g e xs i

-- ---- places

pub tie_same : (p q : ℕ × ℕ) → eq_by_cmp place_cmp p q ≡ true → p ≡ q
tie_same p q t =
    let parts = and_parts (eqb p.0 q.0) (eqb p.1 q.1) (sym (same_place p.0 p.1 q.0 q.1) ∙ t) in
    λ i. (eqb-true p.0 q.0 parts.0 i, eqb-true p.1 q.1 parts.1 i)

pub same_tie : (p q : ℕ × ℕ) → p ≡ q → eq_by_cmp place_cmp p q ≡ true
same_tie p q e = same_place p.0 p.1 q.0 q.1 ∙ and_from (eqb p.0 q.0) (eqb p.1 q.1) (eq-eqb p.0 q.0 (ap (λ (x : ℕ × ℕ). x.0) e)) (eq-eqb p.1 q.1 (ap (λ (x : ℕ × ℕ). x.1) e))

pub apart_tie : (p q : ℕ × ℕ) → p ≢ q → eq_by_cmp place_cmp p q ≡ false
apart_tie p q differs = false_from_ne_true (eq_by_cmp place_cmp p q) (λ t. differs (tie_same p q t))

pub cases_place : (p q : ℕ × ℕ) → (p ≡ q) ⊎ (p ≢ q)
cases_place p q = elim (cases_Bool (eq_by_cmp place_cmp p q)) [
  | inl t ↦ inl (tie_same p q t)
  | inr f ↦ inr (λ e. true≢false (sym (same_tie p q e) ∙ f))
]

pub put_here : (m : Spots) (p : ℕ × ℕ) (s : Spot) → map.get (map.insert m p s) p ≡ Some s
put_here m p s = map.get-insert places_total m p s p ∙ cond-true (eq_by_cmp place_cmp p p) (Some s) (map.get m p) (same_tie p p refl)

pub put_there : (m : Spots) (p : ℕ × ℕ) (s : Spot) (q : ℕ × ℕ) → q ≢ p → map.get (map.insert m p s) q ≡ map.get m q
put_there m p s q differs = map.get-insert places_total m p s q ∙ cond-false (eq_by_cmp place_cmp q p) (Some s) (map.get m q) (apart_tie q p differs)

pub gone_here : (m : Spots) (p : ℕ × ℕ) → map.get (map.remove m p) p ≡ None
gone_here m p = map.get-remove places_total m p p ∙ cond-true (eq_by_cmp place_cmp p p) None (map.get m p) (same_tie p p refl)

pub gone_there : (m : Spots) (p q : ℕ × ℕ) → q ≢ p → map.get (map.remove m p) q ≡ map.get m q
gone_there m p q differs = map.get-remove places_total m p q ∙ cond-false (eq_by_cmp place_cmp q p) None (map.get m q) (apart_tie q p differs)

-- what is there is put there once more
pub put_same : (m : Spots) (p : ℕ × ℕ) (s : Spot) → map.get m p ≡ Some s → map.insert m p s ≡ m
put_same m p s there = map.same_map places_total places_antisymmetric (map.insert m p s) m (λ q. elim (cases_place q p) [
  | inl e ↦ ap (map.get (map.insert m p s)) e ∙ put_here m p s ∙ sym there ∙ sym (ap (map.get m) e)
  | inr differs ↦ put_there m p s q differs
])

-- what is not there is taken away
pub gone_same : (m : Spots) (p : ℕ × ℕ) → map.get m p ≡ None → map.remove m p ≡ m
gone_same m p none = map.same_map places_total places_antisymmetric (map.remove m p) m (λ q. elim (cases_place q p) [
  | inl e ↦ ap (map.get (map.remove m p)) e ∙ gone_here m p ∙ sym none ∙ sym (ap (map.get m) e)
  | inr differs ↦ gone_there m p q differs
])

-- what is so already is so once more
pub valid_same : (m : Spots) (p : ℕ × ℕ) (s : Spot) (valid : ℕ) → map.get m p ≡ Some s → s.valid ≡ valid → with_valid valid (map.get m p) p m ≡ m
valid_same m p s valid there is =
    ap (λ o. with_valid valid o p m) there
    ∙ (λ i. map.insert m p (record { block = s.block; valid = sym is i }))
    ∙ put_same m p s there

-- ---- who has a block

pub has_some : (o : Option Spot) (b : ℕ) → has_block o b ≡ true → is_some o ≡ true
has_some None b h = h
has_some (Some s) b h = refl

-- what holds at a place that has an entry is found among the keys
pub any_key : (m : Spots) (f : ℕ × ℕ → Bool) (p : ℕ × ℕ) → is_some (map.get m p) ≡ true → f p ≡ true → list_any f (map.keys m) ≡ true
any_key m f p there holds =
    any_weaker (eq_by_cmp place_cmp p) f (λ q t. ap f (sym (tie_same p q t)) ∙ holds) (map.keys m) (sym (map.contains_key-keys m p) ∙ there)

pub mapped_at : (m : Spots) (p : ℕ × ℕ) (b : ℕ) → has_block (map.get m p) b ≡ true → is_mapped m b ≡ true
mapped_at m p b h = any_key m (λ place. has_block (map.get m place) b) p (has_some (map.get m p) b h) h

pub at_mapped : (m : Spots) (b : ℕ) → is_mapped m b ≡ true → (p : ℕ × ℕ) × (has_block (map.get m p) b ≡ true)
at_mapped m b h = any_some (λ place. has_block (map.get m place) b) (map.keys m) h

pub not_mapped : (m : Spots) (p : ℕ × ℕ) (b : ℕ) → is_mapped m b ≡ false → has_block (map.get m p) b ≡ false
not_mapped m p b h = false_from_ne_true (has_block (map.get m p) b) (λ t. true≢false (sym (mapped_at m p b t) ∙ h))

pub has_here : (m : Spots) (p : ℕ × ℕ) (s : Spot) → map.get m p ≡ Some s → has_block (map.get m p) s.block ≡ true
has_here m p s is = ap (λ o. has_block o s.block) is ∙ eq-eqb s.block s.block refl

pub none_mapped : (b : ℕ) → is_mapped map.empty b ≡ false
none_mapped b = false_from_ne_true (is_mapped map.empty b) (λ t. let h = at_mapped map.empty b t in false≢true (sym (ap (λ o. has_block o b) (map.get-empty place_cmp h.0)) ∙ h.1))

-- a page without a block gets one
pub mapped-added : (m : Spots) (p : ℕ × ℕ) (s : Spot) (b : ℕ) → map.get m p ≡ None → is_mapped (map.insert m p s) b ≡ (eqb s.block b || is_mapped m b)
mapped-added m p s b none = same_bool (is_mapped (map.insert m p s) b) (eqb s.block b || is_mapped m b)
    (λ t.
    let h = at_mapped (map.insert m p s) b t in
    elim (cases_place h.0 p) [
      | inl e ↦ or_left (eqb s.block b) (is_mapped m b) (sym (ap (λ o. has_block o b) (ap (map.get (map.insert m p s)) e ∙ put_here m p s)) ∙ h.1)
      | inr differs ↦ or_right (eqb s.block b) (is_mapped m b) (mapped_at m h.0 b (sym (ap (λ o. has_block o b) (put_there m p s h.0 differs)) ∙ h.1))
    ])
    (λ t. elim (or_cases (eqb s.block b) (is_mapped m b) t) [
      | inl e ↦ mapped_at (map.insert m p s) p b (ap (λ o. has_block o b) (put_here m p s) ∙ e)
      | inr old ↦
          let h = at_mapped m b old in
          let differs : h.0 ≢ p = λ e. false≢true (sym (ap (λ o. has_block o b) (ap (map.get m) e ∙ none)) ∙ h.1) in
          mapped_at (map.insert m p s) h.0 b (ap (λ o. has_block o b) (put_there m p s h.0 differs) ∙ h.1)
    ])

-- what is told of a page's block changes
pub has-changed : (m : Spots) (p : ℕ × ℕ) (s t : Spot) (q : ℕ × ℕ) (b : ℕ) → map.get m p ≡ Some s → t.block ≡ s.block → has_block (map.get (map.insert m p t) q) b ≡ has_block (map.get m q) b
has-changed m p s t q b there same = elim (cases_place q p) [
  | inl e ↦
      ap (λ o. has_block o b) (ap (map.get (map.insert m p t)) e ∙ put_here m p t)
      ∙ ap (λ k. eqb k b) same
      ∙ sym (ap (λ o. has_block o b) (ap (map.get m) e ∙ there))
  | inr differs ↦ ap (λ o. has_block o b) (put_there m p t q differs)
]

pub mapped-changed : (m : Spots) (p : ℕ × ℕ) (s t : Spot) (b : ℕ) → map.get m p ≡ Some s → t.block ≡ s.block → is_mapped (map.insert m p t) b ≡ is_mapped m b
mapped-changed m p s t b there same = same_bool (is_mapped (map.insert m p t) b) (is_mapped m b)
    (λ u. let h = at_mapped (map.insert m p t) b u in mapped_at m h.0 b (sym (has-changed m p s t h.0 b there same) ∙ h.1))
    (λ u. let h = at_mapped m b u in mapped_at (map.insert m p t) h.0 b (has-changed m p s t h.0 b there same ∙ h.1))

-- no two pages have one block
pub record AreAlone (m : Spots) : Type 0 where
  pub each : (p q : ℕ × ℕ) (b : ℕ) → has_block (map.get m p) b ≡ true → has_block (map.get m q) b ≡ true → p ≡ q

-- a page's block goes
pub has-removed : (m : Spots) (p q : ℕ × ℕ) (b : ℕ) → has_block (map.get (map.remove m p) q) b ≡ true → (q ≢ p) × (has_block (map.get m q) b ≡ true)
has-removed m p q b h =
    let differs : q ≢ p = λ e. false≢true (sym (ap (λ o. has_block o b) (ap (map.get (map.remove m p)) e ∙ gone_here m p)) ∙ h) in
    (differs, sym (ap (λ o. has_block o b) (gone_there m p q differs)) ∙ h)

pub unmapped : (m : Spots) (p : ℕ × ℕ) (s : Spot) → AreAlone m → map.get m p ≡ Some s → is_mapped (map.remove m p) s.block ≡ false
unmapped m p s alone there = false_from_ne_true (is_mapped (map.remove m p) s.block) (λ t.
    let h = at_mapped (map.remove m p) s.block t in
    let k = has-removed m p h.0 s.block h.1 in
    k.0 (alone.each h.0 p s.block k.1 (has_here m p s there)))

pub mapped-others : (m : Spots) (p : ℕ × ℕ) (s : Spot) (b : ℕ) → map.get m p ≡ Some s → s.block ≢ b → is_mapped (map.remove m p) b ≡ is_mapped m b
mapped-others m p s b there differs = same_bool (is_mapped (map.remove m p) b) (is_mapped m b)
    (λ t. let h = at_mapped (map.remove m p) b t in mapped_at m h.0 b (has-removed m p h.0 b h.1).1)
    (λ t.
    let h = at_mapped m b t in
    let apart : h.0 ≢ p = λ e. differs (eqb-true s.block b (sym (ap (λ o. has_block o b) (ap (map.get m) e ∙ there)) ∙ h.1)) in
    mapped_at (map.remove m p) h.0 b (ap (λ o. has_block o b) (gone_there m p h.0 apart) ∙ h.1))
