-- Views of which each part stands in one alone, after one view was changed, cut, or joined with another.
use Rattle.std.proofs.Common.{◌≡◌, ◌≢◌, ℕ, zero, suc, ◌⊎◌, List, [], ◌∷◌, ◌++◌, length, set, inl, inr, refl, sym, ap, ◌∙◌, subst, ⊎_elim}
use mathlib.Core.Option.{some, some-injective, some-ne-none}
use lib.ListN.{get_elem?}
use Rattle.atomic_table.proofs.Lists.{at_set}
use Rattle.deeds.specs.declared.views.View.{View}
use Rattle.deeds.specs.Rules.{Part, Has}

abbrev pub Alone : List View → Type 0
Alone vs = (p : Part) (i j : ℕ) (u v : View) → get_elem? vs i ≡ some u → get_elem? vs j ≡ some v → Has p u → Has p v
    → i ≡ j

abbrev pub Each : (View → Type 0) → List View → Type 0
Each P vs = (at : ℕ) (v : View) → get_elem? vs at ≡ some v → P v

-- nobody has the part
abbrev pub Nobody : Part → List View → Type 0
Nobody p vs = (i : ℕ) (u : View) → get_elem? vs i ≡ some u → Has p u → ⊥

at_push : (xs : List View) (y x : View) (k : ℕ) → get_elem? (xs ++ y ∷ []) k ≡ some x → (get_elem? xs k ≡ some x)
    ⊎ ((k ≡ length xs) × (y ≡ x))
at_push [] y x zero e = inr (refl, some-injective y x e)
at_push [] y x (suc k) e = absurd (some-ne-none x (sym e))
at_push (z ∷ xs) y x zero e = inl e
at_push (z ∷ xs) y x (suc k) e =
    ⊎_elim (λ (t : get_elem? xs k ≡ some x). inl t) (λ (t : (k ≡ length xs) × (y ≡ x)). inr (ap suc t.0, t.1))
    (at_push xs y x k e)

-- ---- a fact about each view

pub each_set : (P : View → Type 0) (vs : List View) (id : ℕ) (w : View) → P w
    → ((j : ℕ) (v : View) → j ≢ id → get_elem? vs j ≡ some v → P v) → Each P (set vs id w)
each_set P vs id w mine others j v e = ⊎_elim
    (λ (t : (j ≡ id) × (w ≡ v)). subst P t.1 mine)
    (λ (t : (j ≢ id) × (get_elem? vs j ≡ some v)). others j v t.0 t.1)
    (at_set vs id j w v e)

pub each_push : (P : View → Type 0) (vs : List View) (w : View) → Each P vs → P w → Each P (vs ++ w ∷ [])
each_push P vs w others mine j v e = ⊎_elim
    (λ (t : get_elem? vs j ≡ some v). others j v t)
    (λ (t : (j ≡ length vs) × (w ≡ v)). subst P t.1 mine)
    (at_push vs w v j e)

-- ---- one view changes, whose parts were its own or nobody's

pub alone_set : (vs : List View) (id : ℕ) (v w : View) → get_elem? vs id ≡ some v
    → ((p : Part) → Has p w → Has p v ⊎ Nobody p vs) → Alone vs → Alone (set vs id w)
alone_set vs id v w at own a p i j x y e f h k = ⊎_elim
    (λ (s : (i ≡ id) × (w ≡ x)). ⊎_elim
    (λ (t : (j ≡ id) × (w ≡ y)). s.0 ∙ sym t.0)
    (λ (t : (j ≢ id) × (get_elem? vs j ≡ some y)). ⊎_elim
    (λ (m : Has p v). s.0 ∙ a p id j v y at t.1 m k)
    (λ (m : Nobody p vs). absurd (m j y t.1 k))
    (own p (subst (Has p) (sym s.1) h)))
    (at_set vs id j w y f))
    (λ (s : (i ≢ id) × (get_elem? vs i ≡ some x)). ⊎_elim
    (λ (t : (j ≡ id) × (w ≡ y)). ⊎_elim
    (λ (m : Has p v). a p i id x v s.1 at h m ∙ sym t.0)
    (λ (m : Nobody p vs). absurd (m i x s.1 h))
    (own p (subst (Has p) (sym t.1) k)))
    (λ (t : (j ≢ id) × (get_elem? vs j ≡ some y)). a p i j x y s.1 t.1 h k)
    (at_set vs id j w y f))
    (at_set vs id i w x e)

-- ---- one view is cut in two

alone_push : (vs : List View) (w : View) → Alone vs → ((p : Part) → Has p w → Nobody p vs) → Alone (vs ++ w ∷ [])
alone_push vs w a fresh p i j x y e f h k = ⊎_elim
    (λ (s : get_elem? vs i ≡ some x). ⊎_elim
    (λ (t : get_elem? vs j ≡ some y). a p i j x y s t h k)
    (λ (t : (j ≡ length vs) × (w ≡ y)). absurd (fresh p (subst (Has p) (sym t.1) k) i x s h))
    (at_push vs w y j f))
    (λ (s : (i ≡ length vs) × (w ≡ x)). ⊎_elim
    (λ (t : get_elem? vs j ≡ some y). absurd (fresh p (subst (Has p) (sym s.1) h) j y t k))
    (λ (t : (j ≡ length vs) × (w ≡ y)). s.0 ∙ sym t.0)
    (at_push vs w y j f))
    (at_push vs w x i e)

pub alone_cut : (vs : List View) (id : ℕ) (v left right : View) → get_elem? vs id ≡ some v
    → ((p : Part) → Has p left → Has p v) → ((p : Part) → Has p right → Has p v)
    → ((p : Part) → Has p left → Has p right → ⊥) → Alone vs → Alone (set vs id left ++ right ∷ [])
alone_cut vs id v left right at l r apart a =
    alone_push (set vs id left) right (alone_set vs id v left at (λ p h. inl (l p h)) a)
    (λ p h i u e k. ⊎_elim
    (λ (t : (i ≡ id) × (left ≡ u)). apart p (subst (Has p) (sym t.1) k) h)
    (λ (t : (i ≢ id) × (get_elem? vs i ≡ some u)). t.0 (a p i id u v t.1 at k (r p h)))
    (at_set vs id i left u e))

-- ---- one view takes in another, of which nothing is left

module _ (vs : List View) (id other : ℕ) (v w both none : View) (at : get_elem? vs id ≡ some v)
    (there : get_elem? vs other ≡ some w) (own : (p : Part) → Has p both → Has p v ⊎ Has p w)
    (empty : (p : Part) → Has p none → ⊥) (a : Alone vs) where
  -- a part that a view has stands in the joined view, or in one that is neither of the two
  place : (p : Part) (i : ℕ) (u : View) → get_elem? (set (set vs id both) other none) i ≡ some u → Has p u
      → ((i ≡ id) × Has p both) ⊎ ((i ≢ id) × (i ≢ other) × (get_elem? vs i ≡ some u))
  place p i u e h = ⊎_elim
      (λ (t : (i ≡ other) × (none ≡ u)). absurd (empty p (subst (Has p) (sym t.1) h)))
      (λ (t : (i ≢ other) × (get_elem? (set vs id both) i ≡ some u)). ⊎_elim
      (λ (s : (i ≡ id) × (both ≡ u)). inl (s.0, subst (Has p) (sym s.1) h))
      (λ (s : (i ≢ id) × (get_elem? vs i ≡ some u)). inr (s.0, t.0, s.1))
      (at_set vs id i both u t.1))
      (at_set (set vs id both) other i none u e)

  not_both : (p : Part) (j : ℕ) (y : View) → Has p both → (j ≢ id) × (j ≢ other) × (get_elem? vs j ≡ some y) → Has p y → ⊥
  not_both p j y h t k = ⊎_elim
      (λ (m : Has p v). t.0 (a p j id y v t.2 at k m))
      (λ (m : Has p w). t.1 (a p j other y w t.2 there k m))
      (own p h)

  pub alone_join : Alone (set (set vs id both) other none)
  alone_join p i j x y e f h k = ⊎_elim
      (λ (s : (i ≡ id) × Has p both). ⊎_elim
      (λ (t : (j ≡ id) × Has p both). s.0 ∙ sym t.0)
      (λ (t : (j ≢ id) × (j ≢ other) × (get_elem? vs j ≡ some y)). absurd (not_both p j y s.1 t k))
      (place p j y f k))
      (λ (s : (i ≢ id) × (i ≢ other) × (get_elem? vs i ≡ some x)). ⊎_elim
      (λ (t : (j ≡ id) × Has p both). absurd (not_both p i x t.1 s h))
      (λ (t : (j ≢ id) × (j ≢ other) × (get_elem? vs j ≡ some y)). a p i j x y s.2 t.2 h k)
      (place p j y f k))
      (place p i x e h)

pub there_before : (vs : List View) (id other : ℕ) (both w : View) → ¬ (other ≡ id)
    → get_elem? (set vs id both) other ≡ some w → get_elem? vs other ≡ some w
there_before vs id other both w apart e = ⊎_elim (λ (t : (other ≡ id) × (both ≡ w)). absurd (apart t.0))
    (λ (t : (other ≢ id) × (get_elem? vs other ≡ some w)). t.1) (at_set vs id other both w e)
