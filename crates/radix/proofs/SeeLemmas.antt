-- Lemmas on what the nodes stand for, when they change.
use Rattle.std.proofs.Common.{◌≡◌, ℕ, ◌/◌, ◌%◌, ◌⊎◌, Option, Some, None, refl, sym, ap, ◌∙◌, inl, inr}
use Rattle.std.proofs.lemmas.Option.{none-some}
use Rattle.slab.specs.Slab.{Slab, get}
use Rattle.radix.specs.declared.node.Node.{Node}
use Rattle.radix.specs.Entries.{node_at, by_node, see}
use Rattle.radix.specs.Tree.{IsTree}
use Rattle.radix.proofs.TreeLemmas.{node_at-found, node_at-some, node_at-is}

-- a node at a place, of which f sees this
pub record Sees {X : Type 0} (f : Node → ℕ → X) (s : Slab Node) (level prefix offset : ℕ) (value : X) : Type 0 where
  pub key : ℕ
  pub node : Node
  pub there : get s key ≡ Some node
  pub at_level : node.level ≡ level
  pub at_prefix : node.prefix ≡ prefix
  pub sees : f node offset ≡ value

module _ {X : Type 0} (f : Node → ℕ → X) (none : X) where
  pub see-is : (s : Slab Node) (head : ℕ) → IsTree s head → (level place key : ℕ) (n : Node) → get s key ≡ Some n → n.level ≡ level → n.prefix ≡ place / 64 → see f none s level place ≡ f n (place % 64)
  see-is s head tree level place key n there at_level at_prefix = rw (sym at_level, sym at_prefix, node_at-is s head tree key n there) refl

  -- f sees the same at a place
  module _ (old new : Slab Node) (h k : ℕ) (was : IsTree old h) (is : IsTree new k) (level place : ℕ) (has : (x : ℕ) (y : Node) → get old x ≡ Some y → y.level ≡ level → y.prefix ≡ place / 64 → Sees f new level (place / 64) (place % 64) (f y (place % 64))) (had : (x : ℕ) (y : Node) → get new x ≡ Some y → y.level ≡ level → y.prefix ≡ place / 64 → Sees f old level (place / 64) (place % 64) (f y (place % 64)) ⊎ (f y (place % 64) ≡ none)) where
    at_some : (n : Node) → node_at old.slots level (place / 64) ≡ Some n → see f none new level place ≡ see f none old level place
    at_some n e =
        let found = node_at-found old.slots level (place / 64) n e in
        let s = has found.key n found.there found.at_level found.at_prefix in
        see-is new k is level place s.key s.node s.there s.at_level s.at_prefix ∙ s.sees ∙ ap (λ o. by_node f none o (place % 64)) (sym e)

    at_none : (o : Option Node) → node_at new.slots level (place / 64) ≡ o → node_at old.slots level (place / 64) ≡ None → see f none new level place ≡ see f none old level place
    at_none None e gone = rw (e, gone) refl
    at_none (Some n) e gone =
        let found = node_at-found new.slots level (place / 64) n e in
        elim (had found.key n found.there found.at_level found.at_prefix) [
          | inl s ↦
              let some = node_at-some old.slots s.key s.node s.there in
              let never : None ≡ Some some.0 = sym gone ∙ ap (λ l. node_at old.slots l (place / 64)) (sym s.at_level) ∙ ap (λ p. node_at old.slots s.node.level p) (sym s.at_prefix) ∙ some.1 in
              absurd (none-some some.0 never)
          | inr empty ↦ rw (e, gone) empty
        ]

    by_cases : (o : Option Node) → node_at old.slots level (place / 64) ≡ o → see f none new level place ≡ see f none old level place
    by_cases None e = at_none (node_at new.slots level (place / 64)) refl e
    by_cases (Some n) e = at_some n e

    pub see-same : see f none new level place ≡ see f none old level place
    see-same = by_cases (node_at old.slots level (place / 64)) refl
