-- What a slab is where a node came below another, as its child: the others stay, and the tree is one.
use Rattle.std.proofs.Common.{◌≡◌, ◌≢◌, ℕ, ◌%◌, ◌^◌, ◌<◌, ◌⊎◌, Some, None, refl, sym, ap, ◌∙◌, inl, inr, arith}
use Rattle.std.proofs.lemmas.Bool.{cases_eq}
use Rattle.std.proofs.lemmas.Option.{same_Some, none-some}
use Rattle.slab.specs.Slab.{Slab, get}
use Rattle.radix.specs.declared.node.Node.{Node}
use Rattle.radix.specs.declared.slot.Slot.TheVariants.{Child}
use Rattle.radix.specs.Entries.{slot}
use Rattle.radix.specs.Tree.{IsLink, HasChild, HasParent, IsNode, IsTree, HasBy}

-- the node keeps its place, its children and its bits
pub record Gains (old new : Node) : Type 0 where
  pub level : new.level ≡ old.level
  pub prefix : new.prefix ≡ old.prefix
  pub parent : new.parent ≡ old.parent
  pub marks : new.marks ≡ old.marks
  pub keeps : (offset child : ℕ) → slot old offset ≡ Child child → slot new offset ≡ Child child

pub relink : (key : ℕ) (above above' : Node) (offset : ℕ) (below below' : Node) → Gains above above' → Gains below below' → IsLink key above offset below → IsLink key above' offset below'
relink key above above' offset below below' up down link = record {
  parent = down.parent ∙ link.parent;
  level = omega (arith, up.level, down.level, link.level);
  prefix = omega (arith, up.prefix, down.prefix, link.prefix);
  within = link.within;
}

pub IsLink-at : (x key : ℕ) (y m : Node) (offset : ℕ) (below : Node) → x ≡ key → y ≡ m → IsLink key m offset below → IsLink x y offset below
IsLink-at x key y m offset below keys nodes link = rw (keys, nodes) link

-- node `key`, which was n and is m, has the new node `child`, which is b, at `place`
pub record Linked (old new : Slab Node) (head key : ℕ) (n m b : Node) (child place : ℕ) : Type 0 where
  pub tree_was : IsTree old head
  pub was : get old key ≡ Some n
  pub vacant : get old child ≡ None
  pub tiny : child < 2 ^ 62
  pub now : get new key ≡ Some m
  pub made : get new child ≡ Some b
  pub others : (x : ℕ) → x ≢ key → x ≢ child → get new x ≡ get old x
  pub gains : Gains n m
  pub link : IsLink key m (place % 64) b
  pub linked : slot m (place % 64) ≡ Child child
  pub same_slot : (o : ℕ) → o ≢ place % 64 → slot m o ≡ slot n o
  pub node_above : IsNode m
  pub node_below : IsNode b
  pub no_child : (o c : ℕ) → slot b o ≡ Child c → ⊥

pub Gains-refl : (x : Node) → Gains x x
Gains-refl x = record { level = refl; prefix = refl; parent = refl; marks = refl; keeps = λ o c names. names }

module _ {old new : Slab Node} {head key : ℕ} {n m b : Node} {child place : ℕ} (g : Linked old new head key n m b child place) where
  pub not_child : (x : ℕ) (y : Node) → get old x ≡ Some y → x ≢ child
  not_child x y at same = none-some y (sym g.vacant ∙ ap (get old) (sym same) ∙ at)

  -- an old node is there, with more
  pub kept : (x : ℕ) (y : Node) → get old x ≡ Some y → HasBy Gains new x y
  kept x y at = elim (cases_eq x key) [
    | inl same ↦
        let e : y ≡ n = same_Some y n (sym at ∙ ap (get old) same ∙ g.was) in
        record { node = m; there = ap (get new) same ∙ g.now; is = rw e g.gains }
    | inr differs ↦ record { node = y; there = g.others x differs (not_child x y at) ∙ at; is = Gains-refl y }
  ]

  -- what each node of the new slab is
  pub cases_new : (x : ℕ) (y : Node) → get new x ≡ Some y → ((x ≡ child) × (y ≡ b)) ⊎ (((x ≡ key) × (y ≡ m)) ⊎ ((x ≢ key) × (get old x ≡ Some y)))
  cases_new x y at = elim (cases_eq x child) [
    | inl same ↦ inl (same, same_Some y b (sym at ∙ ap (get new) same ∙ g.made))
    | inr apart ↦ elim (cases_eq x key) [
      | inl same ↦ inr (inl (same, same_Some y m (sym at ∙ ap (get new) same ∙ g.now)))
      | inr differs ↦ inr (inr (differs, sym (g.others x differs apart) ∙ at))
    ]
  ]

  nodes_new : (x : ℕ) (y : Node) → get new x ≡ Some y → IsNode y
  nodes_new x y at = elim (cases_new x y at) [
    | inl p ↦ rw (p.1) g.node_below
    | inr q ↦ elim q [ inl p ↦ rw (p.1) g.node_above | inr p ↦ g.tree_was.nodes x y p.1 ]
  ]

  children_new : (x : ℕ) (y : Node) (o c : ℕ) → get new x ≡ Some y → slot y o ≡ Child c → HasChild new x y o c
  children_new x y o c at names = elim (cases_new x y at) [
    | inl p ↦ absurd (g.no_child o c (ap (λ z. slot z o) (sym p.1) ∙ names))
    | inr q ↦ elim q [
      | inl p ↦ elim (cases_eq o (place % 64)) [
        | inl same ↦
            let e : Child child ≡ Child c = sym g.linked ∙ ap (slot m) (sym same) ∙ ap (λ z. slot z o) (sym p.1) ∙ names in
            let f : c ≡ child = cc in
            record { below = b; there = ap (get new) f ∙ g.made; link = rw (p.0, p.1, same) g.link }
        | inr differs ↦
            let h = g.tree_was.children key n o c g.was (sym (g.same_slot o differs) ∙ ap (λ z. slot z o) (sym p.1) ∙ names) in
            let k = kept c h.below h.there in
            record { below = k.node; there = k.there; link = IsLink-at x key y m o k.node p.0 p.1 (relink key n m o h.below k.node g.gains k.is h.link) }
      ]
      | inr p ↦
          let h = g.tree_was.children x y o c p.1 names in
          let k = kept c h.below h.there in
          record { below = k.node; there = k.there; link = relink x y y o h.below k.node (Gains-refl y) k.is h.link }
    ]
  ]

  parents_old : (x : ℕ) (y z : Node) → get old x ≡ Some y → Gains y z → x ≢ head → HasParent new x z
  parents_old x y z at gains below =
      let p = g.tree_was.parents x y at below in
      let k = kept p.key p.above p.there in
      record { key = p.key; above = k.node; offset = p.offset; there = k.there; names = k.is.keeps p.offset x p.names; link = relink p.key p.above k.node p.offset y z k.is gains p.link }

  parents_new : (x : ℕ) (y : Node) → get new x ≡ Some y → x ≢ head → HasParent new x y
  parents_new x y at below = elim (cases_new x y at) [
    | inl p ↦ rw (p.0, p.1) (record { key = key; above = m; offset = place % 64; there = g.now; names = g.linked; link = g.link })
    | inr q ↦ elim q [
      | inl p ↦ rw (p.0, p.1) (parents_old key n m g.was g.gains (λ e. below (p.0 ∙ e)))
      | inr p ↦ parents_old x y y p.1 (Gains-refl y) below
    ]
  ]

  pub tree_new : IsTree new head
  tree_new =
      let t = kept head g.tree_was.top g.tree_was.is_head.there in
      record {
        top = t.node;
        is_head = record { there = t.there; parent = t.is.parent ∙ g.tree_was.is_head.parent; prefix = t.is.prefix ∙ g.tree_was.is_head.prefix };
        nodes = nodes_new;
        children = children_new;
        parents = parents_new;
        small = λ x y at. elim (cases_new x y at) [
          | inl p ↦ rw (p.0) g.tiny
          | inr q ↦ elim q [ inl p ↦ rw (p.0) (g.tree_was.small key n g.was) | inr p ↦ g.tree_was.small x y p.1 ]
        ];
      }
