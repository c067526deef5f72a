-- Lemmas on the entry at an index: no two levels have one.
use Rattle.std.proofs.Common.{◌≡◌, ◌≢◌, ℕ, ◌+◌, ◌-◌, ◌/◌, ◌%◌, ◌^◌, ◌<◌, ◌≤◌, ◌⊎◌, Option, Some, None, refl, sym, ap, ◌∙◌, inl, inr, arith}
use Rattle.std.proofs.lemmas.Bool.{cases_eq, cases_lt}
use Rattle.std.proofs.lemmas.Option.{none-some}
use Rattle.slab.specs.Slab.{Slab, get}
use Rattle.radix.specs.declared.node.Node.{Node}
use Rattle.radix.specs.declared.slot.Slot.{Slot}
use Rattle.radix.specs.declared.slot.Slot.TheVariants.{Empty, Leaf, Child, Sibling}
use Rattle.radix.specs.declared.entry.Entry.{Entry}
use Rattle.radix.specs.Entries.{slot, node_at, by_node, content, entry_at, IsFound, HasNoEntry, IsWalked, StandsAt}
use Rattle.radix.specs.Tree.{IsPlain, IsTree, HasCome, level_of}
use Rattle.radix.proofs.Places.{place-up, place-levels}
use Rattle.radix.proofs.TreeLemmas.{Found, node_at-found, node_at-none, same_node, level_below, lowest_plain, no_node, under_head}
use Rattle.radix.proofs.SeeLemmas.{see-is}
use Rattle.radix.proofs.WalkLemmas.{on_path, step}

module _ (s : Slab Node) (head : ℕ) (tree : IsTree s head) (index : ℕ) where
  module _ (key : ℕ) (n : Node) (here : get s key ≡ Some n) (path : n.prefix ≡ index / 64 ^ n.level / 64) where
    here_is : entry_at s n.level (index / 64 ^ n.level) ≡ content (slot n (index / 64 ^ n.level % 64))
    here_is = see-is (λ z i. content (slot z i)) None s head tree n.level (index / 64 ^ n.level) key n here refl path

    -- a slot around a node is a child's, or empty
    around : (other k : ℕ) (m : Node) → n.level < other → get s k ≡ Some m → m.level ≡ other → m.prefix ≡ index / 64 ^ other / 64 → (x : Slot) → slot m (index / 64 ^ other % 64) ≡ x → content x ≡ None
    around other k m high there l p Empty is = refl
    around other k m high there l p (Child c) is = refl
    around other k m high there l p (Leaf value) is = absurd (never (rw is tt))
      where
        never : IsPlain (slot m (index / 64 ^ other % 64)) → ⊥
        never plain =
            let d = other - n.level - 1 in
            let sum : n.level + 1 + d ≡ other = omega arith in
            let e : n.prefix / 64 ^ d ≡ index / 64 ^ other = ap (λ z. z / 64 ^ d) (path ∙ place-up index n.level) ∙ place-levels index (n.level + 1) d ∙ ap (λ z. index / 64 ^ z) sum in
            no_node s head tree d k m (index / 64 ^ other % 64) key n there (omega arith) plain here (omega (arith, l)) (omega (arith, e, p))
    around other k m high there l p (Sibling first) is = absurd (never (rw is tt))
      where
        never : IsPlain (slot m (index / 64 ^ other % 64)) → ⊥
        never plain =
            let d = other - n.level - 1 in
            let sum : n.level + 1 + d ≡ other = omega arith in
            let e : n.prefix / 64 ^ d ≡ index / 64 ^ other = ap (λ z. z / 64 ^ d) (path ∙ place-up index n.level) ∙ place-levels index (n.level + 1) d ∙ ap (λ z. index / 64 ^ z) sum in
            no_node s head tree d k m (index / 64 ^ other % 64) key n there (omega arith) plain here (omega (arith, l)) (omega (arith, e, p))

    above_empty : (other : ℕ) → n.level < other → (o : Option Node) → node_at s.slots other (index / 64 ^ other / 64) ≡ o → by_node (λ z i. content (slot z i)) None o (index / 64 ^ other % 64) ≡ None
    above_empty other high None e = refl
    above_empty other high (Some m) e =
        let f = node_at-found s.slots other (index / 64 ^ other / 64) m e in
        around other f.key m high f.there f.at_level f.at_prefix (slot m (index / 64 ^ other % 64)) refl

    pub above_none : (other : ℕ) → n.level < other → entry_at s other (index / 64 ^ other) ≡ None
    above_none other high = above_empty other high (node_at s.slots other (index / 64 ^ other / 64)) refl

    under_empty : (other : ℕ) → other < n.level → IsPlain (slot n (index / 64 ^ n.level % 64)) → entry_at s other (index / 64 ^ other) ≡ None
    under_empty other small plain =
        let d = n.level - other - 1 in
        let sum : other + 1 + d ≡ n.level = omega arith in
        let e : index / 64 ^ other / 64 / 64 ^ d ≡ index / 64 ^ n.level = ap (λ z. z / 64 ^ d) (place-up index other) ∙ place-levels index (other + 1) d ∙ ap (λ z. index / 64 ^ z) sum in
        let gone = node_at-none s.slots other (index / 64 ^ other / 64)
        (λ m f. no_node s head tree d key n (index / 64 ^ n.level % 64) f.key m here (omega arith) plain f.there (omega (arith, f.at_level)) (ap (λ z. z / 64 ^ d) f.at_prefix ∙ omega (arith, e, path))) in
        rw gone refl

    -- at any other level there is none
    pub elsewhere_empty : IsPlain (slot n (index / 64 ^ n.level % 64)) → (other : ℕ) → other ≢ n.level → entry_at s other (index / 64 ^ other) ≡ None
    elsewhere_empty plain other differs = elim (cases_lt other n.level) [
      | inl small ↦ under_empty other small plain
      | inr large ↦ above_none other (omega (arith, large, differs))
    ]

    pub found_none : slot n (index / 64 ^ n.level % 64) ≡ Empty → HasNoEntry s index
    found_none empty = record {
      each = λ level. elim (cases_eq level n.level) [
        | inl same ↦ rw same (here_is ∙ ap content empty)
        | inr differs ↦ elsewhere_empty (rw empty tt) level differs
      ];
    }

    plain_of : (y : Slot) (x : Entry) → content y ≡ Some x → IsPlain y
    plain_of Empty x e = tt
    plain_of (Leaf value) x e = tt
    plain_of (Child c) x e = absurd (none-some x e)
    plain_of (Sibling first) x e = tt

    pub found_some : (x : Entry) → content (slot n (index / 64 ^ n.level % 64)) ≡ Some x → IsFound s index n.level x
    found_some x is = record { entry = here_is ∙ is; others = elsewhere_empty (plain_of _ x is) }

  -- past the head there is none
  pub past_none : (top : Node) → get s head ≡ Some top → (top.level < 0) ⊎ (index / 64 ^ top.level / 64 ≢ 0) → HasNoEntry s index
  past_none top is_top why = record {
    each = λ level.
        let gone = node_at-none s.slots level (index / 64 ^ level / 64) (λ m f. beyond level m f) in
        rw gone refl;
  }
    where
      beyond : (level : ℕ) (m : Node) → Found s.slots level (index / 64 ^ level / 64) m → ⊥
      beyond level m f =
          let same : top ≡ tree.top = same_node s head head top tree.top refl is_top tree.is_head.there in
          let l = ap (λ (z : Node). z.level) same in
          let small = level_below s head tree f.key m f.there in
          let d = tree.top.level - level in
          let sum : level + 1 + d ≡ tree.top.level + 1 = omega (arith, small, f.at_level) in
          let e = under_head s head tree d f.key m f.there (omega (arith, small, f.at_level)) in
          let g : m.prefix / 64 ^ d ≡ index / 64 ^ tree.top.level / 64 = ap (λ z. z / 64 ^ d) (f.at_prefix ∙ place-up index level) ∙ place-levels index (level + 1) d ∙ ap (λ z. index / 64 ^ z) sum ∙ sym (place-up index tree.top.level) in
          let h : index / 64 ^ top.level ≡ index / 64 ^ tree.top.level = ap (λ z. index / 64 ^ z) l in
          let zero_here : index / 64 ^ top.level / 64 ≡ 0 = omega (arith, e, g, h) in
          elim why [ inl less ↦ absurd (omega arith) | inr not_zero ↦ not_zero zero_here ]

  -- as the code comes to it, with the level that the walk counted
  module _ (key : ℕ) (n : Node) (here : get s key ≡ Some n) (come : HasCome s key 0 index) (level : ℕ) (counted : level_of (get s key) ≡ level) where
    path : n.prefix ≡ index / 64 ^ n.level / 64
    path = on_path s head tree 0 index key n here come

    level_is : n.level ≡ level
    level_is = sym (ap level_of here) ∙ counted

    pub counted_low : level ≤ 10
    counted_low = let e = (tree.nodes key n here).level in omega (arith, e, level_is)

    pub find_stands : StandsAt s key level (index / 64 ^ level / 64)
    find_stands = record { node = n; there = here; level_is = level_is; prefix_is = path ∙ ap (λ l. index / 64 ^ l / 64) level_is }

    module _ (o : ℕ) (is_offset : o ≡ index / 64 ^ level % 64) where
      offset : o ≡ index / 64 ^ n.level % 64
      offset = is_offset ∙ ap (λ l. index / 64 ^ l % 64) (sym level_is)

      pub counted_inner : (c : ℕ) → slot n o ≡ Child c → 0 < level
      counted_inner c is = let h = tree.children key n o c here is in omega (arith, h.link.level, level_is)

      pub counted_step : (c : ℕ) → slot n o ≡ Child c → level_of (get s c) ≡ level - 1
      counted_step c is =
          let h = tree.children key n o c here is in
          let e : level_of (get s c) ≡ h.below.level = ap level_of h.there in
          omega (arith, e, h.link.level, level_is)

      pub find_step : (c : ℕ) → slot n o ≡ Child c → HasCome s c 0 index
      find_step c is = step s head tree 0 index key n here come c (λ flat. let h = counted_inner c is in omega (arith, h, level_is, flat)) (ap (slot n) (sym offset) ∙ is)

      find_none : content (slot n o) ≡ None → ((c : ℕ) → slot n o ≡ Child c → ⊥) → HasNoEntry s index
      find_none none never = by_slot (slot n o) refl
        where
          by_slot : (y : Slot) → slot n o ≡ y → HasNoEntry s index
          by_slot Empty e = found_none key n here path (ap (slot n) (sym offset) ∙ e)
          by_slot (Leaf value) e = absurd (none-some _ (sym none ∙ ap content e))
          by_slot (Child c) e = absurd (never c e)
          by_slot (Sibling first) e = absurd (none-some _ (sym none ∙ ap content e))

      find_some : (x : Entry) → content (slot n o) ≡ Some x → IsFound s index level x
      find_some x is = rw (sym level_is) (found_some key n here path x (ap (λ i. content (slot n i)) (sym offset) ∙ is))

      pub find_walked : ((c : ℕ) → slot n o ≡ Child c → ⊥) → (x : Option Entry) → content (slot n o) ≡ x → IsWalked s index level x
      find_walked never None is = find_none is never
      find_walked never (Some x) is = find_some x is

-- a node of the lowest level that has an index
module _ (s : Slab Node) (head : ℕ) (tree : IsTree s head) (index key : ℕ) (n : Node) (here : get s key ≡ Some n) (low : n.level ≡ 0) (at : n.prefix ≡ index / 64) where
  come : HasCome s key 0 index
  come =
      let place : index / 64 ^ 0 / 64 ≡ index / 64 = omega arith in
      record { node = n; there = here; above = omega arith; on_path = at ∙ sym place ∙ ap (λ l. index / 64 ^ l / 64) (sym low) }

  counted : level_of (get s key) ≡ 0
  counted = ap level_of here ∙ low

  pub low_walked : (x : Option Entry) → content (slot n (index % 64)) ≡ x → IsWalked s index 0 x
  low_walked x is = find_walked s head tree index key n here come 0 counted (index % 64) (omega arith) (λ c names. lowest_plain s head tree key n here low (index % 64) c names) x is

  pub low_stands : StandsAt s key 0 (index / 64 ^ 0 / 64)
  low_stands = find_stands s head tree index key n here come 0 counted
