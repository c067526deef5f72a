-- Lemmas on a walk from the head towards a slot.
use Rattle.std.proofs.Common.{◌≡◌, ◌≢◌, ℕ, ◌+◌, ◌-◌, ◌*◌, ◌/◌, ◌%◌, ◌^◌, ◌<◌, ◌≤◌, ◌⊎◌, Some, refl, sym, ap, ◌∙◌, inl, inr, arith}
use Rattle.slab.specs.Slab.{Slab, get}
use Rattle.radix.specs.declared.node.Node.{Node}
use Rattle.radix.specs.declared.slot.Slot.{Slot}
use Rattle.radix.specs.declared.slot.Slot.TheVariants.{Empty, Leaf, Child, Sibling}
use Rattle.radix.specs.Entries.{slot}
use Rattle.radix.specs.Tree.{IsPlain, IsTree, slot_at, level_of, HasCome}
use Rattle.radix.proofs.Places.{place-up, place-levels}
use Rattle.radix.proofs.TreeLemmas.{same_node, slot_at-is, slot_at-under, slot_at-past}

pub plain_from : (x : Slot) → ((key : ℕ) → x ≡ Child key → ⊥) → IsPlain x
plain_from Empty h = tt
plain_from (Leaf value) h = tt
plain_from (Child key) h = h key refl
plain_from (Sibling offset) h = tt

module _ (s : Slab Node) (head : ℕ) (tree : IsTree s head) (level index : ℕ) where
  pub start : (top : Node) → get s head ≡ Some top → level ≤ top.level → index / 64 ^ top.level / 64 ≡ 0 → HasCome s head level index
  start top there low within =
      let same : top ≡ tree.top = same_node s head head top tree.top refl there tree.is_head.there in
      let zero_prefix : top.prefix ≡ 0 = rw same tree.is_head.prefix in
      record { node = top; there = there; above = low; on_path = zero_prefix ∙ sym within }

  module _ (key : ℕ) (n : Node) (here : get s key ≡ Some n) (come : HasCome s key level index) where
    pub on_path : n.prefix ≡ index / 64 ^ n.level / 64
    on_path = rw (same_node s key key n come.node refl here come.there) come.on_path

    pub above : level ≤ n.level
    above = rw (same_node s key key n come.node refl here come.there) come.above

    pub found : n.level ≡ level → slot n (index / 64 ^ n.level % 64) ≡ slot_at s level (index / 64 ^ level)
    found is = rw (sym is) (sym (slot_at-is s head tree key n (index / 64 ^ n.level) here (sym on_path)))

    pub missed : n.level ≢ level → IsPlain (slot n (index / 64 ^ n.level % 64)) → slot_at s level (index / 64 ^ level) ≡ Empty
    missed differs plain =
        let d = n.level - level - 1 in
        let levels : n.level ≡ level + 1 + d = omega (arith, above) in
        let up : index / 64 ^ level / 64 / 64 ^ d ≡ n.prefix * 64 + index / 64 ^ n.level % 64 =
        rw (place-up index level, place-levels index (level + 1) d, sym levels) (omega (arith, on_path)) in
        slot_at-under s head tree key n (index / 64 ^ n.level % 64) d level (index / 64 ^ level) here (omega arith) plain levels up

    pub step : (child : ℕ) → n.level ≢ level → slot n (index / 64 ^ n.level % 64) ≡ Child child → HasCome s child level index
    step child differs names =
        let c = tree.children key n (index / 64 ^ n.level % 64) child here names in
        let place : index / 64 ^ c.below.level / 64 ≡ index / 64 ^ n.level = place-up index c.below.level ∙ ap (λ (l : ℕ). index / 64 ^ l) (sym c.link.level) in
        record { node = c.below; there = c.there; above = omega (arith, above, c.link.level); on_path = omega (arith, c.link.prefix, on_path, place) }

    pub lower : (child : ℕ) → slot n (index / 64 ^ n.level % 64) ≡ Child child → level_of (get s child) < level_of (get s key)
    lower child names =
        let c = tree.children key n (index / 64 ^ n.level % 64) child here names in
        rw (c.there, here) (omega (arith, c.link.level))

  -- the same where the walk counts the levels itself
  module _ (key : ℕ) (n : Node) (here : get s key ≡ Some n) (come : HasCome s key level index) (height : ℕ) (at : level_of (get s key) ≡ height) (o : ℕ) (is_offset : o ≡ index / 64 ^ height % 64) where
    level_is : n.level ≡ height
    level_is = sym (ap level_of here) ∙ at

    offset_is : o ≡ index / 64 ^ n.level % 64
    offset_is = is_offset ∙ ap (λ l. index / 64 ^ l % 64) (sym level_is)

    names_is : (x : Slot) → slot n o ≡ x → slot n (index / 64 ^ n.level % 64) ≡ x
    names_is x is = ap (slot n) (sym offset_is) ∙ is

    pub height_low : height ≤ 10
    height_low = let low = (tree.nodes key n here).level in omega (arith, low, level_is)

    pub come_at : (child : ℕ) → height ≢ level → slot n o ≡ Child child → HasCome s child level index
    come_at child differs names = step key n here come child (λ e. differs (sym level_is ∙ e)) (names_is (Child child) names)

    pub height_at : (child : ℕ) → slot n o ≡ Child child → level_of (get s child) ≡ height - 1
    height_at child names =
        let c = tree.children key n (index / 64 ^ n.level % 64) child here (names_is (Child child) names) in
        let e : level_of (get s child) ≡ c.below.level = ap level_of c.there in
        omega (arith, e, c.link.level, level_is)

    pub missed_at : height ≢ level → IsPlain (slot n o) → slot_at s level (index / 64 ^ level) ≡ Empty
    missed_at differs plain = missed key n here come (λ e. differs (sym level_is ∙ e)) (rw (sym offset_is) plain)

  pub past : (top : Node) → get s head ≡ Some top → (top.level < level) ⊎ (index / 64 ^ top.level / 64 ≢ 0) → slot_at s level (index / 64 ^ level) ≡ Empty
  past top there why =
      let same : top ≡ tree.top = same_node s head head top tree.top refl there tree.is_head.there in
      let levels : top.level ≡ tree.top.level = ap (λ (x : Node). x.level) same in
      let d = tree.top.level - level in
      slot_at-past s head tree level (index / 64 ^ level) d (λ low. omega arith)
      (λ low.
      let sum : level + 1 + d ≡ top.level + 1 = omega arith in
      let up : index / 64 ^ level / 64 / 64 ^ d ≡ index / 64 ^ top.level / 64 =
      rw (place-up index level, place-levels index (level + 1) d, sum) (sym (place-up index top.level)) in
      elim why [ inl under ↦ absurd (omega arith) | inr beyond ↦ λ e. beyond (sym up ∙ e) ])
