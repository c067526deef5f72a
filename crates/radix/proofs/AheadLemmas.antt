-- Lemmas on the next entry with a mark, where the node above the one before is known.
use Rattle.std.proofs.Common.{◌≡◌, ℕ, Bool, false, Option, ◌+◌, ◌*◌, ◌/◌, ◌%◌, ◌^◌, ◌<◌, Some, None, refl, sym, ap, ◌∙◌, subst, arith, eqb, eq-eqb}
use Rattle.std.specs.Int.{bit_at}
use Rattle.std.proofs.lemmas.Option.{same_Some}
use Rattle.slab.specs.Slab.{Slab, get, ContainsKey}
use Rattle.radix.specs.declared.node.Node.{Node}
use Rattle.radix.specs.declared.slot.Slot.TheVariants.{Leaf, Child}
use Rattle.radix.specs.Bitmap.{IsLowestFrom, NoneFrom}
use Rattle.radix.specs.Entries.{HasNoHeld, HasNoMarkedAt, IsAlone, IsNext, IsNextAt, StandsAt, bits, content, entry_at, slot}
use Rattle.radix.specs.Tree.{HasClimbed, IsAhead, IsSound, IsTrail, IsTree}
use Rattle.radix.proofs.ClimbLemmas.{climb_ahead, climb_begins, climb_up}
use Rattle.radix.proofs.NextLemmas.{child_bits, in_node, under_down, under_next}
use Rattle.radix.proofs.RunLemmas.{not_further}
use Rattle.radix.proofs.SeeLemmas.{see-is}
use Rattle.radix.proofs.TreeLemmas.{contains_key, is_under, level_below, lowest_plain, parent_of, unique}

module _ (s : Slab Node) (head : ℕ) (sound : IsSound s head None) where
  -- a node of the lowest level that has a slot
  module _ (key place : ℕ) (n : Node) (stands : StandsAt s key 0 (place / 64)) (there : get s key ≡ Some n) where
    is_node : stands.node ≡ n
    is_node = same_Some stands.node n (sym stands.there ∙ there)

    is_low : n.level ≡ 0
    is_low = sym (ap (λ (z : Node). z.level) is_node) ∙ stands.level_is

    on_path : n.prefix ≡ place / 64
    on_path = sym (ap (λ (z : Node). z.prefix) is_node) ∙ stands.prefix_is

    pub at_leaf : (mark from value : ℕ) → IsNext s mark from 0 place → slot n (place % 64) ≡ Leaf value → IsNextAt s mark from place value
    at_leaf mark from value next leaf = record {
      next = next;
      entry = see-is (λ z i. content (slot z i)) None s head sound.tree 0 place key n there is_low on_path ∙ ap content leaf;
    }

    -- where an entry or a node begins at the next slot
    pub at_alone : (place % 64 < 63 → bit_at (bits n 3) (place % 64 + 1) ≡ 1) → IsAlone s place
    at_alone begins = record {
      each = λ first inner has.
          let at : place + 1 ≡ place / 64 * 64 + (place % 64 + 1) = omega arith in
          not_further s head sound 0 place key (place % 64 + 1) n stands there (omega (arith, inner)) (eqb (bit_at (bits n 3) (place % 64 + 1)) 1) refl (eq-eqb _ 1 (begins inner)) first (ap (entry_at s 0) (sym at) ∙ has);
    }

    module _ (mark : ℕ) (low : mark < 4) (from : ℕ) (after : from ≡ place + 1) where
      begun : HasClimbed s mark from key (place % 64)
      begun = climb_begins s mark from key 0 place stands (let e : (place + 1) * 64 ^ 0 ≡ place + 1 = omega arith in after ∙ sym e)

      -- the next one is in the node
      pub near_next : (o : ℕ) → IsLowestFrom (bits n mark) (place % 64 + 1) o → IsNext s mark from 0 (place / 64 * 64 + o)
      near_next o is =
          let ahead = climb_ahead s head sound mark low from key (place % 64) n there begun o is in
          let next = under_next s head sound mark low from key o n there ahead (λ c. lowest_plain s head sound.tree key n there is_low o c) in
          subst (λ l. IsNext s mark from l (place / 64 * 64 + o)) is_low (subst (λ p. IsNext s mark from n.level (p * 64 + o)) on_path next)

      -- it is not, and the search goes on above
      pub near_up : NoneFrom (bits n mark) (place % 64 + 1) → (above : ℕ) → StandsAt s above 1 (place / 64 / 64) → HasClimbed s mark from above (place / 64 % 64)
      near_up none above up =
          let top = level_below s head sound.tree above up.node up.there in
          let p = parent_of s head sound.tree key n there (let e = up.level_is in omega (arith, is_low, top, e)) in
          let keys = unique s head sound.tree p.key above p.above up.node p.there up.there (let e = up.level_is in let f = p.link.level in omega (arith, e, f, is_low)) (let e = up.prefix_is in let f = p.link.prefix in let w = p.link.within in omega (arith, e, f, w, on_path)) in
          subst (λ k. HasClimbed s mark from k (place / 64 % 64)) keys
          (subst (λ o. HasClimbed s mark from p.key (o % 64)) on_path (climb_up s head sound mark low from key (place % 64) n there begun none p.key p.link.parent))

  -- a node of level 1 to whose slot a search has gone up
  module _ (mark : ℕ) (low : mark < 4) (from above place : ℕ) (n : Node) (stands : StandsAt s above 1 (place / 64)) (there : get s above ≡ Some n) (climbed : HasClimbed s mark from above (place % 64)) (o : ℕ) (is : IsLowestFrom (bits n mark) (place % 64 + 1) o) (child : ℕ) (names : slot n o ≡ Child child) where
    same : stands.node ≡ n
    same = same_Some stands.node n (sym stands.there ∙ there)

    ahead : IsAhead s mark from above o
    ahead = climb_ahead s head sound mark low from above (place % 64) n there climbed o is

    pub under_there : ContainsKey s child
    under_there = let h = sound.tree.children above n o child there names in contains_key s child h.below h.there

    module _ (b : Node) (below : get s child ≡ Some b) where
      child_low : b.level ≡ 0
      child_low =
          let h = sound.tree.children above n o child there names in
          let e = ap (λ (z : Node). z.level) (same_Some h.below b (sym h.there ∙ below)) in
          let f = ap (λ (z : Node). z.level) same in
          let g = stands.level_is in
          let l = h.link.level in
          omega (arith, e, f, g, l)

      child_path : b.prefix ≡ place / 64 * 64 + o
      child_path =
          let h = sound.tree.children above n o child there names in
          let e = ap (λ (z : Node). z.prefix) (same_Some h.below b (sym h.there ∙ below)) in
          let f = ap (λ (z : Node). z.prefix) same in
          let g = stands.prefix_is in
          let l = h.link.prefix in
          omega (arith, e, f, g, l)

      pub under_some : 0 < bits b mark
      under_some = child_bits s head sound mark low from above o n there ahead child b names below

      pub under_lowest : (l : ℕ) → IsLowestFrom (bits b mark) 0 l → IsNext s mark from 0 ((place / 64 * 64 + o) * 64 + l)
      under_lowest l first =
          let next = under_next s head sound mark low from child l b below (under_down s head sound mark low from above o n there ahead child b names below l first) (λ c. lowest_plain s head sound.tree child b below child_low l c) in
          subst (λ v. IsNext s mark from v ((place / 64 * 64 + o) * 64 + l)) child_low (subst (λ p. IsNext s mark from b.level (p * 64 + l)) child_path next)

      pub under_place : (l : ℕ) → l < 64 → StandsAt s child 0 (((place / 64 * 64 + o) * 64 + l) / 64)
      under_place l within = record { node = b; there = below; level_is = child_low; prefix_is = omega (arith, child_path, within) }

-- the node that a link names is above
pub above_stands : (s : Slab Node) (head : ℕ) → IsTree s head → (key level prefix : ℕ) (n : Node) → StandsAt s key level prefix → get s key ≡ Some n → (parent : ℕ) → n.parent ≡ Some parent → StandsAt s parent (level + 1) (prefix / 64)
above_stands s head tree key level prefix n stands there parent names =
    let u = is_under s head tree key n parent there names in
    let same = same_Some stands.node n (sym stands.there ∙ there) in
    let l : n.level ≡ level = sym (ap (λ (z : Node). z.level) same) ∙ stands.level_is in
    let p : n.prefix ≡ prefix = sym (ap (λ (z : Node). z.prefix) same) ∙ stands.prefix_is in
    record {
      node = u.above;
      there = u.there;
      level_is = let e = u.link.level in omega (arith, e, l);
      prefix_is = let e = u.link.prefix in let w = u.link.within in omega (arith, e, w, p);
    }

-- where the path of an index ends at a clear bit, no entry with the mark has the index at its first slot
pub unmarked_path : (s : Slab Node) (head : ℕ) (sound : IsSound s head None) (mark : ℕ) (low : mark < 4) (index key level : ℕ) (is_set : Bool) (best : Option (ℕ × ℕ)) → IsTrail s mark index key level is_set best → is_set ≡ false → HasNoHeld s mark index → HasNoMarkedAt s mark index
unmarked_path s head sound mark low index key level is_set best trail unset held = record {
  here = λ other marked.
      let at : trail.node.prefix ≡ index / 64 ^ trail.node.level / 64 = trail.on_path ∙ ap (λ l. index / 64 ^ l / 64) (sym trail.level_is) in
      let set = in_node s head sound mark low key trail.node other index trail.there at marked in
      trail.unset unset (ap (λ l. bit_at (bits trail.node mark) (index / 64 ^ l % 64)) (sym trail.level_is) ∙ set);
  held = held;
}
