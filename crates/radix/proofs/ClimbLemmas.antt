-- Lemmas on a search that goes up from a slot, from node to node.
use Rattle.std.proofs.Common.{◌≡◌, ℕ, ◌+◌, ◌-◌, ◌*◌, ◌/◌, ◌%◌, ◌^◌, ◌<◌, ◌≤◌, Some, None, sym, ap, ◌∙◌, inl, inr, arith}
use Rattle.std.specs.Int.{bit_at}
use Rattle.std.proofs.lemmas.Bool.{cases_eq}
use Rattle.std.proofs.lemmas.Option.{none-some, same_Some}
use Rattle.std.proofs.Math.Nat.{le-div_iff_mul-le, one-le-pow}
use Rattle.slab.specs.Slab.{Slab, get}
use Rattle.radix.specs.declared.node.Node.{Node}
use Rattle.radix.specs.Bitmap.{IsLowestFrom, NoneFrom}
use Rattle.radix.specs.Entries.{bits, mark_at, HasNoNext, StandsAt}
use Rattle.radix.specs.Tree.{IsSound, IsAhead, HasClimbed, level_of}
use Rattle.radix.proofs.Places.{place-up}
use Rattle.radix.proofs.TreeLemmas.{is_under, same_node}
use Rattle.radix.proofs.NextLemmas.{first_mono, up_width, in_node, within_head}

-- where the search begins: the first index after a slot
pub climb_begins : (s : Slab Node) (mark from key level place : ℕ) → StandsAt s key level (place / 64) → from ≡ (place + 1) * 64 ^ level → HasClimbed s mark from key (place % 64)
climb_begins s mark from key level place stands is =
    let whole : stands.node.prefix * 64 + place % 64 ≡ place = omega (arith, stands.prefix_is) in
    record {
      node = stands.node;
      there = stands.there;
      within = omega arith;
      reach = let e : (stands.node.prefix * 64 + place % 64 + 1) * 64 ^ stands.node.level ≡ from = ap (λ z. (z + 1) * 64 ^ stands.node.level) whole ∙ ap (λ l. (place + 1) * 64 ^ l) stands.level_is ∙ sym is in omega (arith, e);
      each = λ other index le marked.
          let above : place + 1 ≤ index / 64 ^ level = (le-div_iff_mul-le {k = 64 ^ level} {x = place + 1} {y = index} (one-le-pow level 64 (omega arith))).1 (omega (arith, is, le)) in
          let at : index / 64 ^ stands.node.level ≡ index / 64 ^ level = ap (λ l. index / 64 ^ l) stands.level_is in
          omega (arith, whole, above, at);
    }

module _ (s : Slab Node) (head : ℕ) (sound : IsSound s head None) (mark : ℕ) (low : mark < 4) (from key offset : ℕ) (n : Node) (there : get s key ≡ Some n) (climbed : HasClimbed s mark from key offset) where
  is_node : climbed.node ≡ n
  is_node = same_Some climbed.node n (sym climbed.there ∙ there)

  reach : from ≤ (n.prefix * 64 + offset + 1) * 64 ^ n.level
  reach = rw is_node at climbed.reach

  each : (other index : ℕ) → from ≤ index → mark_at mark s other (index / 64 ^ other) ≡ 1 → n.prefix * 64 + offset < index / 64 ^ n.level
  each other index le marked = rw is_node at (climbed.each other index le marked)

  -- an entry with the mark that is under this node shows in its bits, after the slot
  bit_after : (other index : ℕ) → from ≤ index → mark_at mark s other (index / 64 ^ other) ≡ 1 → index / 64 ^ n.level / 64 ≡ n.prefix → (offset < index / 64 ^ n.level % 64) × (bit_at (bits n mark) (index / 64 ^ n.level % 64) ≡ 1)
  bit_after other index le marked under =
      let e = each other index le marked in
      (omega (arith, e, under), in_node s head sound mark low key n other index there (sym under) marked)

  -- a bit after the slot is the next one
  pub climb_ahead : (l : ℕ) → IsLowestFrom (bits n mark) (offset + 1) l → IsAhead s mark from key l
  climb_ahead l is = record {
    node = n;
    there = there;
    within = is.within;
    set = is.set;
    after = let a = is.above in let e = first_mono n.level (n.prefix * 64 + offset + 1) (n.prefix * 64 + l) (omega (arith, a)) in let r = reach in omega (arith, e, r);
    lowest = λ other index le marked. elim (cases_eq (index / 64 ^ n.level / 64) n.prefix) [
      | inl under ↦
          let b = bit_after other index le marked under in
          let not_lower : index / 64 ^ n.level % 64 < l → ⊥ = λ less. let z = is.lowest (index / 64 ^ n.level % 64) (let f = b.0 in omega (arith, f)) less in let f = b.1 in omega (arith, z, f) in
          omega (arith, not_lower, under)
      | inr differs ↦ let e = each other index le marked in let w = is.within in omega (arith, e, differs, w)
    ];
  }

  module _ (none : NoneFrom (bits n mark) (offset + 1)) where
    -- where there is none, no entry that counts is under this node
    beyond : (other index : ℕ) → from ≤ index → mark_at mark s other (index / 64 ^ other) ≡ 1 → n.prefix < index / 64 ^ n.level / 64
    beyond other index le marked = elim (cases_eq (index / 64 ^ n.level / 64) n.prefix) [
      | inl under ↦
          let b = bit_after other index le marked under in
          let z = none (index / 64 ^ n.level % 64) (let f = b.0 in omega (arith, f)) (omega arith) in
          absurd (let f = b.1 in omega (arith, z, f))
      | inr differs ↦ let e = each other index le marked in omega (arith, e, differs)
    ]

    -- and under the head there is none at all
    pub climb_ends : n.parent ≡ None → HasNoNext s mark from
    climb_ends top = record {
      each = λ other index le marked.
          let e = within_head s head sound mark low other index marked in
          let f = beyond other index le marked in
          let same = is_top in
          let l : index / 64 ^ n.level ≡ index / 64 ^ sound.tree.top.level = ap (λ (z : Node). index / 64 ^ z.level) same in
          omega (arith, e, f, l);
    }
      where
        is_top : n ≡ sound.tree.top
        is_top = elim (cases_eq key head) [
          | inl is ↦ same_node s key head n sound.tree.top is there sound.tree.is_head.there
          | inr not ↦ let p = sound.tree.parents key n there not in absurd (none-some p.key (sym top ∙ p.link.parent))
        ]

    module _ (parent : ℕ) (names : n.parent ≡ Some parent) where
      pub climb_up : HasClimbed s mark from parent (n.prefix % 64)
      climb_up =
          let u = is_under s head sound.tree key n parent there names in
          let whole : u.above.prefix * 64 + n.prefix % 64 ≡ n.prefix = let e = u.link.prefix in omega (arith, e) in
          record {
            node = u.above;
            there = u.there;
            within = omega arith;
            reach = up_reach u.above.level u.link.level (u.above.prefix * 64 + n.prefix % 64 + 1) (omega (arith, whole));
            each = λ other index le marked.
                let e = beyond other index le marked in
                let f : index / 64 ^ n.level / 64 ≡ index / 64 ^ u.above.level = place-up index n.level ∙ ap (λ l. index / 64 ^ l) (sym u.link.level) in
                omega (arith, e, f, whole);
          }
        where
          up_reach : (level : ℕ) → level ≡ n.level + 1 → (place : ℕ) → place ≡ n.prefix + 1 → from ≤ place * 64 ^ level
          up_reach level is place at =
              let e = first_mono n.level (n.prefix * 64 + offset + 1) ((n.prefix + 1) * 64) (let w = climbed.within in omega (arith, w)) in
              let f : (n.prefix + 1) * 64 * 64 ^ n.level ≡ place * 64 ^ level = up_width n.level (n.prefix + 1) ∙ ap (λ z. z * 64 ^ (n.level + 1)) (sym at) ∙ ap (λ l. place * 64 ^ l) (sym is) in
              let r = reach in
              omega (arith, e, f, r)

      pub climb_nearer : 10 - level_of (get s parent) < 10 - level_of (get s key)
      climb_nearer =
          let u = is_under s head sound.tree key n parent there names in
          let high = (sound.tree.nodes parent u.above u.there).level in
          rw (u.there, there) (let e = u.link.level in omega (arith, e, high))
