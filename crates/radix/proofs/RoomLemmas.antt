-- Lemmas on the nodes that a path to a slot may need, and on the room for them.
use Rattle.std.proofs.Common.{◌≡◌, ◌≢◌, ℕ, ◌+◌, ◌-◌, ◌/◌, ◌^◌, ◌<◌, ◌≤◌, ◌⊎◌, Some, None, refl, sym, ap, ◌∙◌, inl, inr, arith, subst}
use Rattle.std.proofs.Math.Nat.{div-le_self}
use Rattle.std.proofs.lemmas.Bool.{cases_eq, cases_lt}
use Rattle.std.proofs.lemmas.Option.{none-some, same_Some}
use Rattle.slab.specs.Slab.{Slab, get, HasRoomFor, slab_len}
use Rattle.radix.specs.declared.node.Node.{Node}
use Rattle.radix.specs.Entries.{IsVoid, IsPathNeed, HasPathRoom}
use Rattle.radix.specs.Tree.{IsTree, IsHeight, level_of}
use Rattle.radix.proofs.Places.{place-up, place-levels}
use Rattle.radix.proofs.TreeLemmas.{same_node}

-- one head has an index at each level from such a one on
pub covers_up : (index low high : ℕ) → low ≤ high → index / 64 ^ low / 64 ≡ 0 → index / 64 ^ high / 64 ≡ 0
covers_up index low high le covers =
    let d = high - low in
    let sum : low + 1 + d ≡ high + 1 = omega (arith, le) in
    let e : index / 64 ^ high / 64 ≡ index / 64 ^ (low + 1) / 64 ^ d = place-up index high ∙ ap (λ z. index / 64 ^ z) (sym sum) ∙ sym (place-levels index (low + 1) d) in
    let f : index / 64 ^ (low + 1) / 64 ^ d ≤ index / 64 ^ (low + 1) = div-le_self (index / 64 ^ (low + 1)) (64 ^ d) in
    let g = place-up index low in
    omega (arith, e, f, g, covers)

pub height_is : (index level height : ℕ) → level ≤ height → index / 64 ^ height / 64 ≡ 0 → ((other : ℕ) → level ≤ other → other < height → index / 64 ^ other / 64 ≢ 0) → IsHeight index level height
height_is index level height low covers missed = record {
  low = low;
  covers = covers;
  lowest = λ other le is. elim (cases_lt other height) [ inl less ↦ absurd (missed other le less is) | inr more ↦ more ];
}

-- ---- where there is a head

module _ (s : Slab Node) (head : ℕ) (tree : IsTree s head) (top : Node) (there : get s head ≡ Some top) where
  no_parent : top.parent ≡ None
  no_parent = ap (λ (z : Node). z.parent) (same_Some top tree.top (sym there ∙ tree.is_head.there)) ∙ tree.is_head.parent

  pub only_head : (key : ℕ) (n : Node) → get s key ≡ Some n → n.parent ≡ None → n.level ≡ top.level
  only_head key n at none = elim (cases_eq key head) [
    | inl same ↦ ap (λ (z : Node). z.level) (same_node s key head n top same at there)
    | inr differs ↦ let p = tree.parents key n at differs in absurd (none-some p.key (sym none ∙ p.link.parent))
  ]

  module _ (index level lowest height : ℕ) (is : IsHeight index level lowest) (low : lowest ≤ height) (above : top.level ≤ height) where
    pub head_need : IsPathNeed s level index (height - top.level + (height - level))
    head_need = record {
      heads = height - top.level;
      height = height;
      low = omega (arith, is.low, low);
      covers = covers_up index lowest height low is.covers;
      first = λ void. absurd (none-some top (sym (void.each head) ∙ there));
      below = λ key n at none. let e = only_head key n at none in omega (arith, e, above);
      reach = λ key n at none. let e = only_head key n at none in omega (arith, e, above);
      sum = refl;
    }

    pub head_least : (height ≡ lowest) ⊎ (height ≡ top.level) → (need : ℕ) → IsPathNeed s level index need → height - top.level + (height - level) ≤ need
    head_least one need p =
        let a = p.below head top there no_parent in
        let b = p.reach head top there no_parent in
        let c = is.lowest p.height p.low p.covers in
        let high : height ≤ p.height = elim one [ inl e ↦ omega (arith, e, c) | inr e ↦ omega (arith, e, a) ] in
        omega (arith, b, high, p.sum, p.low)

  module _ (level index : ℕ) (room : HasPathRoom s level index) where
    pub down_room : HasRoomFor s (level_of (get s head) - level)
    down_room =
        let e : level_of (get s head) ≡ top.level = ap level_of there in
        let b = room.enough.below head top there no_parent in
        let r = room.room in
        omega (arith, e, b, r, room.enough.sum)

    pub not_high : (top.level < level) ⊎ (index / 64 ^ top.level / 64 ≢ 0) → top.level < room.enough.height
    not_high why =
        let b = room.enough.below head top there no_parent in
        elim (cases_eq top.level room.enough.height) [
          | inl same ↦ absurd (elim why [
            | inl less ↦ let l = room.enough.low in omega (arith, less, same, l)
            | inr beyond ↦ beyond (ap (λ l. index / 64 ^ l / 64) same ∙ room.enough.covers)
          ])
          | inr differs ↦ omega (arith, b, differs)
        ]

    pub one_room : top.level < room.enough.height → HasRoomFor s 1
    one_room more =
        let c = room.enough.reach head top there no_parent in
        let r = room.room in
        omega (arith, more, c, r, room.enough.sum)

    -- after a head was made
    pub next_room : top.level < room.enough.height → (t : Slab Node) (over : ℕ) → IsTree t over → level_of (get t over) ≡ level_of (get s head) + 1 → slab_len t ≡ slab_len s + 1 → t.capacity ≡ s.capacity → HasPathRoom t level index
    next_room more t over made higher len capacity =
        let c = room.enough.reach head top there no_parent in
        let l : made.top.level ≡ top.level + 1 = sym (ap level_of made.is_head.there) ∙ higher ∙ ap (λ z. z + 1) (ap level_of there) in
        let r = room.room in
        record {
          need = room.need - 1;
          enough = record {
            heads = room.enough.heads - 1;
            height = room.enough.height;
            low = room.enough.low;
            covers = room.enough.covers;
            first = λ void. absurd (none-some made.top (sym (void.each over) ∙ made.is_head.there));
            below = λ key n at none. let e = only_at key n at none in omega (arith, e, l, more);
            reach = λ key n at none. let e = only_at key n at none in omega (arith, e, l, c, more);
            sum = omega (arith, room.enough.sum, c, more);
          };
          room = omega (arith, r, len, capacity, room.enough.sum, c, more);
          keys = omega (arith, capacity, room.keys);
        }
      where
        only_at : (key : ℕ) (n : Node) → get t key ≡ Some n → n.parent ≡ None → n.level ≡ made.top.level
        only_at key n at none = elim (cases_eq key over) [
          | inl same ↦ ap (λ (z : Node). z.level) (same_node t key over n made.top same at made.is_head.there)
          | inr differs ↦ let p = made.parents key n at differs in absurd (none-some p.key (sym none ∙ p.link.parent))
        ]

-- ---- where there is none

module _ (s : Slab Node) (void : IsVoid s) (index level lowest : ℕ) (is : IsHeight index level lowest) where
  pub first_need : IsPathNeed s level index (1 + (lowest - level))
  first_need = record {
    heads = 1;
    height = lowest;
    low = is.low;
    covers = is.covers;
    first = λ v. omega arith;
    below = λ key n at none. absurd (none-some n (sym (void.each key) ∙ at));
    reach = λ key n at none. absurd (none-some n (sym (void.each key) ∙ at));
    sum = refl;
  }

  pub first_least : (need : ℕ) → IsPathNeed s level index need → 1 + (lowest - level) ≤ need
  first_least need p =
      let a = p.first void in
      let c = is.lowest p.height p.low p.covers in
      omega (arith, a, c, p.sum, p.low)

  pub first_room : HasPathRoom s level index → HasRoomFor s 1
  first_room room =
      let a = room.enough.first void in
      let r = room.room in
      omega (arith, a, r, room.enough.sum)

  -- after the first node was made
  pub rest_room : HasPathRoom s level index → (t : Slab Node) (key : ℕ) → level_of (get t key) ≡ lowest → slab_len t ≡ slab_len s + 1 → t.capacity ≡ s.capacity → HasRoomFor t (level_of (get t key) - level)
  rest_room room t key at len capacity =
      let a = room.enough.first void in
      let c = is.lowest room.enough.height room.enough.low room.enough.covers in
      let r = room.room in
      omega (arith, a, c, r, at, len, capacity, room.enough.sum)

-- ---- the capacity is no part of the need

pub roomy_need : (s t : Slab Node) (level index need : ℕ) → t ≡ record s { capacity = t.capacity } → IsPathNeed s level index need → IsPathNeed t level index need
roomy_need s t level index need kept p = let P : Slab Node → Type 0 = λ z. IsPathNeed z level index need in subst P (sym kept) (roomy t.capacity)
  where
    roomy : (capacity : ℕ) → IsPathNeed (record s { capacity = capacity }) level index need
    roomy capacity = record { heads = p.heads; height = p.height; low = p.low; covers = p.covers; first = λ void. p.first (record { each = void.each }); below = p.below; reach = p.reach; sum = p.sum }

pub room_enough : (s v : Slab Node) (level index need : ℕ) → s ≡ v → ((n : ℕ) → IsPathNeed s level index n → need ≤ n) → HasPathRoom v level index → HasRoomFor s need
room_enough s v level index need same least room =
    let r : HasPathRoom s level index = rw same room in
    let l = least r.need r.enough in
    let q = r.room in
    omega (arith, l, q)

pub keys_at : (s v t : Slab Node) (level index : ℕ) → s ≡ v → t ≡ s → HasPathRoom v level index → t.capacity < 2 ^ 62
keys_at s v t level index same kept room = rw (kept, same) (room.keys)
