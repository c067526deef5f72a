-- Lemmas on the search for the next entry with a mark.
use Rattle.std.proofs.Common.{◌≡◌, ◌≢◌, ℕ, zero, suc, ◌+◌, ◌-◌, ◌*◌, ◌/◌, ◌%◌, ◌^◌, ◌<◌, ◌≤◌, ◌⊎◌, MatchOption, min, Option, Some, None, refl, sym, ap, ◌∙◌, inl, inr, arith}
use Rattle.std.specs.Int.{bit_at}
use Rattle.std.proofs.lemmas.Bool.{cases_eq, cases_lt}
use Rattle.std.proofs.lemmas.Option.{same_Some}
use Rattle.std.proofs.Math.Nat.{div-le_of_le-mul, div-lt_iff_lt-mul, mul-le-mul_right, mul_assoc, mul_comm, one-le-pow, pow-suc}
use Rattle.slab.specs.Slab.{Slab, get}
use Rattle.radix.specs.declared.node.Node.{Node}
use Rattle.radix.specs.declared.slot.Slot.{Slot}
use Rattle.radix.specs.declared.slot.Slot.TheVariants.{Empty, Leaf, Child, Sibling}
use Rattle.radix.specs.Bitmap.{IsLowestFrom, NoneFrom}
use Rattle.radix.specs.Entries.{slot, bits, node_at, by_node, bit_of, mark_at, IsNext, HasNoNext, StandsAt}
use Rattle.radix.specs.Tree.{IsPlain, IsLeafSlot, IsSound, IsAhead, IsLater, IsNotAfter, LaterIfSome, IsCovered, HasLeft, better_of, level_of}
use Rattle.radix.proofs.Places.{place-up, place-down, place-levels, place-mono}
use Rattle.radix.proofs.TreeLemmas.{node_at-found, same_node, parent_of, level_below, unique, no_node, under_head}
use Rattle.radix.proofs.MarkLemmas.{some_bit}
use Rattle.radix.proofs.SeeLemmas.{see-is}

-- ---- indexes and the first ones of slots

-- an index that is not past the first one of a slot is not past the slot
pub from_first : (from level place : ℕ) → from ≤ place * 64 ^ level → from / 64 ^ level ≤ place
from_first from level place le = div-le_of_le-mul (64 ^ level) (let e : place * 64 ^ level ≡ 64 ^ level * place = mul_comm place (64 ^ level) in omega (arith, e, le))

-- a slot that comes after that of an index begins after it
pub first_past : (from level place : ℕ) → from / 64 ^ level < place → from ≤ place * 64 ^ level
first_past from level place less = let e = (div-lt_iff_lt-mul {k = 64 ^ level} {x = from} {y = place} (one-le-pow level 64 (omega arith))).0 less in omega (arith, e)

-- a later slot begins later
pub first_mono : (level a b : ℕ) → a ≤ b → a * 64 ^ level ≤ b * 64 ^ level
first_mono level a b le = mul-le-mul_right (64 ^ level) le

-- a slot has as many indexes as the 64 slots below it
pub up_width : (level place : ℕ) → place * 64 * 64 ^ level ≡ place * 64 ^ (level + 1)
up_width level place =
    let one : level + 1 ≡ suc level = omega arith in
    rw (one, pow-suc 64 level, mul_comm (64 ^ level) 64) (mul_assoc place 64 (64 ^ level))

-- the slots of a node below begin at its slot or later
first_under : (from level place prefix offset : ℕ) → prefix ≡ place → {w : ℕ} → w ≡ place * 64 ^ (level + 1) → from ≤ w → from ≤ (prefix * 64 + offset) * 64 ^ level
first_under from level place prefix offset same is le =
    let e = up_width level place in
    let f = first_mono level (place * 64) (prefix * 64 + offset) (omega (arith, same)) in
    omega (arith, is, le, e, f)

-- an entry with a mark
pub record HasMark (s : Slab Node) (mark level place : ℕ) : Type 0 where
  pub key : ℕ
  pub node : Node
  pub there : get s key ≡ Some node
  pub at_level : node.level ≡ level
  pub at_prefix : node.prefix ≡ place / 64
  pub leaf : IsLeafSlot (slot node (place % 64))
  pub set : bit_at (bits node mark) (place % 64) ≡ 1

leaf_plain : (x : Slot) → IsLeafSlot x → IsPlain x
leaf_plain Empty h = absurd h
leaf_plain (Leaf value) h = tt
leaf_plain (Child key) h = absurd h
leaf_plain (Sibling first) h = absurd h

module _ (s : Slab Node) (head : ℕ) (sound : IsSound s head None) (mark : ℕ) (low : mark < 4) where
  mark_slot : (n : Node) (key o : ℕ) → get s key ≡ Some n → o < 64 → (x : Slot) → slot n o ≡ x → bit_of x (bit_at (bits n mark) o) ≡ 1 → IsLeafSlot x × (bit_at (bits n mark) o ≡ 1)
  mark_slot n key o there within Empty is e = absurd (omega (arith, e))
  mark_slot n key o there within (Leaf value) is e = (tt, e)
  mark_slot n key o there within (Child c) is e = absurd (omega (arith, e))
  mark_slot n key o there within (Sibling first) is e = absurd (let f = ((sound.exact mark low).each key n there).sibling o first within is in omega (arith, e, f))

  mark_node : (level place : ℕ) (o : Option Node) → node_at s.slots level (place / 64) ≡ o → by_node (λ n o. bit_of (slot n o) (bit_at (bits n mark) o)) 0 o (place % 64) ≡ 1 → HasMark s mark level place
  mark_node level place None is e = absurd (omega (arith, e))
  mark_node level place (Some n) is e =
      let f = node_at-found s.slots level (place / 64) n is in
      let p = mark_slot n f.key (place % 64) f.there (omega arith) (slot n (place % 64)) refl e in
      record { key = f.key; node = n; there = f.there; at_level = f.at_level; at_prefix = f.at_prefix; leaf = p.0; set = p.1 }

  pub marked_is : (level place : ℕ) → mark_at mark s level place ≡ 1 → HasMark s mark level place
  marked_is level place e = mark_node level place (node_at s.slots level (place / 64)) refl e

  -- the bits of all nodes above
  up_bit : (d j k : ℕ) (m n : Node) → get s j ≡ Some m → get s k ≡ Some n → n.level ≡ m.level + 1 + d → n.prefix ≡ m.prefix / 64 ^ d / 64 → 0 < bits m mark → bit_at (bits n mark) (m.prefix / 64 ^ d % 64) ≡ 1
  up_bit zero j k m n there here levels prefix some =
      let p = parent_of s head sound.tree j m there (omega (arith, level_below s head sound.tree k n here)) in
      let whole : m.prefix / 64 ^ 0 ≡ m.prefix = omega arith in
      let keys = unique s head sound.tree p.key k p.above n p.there here (omega (arith, p.link.level)) (omega (arith, p.link.prefix, p.link.within, whole)) in
      let nodes = same_node s p.key k p.above n keys p.there here in
      let offset : m.prefix / 64 ^ 0 % 64 ≡ p.offset = omega (arith, whole, p.link.prefix, p.link.within) in
      let exact = ((sound.exact mark low).each p.key p.above p.there).child p.offset j m p.link.within p.names (λ e. cc) there in
      let e : bit_at (bits n mark) (m.prefix / 64 ^ 0 % 64) ≡ min (bits m mark) 1 = ap (λ (z : Node). bit_at (bits z mark) (m.prefix / 64 ^ 0 % 64)) (sym nodes) ∙ ap (bit_at (bits p.above mark)) offset ∙ exact in
      omega (arith, e, some)
  up_bit (suc d) j k m n there here levels prefix some =
      let p = parent_of s head sound.tree j m there (omega (arith, level_below s head sound.tree k n here)) in
      let one : suc d ≡ d + 1 = omega arith in
      let up : m.prefix / 64 ≡ p.above.prefix = omega (arith, p.link.prefix, p.link.within) in
      let down : p.above.prefix / 64 ^ d ≡ m.prefix / 64 ^ suc d = rw (sym up, one) (place-down m.prefix d) in
      let exact = ((sound.exact mark low).each p.key p.above p.there).child p.offset j m p.link.within p.names (λ e. cc) there in
      let set : bit_at (bits p.above mark) p.offset ≡ 1 = omega (arith, exact, some) in
      ap (λ z. bit_at (bits n mark) (z % 64)) (sym down)
      ∙ up_bit d p.key k p.above n p.there here (omega (arith, p.link.level, levels)) (prefix ∙ ap (λ z. z / 64) (sym down)) (some_bit (bits p.above mark) p.offset set)

  -- an entry with the mark shows in each node above or around its index
  pub in_node : (key : ℕ) (n : Node) (level index : ℕ) → get s key ≡ Some n → n.prefix ≡ index / 64 ^ n.level / 64 → mark_at mark s level (index / 64 ^ level) ≡ 1 → bit_at (bits n mark) (index / 64 ^ n.level % 64) ≡ 1
  in_node key n level index here on_path is = by_level (marked_is level (index / 64 ^ level) is)
    where
      under : (h : HasMark s mark level (index / 64 ^ level)) → level < n.level → bit_at (bits n mark) (index / 64 ^ n.level % 64) ≡ 1
      under h small =
          let d = n.level - level - 1 in
          let sum : level + 1 + d ≡ n.level = omega arith in
          let e : h.node.prefix / 64 ^ d ≡ index / 64 ^ n.level =
          ap (λ z. z / 64 ^ d) (h.at_prefix ∙ place-up index level) ∙ place-levels index (level + 1) d ∙ ap (λ l. index / 64 ^ l) sum in
          ap (λ z. bit_at (bits n mark) (z % 64)) (sym e)
          ∙ up_bit d h.key key h.node n h.there here (omega (arith, h.at_level)) (on_path ∙ ap (λ z. z / 64) (sym e)) (some_bit (bits h.node mark) (index / 64 ^ level % 64) h.set)

      around : (h : HasMark s mark level (index / 64 ^ level)) → n.level < level → ⊥
      around h large =
          let d = level - n.level - 1 in
          let sum : n.level + 1 + d ≡ level = omega arith in
          let e : n.prefix / 64 ^ d ≡ index / 64 ^ level =
          ap (λ z. z / 64 ^ d) (on_path ∙ place-up index n.level) ∙ place-levels index (n.level + 1) d ∙ ap (λ l. index / 64 ^ l) sum in
          no_node s head sound.tree d h.key h.node (index / 64 ^ level % 64) key n h.there (omega arith) (leaf_plain _ h.leaf) here (omega (arith, h.at_level)) (omega (arith, e, h.at_prefix))

      same : (h : HasMark s mark level (index / 64 ^ level)) → level ≡ n.level → bit_at (bits n mark) (index / 64 ^ n.level % 64) ≡ 1
      same h e =
          let f : index / 64 ^ level ≡ index / 64 ^ n.level = ap (λ l. index / 64 ^ l) e in
          let keys = unique s head sound.tree h.key key h.node n h.there here (h.at_level ∙ e) (omega (arith, h.at_prefix, on_path, f)) in
          let nodes = same_node s h.key key h.node n keys h.there here in
          ap (λ (z : Node). bit_at (bits z mark) (index / 64 ^ n.level % 64)) (sym nodes) ∙ ap (λ z. bit_at (bits h.node mark) (z % 64)) (sym f) ∙ h.set

      by_level : HasMark s mark level (index / 64 ^ level) → bit_at (bits n mark) (index / 64 ^ n.level % 64) ≡ 1
      by_level h = elim (cases_lt level n.level) [
        | inl small ↦ under h small
        | inr large ↦ elim (cases_eq level n.level) [ inl e ↦ same h e | inr differs ↦ absurd (around h (omega arith)) ]
      ]

  -- ---- down from a slot with the mark

  mark_leaf : (n : Node) (key o : ℕ) → get s key ≡ Some n → o < 64 → bit_at (bits n mark) o ≡ 1 → (x : Slot) → slot n o ≡ x → ((c : ℕ) → x ≡ Child c → ⊥) → bit_of x (bit_at (bits n mark) o) ≡ 1
  mark_leaf n key o there within set Empty is never = absurd (let f = ((sound.exact mark low).each key n there).empty o within is in omega (arith, f, set))
  mark_leaf n key o there within set (Leaf value) is never = set
  mark_leaf n key o there within set (Child c) is never = absurd (never c refl)
  mark_leaf n key o there within set (Sibling first) is never = absurd (let f = ((sound.exact mark low).each key n there).sibling o first within is in omega (arith, f, set))

  pub marked_here : (n : Node) (key place : ℕ) → get s key ≡ Some n → n.prefix ≡ place / 64 → bit_at (bits n mark) (place % 64) ≡ 1 → ((c : ℕ) → slot n (place % 64) ≡ Child c → ⊥) → mark_at mark s n.level place ≡ 1
  marked_here n key place there on_path set never =
      see-is (λ z o. bit_of (slot z o) (bit_at (bits z mark) o)) 0 s head sound.tree n.level place key n there refl on_path
      ∙ mark_leaf n key (place % 64) there (omega arith) set (slot n (place % 64)) refl never

  module _ (from key o : ℕ) (n : Node) (there : get s key ≡ Some n) (ahead : IsAhead s mark from key o) where
    is_node : ahead.node ≡ n
    is_node = same_Some ahead.node n (sym ahead.there ∙ there)

    set_here : bit_at (bits n mark) o ≡ 1
    set_here = ap (λ (z : Node). bit_at (bits z mark) o) (sym is_node) ∙ ahead.set

    pub under_next : ((c : ℕ) → slot n o ≡ Child c → ⊥) → IsNext s mark from n.level (n.prefix * 64 + o)
    under_next never =
        let offset : (n.prefix * 64 + o) % 64 ≡ o = omega (arith, ahead.within) in
        let l = ap (λ (z : Node). z.level) is_node in
        record {
          marked = marked_here n key (n.prefix * 64 + o) there (omega (arith, ahead.within)) (ap (bit_at (bits n mark)) offset ∙ set_here) (λ c e. never c (ap (slot n) (sym offset) ∙ e));
          after = from_first from n.level (n.prefix * 64 + o) (rw is_node at ahead.after);
          lowest = λ other index le is. rw is_node at (ahead.lowest other index le is);
        }

    pub under_stands : StandsAt s key n.level ((n.prefix * 64 + o) / 64)
    under_stands = record { node = n; there = there; level_is = refl; prefix_is = omega (arith, ahead.within) }

    module _ (c : ℕ) (b : Node) (names : slot n o ≡ Child c) (below : get s c ≡ Some b) where
      pub child_bits : 0 < bits b mark
      child_bits =
          let e = ((sound.exact mark low).each key n there).child o c b ahead.within names (λ q. cc) below in
          let f = set_here in
          omega (arith, e, f)

      level_is : n.level ≡ b.level + 1
      level_is = let h = sound.tree.children key n o c there names in let e = ap (λ (z : Node). z.level) (same_Some h.below b (sym h.there ∙ below)) in omega (arith, h.link.level, e)

      prefix_is : b.prefix ≡ n.prefix * 64 + o
      prefix_is = let h = sound.tree.children key n o c there names in let e = ap (λ (z : Node). z.prefix) (same_Some h.below b (sym h.there ∙ below)) in omega (arith, h.link.prefix, e)

      up_is : (index : ℕ) → index / 64 ^ b.level / 64 ≡ index / 64 ^ n.level
      up_is index = place-up index b.level ∙ ap (λ l. index / 64 ^ l) (sym level_is)

      pub under_down : (lowest : ℕ) → IsLowestFrom (bits b mark) 0 lowest → IsAhead s mark from c lowest
      under_down lowest is = record {
        node = b;
        there = below;
        within = is.within;
        set = is.set;
        after = first_under from b.level (n.prefix * 64 + o) b.prefix lowest prefix_is (ap (λ l. (n.prefix * 64 + o) * 64 ^ l) level_is) (rw is_node at ahead.after);
        lowest = λ other index le marked.
            let q : n.prefix * 64 + o ≤ index / 64 ^ n.level = rw is_node at (ahead.lowest other index le marked) in
            let f = up_is index in
            elim (cases_eq (index / 64 ^ b.level / 64) b.prefix) [
              | inl same ↦
                  let set = in_node c b other index below (sym same) marked in
                  let not_lower : index / 64 ^ b.level % 64 < lowest → ⊥ = λ less. let z = is.lowest (index / 64 ^ b.level % 64) (omega arith) less in omega (arith, z, set) in
                  let at_least : lowest ≤ index / 64 ^ b.level % 64 = omega (arith, not_lower) in
                  omega (arith, at_least, same)
              | inr differs ↦ omega (arith, q, f, prefix_is, differs, is.within)
            ];
      }

      pub under_lower : level_of (get s c) < level_of (get s key)
      under_lower = rw (there, below) (omega (arith, level_is))

  -- ---- down the path of an index

  pub within_head : (level index : ℕ) → mark_at mark s level (index / 64 ^ level) ≡ 1 → index / 64 ^ sound.tree.top.level / 64 ≡ 0
  within_head level index is =
      let h = marked_is level (index / 64 ^ level) is in
      let small = level_below s head sound.tree h.key h.node h.there in
      let d = sound.tree.top.level - level in
      let sum : level + 1 + d ≡ sound.tree.top.level + 1 = omega (arith, small, h.at_level) in
      let e = under_head s head sound.tree d h.key h.node h.there (omega (arith, small, h.at_level)) in
      let f : h.node.prefix / 64 ^ d ≡ index / 64 ^ sound.tree.top.level / 64 =
      ap (λ z. z / 64 ^ d) (h.at_prefix ∙ place-up index level) ∙ place-levels index (level + 1) d ∙ ap (λ l. index / 64 ^ l) sum ∙ sym (place-up index sound.tree.top.level) in
      omega (arith, e, f)

  module _ (from : ℕ) (top : Node) (is_top : get s head ≡ Some top) where
    same_top : top ≡ sound.tree.top
    same_top = same_Some top sound.tree.top (sym is_top ∙ sound.tree.is_head.there)

    levels : top.level ≡ sound.tree.top.level
    levels = ap (λ (z : Node). z.level) same_top

    pub past_head : from / 64 ^ top.level / 64 ≢ 0 → HasNoNext s mark from
    past_head beyond = record {
      each = λ level index le is.
          let e = within_head level index is in
          let f = place-mono from index sound.tree.top.level le in
          let g : from / 64 ^ top.level ≡ from / 64 ^ sound.tree.top.level = ap (λ l. from / 64 ^ l) levels in
          let h : from / 64 ^ top.level / 64 ≡ 0 = omega (arith, e, f, g) in
          beyond h;
    }

    pub begins : from / 64 ^ top.level / 64 ≡ 0 → HasLeft s mark from head None
    begins within =
        let zero_prefix : top.prefix ≡ 0 = ap (λ (z : Node). z.prefix) same_top ∙ sound.tree.is_head.prefix in
        record {
          node = top;
          there = is_top;
          on_path = zero_prefix ∙ sym within;
          later = tt;
          each = λ level index le is. inl (ap (λ l. index / 64 ^ l / 64) levels ∙ within_head level index is ∙ sym zero_prefix);
        }

  module _ (from key o : ℕ) (n : Node) (there : get s key ≡ Some n) (best : Option (ℕ × ℕ)) (left : HasLeft s mark from key best) (is_offset : o ≡ from / 64 ^ n.level % 64) (found : Option ℕ) (finds : MatchOption found (NoneFrom (bits n mark) (o + 1)) (IsLowestFrom (bits n mark) (o + 1))) where
    is_left : left.node ≡ n
    is_left = same_Some left.node n (sym left.there ∙ there)

    path : n.prefix ≡ from / 64 ^ n.level / 64
    path = rw is_left at left.on_path

    left_each : (other index : ℕ) → from ≤ index → mark_at mark s other (index / 64 ^ other) ≡ 1 → (index / 64 ^ n.level / 64 ≡ n.prefix) ⊎ IsCovered s best index
    left_each other index le is = rw is_left at (left.each other index le is)

    spread_none : NoneFrom (bits n mark) (o + 1) → (other index : ℕ) → from ≤ index → mark_at mark s other (index / 64 ^ other) ≡ 1 → (index / 64 ^ n.level ≡ from / 64 ^ n.level) ⊎ IsCovered s best index
    spread_none none other index le is = elim (left_each other index le is) [
      | inl under ↦
          let set = in_node key n other index there (sym under) is in
          let mono = place-mono from index n.level le in
          let not_later : o < index / 64 ^ n.level % 64 → ⊥ = λ more. let z = none (index / 64 ^ n.level % 64) (omega (arith, more)) (omega arith) in omega (arith, z, set) in
          inl (omega (arith, not_later, mono, under, path, is_offset))
      | inr covered ↦ inr covered
    ]

    spread_some : (l : ℕ) → IsLowestFrom (bits n mark) (o + 1) l → (other index : ℕ) → from ≤ index → mark_at mark s other (index / 64 ^ other) ≡ 1 → (index / 64 ^ n.level ≡ from / 64 ^ n.level) ⊎ IsNotAfter s key l index
    spread_some l lowest other index le is =
        let mono = place-mono from index n.level le in
        elim (cases_eq (index / 64 ^ n.level / 64) n.prefix) [
          | inl under ↦
              let set = in_node key n other index there (sym under) is in
              elim (cases_lt o (index / 64 ^ n.level % 64)) [
                | inl more ↦
                    let not_lower : index / 64 ^ n.level % 64 < l → ⊥ = λ less. let z = lowest.lowest (index / 64 ^ n.level % 64) (omega (arith, more)) less in omega (arith, z, set) in
                    inr (record { node = n; there = there; before = omega (arith, not_lower, under) })
                | inr less ↦ inl (omega (arith, less, mono, under, path, is_offset))
              ]
          | inr differs ↦ inr (record { node = n; there = there; before = omega (arith, differs, mono, path, lowest.within) })
        ]

    later_some : (l : ℕ) → IsLowestFrom (bits n mark) (o + 1) l → IsLater s mark from key l
    later_some l lowest = record { node = n; there = there; within = lowest.within; set = lowest.set; after = let e = lowest.above in omega (arith, e, path, is_offset) }

    spread : (f : Option ℕ) → MatchOption f (NoneFrom (bits n mark) (o + 1)) (IsLowestFrom (bits n mark) (o + 1)) → (other index : ℕ) → from ≤ index → mark_at mark s other (index / 64 ^ other) ≡ 1 → (index / 64 ^ n.level ≡ from / 64 ^ n.level) ⊎ IsCovered s (better_of best key f) index
    spread None is other index le marked = spread_none is other index le marked
    spread (Some l) is other index le marked = spread_some l is other index le marked

    later_of : (f : Option ℕ) → MatchOption f (NoneFrom (bits n mark) (o + 1)) (IsLowestFrom (bits n mark) (o + 1)) → LaterIfSome s mark from (better_of best key f)
    later_of None is = left.later
    later_of (Some l) is = later_some l is

    -- where this slot has the mark
    pub path_leaf : (place : ℕ) → place ≡ from / 64 ^ n.level → bit_at (bits n mark) o ≡ 1 → ((c : ℕ) → slot n o ≡ Child c → ⊥) → IsNext s mark from n.level place
    path_leaf place is_place set never =
        let offset : place % 64 ≡ o = omega (arith, is_place, is_offset) in
        record {
          marked = marked_here n key place there (omega (arith, path, is_place)) (ap (bit_at (bits n mark)) offset ∙ set) (λ c e. never c (ap (slot n) (sym offset) ∙ e));
          after = omega (arith, is_place);
          lowest = λ other index le is. omega (arith, is_place, place-mono from index n.level le);
        }

    pub path_child : (b : Option (ℕ × ℕ)) → b ≡ better_of best key found → (c : ℕ) → slot n o ≡ Child c → HasLeft s mark from c b
    path_child b is_best c names =
        let h = sound.tree.children key n o c there names in
        let up : (index : ℕ) → index / 64 ^ h.below.level / 64 ≡ index / 64 ^ n.level = λ index. place-up index h.below.level ∙ ap (λ l. index / 64 ^ l) (sym h.link.level) in
        let at : h.below.prefix ≡ from / 64 ^ n.level = omega (arith, h.link.prefix, path, is_offset) in
        record {
          node = h.below;
          there = h.there;
          on_path = at ∙ sym (up from);
          later = rw is_best (later_of found finds);
          each = λ other index le is. elim (spread found finds other index le is) [
            | inl same ↦ inl (up index ∙ same ∙ sym at)
            | inr covered ↦ inr (rw is_best covered)
          ];
        }

    -- where it has not
    module _ (b : Option (ℕ × ℕ)) (is_best : b ≡ better_of best key found) (unset : bit_at (bits n mark) o ≡ 1 → ⊥) where
      all_covered : (other index : ℕ) → from ≤ index → mark_at mark s other (index / 64 ^ other) ≡ 1 → IsCovered s b index
      all_covered other index le is = elim (spread found finds other index le is) [
        | inl same ↦
            let set = in_node key n other index there (path ∙ ap (λ z. z / 64) (sym same)) is in
            absurd (unset (ap (bit_at (bits n mark)) (is_offset ∙ ap (λ z. z % 64) (sym same)) ∙ set))
        | inr covered ↦ rw is_best covered
      ]

      pub ends_none : b ≡ None → HasNoNext s mark from
      ends_none none = record { each = λ level index le is. rw none at (all_covered level index le is) }

      pub ends_some : (k l : ℕ) → b ≡ Some (k, l) → IsAhead s mark from k l
      ends_some k l some =
          let later : LaterIfSome s mark from b = rw is_best (later_of found finds) in
          let q : IsLater s mark from k l = rw some at later in
          record {
            node = q.node;
            there = q.there;
            within = q.within;
            set = q.set;
            after = first_past from q.node.level (q.node.prefix * 64 + l) q.after;
            lowest = λ other index le is.
                let covered : IsNotAfter s k l index = rw some at (all_covered other index le is) in
                let e = same_Some covered.node q.node (sym covered.there ∙ q.there) in
                not_after_at covered.node q.node l index e covered.before;
          }
        where
          not_after_at : (x y : Node) (l index : ℕ) → x ≡ y → x.prefix * 64 + l ≤ index / 64 ^ x.level → y.prefix * 64 + l ≤ index / 64 ^ y.level
          not_after_at x y l index e h = rw e at h
