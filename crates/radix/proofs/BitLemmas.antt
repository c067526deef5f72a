-- Lemmas on the write of the bit of an entry.
use Rattle.std.proofs.Common.{◌≡◌, ◌≢◌, ℕ, ◌/◌, ◌%◌, ◌^◌, ◌<◌, min, Bool, eqb, Some, None, refl, sym, ap, ◌∙◌, inl, inr, arith, length-set}
use Rattle.std.specs.Int.{bit_at}
use Rattle.std.proofs.lemmas.Bool.{cases_eq}
use Rattle.std.proofs.lemmas.Option.{same_Some}
use Rattle.slab.specs.Slab.{Slab, get, Updates, with_value}
use Rattle.slab.proofs.SlabLemmas.{Updates-with_value}
use Rattle.radix.specs.declared.node.Node.{Node}
use Rattle.radix.specs.declared.slot.Slot.{Slot}
use Rattle.radix.specs.declared.slot.Slot.TheVariants.{Empty, Leaf, Child, Sibling}
use Rattle.radix.specs.Bitmap.{ChangesBit}
use Rattle.radix.specs.Entries.{slot, bits, StandsAt, content, bit_of, entry_at, mark_at, IsLeaf}
use Rattle.radix.specs.Tree.{IsLeafSlot, IsNode, IsTree, IsMarked, MarkIsExactBut, NoneEmptyBut, IsSound, SameSlots, KeepsPlace, Remarks, with_bits, WritesBit}
use Rattle.radix.proofs.TreeLemmas.{contains_key}
use Rattle.radix.proofs.MarkLemmas.{bits-same, bits-other}
use Rattle.radix.proofs.SeeLemmas.{see-is}
use Rattle.radix.proofs.WriteLemmas.{one_tree, one_filled, one_else, one_here, one_exact, remarks_entries, remarks_filled, remarks_exact}

leaf_content : (x : Slot) → IsLeaf (content x) → IsLeafSlot x
leaf_content Empty h = h
leaf_content (Leaf value) h = h
leaf_content (Child key) h = absurd h
leaf_content (Sibling first) h = absurd h

leaf_bit : (x : Slot) (b : ℕ) → IsLeafSlot x → bit_of x b ≡ b
leaf_bit Empty b h = absurd h
leaf_bit (Leaf value) b h = refl
leaf_bit (Child key) b h = absurd h
leaf_bit (Sibling first) b h = absurd h

module _ (old : Slab Node) (head key : ℕ) (n : Node) (place mark b bit : ℕ) (sound : IsSound old head None) (was : get old key ≡ Some n) (on_path : n.prefix ≡ place / 64) (low : mark < 4) (small : b < 2 ^ 64) (leaf : IsLeafSlot (slot n (place % 64))) (changes : ChangesBit (bits n mark) b (place % 64) bit) where
  abbrev m : Node
  m = with_bits n mark b

  abbrev new : Slab Node
  new = with_value old key m

  updates : Updates old new key (Some m)
  updates = Updates-with_value old key m (contains_key old key n was)

  node_was : IsNode n
  node_was = sound.tree.nodes key n was

  same : bits m mark ≡ b
  same = bits-same n mark b node_was.marks low

  keeps : KeepsPlace n m
  keeps = record { level = refl; prefix = refl; parent = refl; keeps = λ o c e. e; kept = λ o c e. e }

  node : IsNode m
  node = record { slots = node_was.slots; marks = length-set n.marks mark b ∙ node_was.marks; level = node_was.level; prefix = node_was.prefix; fits = λ other. elim (cases_eq other mark) [ inl e ↦ rw (e, same) small | inr differs ↦ rw (bits-other n mark other b differs) (node_was.fits other) ]; count = node_was.count }

  pub bit_tree : IsTree new head
  bit_tree = one_tree old new head key n m was updates keeps node sound.tree

  pub bit_filled : NoneEmptyBut new None
  bit_filled = one_filled old new head key n m was updates keeps node sound.tree None (λ e. sound.filled.each key n was e) sound.filled

  was_marked : IsMarked old mark None n
  was_marked = (sound.exact mark low).each key n was

  not_here : (o : ℕ) (x : Slot) → slot n o ≡ x → (IsLeafSlot x → ⊥) → o ≢ place % 64
  not_here o x is not_leaf e = not_leaf (rw (sym is, e) leaf)

  here : IsMarked new mark (Some key) m
  here = record {
    empty = λ o within is. ap (λ z. bit_at z o) same ∙ changes.others o within (not_here o Empty is (λ h. h)) ∙ was_marked.empty o within is;
    sibling = λ o first within is. ap (λ z. bit_at z o) same ∙ changes.others o within (not_here o (Sibling first) is (λ h. h)) ∙ was_marked.sibling o first within is;
    child = λ o c below within is but there.
        let apart : c ≢ key = λ e. but (ap Some e) in
        ap (λ z. bit_at z o) same ∙ changes.others o within (not_here o (Child c) is (λ h. h)) ∙ was_marked.child o c below within is (λ e. cc) (sym (updates.others c apart) ∙ there);
  }

  elsewhere_marked : (x : ℕ) (y : Node) → get old x ≡ Some y → IsMarked new mark (Some key) y
  elsewhere_marked x y at =
      let e = (sound.exact mark low).each x y at in
      record {
        empty = e.empty;
        sibling = e.sibling;
        child = λ o c below within is but there.
            let apart : c ≢ key = λ q. but (ap Some q) in
            e.child o c below within is (λ q. cc) (sym (updates.others c apart) ∙ there);
      }

  pub bit_above : MarkIsExactBut new mark (Some key)
  bit_above = record {
    each = λ x y at. elim (cases_eq x key) [
      | inl e ↦ let f : y ≡ m = same_Some y m (sym at ∙ ap (get new) e ∙ updates.changed) in rw f here
      | inr differs ↦ elsewhere_marked x y (sym (updates.others x differs) ∙ at)
    ];
  }

  -- where the node still has a bit, or has none as before, the bits above are exact
  pub bit_all : min b 1 ≡ min (bits n mark) 1 → MarkIsExactBut new mark None
  bit_all same_some = record {
    each = λ x y at.
        let now = bit_above.each x y at in
        record {
          empty = now.empty;
          sibling = now.sibling;
          child = λ o c below within is but there. elim (cases_eq c key) [
            | inl e ↦
                let is_key : slot y o ≡ Child key = rw (sym e) is in
                let h = bit_tree.children x y o key at is_key in
                let f : below ≡ m = same_Some below m (sym there ∙ ap (get new) e ∙ updates.changed) in
                let g : h.below ≡ m = same_Some h.below m (sym h.there ∙ updates.changed) in
                let apart : x ≢ key = λ q.
                let r : y ≡ m = same_Some y m (sym at ∙ ap (get new) q ∙ updates.changed) in
                let k = ap (λ (z : Node). z.level) g in
                let l = ap (λ (z : Node). z.level) r in
                omega (arith, h.link.level, k, l) in
                ((sound.exact mark low).each x y (sym (updates.others x apart) ∙ at)).child o key n within is_key (λ q. cc) was
                ∙ sym same_some ∙ ap (λ (z : ℕ). min z 1) (sym same) ∙ ap (λ (z : Node). min (bits z mark) 1) (sym f)
            | inr differs ↦ now.child o c below within is (λ q. differs (let r : c ≡ key = cc in r)) there
          ];
        };
  }

  pub bit_others : (other : ℕ) → other < 4 → other ≢ mark → MarkIsExactBut new other None
  bit_others other small differs =
      let stays = bits-other n mark other b differs in
      let e = (sound.exact other small).each key n was in
      let f = one_exact old new head key n m was updates keeps node sound.tree other stays in
      f (record {
        empty = λ o within is. ap (λ z. bit_at z o) stays ∙ e.empty o within is;
        sibling = λ o first within is. ap (λ z. bit_at z o) stays ∙ e.sibling o first within is;
        child = λ o c below within is but there.
            let h = sound.tree.children key n o c was is in
            let apart : c ≢ key = λ q. let g : h.below ≡ n = same_Some h.below n (sym h.there ∙ ap (get old) q ∙ was) in let l = ap (λ (z : Node). z.level) g in omega (arith, h.link.level, l) in
            ap (λ z. bit_at z o) stays ∙ e.child o c below within is but (sym (updates.others c apart) ∙ there);
      }) (sound.exact other small)

  pub bit_puts : WritesBit old new mark n.level place bit
  bit_puts = record {
    changed =
        one_here old new head key n m was updates keeps node sound.tree (λ z o. bit_of (slot z o) (bit_at (bits z mark) o)) 0 n.level place refl on_path
        ∙ ap (λ z. bit_of (slot n (place % 64)) (bit_at z (place % 64))) same ∙ leaf_bit (slot n (place % 64)) (bit_at b (place % 64)) leaf ∙ changes.changed;
    entries = λ other at. one_else old new head key n m was updates keeps node sound.tree (λ z o. content (slot z o)) None other at (λ l p. refl);
    others = λ other at apart. one_else old new head key n m was updates keeps node sound.tree (λ z o. bit_of (slot z o) (bit_at (bits z mark) o)) 0 other at
        (λ l p.
        let differs : at % 64 ≢ place % 64 = λ e. apart (sym l) (omega (arith, e, p, on_path)) in
        ap (λ z. bit_of (slot n (at % 64)) (bit_at z (at % 64))) same ∙ ap (bit_of (slot n (at % 64))) (changes.others (at % 64) (omega arith) differs));
    other_marks = λ another other at small differs. one_else old new head key n m was updates keeps node sound.tree (λ z o. bit_of (slot z o) (bit_at (bits z another) o)) 0 other at
        (λ l p. ap (λ z. bit_of (slot n (at % 64)) (bit_at z (at % 64))) (bits-other n mark another b differs));
  }

WritesBit-at : (old new : Slab Node) (mark l level place bit : ℕ) → l ≡ level → WritesBit old new mark l place bit → WritesBit old new mark level place bit
WritesBit-at old new mark l level place bit e puts = rw (sym e) puts

WritesBit-then : (old s new : Slab Node) (mark level place bit : ℕ) → mark < 4 → WritesBit old s mark level place bit → SameSlots s new → WritesBit old new mark level place bit
WritesBit-then old s new mark level place bit low p e = record {
  changed = e.marks mark level place low ∙ p.changed;
  entries = λ other at. e.entries other at ∙ p.entries other at;
  others = λ other at apart. e.marks mark other at low ∙ p.others other at apart;
  other_marks = λ another other at small differs. e.marks another other at small ∙ p.other_marks another other at small differs;
}

-- the same as the code makes it
module _ (old : Slab Node) (head level index key : ℕ) (n : Node) (mark offset b bit : ℕ) (low : mark < 4) (small : b < 2 ^ 64) (sound : IsSound old head None) (leaf : IsLeaf (entry_at old level (index / 64 ^ level))) (stands : StandsAt old key level (index / 64 ^ level / 64)) (was : get old key ≡ Some n) (is_offset : offset ≡ index / 64 ^ level % 64) (changes : ChangesBit (bits n mark) b offset bit) where
  abbrev after : Slab Node
  after = with_value old key (with_bits n mark b)

  abbrev spot : ℕ
  spot = index / 64 ^ level

  is_node : stands.node ≡ n
  is_node = same_Some stands.node n (sym stands.there ∙ was)

  level_is : n.level ≡ level
  level_is = sym (ap (λ (z : Node). z.level) is_node) ∙ stands.level_is

  on_path : n.prefix ≡ spot / 64
  on_path = sym (ap (λ (z : Node). z.prefix) is_node) ∙ stands.prefix_is

  is_leaf : IsLeafSlot (slot n (spot % 64))
  is_leaf =
      let e = see-is (λ z i. content (slot z i)) None old head sound.tree level spot key n was level_is on_path in
      leaf_content (slot n (spot % 64)) (rw (sym e) leaf)

  changes_there : ChangesBit (bits n mark) b (spot % 64) bit
  changes_there = rw is_offset at changes

  set_there : get after key ≡ Some (with_bits n mark b)
  set_there = (Updates-with_value old key (with_bits n mark b) (contains_key old key n was)).changed

  pub set_stands : StandsAt after key level (index / 64 ^ level / 64)
  set_stands = record { node = with_bits n mark b; there = set_there; level_is = level_is; prefix_is = on_path }

  -- each node stays at its key
  pub set_kept : (at high prefix : ℕ) → StandsAt old at high prefix → StandsAt after at high prefix
  set_kept at high prefix its = elim (cases_eq at key) [
    | inl same ↦
        let e : its.node ≡ n = same_Some its.node n (sym its.there ∙ ap (get old) same ∙ was) in
        record {
          node = with_bits n mark b;
          there = ap (get after) same ∙ set_there;
          level_is = sym (ap (λ (z : Node). z.level) e) ∙ its.level_is;
          prefix_is = sym (ap (λ (z : Node). z.prefix) e) ∙ its.prefix_is;
        }
    | inr differs ↦ record {
      node = its.node;
      there = (Updates-with_value old key (with_bits n mark b) (contains_key old key n was)).others at differs ∙ its.there;
      level_is = its.level_is;
      prefix_is = its.prefix_is;
    }
  ]

  pub set_tree : IsTree after head
  set_tree = bit_tree old head key n spot mark b bit sound was on_path low small is_leaf changes_there

  pub set_above : MarkIsExactBut after mark (Some key)
  set_above = bit_above old head key n spot mark b bit sound was on_path low small is_leaf changes_there

  pub set_puts : WritesBit old after mark level spot bit
  set_puts = WritesBit-at old after mark n.level level spot bit level_is (bit_puts old head key n spot mark b bit sound was on_path low small is_leaf changes_there)

  pub set_sound : min b 1 ≡ min (bits n mark) 1 → IsSound after head None
  set_sound same = record {
    tree = set_tree;
    exact = λ other below_four. elim (cases_eq other mark) [
      | inl e ↦ rw e (bit_all old head key n spot mark b bit sound was on_path low small is_leaf changes_there same)
      | inr differs ↦ bit_others old head key n spot mark b bit sound was on_path low small is_leaf changes_there other below_four differs
    ];
    filled = bit_filled old head key n spot mark b bit sound was on_path low small is_leaf changes_there;
  }

  -- after the bits above were made exact
  module _ (new : Slab Node) (tree : IsTree new head) (exact : MarkIsExactBut new mark None) (remarks : Remarks mark after new) where
    pub carried_sound : IsSound new head None
    carried_sound = record {
      tree = tree;
      exact = λ other below_four. elim (cases_eq other mark) [
        | inl e ↦ rw e exact
        | inr differs ↦ remarks_exact mark after new head remarks set_tree other differs (bit_others old head key n spot mark b bit sound was on_path low small is_leaf changes_there other below_four differs)
      ];
      filled = remarks_filled mark after new head remarks set_tree None (bit_filled old head key n spot mark b bit sound was on_path low small is_leaf changes_there);
    }

    pub carried_stands : StandsAt new key level (index / 64 ^ level / 64)
    carried_stands =
        let h = remarks.has key (with_bits n mark b) set_there in
        record { node = h.node; there = h.there; level_is = h.is.level ∙ level_is; prefix_is = h.is.prefix ∙ on_path }

    pub carried_kept : (at high prefix : ℕ) → StandsAt old at high prefix → StandsAt new at high prefix
    carried_kept at high prefix its =
        let a = set_kept at high prefix its in
        let h = remarks.has at a.node a.there in
        record { node = h.node; there = h.there; level_is = h.is.level ∙ a.level_is; prefix_is = h.is.prefix ∙ a.prefix_is }

    pub carried_puts : WritesBit old new mark level spot bit
    carried_puts = WritesBit-then old after new mark level spot bit low set_puts (remarks_entries mark after new head remarks set_tree)

-- the bit that the code reads is the entry's
pub bit_read : (s : Slab Node) (head : ℕ) (tree : IsTree s head) (mark level place key : ℕ) (n : Node) (o : ℕ) (r : Bool) → StandsAt s key level (place / 64) → get s key ≡ Some n → IsLeaf (entry_at s level place) → o ≡ place % 64 → r ≡ eqb (bit_at (bits n mark) o) 1 → r ≡ eqb (mark_at mark s level place) 1
bit_read s head tree mark level place key n o r stands there leaf is_offset is =
    let same : stands.node ≡ n = same_Some stands.node n (sym stands.there ∙ there) in
    let l : n.level ≡ level = sym (ap (λ (z : Node). z.level) same) ∙ stands.level_is in
    let p : n.prefix ≡ place / 64 = sym (ap (λ (z : Node). z.prefix) same) ∙ stands.prefix_is in
    let e = see-is (λ z i. content (slot z i)) None s head tree level place key n there l p in
    let is_leaf : IsLeafSlot (slot n (place % 64)) = leaf_content (slot n (place % 64)) (rw (sym e) leaf) in
    let f : mark_at mark s level place ≡ bit_at (bits n mark) (place % 64) = see-is (λ z i. bit_of (slot z i) (bit_at (bits z mark) i)) 0 s head tree level place key n there l p ∙ leaf_bit (slot n (place % 64)) (bit_at (bits n mark) (place % 64)) is_leaf in
    is ∙ ap (λ b. eqb b 1) (ap (bit_at (bits n mark)) is_offset ∙ sym f)
