-- Lemmas on a node that is given back.
use Rattle.std.proofs.Common.{◌≡◌, ◌≢◌, ℕ, zero, suc, ◌+◌, ◌-◌, ◌/◌, ◌%◌, ◌<◌, ◌≤◌, ◌⊎◌, min, true, cond, get_or, Option, Some, None, refl, sym, ap, ◌∙◌, inl, inr, arith, length-set, lit<}
use Rattle.std.specs.Int.{bit_at}
use Rattle.std.proofs.lemmas.Nat.Bits.{bit_at-zero, same_from_bits_below}
use Rattle.std.proofs.lemmas.Bool.{cases_eq, cases_lt}
use Rattle.std.proofs.lemmas.Option.{same_Some, none-some}
use Rattle.std.proofs.lemmas.List.{get_or_past}
use Rattle.slab.specs.Slab.{Slab, get, Updates, ContainsKey, with_value}
use Rattle.slab.proofs.SlabLemmas.{Updates-with_value}
use Rattle.radix.specs.declared.node.Node.{Node}
use Rattle.radix.specs.declared.slot.Slot.{Slot}
use Rattle.radix.specs.declared.slot.Slot.TheVariants.{Empty, Leaf, Child, Sibling}
use Rattle.radix.specs.declared.entry.Entry.TheVariants as entry
use Rattle.radix.specs.Entries.{slot, bits, IsVoid, node_at, by_node, content, bit_of, see, entry_at, mark_at, StandsAt, IsEntry}
use Rattle.radix.specs.Tree.{is_used, IsLink, HasChild, HasParent, IsNode, IsTree, IsMarked, IsSound, SameSlots, HasBy, with_slot, level_of, IsEntrySlot, IsPlain, IsQuiet, IsUnmarked, ErasesRun, WritesSlot}
use Rattle.radix.proofs.TreeLemmas.{node_at-found, node_at-none, same_node, contains_key, IsUnder, is_under}
use Rattle.radix.proofs.SeeLemmas.{see-same, see-is}
use Rattle.radix.proofs.GrowthLemmas.{slot-same, slot-other, count_by-set}
use Rattle.radix.proofs.LinkedLemmas.{IsLink-at}
use Rattle.radix.proofs.DescentLemmas.{used_counts, filled_but, SameSlots-trans}
use Rattle.radix.proofs.WriteLemmas.{put_tree, put_exact, put_filled, put_entries}
use Rattle.radix.proofs.PutLemmas.{WritesSlot-at}

-- ---- a node with no entry

module _ (s : Slab Node) (head : ℕ) (but : Option ℕ) (child : ℕ) (b : Node) (sound : IsSound s head but) (there : get s child ≡ Some b) (none : b.count ≡ 0) where
  unused : (o : ℕ) → o < 64 → (x : Slot) → slot b o ≡ x → x ≡ Empty
  unused o within Empty is = refl
  unused o within (Leaf value) is = absurd (let e = used_counts b o (sound.tree.nodes child b there) within (ap is_used is) in omega (arith, e, none))
  unused o within (Child c) is = absurd (let e = used_counts b o (sound.tree.nodes child b there) within (ap is_used is) in omega (arith, e, none))
  unused o within (Sibling first) is = absurd (let e = used_counts b o (sound.tree.nodes child b there) within (ap is_used is) in omega (arith, e, none))

  pub empty_slot : (o : ℕ) → slot b o ≡ Empty
  empty_slot o = elim (cases_lt o 64) [
    | inl within ↦ unused o within (slot b o) refl
    | inr past ↦ get_or_past b.slots o Empty (let e = (sound.tree.nodes child b there).slots in omega (arith, e, past))
  ]

  pub no_bits : (mark : ℕ) → mark < 4 → bits b mark ≡ 0
  no_bits mark low =
      same_from_bits_below 64 (bits b mark) 0 ((sound.tree.nodes child b there).fits mark) (lit< tt)
      (λ o within. ((sound.exact mark low).each child b there).empty o within (empty_slot o) ∙ sym (bit_at-zero o))

  -- ---- where it is the head, there is no other

  module _ (top : b.parent ≡ None) where
    pub is_head : child ≡ head
    is_head = elim (cases_eq child head) [
      | inl e ↦ e
      | inr differs ↦
          let p = sound.tree.parents child b there differs in
          absurd (none-some p.key (sym top ∙ p.link.parent))
    ]

    alone : (d x : ℕ) (y : Node) → get s x ≡ Some y → 10 ≤ y.level + d → x ≡ head
    alone zero x y at deep = elim (cases_eq x head) [
      | inl e ↦ e
      | inr differs ↦
          let p = sound.tree.parents x y at differs in
          let h = (sound.tree.nodes p.key p.above p.there).level in
          absurd (omega (arith, h, p.link.level, deep))
    ]
    alone (suc d) x y at deep = elim (cases_eq x head) [
      | inl e ↦ e
      | inr differs ↦
          let p = sound.tree.parents x y at differs in
          let up : p.key ≡ head = alone d p.key p.above p.there (omega (arith, p.link.level, deep)) in
          let same : p.above ≡ b = same_node s p.key child p.above b (up ∙ sym is_head) p.there there in
          let e : Empty ≡ Child x = sym (empty_slot p.offset) ∙ ap (λ z. slot z p.offset) (sym same) ∙ p.names in
          absurd (cc)
    ]

    only : (x : ℕ) (y : Node) → get s x ≡ Some y → x ≡ child
    only x y at = alone 10 x y at (omega arith) ∙ sym is_head

    none_from : (o : Option Node) → ((y : Node) → o ≡ Some y → ⊥) → o ≡ None
    none_from None never = refl
    none_from (Some y) never = absurd (never y refl)

    module _ (new : Slab Node) (removed : Updates s new child None) where
      pub void : IsVoid new
      void = record {
        each = λ x. elim (cases_eq x child) [
          | inl e ↦ ap (get new) e ∙ removed.changed
          | inr differs ↦ removed.others x differs ∙ none_from (get s x) (λ y at. differs (only x y at))
        ];
      }

      seen_void : {X : Type 0} (f : Node → ℕ → X) (blank : X) → ((o : ℕ) → f b o ≡ blank) → (level place : ℕ) → see f blank new level place ≡ see f blank s level place
      seen_void {X} f blank same level place =
          rw (node_at-none new.slots level (place / 64) (λ m found. none-some m (sym (void.each found.key) ∙ found.there))) (sym (by_cases (node_at s.slots level (place / 64)) refl))
        where
          by_cases : (o : Option Node) → node_at s.slots level (place / 64) ≡ o → by_node f blank o (place % 64) ≡ blank
          by_cases None e = refl
          by_cases (Some n) e =
              let found = node_at-found s.slots level (place / 64) n e in
              ap (λ z. f z (place % 64)) (same_node s found.key child n b (only found.key n found.there) found.there there) ∙ same (place % 64)

      pub void_entries : SameSlots s new
      void_entries = record {
        entries = λ level place. seen_void (λ n o. content (slot n o)) None (λ o. ap content (empty_slot o)) level place;
        marks = λ mark level place low. seen_void (λ n o. bit_of (slot n o) (bit_at (bits n mark) o)) 0 (λ o. ap (λ z. bit_of z (bit_at (bits b mark) o)) (empty_slot o)) level place;
      }

-- the node keeps its place, its bits and its other children
pub record Loses (child : ℕ) (old new : Node) : Type 0 where
  pub level : new.level ≡ old.level
  pub prefix : new.prefix ≡ old.prefix
  pub parent : new.parent ≡ old.parent
  pub marks : new.marks ≡ old.marks
  pub keeps : (offset other : ℕ) → other ≢ child → slot old offset ≡ Child other → slot new offset ≡ Child other

relink : (child key : ℕ) (above above' : Node) (offset : ℕ) (below below' : Node) → Loses child above above' → Loses child below below' → IsLink key above offset below → IsLink key above' offset below'
relink child key above above' offset below below' up down link = record {
  parent = down.parent ∙ link.parent;
  level = omega (arith, up.level, down.level, link.level);
  prefix = omega (arith, up.prefix, down.prefix, link.prefix);
  within = link.within;
}

-- ---- where it is under another node

module _ (old new : Slab Node) (head key : ℕ) (n : Node) (child : ℕ) (b : Node) (offset : ℕ) (sound : IsSound old head (Some child)) (there : get old child ≡ Some b) (none : b.count ≡ 0) (was : get old key ≡ Some n) (names : slot n offset ≡ Child child) (link : IsLink key n offset b) (now : get new key ≡ Some (with_slot n offset Empty (n.count - 1))) (gone : get new child ≡ None) (others : (x : ℕ) → x ≢ key → x ≢ child → get new x ≡ get old x) where
  abbrev m : Node
  m = with_slot n offset Empty (n.count - 1)

  node_was : IsNode n
  node_was = sound.tree.nodes key n was

  cleared : slot m offset ≡ Empty
  cleared = slot-same n offset Empty (n.count - 1) node_was.slots link.within

  else : (o : ℕ) → o ≢ offset → slot m o ≡ slot n o
  else o differs = slot-other n offset o Empty (n.count - 1) differs

  Loses-n : Loses child n m
  Loses-n = record {
    level = refl;
    prefix = refl;
    parent = refl;
    marks = refl;
    keeps = λ o c apart is. else o (λ same. apart (let e : Child c ≡ Child child = sym is ∙ ap (slot n) same ∙ names in let f : c ≡ child = cc in f)) ∙ is;
  }

  Loses-refl : (x : Node) → Loses child x x
  Loses-refl x = record { level = refl; prefix = refl; parent = refl; marks = refl; keeps = λ o c apart is. is }

  kept : (x : ℕ) (y : Node) → x ≢ child → get old x ≡ Some y → HasBy (Loses child) new x y
  kept x y apart at = elim (cases_eq x key) [
    | inl same ↦
        let e : y ≡ n = same_Some y n (sym at ∙ ap (get old) same ∙ was) in
        record { node = m; there = ap (get new) same ∙ now; is = rw e Loses-n }
    | inr differs ↦ record { node = y; there = others x differs apart ∙ at; is = Loses-refl y }
  ]

  not_gone : (x : ℕ) (y : Node) → get new x ≡ Some y → x ≢ child
  not_gone x y at same = none-some y (sym gone ∙ ap (get new) (sym same) ∙ at)

  cases_new : (x : ℕ) (y : Node) → get new x ≡ Some y → ((x ≡ key) × (y ≡ m)) ⊎ ((x ≢ key) × (get old x ≡ Some y))
  cases_new x y at = elim (cases_eq x key) [
    | inl same ↦ inl (same, same_Some y m (sym at ∙ ap (get new) same ∙ now))
    | inr differs ↦ inr (differs, sym (others x differs (not_gone x y at)) ∙ at)
  ]

  used : 0 < n.count
  used = used_counts n offset node_was link.within (ap is_used names)

  node : IsNode m
  node =
      let e = count_by-set is_used n.slots offset Empty Empty (omega (arith, node_was.slots, link.within)) in
      let f : cond (is_used (slot n offset)) 1 0 ≡ 1 = ap {B = ℕ} (λ x. cond (is_used x) 1 0) names in
      record { slots = length-set n.slots offset Empty ∙ node_was.slots; marks = node_was.marks; level = node_was.level; prefix = node_was.prefix; fits = node_was.fits; count = omega (arith, e, f, node_was.count, used) }

  -- the child slots that are left
  other_child : (x : ℕ) (y : Node) (o c : ℕ) → get old x ≡ Some y → slot y o ≡ Child c → (x ≡ key → o ≢ offset) → c ≢ child
  other_child x y o c at is apart same =
      let h = sound.tree.children x y o c at is in
      let e : h.below ≡ b = same_node old c child h.below b same h.there there in
      let p : Some x ≡ Some key = sym h.link.parent ∙ ap (λ (z : Node). z.parent) e ∙ link.parent in
      let k : x ≡ key = cc in
      let f : y ≡ n = same_node old x key y n k at was in
      let g = ap (λ (z : Node). z.prefix) e in
      let i = ap (λ (z : Node). z.prefix) f in
      apart k (omega (arith, h.link.prefix, link.prefix, g, i))

  children_new : (x : ℕ) (y : Node) (o c : ℕ) → get new x ≡ Some y → slot y o ≡ Child c → HasChild new x y o c
  children_new x y o c at is = elim (cases_new x y at) [
    | inl p ↦
        let is_m : slot m o ≡ Child c = ap (λ z. slot z o) (sym p.1) ∙ is in
        let apart : o ≢ offset = λ same. let e : Empty ≡ Child c = sym cleared ∙ ap (slot m) (sym same) ∙ is_m in cc in
        let is_n : slot n o ≡ Child c = sym (else o apart) ∙ is_m in
        let h = sound.tree.children key n o c was is_n in
        let k = kept c h.below (other_child key n o c was is_n (λ e. apart)) h.there in
        record { below = k.node; there = k.there; link = IsLink-at x key y m o k.node p.0 p.1 (relink child key n m o h.below k.node Loses-n k.is h.link) }
    | inr p ↦
        let h = sound.tree.children x y o c p.1 is in
        let k = kept c h.below (other_child x y o c p.1 is (λ e. absurd (p.0 e))) h.there in
        record { below = k.node; there = k.there; link = relink child x y y o h.below k.node (Loses-refl y) k.is h.link }
  ]

  -- no node is under the one that goes
  not_parent : (p : ℕ) (a : Node) (o x : ℕ) → get old p ≡ Some a → slot a o ≡ Child x → p ≢ child
  not_parent p a o x at is same =
      let e : Empty ≡ Child x = sym (empty_slot old head (Some child) child b sound there none o) ∙ ap (λ z. slot z o) (sym (same_node old p child a b same at there)) ∙ is in
      cc

  parents_old : (x : ℕ) (y z : Node) → x ≢ child → get old x ≡ Some y → Loses child y z → x ≢ head → HasParent new x z
  parents_old x y z apart at loses below =
      let p = sound.tree.parents x y at below in
      let k = kept p.key p.above (not_parent p.key p.above p.offset x p.there p.names) p.there in
      record { key = p.key; above = k.node; offset = p.offset; there = k.there; names = k.is.keeps p.offset x apart p.names; link = relink child p.key p.above k.node p.offset y z k.is loses p.link }

  parents_new : (x : ℕ) (y : Node) → get new x ≡ Some y → x ≢ head → HasParent new x y
  parents_new x y at below = elim (cases_new x y at) [
    | inl p ↦ rw (p.0, p.1) (parents_old key n m (λ e. not_gone x y at (p.0 ∙ e)) was Loses-n (λ e. below (p.0 ∙ e)))
    | inr p ↦ parents_old x y y (not_gone x y at) p.1 (Loses-refl y) below
  ]

  not_top : head ≢ child
  not_top e =
      let same : sound.tree.top ≡ b = same_node old head child sound.tree.top b e sound.tree.is_head.there there in
      none-some key (sym sound.tree.is_head.parent ∙ ap (λ (z : Node). z.parent) same ∙ link.parent)

  pub left_tree : IsTree new head
  left_tree =
      let t = kept head sound.tree.top not_top sound.tree.is_head.there in
      record {
        top = t.node;
        is_head = record { there = t.there; parent = t.is.parent ∙ sound.tree.is_head.parent; prefix = t.is.prefix ∙ sound.tree.is_head.prefix };
        nodes = λ x y at. elim (cases_new x y at) [ inl p ↦ rw (p.1) node | inr p ↦ sound.tree.nodes x y p.1 ];
        children = children_new;
        parents = parents_new;
        small = λ x y at. elim (cases_new x y at) [ inl p ↦ rw (p.0) (sound.tree.small key n was) | inr p ↦ sound.tree.small x y p.1 ];
      }

  -- ---- the marks

  bits_kept : (mark x : ℕ) (y z : Node) → x ≢ child → get old x ≡ Some y → get new x ≡ Some z → bits z mark ≡ bits y mark
  bits_kept mark x y z apart at is =
      let k = kept x y apart at in
      ap (λ w. bits w mark) (same_Some z k.node (sym is ∙ k.there)) ∙ ap (λ ms. get_or ms mark 0) k.is.marks

  marked_m : (mark : ℕ) → mark < 4 → IsMarked new mark None m
  marked_m mark low =
      let e = (sound.exact mark low).each key n was in
      record {
        empty = λ o within is. elim (cases_eq o offset) [
          | inl same ↦
              ap (bit_at (bits n mark)) same ∙ e.child offset child b link.within names (λ q. cc) there
              ∙ ap (λ z. min z 1) (no_bits old head (Some child) child b sound there none mark low)
          | inr differs ↦ e.empty o within (sym (else o differs) ∙ is)
        ];
        sibling = λ o first within is.
            let apart : o ≢ offset = λ same. let f : Empty ≡ Sibling first = sym cleared ∙ ap (slot m) (sym same) ∙ is in cc in
            e.sibling o first within (sym (else o apart) ∙ is);
        child = λ o c below within is but at.
            let apart : o ≢ offset = λ same. let f : Empty ≡ Child c = sym cleared ∙ ap (slot m) (sym same) ∙ is in cc in
            let is_n : slot n o ≡ Child c = sym (else o apart) ∙ is in
            let h = sound.tree.children key n o c was is_n in
            e.child o c h.below within is_n but h.there ∙ ap (λ w. min w 1) (sym (bits_kept mark c h.below below (other_child key n o c was is_n (λ q. apart)) h.there at));
      }

  marked_other : (mark : ℕ) → mark < 4 → (x : ℕ) (y : Node) → x ≢ key → get old x ≡ Some y → IsMarked new mark None y
  marked_other mark low x y differs at =
      let e = (sound.exact mark low).each x y at in
      record {
        empty = e.empty;
        sibling = e.sibling;
        child = λ o c below within is but is_there.
            let h = sound.tree.children x y o c at is in
            e.child o c h.below within is but h.there ∙ ap (λ w. min w 1) (sym (bits_kept mark c h.below below (other_child x y o c at is (λ q. absurd (differs q))) h.there is_there));
      }

  pub left_sound : IsSound new head (Some key)
  left_sound = record {
    tree = left_tree;
    exact = λ mark low. record { each = λ x y at. elim (cases_new x y at) [ inl p ↦ rw (p.1) (marked_m mark low) | inr p ↦ marked_other mark low x y p.0 p.1 ] };
    filled = record {
      each = λ x y at but. elim (cases_new x y at) [
        | inl p ↦ absurd (but (ap Some p.0))
        | inr p ↦ sound.filled.each x y p.1 (λ e. not_gone x y at (let f : x ≡ child = cc in f))
      ];
    };
  }

  -- ---- what the nodes stand for

  module _ {X : Type 0} (f : Node → ℕ → X) (blank : X) (same : (o : ℕ) → f m o ≡ f n o) (nothing : (o : ℕ) → f b o ≡ blank) (level at : ℕ) where
    seen_left : see f blank old level at ≡ see f blank new level at
    seen_left = see-same f blank new old head head left_tree sound.tree level at
        (λ x y is at_level at_prefix. elim (cases_new x y is) [
          | inl p ↦ record { key = key; node = n; there = was; at_level = ap (λ (z : Node). z.level) (sym p.1) ∙ at_level; at_prefix = ap (λ (z : Node). z.prefix) (sym p.1) ∙ at_prefix; sees = sym (same (at % 64)) ∙ ap (λ z. f z (at % 64)) (sym p.1) }
          | inr p ↦ record { key = x; node = y; there = p.1; at_level = at_level; at_prefix = at_prefix; sees = refl }
        ])
        (λ x y is at_level at_prefix. elim (cases_eq x child) [
          | inl e ↦ inr (ap (λ z. f z (at % 64)) (same_node old x child y b e is there) ∙ nothing (at % 64))
          | inr apart ↦ inl (elim (cases_eq x key) [
            | inl e ↦
                let q : y ≡ n = same_node old x key y n e is was in
                record { key = key; node = m; there = now; at_level = ap (λ (z : Node). z.level) (sym q) ∙ at_level; at_prefix = ap (λ (z : Node). z.prefix) (sym q) ∙ at_prefix; sees = same (at % 64) ∙ ap (λ z. f z (at % 64)) (sym q) }
            | inr differs ↦ record { key = x; node = y; there = others x differs apart ∙ is; at_level = at_level; at_prefix = at_prefix; sees = refl }
          ])
        ])

  by_offset : {X : Type 0} (f : Slot → ℕ → X) → ((o : ℕ) → f Empty o ≡ f (Child child) o) → (o : ℕ) → f (slot m o) o ≡ f (slot n o) o
  by_offset f same o = elim (cases_eq o offset) [
    | inl e ↦ ap (λ z. f z o) (ap (slot m) e ∙ cleared) ∙ same o ∙ ap (λ z. f z o) (sym (ap (slot n) e ∙ names))
    | inr differs ↦ ap (λ z. f z o) (else o differs)
  ]

  pub left_entries : SameSlots old new
  left_entries = record {
    entries = λ level at. sym (seen_left (λ z o. content (slot z o)) None (by_offset (λ x o. content x) (λ o. refl)) (λ o. ap content (empty_slot old head (Some child) child b sound there none o)) level at);
    marks = λ mark level at low. sym (seen_left (λ z o. bit_of (slot z o) (bit_at (bits z mark) o)) 0 (by_offset (λ x o. bit_of x (bit_at (bits n mark) o)) (λ o. refl)) (λ o. ap (λ z. bit_of z (bit_at (bits b mark) o)) (empty_slot old head (Some child) child b sound there none o)) level at);
  }

-- ---- the same as the code makes it: a removal, and then a write of the node above

module _ (first old mid : Slab Node) (head child : ℕ) (b : Node) (parent : ℕ) (sound : IsSound old head (Some child)) (entries : SameSlots first old) (there : get old child ≡ Some b) (none : b.count ≡ 0) (is : b.parent ≡ Some parent) (removed : Updates old mid child None) where
  under : IsUnder old child b parent
  under = is_under old head sound.tree child b parent there is

  apart : parent ≢ child
  apart e =
      let same : under.above ≡ b = same_node old parent child under.above b e under.there there in
      let l = ap (λ (z : Node). z.level) same in
      omega (arith, under.link.level, l)

  there_mid : get mid parent ≡ Some under.above
  there_mid = removed.others parent apart ∙ under.there

  pub contains_above : ContainsKey mid parent
  contains_above = contains_key mid parent under.above there_mid

  module _ (n : Node) (is_there : get mid parent ≡ Some n) where
    abbrev after : Node → Slab Node
    after z = with_value mid parent (with_slot z (b.prefix % 64) Empty (z.count - 1))

    is_n : n ≡ under.above
    is_n = same_Some n under.above (sym is_there ∙ there_mid)

    updates : Updates mid (after under.above) parent (Some (with_slot under.above (b.prefix % 64) Empty (under.above.count - 1)))
    updates = Updates-with_value mid parent (with_slot under.above (b.prefix % 64) Empty (under.above.count - 1)) contains_above

    gone : get (after under.above) child ≡ None
    gone = updates.others child (λ e. apart (sym e)) ∙ removed.changed

    others : (x : ℕ) → x ≢ parent → x ≢ child → get (after under.above) x ≡ get old x
    others x p q = updates.others x p ∙ removed.others x q

    pub up_sound : IsSound (after n) head (Some parent)
    up_sound = rw is_n (left_sound old (after under.above) head parent under.above child b (b.prefix % 64) sound there none under.there under.names under.link updates.changed gone others)

    pub up_entries : SameSlots first (after n)
    up_entries = SameSlots-trans first old (after n) entries (rw is_n (left_entries old (after under.above) head parent under.above child b (b.prefix % 64) sound there none under.there under.names under.link updates.changed gone others))

    pub up_there : ContainsKey (after n) parent
    up_there = rw is_n (contains_key (after under.above) parent _ updates.changed)

    pub up_nearer : 10 - level_of (get (after n) parent) < 10 - level_of (get old child)
    up_nearer =
        let e : level_of (get (after n) parent) ≡ under.above.level = rw is_n (ap level_of updates.changed) in
        let f : level_of (get old child) ≡ b.level = ap level_of there in
        let h = (sound.tree.nodes parent under.above under.there).level in
        omega (arith, under.link.level, e, f, h)

-- ---- the end

pub sound_weaken : (s : Slab Node) (head key : ℕ) (b : Node) → get s key ≡ Some b → 0 < b.count → IsSound s head (Some key) → IsSound s head None
sound_weaken s head key b there some sound = record { tree = sound.tree; exact = sound.exact; filled = filled_but s key b None there some sound.filled }

-- ---- the entry at a slot goes

module _ (old : Slab Node) (head level place key : ℕ) (n : Node) (sound : IsSound old head (Some key)) (entry : IsEntry (entry_at old level place)) (unmarked : IsUnmarked old level place) (stands : StandsAt old key level (place / 64)) (was : get old key ≡ Some n) where
  abbrev emptied : Slab Node
  emptied = with_value old key (with_slot n (place % 64) Empty (n.count - 1))

  same : stands.node ≡ n
  same = same_Some stands.node n (sym stands.there ∙ was)

  level_is : n.level ≡ level
  level_is = sym (ap (λ (z : Node). z.level) same) ∙ stands.level_is

  on_path : n.prefix ≡ place / 64
  on_path = sym (ap (λ (z : Node). z.prefix) same) ∙ stands.prefix_is

  entry_of : (x : Slot) → IsEntry (content x) → IsEntrySlot x
  entry_of Empty e = e
  entry_of (Leaf value) e = e
  entry_of (Child c) e = absurd e
  entry_of (Sibling f) e = e

  is_entry : IsEntrySlot (slot n (place % 64))
  is_entry =
      let e = see-is (λ z i. content (slot z i)) None old head sound.tree level place key n was level_is on_path in
      entry_of (slot n (place % 64)) (rw (sym e) entry)

  plain_of : (x : Slot) → IsEntrySlot x → IsPlain x
  plain_of Empty e = tt
  plain_of (Leaf value) e = tt
  plain_of (Child c) e = e
  plain_of (Sibling f) e = tt

  used_of : (x : Slot) → IsEntrySlot x → is_used x ≡ true
  used_of Empty e = absurd e
  used_of (Leaf value) e = refl
  used_of (Child c) e = absurd e
  used_of (Sibling f) e = refl

  bit_is : (x : Slot) (b : ℕ) → IsEntrySlot x → bit_of x b ≡ b
  bit_is Empty b e = absurd e
  bit_is (Leaf value) b e = refl
  bit_is (Child c) b e = absurd e
  bit_is (Sibling f) b e = refl

  quiet : (mark : ℕ) → mark < 4 → IsQuiet Empty (bit_at (bits n mark) (place % 64))
  quiet mark low =
      let e = see-is (λ z i. bit_of (slot z i) (bit_at (bits z mark) i)) 0 old head sound.tree level place key n was level_is on_path in
      sym (bit_is (slot n (place % 64)) (bit_at (bits n mark) (place % 64)) is_entry) ∙ sym e ∙ unmarked.each mark low

  pub some_used : 0 < n.count
  some_used = used_counts n (place % 64) (sound.tree.nodes key n was) (omega arith) (used_of (slot n (place % 64)) is_entry)

  counts : n.count - 1 + cond (is_used (slot n (place % 64))) 1 0 ≡ n.count + cond (is_used Empty) 1 0
  counts =
      let e : cond (is_used (slot n (place % 64))) 1 0 ≡ 1 = ap {B = ℕ} (λ b. cond b 1 0) (used_of (slot n (place % 64)) is_entry) in
      omega (arith, e, some_used)

  erase_updates : Updates old emptied key (Some (with_slot n (place % 64) Empty (n.count - 1)))
  erase_updates = Updates-with_value old key (with_slot n (place % 64) Empty (n.count - 1)) (contains_key old key n was)

  plain : IsPlain (slot n (place % 64))
  plain = plain_of (slot n (place % 64)) is_entry

  pub erase_sound : IsSound emptied head (Some key)
  erase_sound = record {
    tree = put_tree old emptied head key n place Empty (n.count - 1) sound was on_path plain quiet counts erase_updates;
    exact = put_exact old emptied head key n place Empty (n.count - 1) sound was on_path plain quiet counts erase_updates;
    filled = put_filled old emptied head key n place Empty (n.count - 1) sound was on_path plain quiet counts erase_updates (Some key) (λ e. absurd (e refl)) sound.filled;
  }

  pub erase_writes : WritesSlot old emptied level place None
  erase_writes = WritesSlot-at old emptied n.level level place None level_is (put_entries old emptied head key n place Empty (n.count - 1) sound was on_path plain quiet counts erase_updates)

  pub erase_stands : StandsAt emptied key level (place / 64)
  erase_stands = record { node = with_slot n (place % 64) Empty (n.count - 1); there = erase_updates.changed; level_is = level_is; prefix_is = on_path }

pub weaken : (s : Slab Node) (head key : ℕ) → IsSound s head None → IsSound s head (Some key)
weaken s head key sound = record { tree = sound.tree; exact = sound.exact; filled = record { each = λ x y at but. sound.filled.each x y at (λ e. cc) } }

-- a further slot of an entry has no mark
pub sibling_unmarked : (s : Slab Node) (head : ℕ) (but : Option ℕ) (level place key first : ℕ) → IsSound s head but → StandsAt s key level (place / 64) → entry_at s level place ≡ Some (entry.Sibling first) → IsUnmarked s level place
sibling_unmarked s head but level place key first sound stands is = record {
  each = λ mark low.
      see-is (λ z i. bit_of (slot z i) (bit_at (bits z mark) i)) 0 s head sound.tree level place key stands.node stands.there stands.level_is stands.prefix_is
      ∙ unmarked_slot mark low (slot stands.node (place % 64)) refl is_here;
}
  where
    is_here : content (slot stands.node (place % 64)) ≡ Some (entry.Sibling first)
    is_here = sym (see-is (λ z i. content (slot z i)) None s head sound.tree level place key stands.node stands.there stands.level_is stands.prefix_is) ∙ is

    unmarked_slot : (mark : ℕ) → mark < 4 → (x : Slot) → slot stands.node (place % 64) ≡ x → content x ≡ Some (entry.Sibling first) → bit_of x (bit_at (bits stands.node mark) (place % 64)) ≡ 0
    unmarked_slot mark low Empty e f = refl
    unmarked_slot mark low (Leaf value) e f = absurd (let g : entry.Leaf value ≡ entry.Sibling first = same_Some _ _ f in cc)
    unmarked_slot mark low (Child c) e f = refl
    unmarked_slot mark low (Sibling g) e f = ((sound.exact mark low).each key stands.node stands.there).sibling (place % 64) g (omega arith) e

pub stands_beside : (s : Slab Node) (key level place span j : ℕ) → place % 64 + span ≤ 64 → j < span → StandsAt s key level (place / 64) → StandsAt s key level ((place + j) / 64)
stands_beside s key level place span j within low t = record { node = t.node; there = t.there; level_is = t.level_is; prefix_is = omega (arith, t.prefix_is, within, low) }

pub unmarked_at : (old s : Slab Node) (level place j : ℕ) → j ≡ 0 → IsUnmarked old level place → ErasesRun old s level place j → IsUnmarked s level (place + j)
unmarked_at old s level place j zero_j unmarked e =
    let same : place + j ≡ place = omega (arith, zero_j) in
    record { each = λ mark low. ap (mark_at mark s level) same ∙ e.marks mark level place low ∙ unmarked.each mark low }
