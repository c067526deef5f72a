-- Lemmas on the write of one slot with no child, and of one bit.
use Rattle.std.proofs.Common.{◌≡◌, ◌≢◌, ℕ, ◌+◌, ◌/◌, ◌%◌, ◌<◌, ◌⊎◌, min, cond, List, get_or, Option, Some, None, refl, sym, ap, ◌∙◌, inl, inr, arith, length-set}
use Rattle.std.specs.Int.{bit_at}
use Rattle.std.proofs.lemmas.Bool.{cases_eq}
use Rattle.std.proofs.lemmas.Option.{same_Some}
use Rattle.slab.specs.Slab.{Slab, get, Updates}
use Rattle.radix.specs.declared.node.Node.{Node}
use Rattle.radix.specs.declared.slot.Slot.{Slot}
use Rattle.radix.specs.declared.slot.Slot.TheVariants.{Empty, Leaf, Child, Sibling}
use Rattle.radix.specs.Entries.{slot, bits, content, bit_of, see, IsElsewhere}
use Rattle.radix.specs.Tree.{is_used, IsPlain, IsQuiet, IsNode, IsTree, IsMarked, MarkIsExactBut, NoneEmptyBut, IsSound, SameSlots, KeepsPlace, IsRemarked, Remarks, with_slot, WritesSlot}
use Rattle.radix.proofs.NodeLemmas.{EachNode-update, IsTree-kept}
use Rattle.radix.proofs.MarkLemmas.{IsTree-remarks}
use Rattle.radix.proofs.SeeLemmas.{see-same, see-is}
use Rattle.radix.proofs.GrowthLemmas.{slot-same, slot-other, count_by-set}

abbrev slot_in : List Slot → ℕ → Slot
slot_in xs o = get_or xs o Empty

KeepsPlace-refl : (n : Node) → KeepsPlace n n
KeepsPlace-refl n = record { level = refl; prefix = refl; parent = refl; keeps = λ o c e. e; kept = λ o c e. e }

-- ---- what the nodes stand for, where only the bits of a mark above the entries change

module _ (mark : ℕ) (old new : Slab Node) (head : ℕ) (each : Remarks mark old new) (tree_was : IsTree old head) where
  tree_is : IsTree new head
  tree_is = IsTree-remarks mark old new head each tree_was

  seen : {X : Type 0} (f : Node → ℕ → X) (none : X) (level at : ℕ) → ((x y : Node) → IsRemarked mark x y → f y (at % 64) ≡ f x (at % 64)) → see f none new level at ≡ see f none old level at
  seen f none level at same = see-same f none old new head head tree_was tree_is level at
      (λ x y is at_level at_prefix. let k = each.has x y is in record { key = x; node = k.node; there = k.there; at_level = k.is.level ∙ at_level; at_prefix = k.is.prefix ∙ at_prefix; sees = same y k.node k.is })
      (λ x y is at_level at_prefix. let k = each.had x y is in inl (record { key = x; node = k.node; there = k.there; at_level = sym k.is.level ∙ at_level; at_prefix = sym k.is.prefix ∙ at_prefix; sees = sym (same k.node y k.is) }))

  bit_kept : (x y : Slot) (b c : ℕ) → y ≡ x → (IsPlain x → c ≡ b) → bit_of y c ≡ bit_of x b
  bit_kept Empty y b c e f = ap (λ z. bit_of z c) e
  bit_kept (Leaf value) y b c e f = ap (λ z. bit_of z c) e ∙ f tt
  bit_kept (Child key) y b c e f = ap (λ z. bit_of z c) e
  bit_kept (Sibling first) y b c e f = ap (λ z. bit_of z c) e ∙ f tt

  pub remarks_entries : SameSlots old new
  remarks_entries = record {
    entries = λ level at. seen (λ n o. content (slot n o)) None level at (λ x y r. ap (λ z. content (slot_in z (at % 64))) r.slots);
    marks = λ other level at low. seen (λ n o. bit_of (slot n o) (bit_at (bits n other) o)) 0 level at
        (λ x y r. bit_kept (slot x (at % 64)) (slot y (at % 64)) (bit_at (bits x other) (at % 64)) (bit_at (bits y other) (at % 64)) (ap (λ z. slot_in z (at % 64)) r.slots)
        (λ plain. elim (cases_eq other mark) [
          | inl same ↦ ap (λ z. bit_at (bits y z) (at % 64)) same ∙ r.plain (at % 64) (omega arith) plain ∙ ap (λ z. bit_at (bits x z) (at % 64)) (sym same)
          | inr differs ↦ ap (λ z. bit_at z (at % 64)) (r.others other differs)
        ]));
  }

  pub remarks_filled : (but : Option ℕ) → NoneEmptyBut old but → NoneEmptyBut new but
  remarks_filled but filled = record { each = λ x y at apart. let k = each.had x y at in let e = k.is.count in omega (arith, e, filled.each x k.node k.there apart) }

  pub remarks_exact : (other : ℕ) → other ≢ mark → MarkIsExactBut old other None → MarkIsExactBut new other None
  remarks_exact other differs exact = record {
    each = λ x y at.
        let k = each.had x y at in
        let was = exact.each x k.node k.there in
        let same = k.is.others other differs in
        record {
          empty = λ o within is. ap (λ z. bit_at z o) same ∙ was.empty o within (ap (λ z. slot_in z o) (sym k.is.slots) ∙ is);
          sibling = λ o first within is. ap (λ z. bit_at z o) same ∙ was.sibling o first within (ap (λ z. slot_in z o) (sym k.is.slots) ∙ is);
          child = λ o key below within is but there.
              let b = each.had key below there in
              ap (λ z. bit_at z o) same ∙ was.child o key b.node within (ap (λ z. slot_in z o) (sym k.is.slots) ∙ is) but b.there ∙ ap (λ z. min z 1) (sym (b.is.others other differs));
        };
  }

-- ---- one node changes, and keeps its place and its children

module _ (old new : Slab Node) (head key : ℕ) (n m : Node) (was : get old key ≡ Some n) (updates : Updates old new key (Some m)) (keeps : KeepsPlace n m) (node : IsNode m) (tree_was : IsTree old head) where
  cases_one : (x : ℕ) (y : Node) → get new x ≡ Some y → ((x ≡ key) × (y ≡ m)) ⊎ ((x ≢ key) × (get old x ≡ Some y))
  cases_one x y at = elim (cases_eq x key) [
    | inl same ↦ inl (same, same_Some y m (sym at ∙ ap (get new) same ∙ updates.changed))
    | inr differs ↦ inr (differs, sym (updates.others x differs) ∙ at)
  ]

  pub one_tree : IsTree new head
  one_tree = IsTree-kept old new head (EachNode-update old new key n m KeepsPlace-refl was updates keeps)
      (λ x y at. elim (cases_one x y at) [ inl p ↦ rw (p.1) node | inr p ↦ tree_was.nodes x y p.1 ]) tree_was

  pub one_filled : (but : Option ℕ) → (Some key ≢ but → 0 < m.count) → NoneEmptyBut old but → NoneEmptyBut new but
  one_filled but some filled = record {
    each = λ x y at apart. elim (cases_one x y at) [
      | inl p ↦ let e = some (λ q. apart (ap Some p.0 ∙ q)) in let f = ap (λ (z : Node). z.count) p.1 in omega (arith, e, f)
      | inr p ↦ filled.each x y p.1 apart
    ];
  }

  module _ {X : Type 0} (f : Node → ℕ → X) (none : X) (level at : ℕ) where
    -- a place where f sees no change
    pub one_else : (n.level ≡ level → n.prefix ≡ at / 64 → f m (at % 64) ≡ f n (at % 64)) → see f none new level at ≡ see f none old level at
    one_else same = see-same f none old new head head tree_was one_tree level at
        (λ x y is at_level at_prefix. elim (cases_eq x key) [
          | inl here ↦
              let e : y ≡ n = same_Some y n (sym is ∙ ap (get old) here ∙ was) in
              let l : n.level ≡ level = ap (λ (z : Node). z.level) (sym e) ∙ at_level in
              let p : n.prefix ≡ at / 64 = ap (λ (z : Node). z.prefix) (sym e) ∙ at_prefix in
              record { key = key; node = m; there = updates.changed; at_level = keeps.level ∙ l; at_prefix = keeps.prefix ∙ p; sees = same l p ∙ ap (λ z. f z (at % 64)) (sym e) }
          | inr differs ↦ record { key = x; node = y; there = updates.others x differs ∙ is; at_level = at_level; at_prefix = at_prefix; sees = refl }
        ])
        (λ x y is at_level at_prefix. inl (elim (cases_one x y is) [
          | inl p ↦
              let l : n.level ≡ level = sym keeps.level ∙ ap (λ (z : Node). z.level) (sym p.1) ∙ at_level in
              let q : n.prefix ≡ at / 64 = sym keeps.prefix ∙ ap (λ (z : Node). z.prefix) (sym p.1) ∙ at_prefix in
              record { key = key; node = n; there = was; at_level = l; at_prefix = q; sees = sym (same l q) ∙ ap (λ z. f z (at % 64)) (sym p.1) }
          | inr p ↦ record { key = x; node = y; there = p.1; at_level = at_level; at_prefix = at_prefix; sees = refl }
        ]))

    -- a place of the node
    pub one_here : n.level ≡ level → n.prefix ≡ at / 64 → see f none new level at ≡ f m (at % 64)
    one_here l p = see-is f none new head one_tree level at key m updates.changed (keeps.level ∙ l) (keeps.prefix ∙ p)

  bits_one : (mark x : ℕ) (y z : Node) → bits m mark ≡ bits n mark → get old x ≡ Some y → get new x ≡ Some z → bits z mark ≡ bits y mark
  bits_one mark x y z same at is = elim (cases_one x z is) [
    | inl p ↦ ap (λ w. bits w mark) p.1 ∙ same ∙ ap (λ w. bits w mark) (same_Some n y (sym was ∙ ap (get old) (sym p.0) ∙ at))
    | inr p ↦ ap (λ w. bits w mark) (same_Some z y (sym p.1 ∙ at))
  ]

  -- the marks of the other nodes, where the bits of this one stay
  pub one_exact : (mark : ℕ) → bits m mark ≡ bits n mark → IsMarked new mark None m → MarkIsExactBut old mark None → MarkIsExactBut new mark None
  one_exact mark same here exact = record {
    each = λ x y at. elim (cases_one x y at) [
      | inl p ↦ rw (p.1) here
      | inr p ↦
          let e = exact.each x y p.1 in
          record {
            empty = e.empty;
            sibling = e.sibling;
            child = λ o c below within is but there.
                let h = tree_was.children x y o c p.1 is in
                e.child o c h.below within is but h.there ∙ ap (λ w. min w 1) (sym (bits_one mark c h.below below same h.there there));
          }
    ];
  }

-- ---- the write of a slot

pub quiet_bit : (y : Slot) (b : ℕ) → IsQuiet y b → bit_of y b ≡ b
quiet_bit Empty b q = sym q
quiet_bit (Leaf value) b q = refl
quiet_bit (Child c) b q = absurd q
quiet_bit (Sibling first) b q = refl

pub quiet_slot : (n : Node) (o mark : ℕ) (s : Slab Node) (but : Option ℕ) → IsMarked s mark but n → o < 64 → IsPlain (slot n o) → IsQuiet (slot n o) (bit_at (bits n mark) o)
quiet_slot n o mark s but is within plain = by_slot (slot n o) refl plain
  where
    by_slot : (y : Slot) → slot n o ≡ y → IsPlain y → IsQuiet y (bit_at (bits n mark) o)
    by_slot Empty e p = is.empty o within e
    by_slot (Leaf value) e p = tt
    by_slot (Child c) e p = absurd p
    by_slot (Sibling first) e p = is.sibling o first within e

module _ (old new : Slab Node) (head key : ℕ) (n : Node) (place : ℕ) (x : Slot) (count : ℕ) (sound : IsSound old head (Some key)) (was : get old key ≡ Some n) (on_path : n.prefix ≡ place / 64) (plain : IsPlain (slot n (place % 64))) (quiet : (mark : ℕ) → mark < 4 → IsQuiet x (bit_at (bits n mark) (place % 64))) (counts : count + cond (is_used (slot n (place % 64))) 1 0 ≡ n.count + cond (is_used x) 1 0) (updates : Updates old new key (Some (with_slot n (place % 64) x count))) where
  abbrev m : Node
  m = with_slot n (place % 64) x count

  node_was : IsNode n
  node_was = sound.tree.nodes key n was

  here : slot m (place % 64) ≡ x
  here = slot-same n (place % 64) x count node_was.slots (omega arith)

  else : (o : ℕ) → o ≢ place % 64 → slot m o ≡ slot n o
  else o differs = slot-other n (place % 64) o x count differs

  not_child : (c : ℕ) → x ≡ Child c → ⊥
  not_child c e = rw e at (quiet 0 (omega arith))

  keeps : KeepsPlace n m
  keeps = record {
    level = refl;
    prefix = refl;
    parent = refl;
    keeps = λ o c names. else o (λ same. rw (ap (slot n) (sym same) ∙ names) at plain) ∙ names;
    kept = λ o c names.
        let differs : o ≢ place % 64 = λ same. not_child c (sym here ∙ ap (slot m) (sym same) ∙ names) in
        sym (else o differs) ∙ names;
  }

  node : IsNode m
  node =
      let e = count_by-set is_used n.slots (place % 64) x Empty (omega (arith, node_was.slots)) in
      record { slots = length-set n.slots (place % 64) x ∙ node_was.slots; marks = node_was.marks; level = node_was.level; prefix = node_was.prefix; fits = node_was.fits; count = omega (arith, e, counts, node_was.count) }

  marked : (mark : ℕ) → mark < 4 → IsMarked new mark None m
  marked mark low =
      let e = (sound.exact mark low).each key n was in
      record {
        empty = λ o within is. elim (cases_eq o (place % 64)) [
          | inl same ↦
              let f : x ≡ Empty = sym here ∙ ap (slot m) (sym same) ∙ is in
              ap (bit_at (bits n mark)) same ∙ (rw f at (quiet mark low))
          | inr differs ↦ e.empty o within (sym (else o differs) ∙ is)
        ];
        sibling = λ o first within is. elim (cases_eq o (place % 64)) [
          | inl same ↦
              let f : x ≡ Sibling first = sym here ∙ ap (slot m) (sym same) ∙ is in
              ap (bit_at (bits n mark)) same ∙ (rw f at (quiet mark low))
          | inr differs ↦ e.sibling o first within (sym (else o differs) ∙ is)
        ];
        child = λ o c below within is but there.
            let names : slot n o ≡ Child c = keeps.kept o c is in
            let h = sound.tree.children key n o c was names in
            e.child o c h.below within names but h.there ∙ ap (λ w. min w 1) (sym (bits_one old new head key n m was updates keeps node sound.tree mark c h.below below refl h.there there));
      }

  pub put_tree : IsTree new head
  put_tree = one_tree old new head key n m was updates keeps node sound.tree

  pub put_exact : (mark : ℕ) → mark < 4 → MarkIsExactBut new mark None
  put_exact mark low = one_exact old new head key n m was updates keeps node sound.tree mark refl (marked mark low) (sound.exact mark low)

  pub put_filled : (but : Option ℕ) → (Some key ≢ but → 0 < count) → NoneEmptyBut old but → NoneEmptyBut new but
  put_filled but some filled = one_filled old new head key n m was updates keeps node sound.tree but some filled

  elsewhere : (level at : ℕ) → IsElsewhere n.level place level at → n.level ≡ level → n.prefix ≡ at / 64 → at % 64 ≢ place % 64
  elsewhere level at apart l p same = apart (sym l) (omega (arith, same, p, on_path))

  pub put_entries : WritesSlot old new n.level place (content x)
  put_entries = record {
    entry =
        one_here old new head key n m was updates keeps node sound.tree (λ z o. content (slot z o)) None n.level place refl on_path
        ∙ ap content here;
    bits_stay = λ mark low.
        one_here old new head key n m was updates keeps node sound.tree (λ z o. bit_of (slot z o) (bit_at (bits z mark) o)) 0 n.level place refl on_path
        ∙ ap (λ y. bit_of y (bit_at (bits n mark) (place % 64))) here
        ∙ quiet_bit x (bit_at (bits n mark) (place % 64)) (quiet mark low)
        ∙ sym (quiet_bit (slot n (place % 64)) (bit_at (bits n mark) (place % 64)) (quiet_slot n (place % 64) mark old None ((sound.exact mark low).each key n was) (omega arith) plain))
        ∙ sym (see-is (λ z o. bit_of (slot z o) (bit_at (bits z mark) o)) 0 old head sound.tree n.level place key n was refl on_path);
    others = λ level at apart.
        one_else old new head key n m was updates keeps node sound.tree (λ z o. content (slot z o)) None level at
        (λ l p. ap content (else (at % 64) (elsewhere level at apart l p)));
    other_marks = λ mark level at low apart.
        one_else old new head key n m was updates keeps node sound.tree (λ z o. bit_of (slot z o) (bit_at (bits z mark) o)) 0 level at
        (λ l p. ap (λ y. bit_of y (bit_at (bits n mark) (at % 64))) (else (at % 64) (elsewhere level at apart l p)));
  }
