-- Lemmas on a node that is made below an empty slot.
use Rattle.std.proofs.Common.{◌≡◌, ◌≢◌, ℕ, zero, suc, ◌+◌, ◌-◌, ◌/◌, ◌%◌, ◌^◌, ◌<◌, ◌≤◌, min, Bool, cond, List, length, get_or, set, Option, Some, None, count_by, refl, sym, ap, ◌∙◌, inl, inr, arith, get_or-set_same, get_or-set_other, length-set, lit<}
use Rattle.std.proofs.Math.ListN.{replicate}
use Rattle.std.specs.Int.{bit_at}
use Rattle.std.proofs.lemmas.Nat.Bits.{bit_at-zero}
use Rattle.std.proofs.lemmas.Bool.{cases_eq, cases_lt}
use Rattle.std.proofs.lemmas.Option.{same_Some, none-some}
use Rattle.std.proofs.lemmas.List.{get_or-replicate, get_or_past}
use Rattle.std.proofs.lemmas.List.Sums.{sum_by-set}
use Rattle.slab.specs.Slab.{Slab, get, Updates, with_value}
use Rattle.slab.proofs.SlabLemmas.{Updates-with_value}
use Rattle.radix.specs.declared.node.Node.{Node}
use Rattle.radix.specs.declared.slot.Slot.{Slot}
use Rattle.radix.specs.declared.slot.Slot.TheVariants.{Empty, Child, Sibling}
use Rattle.radix.specs.Entries.{slot, bits, content, bit_of, see}
use Rattle.radix.specs.Tree.{is_used, IsLink, IsNode, IsTree, IsMarked, MarkIsExactBut, NoneEmptyBut, IsSound, SameSlots, HasGap, blank, with_slot}
use Rattle.radix.proofs.SeeLemmas.{see-same}
use Rattle.radix.proofs.TreeLemmas.{contains_key}
use Rattle.radix.proofs.Places.{place-small}
use Rattle.radix.proofs.LinkedLemmas.{Gains, Linked, cases_new, kept, not_child, tree_new}

-- ---- slots that change

pub slot-same : (n : Node) (offset : ℕ) (x : Slot) (count : ℕ) → length n.slots ≡ 64 → offset < 64 → slot (with_slot n offset x count) offset ≡ x
slot-same n offset x count slots within = get_or-set_same n.slots offset x Empty (omega (arith, slots))

pub slot-other : (n : Node) (offset other : ℕ) (x : Slot) (count : ℕ) → other ≢ offset → slot (with_slot n offset x count) other ≡ slot n other
slot-other n offset other x count differs = get_or-set_other n.slots offset other x Empty differs

pub count_by-set : {X : Type 0} (p : X → Bool) (xs : List X) (i : ℕ) (y d : X) → i < length xs → count_by p (set xs i y) + cond (p (get_or xs i d)) 1 0 ≡ count_by p xs + cond (p y) 1 0
count_by-set p xs i y d within = sum_by-set (λ x. cond (p x) 1 0) xs i y d within

pub slot-blank : (level prefix : ℕ) (parent : Option ℕ) (offset : ℕ) → slot (blank level prefix parent) offset ≡ Empty
slot-blank level prefix parent offset = elim (cases_lt offset 64) [
  | inl within ↦ get_or-replicate 64 offset Empty Empty within
  | inr past ↦ get_or_past (replicate 64 Empty) offset Empty past
]

pub bits-blank : (level prefix : ℕ) (parent : Option ℕ) (mark : ℕ) → mark < 4 → bits (blank level prefix parent) mark ≡ 0
bits-blank level prefix parent zero low = refl
bits-blank level prefix parent (suc zero) low = refl
bits-blank level prefix parent (suc (suc zero)) low = refl
bits-blank level prefix parent (suc (suc (suc zero))) low = refl
bits-blank level prefix parent (suc (suc (suc (suc mark)))) low = absurd (omega arith)

fits-blank : (level prefix : ℕ) (parent : Option ℕ) (mark : ℕ) → bits (blank level prefix parent) mark < 2 ^ 64
fits-blank level prefix parent zero = lit< tt
fits-blank level prefix parent (suc zero) = lit< tt
fits-blank level prefix parent (suc (suc zero)) = lit< tt
fits-blank level prefix parent (suc (suc (suc zero))) = lit< tt
fits-blank level prefix parent (suc (suc (suc (suc mark)))) = lit< tt

pub IsNode-blank : (level prefix : ℕ) (parent : Option ℕ) → level ≤ 10 → prefix < 2 ^ 58 → IsNode (blank level prefix parent)
IsNode-blank level prefix parent low small = record { slots = refl; marks = refl; level = low; prefix = small; fits = fits-blank level prefix parent; count = refl }

-- a node `child` below the node `key`, at `place`
module _ (old new : Slab Node) (head key : ℕ) (n : Node) (child place : ℕ) (sound : IsSound old head (Some key)) (was : get old key ≡ Some n) (vacant : get old child ≡ None) (tiny : child < 2 ^ 62) (small : place < 2 ^ 58) (inner : 0 < n.level) (on_path : n.prefix ≡ place / 64) (empty : slot n (place % 64) ≡ Empty) (now : get new key ≡ Some (with_slot n (place % 64) (Child child) (n.count + 1))) (made : get new child ≡ Some (blank (n.level - 1) place (Some key))) (others : (x : ℕ) → x ≢ key → x ≢ child → get new x ≡ get old x) where
  abbrev m : Node
  m = with_slot n (place % 64) (Child child) (n.count + 1)

  abbrev b : Node
  b = blank (n.level - 1) place (Some key)

  tree_was : IsTree old head
  tree_was = sound.tree

  node_was : IsNode n
  node_was = tree_was.nodes key n was

  linked : slot m (place % 64) ≡ Child child
  linked = slot-same n (place % 64) (Child child) (n.count + 1) node_was.slots (omega arith)

  Gains-n : Gains n m
  Gains-n = record {
    level = refl;
    prefix = refl;
    parent = refl;
    marks = refl;
    keeps = λ o c names.
        let differs : o ≢ place % 64 = λ same. let e : Empty ≡ Child c = sym empty ∙ ap (slot n) (sym same) ∙ names in cc in
        slot-other n (place % 64) o (Child child) (n.count + 1) differs ∙ names;
  }

  link_new : IsLink key m (place % 64) b
  link_new = record { parent = refl; level = omega arith; prefix = omega (arith, on_path); within = omega arith }

  count_new : n.count + 1 ≡ count_by is_used m.slots
  count_new =
      let e = count_by-set is_used n.slots (place % 64) (Child child) Empty (omega (arith, node_was.slots)) in
      let f : cond (is_used (slot n (place % 64))) 1 0 ≡ 0 = ap {B = ℕ} (λ (x : Slot). cond (is_used x) 1 0) empty in
      omega (arith, e, f, node_was.count)

  IsNode-m : IsNode m
  IsNode-m = record { slots = length-set n.slots (place % 64) (Child child) ∙ node_was.slots; marks = node_was.marks; level = node_was.level; prefix = node_was.prefix; fits = node_was.fits; count = count_new }

  in_slab : Linked old new head key n m b child place
  in_slab = record {
    tree_was = tree_was;
    was = was;
    vacant = vacant;
    tiny = tiny;
    now = now;
    made = made;
    others = others;
    gains = Gains-n;
    link = link_new;
    linked = linked;
    same_slot = λ o differs. slot-other n (place % 64) o (Child child) (n.count + 1) differs;
    node_above = IsNode-m;
    node_below = IsNode-blank (n.level - 1) place (Some key) (omega (arith, node_was.level)) small;
    no_child = λ o c names. let e : Empty ≡ Child c = sym (slot-blank (n.level - 1) place (Some key) o) ∙ names in cc;
  }

  -- ---- the marks

  bits_kept : (mark x : ℕ) (y z : Node) → get old x ≡ Some y → get new x ≡ Some z → bits z mark ≡ bits y mark
  bits_kept mark x y z at is =
      let k = kept in_slab x y at in
      ap (λ w. bits w mark) (same_Some z k.node (sym is ∙ k.there)) ∙ ap (λ ms. get_or ms mark 0) k.is.marks

  exact_m : (mark : ℕ) → mark < 4 → IsMarked new mark None m
  exact_m mark low =
      let e = (sound.exact mark low).each key n was in
      record {
        empty = λ o within is.
            let differs : o ≢ place % 64 = λ same. let f : Child child ≡ Empty = sym linked ∙ ap (slot m) (sym same) ∙ is in cc in
            e.empty o within (sym (slot-other n (place % 64) o (Child child) (n.count + 1) differs) ∙ is);
        sibling = λ o first within is.
            let differs : o ≢ place % 64 = λ same. let f : Child child ≡ Sibling first = sym linked ∙ ap (slot m) (sym same) ∙ is in cc in
            e.sibling o first within (sym (slot-other n (place % 64) o (Child child) (n.count + 1) differs) ∙ is);
        child = λ o c below within is but there. elim (cases_eq o (place % 64)) [
          | inl same ↦
              let f : Child child ≡ Child c = sym linked ∙ ap (slot m) (sym same) ∙ is in
              let g : c ≡ child = cc in
              let h : below ≡ b = same_Some below b (sym there ∙ ap (get new) g ∙ made) in
              let k : bits below mark ≡ 0 = ap (λ w. bits w mark) h ∙ bits-blank (n.level - 1) place (Some key) mark low in
              let none : bit_at (bits n mark) o ≡ 0 = e.empty o within (ap (slot n) same ∙ empty) in
              none ∙ ap (λ w. min w 1) (sym k)
          | inr differs ↦
              let f : slot n o ≡ Child c = sym (slot-other n (place % 64) o (Child child) (n.count + 1) differs) ∙ is in
              let h = tree_was.children key n o c was f in
              e.child o c h.below within f but h.there ∙ ap (λ w. min w 1) (sym (bits_kept mark c h.below below h.there there))
        ];
      }

  exact_other : (mark : ℕ) → mark < 4 → (x : ℕ) (y : Node) → get old x ≡ Some y → IsMarked new mark None y
  exact_other mark low x y at =
      let e = (sound.exact mark low).each x y at in
      record {
        empty = e.empty;
        sibling = e.sibling;
        child = λ o c below within is but there.
            let h = tree_was.children x y o c at is in
            e.child o c h.below within is but h.there ∙ ap (λ w. min w 1) (sym (bits_kept mark c h.below below h.there there));
      }

  exact_b : (mark : ℕ) → mark < 4 → IsMarked new mark None b
  exact_b mark low =
      record {
        empty = λ o within is. rw (bits-blank (n.level - 1) place (Some key) mark low) (bit_at-zero o);
        sibling = λ o first within is. rw (bits-blank (n.level - 1) place (Some key) mark low) (bit_at-zero o);
        child = λ o c below within is but there. absurd (let e : Empty ≡ Child c = sym (slot-blank (n.level - 1) place (Some key) o) ∙ is in cc);
      }

  exact_new : (mark : ℕ) → mark < 4 → MarkIsExactBut new mark None
  exact_new mark low = record {
    each = λ x y at. elim (cases_new in_slab x y at) [
      | inl p ↦ rw (p.1) (exact_b mark low)
      | inr q ↦ elim q [ inl p ↦ rw (p.1) (exact_m mark low) | inr p ↦ exact_other mark low x y p.1 ]
    ];
  }

  filled_new : NoneEmptyBut new (Some child)
  filled_new = record {
    each = λ x y at but. elim (cases_new in_slab x y at) [
      | inl p ↦ absurd (but (ap Some p.0))
      | inr q ↦ elim q [ inl p ↦ rw (p.1) (omega arith) | inr p ↦ sound.filled.each x y p.1 (λ e. p.0 (let f : x ≡ key = cc in f)) ]
    ];
  }

  pub sound_new : IsSound new head (Some child)
  sound_new = record { tree = tree_new in_slab; exact = exact_new; filled = filled_new }

  -- ---- what the nodes stand for

  module _ {X : Type 0} (f : Node → ℕ → X) (none : X) (same : (o : ℕ) → f m o ≡ f n o) (gone : (o : ℕ) → f b o ≡ none) (level at : ℕ) where
    seen_new : see f none new level at ≡ see f none old level at
    seen_new = see-same f none old new head head tree_was (tree_new in_slab) level at
        (λ x y is at_level at_prefix. elim (cases_eq x key) [
          | inl here ↦
              let e : y ≡ n = same_Some y n (sym is ∙ ap (get old) here ∙ was) in
              record { key = key; node = m; there = now; at_level = ap (λ (z : Node). z.level) (sym e) ∙ at_level; at_prefix = ap (λ (z : Node). z.prefix) (sym e) ∙ at_prefix; sees = same (at % 64) ∙ ap (λ z. f z (at % 64)) (sym e) }
          | inr differs ↦ record { key = x; node = y; there = others x differs (not_child in_slab x y is) ∙ is; at_level = at_level; at_prefix = at_prefix; sees = refl }
        ])
        (λ x y is at_level at_prefix. elim (cases_new in_slab x y is) [
          | inl p ↦ inr (ap (λ z. f z (at % 64)) p.1 ∙ gone (at % 64))
          | inr q ↦ inl (elim q [
            | inl p ↦ record { key = key; node = n; there = was; at_level = ap (λ (z : Node). z.level) (sym p.1) ∙ at_level; at_prefix = ap (λ (z : Node). z.prefix) (sym p.1) ∙ at_prefix; sees = sym (same (at % 64)) ∙ ap (λ z. f z (at % 64)) (sym p.1) }
            | inr p ↦ record { key = x; node = y; there = p.1; at_level = at_level; at_prefix = at_prefix; sees = refl }
          ])
        ])

  same_content : (o : ℕ) → content (slot m o) ≡ content (slot n o)
  same_content o = elim (cases_eq o (place % 64)) [
    | inl e ↦ ap (λ z. content (slot m z)) e ∙ ap content linked ∙ sym (ap content empty) ∙ ap (λ z. content (slot n z)) (sym e)
    | inr differs ↦ ap content (slot-other n (place % 64) o (Child child) (n.count + 1) differs)
  ]

  same_bit : (mark o : ℕ) → bit_of (slot m o) (bit_at (bits m mark) o) ≡ bit_of (slot n o) (bit_at (bits n mark) o)
  same_bit mark o = elim (cases_eq o (place % 64)) [
    | inl e ↦ ap (λ z. bit_of z (bit_at (bits n mark) o)) (ap (slot m) e ∙ linked) ∙ ap (λ z. bit_of z (bit_at (bits n mark) o)) (sym (ap (slot n) e ∙ empty))
    | inr differs ↦ ap (λ z. bit_of z (bit_at (bits n mark) o)) (slot-other n (place % 64) o (Child child) (n.count + 1) differs)
  ]

  pub entries_new : SameSlots old new
  entries_new = record {
    entries = λ level at. seen_new (λ n o. content (slot n o)) None same_content (λ o. ap content (slot-blank (n.level - 1) place (Some key) o)) level at;
    marks = λ mark level at low. seen_new (λ n o. bit_of (slot n o) (bit_at (bits n mark) o)) 0 (same_bit mark) (λ o. ap (λ z. bit_of z (bit_at (bits b mark) o)) (slot-blank (n.level - 1) place (Some key) o)) level at;
  }

-- ---- the same as the code makes it: an insertion, and then a write of the node above

module _ (old mid : Slab Node) (head key : ℕ) (n n' b : Node) (child place index : ℕ) (sound : IsSound old head (Some key)) (gap : HasGap old key index) (was : get old key ≡ Some n) (vacant : get old child ≡ None) (tiny : child < 2 ^ 62) (fits : index < 2 ^ 64) (is_place : place ≡ index / 64 ^ n.level) (inserted : Updates old mid child (Some b)) (is_blank : b ≡ blank (n.level - 1) place (Some key)) (there : get mid key ≡ Some n') where
  abbrev written : Node → Slab Node
  written x = with_value mid key (with_slot x (place % 64) (Child child) (x.count + 1))

  gap_node : gap.node ≡ n
  gap_node = same_Some gap.node n (sym gap.there ∙ was)

  apart : key ≢ child
  apart e = none-some n (sym vacant ∙ ap (get old) (sym e) ∙ was)

  same_above : n' ≡ n
  same_above = same_Some n' n (sym there ∙ inserted.others key apart ∙ was)

  inner : 0 < n.level
  inner = let e = ap (λ (x : Node). x.level) gap_node in omega (arith, gap.inner, e)

  small : place < 2 ^ 58
  small = rw is_place (place-small index n.level fits inner)

  on_path : n.prefix ≡ place / 64
  on_path = rw is_place (rw (gap_node) at gap.on_path)

  empty : slot n (place % 64) ≡ Empty
  empty = rw is_place (rw (gap_node) at gap.empty)

  updates : Updates mid (written n) key (Some (with_slot n (place % 64) (Child child) (n.count + 1)))
  updates = Updates-with_value mid key (with_slot n (place % 64) (Child child) (n.count + 1)) (contains_key mid key n' there)

  made : get (written n) child ≡ Some (blank (n.level - 1) place (Some key))
  made = updates.others child (λ e. apart (sym e)) ∙ inserted.changed ∙ ap Some is_blank

  others : (x : ℕ) → x ≢ key → x ≢ child → get (written n) x ≡ get old x
  others x a d = updates.others x a ∙ inserted.others x d

  pub sound_written : IsSound (written n') head (Some child)
  sound_written = rw same_above (sound_new old (written n) head key n child place sound was vacant tiny small inner on_path empty updates.changed made others)

  pub entries_written : SameSlots old (written n')
  entries_written = rw same_above (entries_new old (written n) head key n child place sound was vacant tiny small inner on_path empty updates.changed made others)
