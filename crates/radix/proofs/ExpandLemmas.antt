-- Lemmas on a node of entries that comes in the place of an entry of one slot.
use Rattle.std.proofs.Common.{◌≡◌, ◌≢◌, ℕ, zero, suc, List, [], ◌∷◌, if◌then◌else◌, lit<, ◌+◌, ◌-◌, ◌*◌, ◌/◌, ◌%◌, ◌^◌, ◌<◌, ◌≤◌, min, true, cond, eqb, get_or, count_by, Some, None, refl, sym, ap, ◌∙◌, inl, inr, arith, length-set}
use Rattle.std.specs.Int.{bit_at}
use Rattle.std.proofs.lemmas.Bool.{cases_eq, cases_lt}
use Rattle.std.proofs.lemmas.Option.{same_Some, none-some}
use Rattle.std.proofs.lemmas.List.{get_or_past}
use Rattle.std.proofs.lemmas.Nat.Bits.{bit_at-lt}
use Rattle.slab.specs.Slab.{Slab, get, Updates, slab_len, with_value}
use Rattle.slab.proofs.SlabLemmas.{Updates-with_value}
use Rattle.radix.specs.declared.node.Node.{Node}
use Rattle.radix.specs.declared.slot.Slot.{Slot}
use Rattle.radix.specs.declared.slot.Slot.TheVariants.{Empty, Child, Sibling}
use Rattle.radix.specs.Entries.{slot, bits, content, bit_of, see, entry_at, IsElsewhere, IsLeaf, StandsAt}
use Rattle.radix.specs.Tree.{is_used, IsLeafSlot, IsLink, IsNode, IsTree, IsMarked, MarkIsExactBut, NoneEmptyBut, IsSound, TellsEntries, with_slot}
use Rattle.radix.specs.Parts.{AllParts, AreFirsts, IsFull, Parts, WritesParts, part_slot}
use Rattle.radix.proofs.Places.{place-small}
use Rattle.radix.proofs.SeeLemmas.{see-same, see-is}
use Rattle.radix.proofs.TreeLemmas.{contains_key}
use Rattle.radix.proofs.RunLemmas.{slot_in_is}
use Rattle.radix.proofs.GrowthLemmas.{count_by-set, slot-other, slot-same}
use Rattle.radix.proofs.LinkedLemmas.{Gains, Linked, cases_new, kept, not_child, tree_new}
use Rattle.radix.proofs.FirstsLemmas.{given_at, given_any}
use Rattle.radix.proofs.CutLemmas.{count_by-all, leaf_slot, len_kept, part_bit, part_content, part_no_child, part_not_empty, part_quiet, part_used, parts_tell, parts_written}

-- a node `b` of entries below the node `key`, in the place of an entry at `place`
module _ (old new : Slab Node) (head key : ℕ) (n b : Node) (child place step : ℕ) (sound : IsSound old head None) (was : get old key ≡ Some n) (vacant : get old child ≡ None) (tiny : child < 2 ^ 62) (small : place < 2 ^ 58) (on_path : n.prefix ≡ place / 64) (leaf : IsLeafSlot (slot n (place % 64))) (full : IsFull n key place step b) (now : get new key ≡ Some (with_slot n (place % 64) (Child child) n.count)) (made : get new child ≡ Some b) (others : (x : ℕ) → x ≢ key → x ≢ child → get new x ≡ get old x) where
  abbrev m : Node
  m = with_slot n (place % 64) (Child child) n.count

  tree_was : IsTree old head
  tree_was = sound.tree

  node_was : IsNode n
  node_was = tree_was.nodes key n was

  linked : slot m (place % 64) ≡ Child child
  linked = slot-same n (place % 64) (Child child) n.count node_was.slots (omega arith)

  same_slot : (o : ℕ) → o ≢ place % 64 → slot m o ≡ slot n o
  same_slot o differs = slot-other n (place % 64) o (Child child) n.count differs

  -- the entry's slot was no child's
  no_child_was : (o c : ℕ) → slot n o ≡ Child c → o ≢ place % 64
  no_child_was o c names same = part_no_child true (slot n (place % 64)) 0 c leaf (ap (slot n) (sym same) ∙ names)

  Gains-n : Gains n m
  Gains-n = record { level = refl; prefix = refl; parent = refl; marks = refl; keeps = λ o c names. same_slot o (no_child_was o c names) ∙ names }

  link_new : IsLink key m (place % 64) b
  link_new = record { parent = full.parent; level = full.level; prefix = omega (arith, on_path, full.prefix); within = omega arith }

  count_new : n.count ≡ count_by is_used m.slots
  count_new =
      let e = count_by-set is_used n.slots (place % 64) (Child child) Empty (omega (arith, node_was.slots)) in
      let f : cond (is_used (slot n (place % 64))) 1 0 ≡ 1 = ap {B = ℕ} (λ z. cond z 1 0) (part_used true (slot n (place % 64)) 0 leaf) in
      omega (arith, e, f, node_was.count)

  IsNode-m : IsNode m
  IsNode-m = record { slots = length-set n.slots (place % 64) (Child child) ∙ node_was.slots; marks = node_was.marks; level = node_was.level; prefix = node_was.prefix; fits = node_was.fits; count = count_new }

  IsNode-b : IsNode b
  IsNode-b =
      let used = count_by-all is_used Empty b.slots (λ o low. let inside : o < 64 = omega (arith, low, full.slots_length) in ap is_used (full.slots o inside) ∙ part_used (eqb (o % 2 ^ step) 0) (slot n (place % 64)) (0 + (o - o % 2 ^ step)) leaf) in
      record {
        slots = full.slots_length;
        marks = full.marks_length;
        level = omega (arith, full.level, node_was.level);
        prefix = omega (arith, full.prefix, small);
        fits = full.fits;
        count = omega (arith, used, full.count, full.slots_length);
      }

  -- no slot of the new node has a child
  no_child : (o c : ℕ) → slot b o ≡ Child c → ⊥
  no_child o c names = elim (cases_lt o 64) [
    | inl inside ↦ part_no_child (eqb (o % 2 ^ step) 0) (slot n (place % 64)) (0 + (o - o % 2 ^ step)) c leaf (sym (full.slots o inside) ∙ names)
    | inr past ↦ let e : Empty ≡ Child c = sym (get_or_past b.slots o Empty (omega (arith, past, full.slots_length))) ∙ names in cc
  ]

  in_slab : Linked old new head key n m b child place
  in_slab = record {
    tree_was = tree_was;
    was = was;
    vacant = vacant;
    tiny = tiny;
    now = now;
    made = made;
    others = others;
    gains = Gains-n;
    link = link_new;
    linked = linked;
    same_slot = same_slot;
    node_above = IsNode-m;
    node_below = IsNode-b;
    no_child = no_child;
  }

  -- ---- the marks

  -- a child that was there is marked as it was
  child_kept : (mark x : ℕ) (y : Node) (o c : ℕ) (below : Node) → mark < 4 → get old x ≡ Some y → o < 64 → slot y o ≡ Child c → get new c ≡ Some below → bit_at (bits y mark) o ≡ min (bits below mark) 1
  child_kept mark x y o c below low there inside names is =
      let h = tree_was.children x y o c there names in
      let k = kept in_slab c h.below h.there in
      let e : bits below mark ≡ bits h.below mark = ap (λ w. bits w mark) (same_Some below k.node (sym is ∙ k.there)) ∙ ap (λ ms. get_or ms mark 0) k.is.marks in
      ((sound.exact mark low).each x y there).child o c h.below inside names (λ e. cc) h.there ∙ ap (λ w. min w 1) (sym e)

  exact_m : (mark : ℕ) → mark < 4 → IsMarked new mark None m
  exact_m mark low =
      let e = (sound.exact mark low).each key n was in
      record {
        empty = λ o within is.
            let differs : o ≢ place % 64 = λ same. let f : Child child ≡ Empty = sym linked ∙ ap (slot m) (sym same) ∙ is in cc in
            e.empty o within (sym (same_slot o differs) ∙ is);
        sibling = λ o first within is.
            let differs : o ≢ place % 64 = λ same. let f : Child child ≡ Sibling first = sym linked ∙ ap (slot m) (sym same) ∙ is in cc in
            e.sibling o first within (sym (same_slot o differs) ∙ is);
        child = λ o c below within is but there. elim (cases_eq o (place % 64)) [
          | inl same ↦
              let f : Child child ≡ Child c = sym linked ∙ ap (slot m) (sym same) ∙ is in
              let g : c ≡ child = cc in
              let h : below ≡ b = same_Some below b (sym there ∙ ap (get new) g ∙ made) in
              ap (bit_at (bits n mark)) same ∙ sym (full.any mark low) ∙ ap (λ w. min (bits w mark) 1) (sym h)
          | inr differs ↦ child_kept mark key n o c below low was within (sym (same_slot o differs) ∙ is) there
        ];
      }

  exact_other : (mark : ℕ) → mark < 4 → (x : ℕ) (y : Node) → get old x ≡ Some y → IsMarked new mark None y
  exact_other mark low x y at =
      let e = (sound.exact mark low).each x y at in
      record { empty = e.empty; sibling = e.sibling; child = λ o c below within is but there. child_kept mark x y o c below low at within is there }

  exact_b : (mark : ℕ) → mark < 4 → IsMarked new mark None b
  exact_b mark low = record {
    empty = λ o inside is. absurd (part_not_empty (eqb (o % 2 ^ step) 0) (slot n (place % 64)) (0 + (o - o % 2 ^ step)) leaf (sym (full.slots o inside) ∙ is));
    sibling = λ o first inside is. full.marks mark o low inside ∙ part_quiet (eqb (o % 2 ^ step) 0) (slot n (place % 64)) (0 + (o - o % 2 ^ step)) (bit_at (bits n mark) (place % 64)) first leaf (sym (full.slots o inside) ∙ is);
    child = λ o c below within is but there. absurd (no_child o c is);
  }

  exact_new : (mark : ℕ) → mark < 4 → MarkIsExactBut new mark None
  exact_new mark low = record {
    each = λ x y at. elim (cases_new in_slab x y at) [
      | inl p ↦ rw (p.1) (exact_b mark low)
      | inr q ↦ elim q [ inl p ↦ rw (p.1) (exact_m mark low) | inr p ↦ exact_other mark low x y p.1 ]
    ];
  }

  filled_new : NoneEmptyBut new None
  filled_new = record {
    each = λ x y at but. elim (cases_new in_slab x y at) [
      | inl p ↦ rw (p.1, full.count) (omega arith)
      | inr q ↦ elim q [ inl p ↦ rw (p.1) (sound.filled.each key n was (λ e. cc)) | inr p ↦ sound.filled.each x y p.1 (λ e. cc) ]
    ];
  }

  pub full_sound : IsSound new head None
  full_sound = record { tree = tree_new in_slab; exact = exact_new; filled = filled_new }

  -- ---- what the nodes stand for

  -- a place that is neither the entry's nor in the new node
  module _ {X : Type 0} (f : Node → ℕ → X) (none : X) (level at : ℕ) (here : at % 64 ≢ place % 64 → f m (at % 64) ≡ f n (at % 64)) (apart : level ≡ b.level → place * 64 ≤ at → at < place * 64 + 64 → ⊥) (differs : IsElsewhere n.level place level at) where
    beside : n.level ≡ level → n.prefix ≡ at / 64 → f m (at % 64) ≡ f n (at % 64)
    beside l p = here (λ same. differs (sym l) (omega (arith, same, p, on_path)))

    seen_new : see f none new level at ≡ see f none old level at
    seen_new = see-same f none old new head head tree_was (tree_new in_slab) level at
        (λ x y is at_level at_prefix. elim (cases_eq x key) [
          | inl same ↦
              let e : y ≡ n = same_Some y n (sym is ∙ ap (get old) same ∙ was) in
              let l : n.level ≡ level = ap (λ (z : Node). z.level) (sym e) ∙ at_level in
              let p : n.prefix ≡ at / 64 = ap (λ (z : Node). z.prefix) (sym e) ∙ at_prefix in
              record { key = key; node = m; there = now; at_level = l; at_prefix = p; sees = beside l p ∙ ap (λ z. f z (at % 64)) (sym e) }
          | inr other ↦ record { key = x; node = y; there = others x other (not_child in_slab x y is) ∙ is; at_level = at_level; at_prefix = at_prefix; sees = refl }
        ])
        (λ x y is at_level at_prefix. elim (cases_new in_slab x y is) [
          | inl p ↦
              let l : b.level ≡ level = ap (λ (z : Node). z.level) (sym p.1) ∙ at_level in
              let q : b.prefix ≡ at / 64 = ap (λ (z : Node). z.prefix) (sym p.1) ∙ at_prefix in
              absurd (apart (sym l) (omega (arith, q, full.prefix)) (omega (arith, q, full.prefix)))
          | inr q ↦ inl (elim q [
            | inl p ↦
                let l : n.level ≡ level = ap (λ (z : Node). z.level) (sym p.1) ∙ at_level in
                let r : n.prefix ≡ at / 64 = ap (λ (z : Node). z.prefix) (sym p.1) ∙ at_prefix in
                record { key = key; node = n; there = was; at_level = l; at_prefix = r; sees = sym (beside l r) ∙ ap (λ z. f z (at % 64)) (sym p.1) }
            | inr p ↦ record { key = x; node = y; there = p.1; at_level = at_level; at_prefix = at_prefix; sees = refl }
          ])
        ])

  -- the place of a slot of the new node
  below_prefix : (j : ℕ) → j < 64 → b.prefix ≡ (place * 64 + j) / 64
  below_prefix j low = omega (arith, full.prefix, low)

  below_offset : (j : ℕ) → j < 64 → (place * 64 + j) % 64 ≡ j
  below_offset j low = omega (arith, low)

  pub full_writes : WritesParts old new n.level place b.level (place * 64) 64 step
  full_writes = record {
    slots = λ value j is low.
        see-is (λ z o. content (slot z o)) None new head (tree_new in_slab) b.level (place * 64 + j) child b made refl (below_prefix j low)
        ∙ ap (λ o. content (slot b o)) (below_offset j low)
        ∙ ap content (full.slots j low)
        ∙ part_content (eqb (j % 2 ^ step) 0) (slot n (place % 64)) 0 (0 + (j - j % 2 ^ step)) ((place * 64 + (j - j % 2 ^ step)) % 64) value
        (sym (see-is (λ z o. content (slot z o)) None old head tree_was n.level place key n was refl on_path) ∙ is) (omega (arith, low));
    marks = λ mark j small_mark low.
        see-is (λ z o. bit_of (slot z o) (bit_at (bits z mark) o)) 0 new head (tree_new in_slab) b.level (place * 64 + j) child b made refl (below_prefix j low)
        ∙ ap (λ o. bit_of (slot b o) (bit_at (bits b mark) o)) (below_offset j low)
        ∙ ap (λ z. bit_of z (bit_at (bits b mark) j)) (full.slots j low)
        ∙ ap (bit_of (part_slot (slot n (place % 64)) 0 step j)) (full.marks mark j small_mark low)
        ∙ part_bit (eqb (j % 2 ^ step) 0) (slot n (place % 64)) (0 + (j - j % 2 ^ step)) (bit_at (bits n mark) (place % 64)) leaf
        ∙ ap (λ z. cond (eqb (j % 2 ^ step) 0) z 0) (sym (see-is (λ z o. bit_of (slot z o) (bit_at (bits z mark) o)) 0 old head tree_was n.level place key n was refl on_path));
    gone = λ apart. see-is (λ z o. content (slot z o)) None new head (tree_new in_slab) n.level place key m now refl on_path ∙ ap content linked;
    others = λ level at apart differs. seen_new (λ z o. content (slot z o)) None level at (λ unlike. ap content (same_slot (at % 64) unlike)) apart differs;
    other_marks = λ mark level at small_mark apart differs.
        seen_new (λ z o. bit_of (slot z o) (bit_at (bits z mark) o)) 0 level at (λ unlike. ap (λ z. bit_of z (bit_at (bits n mark) (at % 64))) (same_slot (at % 64) unlike)) apart differs;
  }

-- ---- the new node, as the code makes it

-- the bits of a mark where the slot has it
pub record IsGiven (b firsts o w : ℕ) : Type 0 where
  pub is : w ≡ (if eqb (bit_at b o) 1 then firsts else 0)
  pub fits : w < 2 ^ 64

module _ (above : Node) (key place step firsts w0 w1 w2 w3 : ℕ) (slots : List Slot) (inner : 0 < above.level) (are : AreFirsts firsts 0 64 step) (parts : AllParts (slot above (place % 64)) step slots) (given0 : IsGiven (bits above 0) firsts (place % 64) w0) (given1 : IsGiven (bits above 1) firsts (place % 64) w1) (given2 : IsGiven (bits above 2) firsts (place % 64) w2) (given3 : IsGiven (bits above 3) firsts (place % 64) w3) where
  abbrev filled : Node
  filled = record { level = above.level - 1; count = 64; prefix = place; parent = Some key; marks = w0 ∷ w1 ∷ w2 ∷ w3 ∷ []; slots = slots }

  gives : (mark : ℕ) → mark < 4 → IsGiven (bits above mark) firsts (place % 64) (bits filled mark)
  gives zero small = given0
  gives (suc zero) small = given1
  gives (suc (suc zero)) small = given2
  gives (suc (suc (suc zero))) small = given3
  gives (suc (suc (suc (suc mark)))) small = absurd (omega (arith, small))

  fits : (mark : ℕ) → bits filled mark < 2 ^ 64
  fits zero = given0.fits
  fits (suc zero) = given1.fits
  fits (suc (suc zero)) = given2.fits
  fits (suc (suc (suc zero))) = given3.fits
  fits (suc (suc (suc (suc mark)))) = lit< tt

  pub is_full : IsFull above key place step filled
  is_full = record {
    level = omega (arith, inner);
    prefix = refl;
    parent = refl;
    count = refl;
    slots_length = parts.length_is;
    marks_length = refl;
    slots = parts.each;
    marks = λ mark j small low. given_at (bit_at (bits above mark) (place % 64)) firsts (bits filled mark) step (bit_at-lt (bits above mark) (place % 64)) are (gives mark small).is j low;
    any = λ mark small. given_any (bit_at (bits above mark) (place % 64)) firsts (bits filled mark) step (bit_at-lt (bits above mark) (place % 64)) are (gives mark small).is;
    fits = fits;
  }

-- ---- the same as the code makes it: an insertion, and then a write of the node above

-- what `expand` ensures of the entries
pub record IsExpanded (old new : Slab Node) (head key child level place step : ℕ) : Type 0 where
  pub sound : IsSound new head None
  pub tells : TellsEntries new
  pub parts : Parts old new level place (level - 1) (place * 64) 64 step
  pub stands : StandsAt new key level (place / 64)
  pub below : StandsAt new child (level - 1) place
  pub len : slab_len new ≡ slab_len old + 1

expanded_at : (old new : Slab Node) (place step l level low : ℕ) → l ≡ level → l ≡ low + 1 → WritesParts old new l place low (place * 64) 64 step → WritesParts old new level place (level - 1) (place * 64) 64 step
expanded_at old new place step l level low same up writes = let e : low ≡ level - 1 = omega (arith, same, up) in rw (same, e) at writes

module _ (old mid : Slab Node) (head key level index child step p : ℕ) (n n' b : Node) (named : Slot) (sound : IsSound old head None) (tells : TellsEntries old) (inner : 0 < level) (fits : index < 2 ^ 64) (stands : StandsAt old key level (index / 64 ^ level / 64)) (leaf : IsLeaf (entry_at old level (index / 64 ^ level))) (was : get old key ≡ Some n) (is_place : p ≡ index / 64 ^ level) (full_as : IsFull n key p step b) (vacant : get old child ≡ None) (tiny : child < 2 ^ 62) (inserted : Updates old mid child (Some b)) (grown : slab_len mid ≡ slab_len old + 1) (there : get mid key ≡ Some n') (names : named ≡ Child child) where
  abbrev place : ℕ
  place = index / 64 ^ level

  abbrev written : Node → Slab Node
  written x = with_value mid key (with_slot x (p % 64) (Child child) x.count)

  same : stands.node ≡ n
  same = same_Some stands.node n (sym stands.there ∙ was)

  level_is : n.level ≡ level
  level_is = sym (ap (λ (z : Node). z.level) same) ∙ stands.level_is

  on_path : n.prefix ≡ place / 64
  on_path = sym (ap (λ (z : Node). z.prefix) same) ∙ stands.prefix_is

  apart : key ≢ child
  apart e = none-some n (sym vacant ∙ ap (get old) (sym e) ∙ was)

  same_above : n' ≡ n
  same_above = same_Some n' n (sym there ∙ inserted.others key apart ∙ was)

  first_leaf : IsLeafSlot (slot n (place % 64))
  first_leaf = leaf_slot (slot n (place % 64)) (rw (slot_in_is old head sound.tree level place key n stands was) leaf)

  full : IsFull n key place step b
  full = rw is_place at full_as

  updates : Updates mid (written n) key (Some (with_slot n (p % 64) (Child child) n.count))
  updates = Updates-with_value mid key (with_slot n (p % 64) (Child child) n.count) (contains_key mid key n' there)

  now : get (written n) key ≡ Some (with_slot n (place % 64) (Child child) n.count)
  now = updates.changed ∙ ap (λ z. Some (with_slot n (z % 64) (Child child) n.count)) is_place

  made : get (written n) child ≡ Some b
  made = updates.others child (λ e. apart (sym e)) ∙ inserted.changed

  others : (x : ℕ) → x ≢ key → x ≢ child → get (written n) x ≡ get old x
  others x a d = updates.others x a ∙ inserted.others x d

  writes : WritesParts old (written n) level place (level - 1) (place * 64) 64 step
  writes = expanded_at old (written n) place step n.level level b.level level_is full.level
      (full_writes old (written n) head key n b child place step sound was vacant tiny (place-small index level fits inner) on_path first_leaf full now made others)

  expanded : IsExpanded old (written n) head key child level place step
  expanded = record {
    sound = full_sound old (written n) head key n b child place step sound was vacant tiny (place-small index level fits inner) on_path first_leaf full now made others;
    tells = parts_tell old (written n) level place (level - 1) (place * 64) 64 step writes tells leaf (λ e. absurd (omega (arith, e, inner)));
    parts = parts_written old (written n) level place (level - 1) (place * 64) 64 step writes;
    stands = record { node = with_slot n (place % 64) (Child child) n.count; there = now; level_is = level_is; prefix_is = on_path };
    below = record { node = b; there = made; level_is = omega (arith, full.level, level_is); prefix_is = full.prefix };
    len = len_kept mid key n' (with_slot n (p % 64) (Child child) n.count) there ∙ grown;
  }

  pub is_expanded : IsExpanded old (with_value mid key (with_slot n' (p % 64) named n'.count)) head key child level place step
  is_expanded = rw (same_above, names) expanded
