-- Lemmas on an entry of several slots that becomes several entries of its node.
use Rattle.std.proofs.Common.{◌≡◌, ◌≢◌, ℕ, zero, suc, ◌+◌, ◌-◌, ◌/◌, ◌%◌, ◌^◌, ◌<◌, ◌≤◌, ◌⊎◌, min, Bool, true, false, cond, eqb, List, [], ◌∷◌, length, get_or, count_by, is_some, Option, Some, None, refl, sym, ap, ◌∙◌, inl, inr, arith, if◌then◌else◌, bit_or, lit<}
use Rattle.std.proofs.Math.ListN.{replicate}
use Rattle.std.specs.Int.{bit_at}
use Rattle.std.proofs.lemmas.Bool.{cases_eq, cases_lt, cond-true}
use Rattle.std.proofs.lemmas.Option.{same_Some, none-some}
use Rattle.std.proofs.lemmas.List.{get_or_past, get_or-replicate}
use Rattle.std.proofs.lemmas.List.Sums.{sum_by-cons}
use Rattle.slab.specs.Slab.{Slab, get, Updates, slab_len, with_value}
use Rattle.slab.proofs.SlabLemmas.{Updates-with_value}
use Rattle.radix.specs.declared.node.Node.{Node}
use Rattle.radix.specs.declared.slot.Slot.{Slot}
use Rattle.radix.specs.declared.slot.Slot.TheVariants.{Empty, Leaf, Child, Sibling}
use Rattle.radix.specs.declared.entry.Entry.{Entry}
use Rattle.radix.specs.declared.entry.Entry.TheVariants as entry
use Rattle.radix.specs.Entries.{slot, bits, content, bit_of, entry_at, mark_at, IsLeaf, IsRun, StandsAt}
use Rattle.radix.specs.Tree.{is_used, leaf_bit, IsLeafSlot, IsNode, IsMarked, MarkIsExactBut, IsSound, KeepsPlace, TellsEntries}
use Rattle.radix.specs.Parts.{AllParts, AreFirsts, IsCut, Parts, PartsSlots, WritesParts, part_slot}
use Rattle.radix.proofs.SeeLemmas.{see-is}
use Rattle.radix.proofs.WriteLemmas.{one_tree, one_filled, one_else, one_here}
use Rattle.radix.proofs.EntryBitLemmas.{here_or_else, in_run_or_else}
use Rattle.radix.proofs.RunLemmas.{unmarked_none, slot_in_is}
use Rattle.radix.proofs.GrowthLemmas.{count_by-set}
use Rattle.radix.proofs.RemovalLemmas.{stands_beside}
use Rattle.radix.proofs.TreeLemmas.{contains_key}
use Rattle.radix.proofs.FirstsLemmas.{more_inside, more_outside, more_any}

-- ---- one slot of the entries

-- it is an entry's, and its bit is that of the first slot or none
pub part_content : (c : Bool) (x : Slot) (at s t value : ℕ) → content x ≡ Some (entry.Leaf value) → s ≡ t → content (cond c x (Sibling s)) ≡ Some (cond c (entry.Leaf value) (entry.Sibling t))
part_content true x at s t value is same = is
part_content false x at s t value is same = ap (λ z. Some (entry.Sibling z)) same

pub part_bit : (c : Bool) (x : Slot) (s bit : ℕ) → IsLeafSlot x → bit_of (cond c x (Sibling s)) (cond c bit 0) ≡ cond c (bit_of x bit) 0
part_bit true x s bit leaf = refl
part_bit false x s bit leaf = refl

pub part_used : (c : Bool) (x : Slot) (s : ℕ) → IsLeafSlot x → is_used (cond c x (Sibling s)) ≡ true
part_used true Empty s leaf = absurd leaf
part_used true (Leaf value) s leaf = refl
part_used true (Child key) s leaf = absurd leaf
part_used true (Sibling first) s leaf = refl
part_used false x s leaf = refl

pub part_no_child : (c : Bool) (x : Slot) (s child : ℕ) → IsLeafSlot x → cond c x (Sibling s) ≡ Child child → ⊥
part_no_child true Empty s child leaf e = leaf
part_no_child true (Leaf value) s child leaf e = cc
part_no_child true (Child key) s child leaf e = leaf
part_no_child true (Sibling first) s child leaf e = leaf
part_no_child false x s child leaf e = cc

pub part_not_empty : (c : Bool) (x : Slot) (s : ℕ) → IsLeafSlot x → cond c x (Sibling s) ≡ Empty → ⊥
part_not_empty true Empty s leaf e = leaf
part_not_empty true (Leaf value) s leaf e = cc
part_not_empty true (Child key) s leaf e = leaf
part_not_empty true (Sibling first) s leaf e = leaf
part_not_empty false x s leaf e = cc

-- where it is a sibling it has no bit
pub part_quiet : (c : Bool) (x : Slot) (s bit first : ℕ) → IsLeafSlot x → cond c x (Sibling s) ≡ Sibling first → cond c bit 0 ≡ 0
part_quiet true Empty s bit first leaf e = absurd leaf
part_quiet true (Leaf value) s bit first leaf e = absurd (cc)
part_quiet true (Child key) s bit first leaf e = absurd leaf
part_quiet true (Sibling other) s bit first leaf e = absurd leaf
part_quiet false x s bit first leaf e = refl

pub leaf_slot : (x : Slot) → IsLeaf (content x) → IsLeafSlot x
leaf_slot Empty h = h
leaf_slot (Leaf value) h = h
leaf_slot (Child key) h = absurd h
leaf_slot (Sibling first) h = absurd h

pub sibling_slot : (x : Slot) (first : ℕ) → content x ≡ Some (entry.Sibling first) → x ≡ Sibling first
sibling_slot Empty first e = absurd (none-some _ e)
sibling_slot (Leaf value) first e = absurd (cc)
sibling_slot (Child key) first e = absurd (none-some _ e)
sibling_slot (Sibling other) first e = cc

-- entries of one slot each
pub all_first : (first : Slot) (step : ℕ) → step ≡ 0 → AllParts first step (replicate 64 first)
all_first first step same = record {
  length_is = refl;
  each = λ j low.
      let none : j % 2 ^ step ≡ 0 = rw same (omega arith) in
      get_or-replicate 64 j first Empty low ∙ sym (cond-true (eqb (j % 2 ^ step) 0) first (Sibling (0 + (j - j % 2 ^ step))) (rw none refl));
}

-- ---- how many slots are used

pub count_by-same : {X : Type 0} (p : X → Bool) (d : X) (xs ys : List X) → length xs ≡ length ys → ((i : ℕ) → p (get_or xs i d) ≡ p (get_or ys i d)) → count_by p xs ≡ count_by p ys
count_by-same p d [] [] lengths same = refl
count_by-same p d [] (y ∷ ys) lengths same = absurd (omega (arith, lengths))
count_by-same p d (x ∷ xs) [] lengths same = absurd (omega (arith, lengths))
count_by-same p d (x ∷ xs) (y ∷ ys) lengths same =
    let rest = count_by-same p d xs ys (omega (arith, lengths)) (λ i. same (suc i)) in
    let first : cond (p x) 1 0 ≡ cond (p y) 1 0 = ap {B = ℕ} (λ c. cond c 1 0) (same 0) in
    let a = sum_by-cons (λ z. cond (p z) 1 0) x xs in
    let b = sum_by-cons (λ z. cond (p z) 1 0) y ys in
    omega (arith, rest, first, a, b)

pub count_by-all : {X : Type 0} (p : X → Bool) (d : X) (xs : List X) → ((i : ℕ) → i < length xs → p (get_or xs i d) ≡ true) → count_by p xs ≡ length xs
count_by-all p d [] all = refl
count_by-all p d (x ∷ xs) all =
    let rest = count_by-all p d xs (λ i low. all (suc i) (omega (arith, low))) in
    let first : cond (p x) 1 0 ≡ 1 = ap {B = ℕ} (λ c. cond c 1 0) (all 0 (omega arith)) in
    let a = sum_by-cons (λ z. cond (p z) 1 0) x xs in
    omega (arith, rest, first, a)

-- ---- what the change is for a caller

module _ (old new : Slab Node) (level place low base count step : ℕ) (writes : WritesParts old new level place low base count step) where
  pub parts_written : Parts old new level place low base count step
  parts_written = record {
    slots = writes.slots;
    marks = λ mark j small. writes.marks mark j (omega (arith, small));
    gone = writes.gone;
    others = writes.others;
    other_marks = λ mark other at small. writes.other_marks mark other at (omega (arith, small));
  }

  leaf_is : (x : Option Entry) → IsLeaf x → (value : ℕ) × (x ≡ Some (entry.Leaf value))
  leaf_is None leaf = absurd leaf
  leaf_is (Some (entry.Leaf value)) leaf = (value, refl)
  leaf_is (Some (entry.Sibling first)) leaf = absurd leaf

  first_tells : (c : Bool) (value t bit : ℕ) → bit ≡ 1 → cond c bit 0 ≡ leaf_bit (Some (cond c (entry.Leaf value) (entry.Sibling t)))
  first_tells true value t bit e = e
  first_tells false value t bit e = refl

  -- the range has the entry's own slot if it is of the same level
  module _ (tells : TellsEntries old) (leaf : IsLeaf (entry_at old level place)) (own : low ≡ level → (base ≤ place) × (place < base + count)) where
    was : (value : ℕ) × (entry_at old level place ≡ Some (entry.Leaf value))
    was = leaf_is (entry_at old level place) leaf

    one : mark_at 3 old level place ≡ 1
    one = tells.each level place ∙ ap leaf_bit was.1

    tells_at : (j : ℕ) → j < count → mark_at 3 new low (base + j) ≡ leaf_bit (entry_at new low (base + j))
    tells_at j small =
        writes.marks 3 j (omega arith) small
        ∙ first_tells (eqb (j % 2 ^ step) 0) was.0 ((base + (j - j % 2 ^ step)) % 64) (mark_at 3 old level place) one
        ∙ ap leaf_bit (sym (writes.slots was.0 j was.1 small))

    pub parts_tell : TellsEntries new
    parts_tell = record {
      each = λ other at. elim (in_run_or_else low base count other at) [
        | inl p ↦ rw (p.0, p.1.1.1) (tells_at p.1.0 p.1.1.0)
        | inr apart ↦ elim (here_or_else level place other at) [
          | inl here ↦
              let differs : low ≢ level = λ e. let o = own e in apart (here.0 ∙ sym e) (rw (here.1) (o.0)) (rw (here.1) (o.1)) in
              let none = writes.gone differs in
              rw (here.0, here.1) (unmarked_none new 3 level place none ∙ ap leaf_bit (sym none))
          | inr differs ↦ writes.other_marks 3 other at (omega arith) apart differs ∙ tells.each other at ∙ ap leaf_bit (sym (writes.others other at apart differs))
        ]
      ];
    }

-- ---- the node

module _ (old new : Slab Node) (head key : ℕ) (n m : Node) (place span step : ℕ) (sound : IsSound old head None) (was : get old key ≡ Some n) (on_path : n.prefix ≡ place / 64) (some : 0 < span) (within : place % 64 + span ≤ 64) (leaf : IsLeafSlot (slot n (place % 64))) (run : (j : ℕ) → 0 < j → j < span → slot n (place % 64 + j) ≡ Sibling (place % 64)) (cut : IsCut (place % 64) span step n m) (updates : Updates old new key (Some m)) where
  abbrev at : ℕ
  at = place % 64

  node_was : IsNode n
  node_was = sound.tree.nodes key n was

  -- a slot of the run, or another
  run_or_else : (o : ℕ) → ((j : ℕ) × ((j < span) × (o ≡ at + j))) ⊎ (at ≤ o → o < at + span → ⊥)
  run_or_else o = elim (cases_lt o at) [
    | inl below ↦ inr (λ low high. omega (arith, low, below))
    | inr from ↦ elim (cases_lt o (at + span)) [
      | inl in_run ↦ inl (o - at, (omega (arith, from, in_run), omega (arith, from)))
      | inr past ↦ inr (λ low high. omega (arith, past, high))
    ]
  ]

  slot_is : (o j : ℕ) → j < span → o ≡ at + j → slot m o ≡ part_slot (slot n at) at step j
  slot_is o j low same = ap (slot m) same ∙ cut.slots.slots j low

  same_slot : (o : ℕ) → (at ≤ o → o < at + span → ⊥) → slot m o ≡ slot n o
  same_slot o apart = cut.slots.others o apart

  -- a slot of the run had the entry
  used_was : (j : ℕ) → j < span → is_used (slot n (at + j)) ≡ true
  used_was j low = elim (cases_eq j 0) [
    | inl zero_j ↦ let e : at + j ≡ at = omega (arith, zero_j) in ap (λ z. is_used (slot n z)) e ∙ part_used true (slot n at) 0 leaf
    | inr more ↦ ap is_used (run j (omega (arith, more)) low)
  ]

  no_child_was : (j child : ℕ) → j < span → slot n (at + j) ≡ Child child → ⊥
  no_child_was j child low names = elim (cases_eq j 0) [
    | inl zero_j ↦ let e : at + j ≡ at = omega (arith, zero_j) in part_no_child true (slot n at) 0 child leaf (ap (slot n) (sym e) ∙ names)
    | inr more ↦ let e : Sibling at ≡ Child child = sym (run j (omega (arith, more)) low) ∙ names in cc
  ]

  used_same : (o : ℕ) → is_used (slot m o) ≡ is_used (slot n o)
  used_same o = elim (run_or_else o) [
    | inl p ↦ ap is_used (slot_is o p.0 p.1.0 p.1.1) ∙ part_used (eqb (p.0 % 2 ^ step) 0) (slot n at) (at + (p.0 - p.0 % 2 ^ step)) leaf ∙ sym (used_was p.0 p.1.0) ∙ ap (λ z. is_used (slot n z)) (sym p.1.1)
    | inr apart ↦ ap is_used (same_slot o apart)
  ]

  keeps : KeepsPlace n m
  keeps = record {
    level = cut.level;
    prefix = cut.prefix;
    parent = cut.parent;
    keeps = λ o c names. elim (run_or_else o) [
      | inl p ↦ absurd (no_child_was p.0 c p.1.0 (ap (slot n) (sym p.1.1) ∙ names))
      | inr apart ↦ same_slot o apart ∙ names
    ];
    kept = λ o c names. elim (run_or_else o) [
      | inl p ↦ absurd (part_no_child (eqb (p.0 % 2 ^ step) 0) (slot n at) (at + (p.0 - p.0 % 2 ^ step)) c leaf (sym (slot_is o p.0 p.1.0 p.1.1) ∙ names))
      | inr apart ↦ sym (same_slot o apart) ∙ names
    ];
  }

  node : IsNode m
  node =
      let e = count_by-same is_used Empty m.slots n.slots cut.slots_length used_same in
      record {
        slots = cut.slots_length ∙ node_was.slots;
        marks = cut.marks_length ∙ node_was.marks;
        level = omega (arith, cut.level, node_was.level);
        prefix = omega (arith, cut.prefix, node_was.prefix);
        fits = cut.fits;
        count = cut.count_kept ∙ node_was.count ∙ sym e;
      }

  cases_one : (x : ℕ) (y : Node) → get new x ≡ Some y → ((x ≡ key) × (y ≡ m)) ⊎ ((x ≢ key) × (get old x ≡ Some y))
  cases_one x y there = elim (cases_eq x key) [
    | inl same ↦ inl (same, same_Some y m (sym there ∙ ap (get new) same ∙ updates.changed))
    | inr differs ↦ inr (differs, sym (updates.others x differs) ∙ there)
  ]

  any_kept : (mark x : ℕ) (y z : Node) → mark < 4 → get old x ≡ Some y → get new x ≡ Some z → min (bits z mark) 1 ≡ min (bits y mark) 1
  any_kept mark x y z low there is = elim (cases_one x z is) [
    | inl p ↦ ap (λ w. min (bits w mark) 1) p.1 ∙ cut.any mark low ∙ ap (λ w. min (bits w mark) 1) (same_Some n y (sym was ∙ ap (get old) (sym p.0) ∙ there))
    | inr p ↦ ap (λ w. min (bits w mark) 1) (same_Some z y (sym p.1 ∙ there))
  ]

  -- a child is marked as it was
  child_kept : (mark x : ℕ) (y : Node) (o c : ℕ) (below : Node) → mark < 4 → get old x ≡ Some y → o < 64 → slot y o ≡ Child c → get new c ≡ Some below → bit_at (bits y mark) o ≡ min (bits below mark) 1
  child_kept mark x y o c below low there inside names is =
      let h = sound.tree.children x y o c there names in
      ((sound.exact mark low).each x y there).child o c h.below inside names (λ e. cc) h.there ∙ sym (any_kept mark c h.below below low h.there is)

  marked : (mark : ℕ) → mark < 4 → IsMarked new mark None m
  marked mark low =
      let e = (sound.exact mark low).each key n was in
      record {
        empty = λ o inside is. elim (run_or_else o) [
          | inl p ↦ absurd (part_not_empty (eqb (p.0 % 2 ^ step) 0) (slot n at) (at + (p.0 - p.0 % 2 ^ step)) leaf (sym (slot_is o p.0 p.1.0 p.1.1) ∙ is))
          | inr apart ↦ cut.others mark o low inside apart ∙ e.empty o inside (sym (same_slot o apart) ∙ is)
        ];
        sibling = λ o first inside is. elim (run_or_else o) [
          | inl p ↦
              ap (bit_at (bits m mark)) p.1.1 ∙ cut.marks mark p.0 low p.1.0
              ∙ part_quiet (eqb (p.0 % 2 ^ step) 0) (slot n at) (at + (p.0 - p.0 % 2 ^ step)) (bit_at (bits n mark) at) first leaf (sym (slot_is o p.0 p.1.0 p.1.1) ∙ is)
          | inr apart ↦ cut.others mark o low inside apart ∙ e.sibling o first inside (sym (same_slot o apart) ∙ is)
        ];
        child = λ o c below inside is but there. elim (run_or_else o) [
          | inl p ↦ absurd (part_no_child (eqb (p.0 % 2 ^ step) 0) (slot n at) (at + (p.0 - p.0 % 2 ^ step)) c leaf (sym (slot_is o p.0 p.1.0 p.1.1) ∙ is))
          | inr apart ↦ cut.others mark o low inside apart ∙ child_kept mark key n o c below low was inside (sym (same_slot o apart) ∙ is) there
        ];
      }

  exact_new : (mark : ℕ) → mark < 4 → MarkIsExactBut new mark None
  exact_new mark low = record {
    each = λ x y there. elim (cases_one x y there) [
      | inl p ↦ rw (p.1) (marked mark low)
      | inr p ↦
          let e = (sound.exact mark low).each x y p.1 in
          record { empty = e.empty; sibling = e.sibling; child = λ o c below inside is but now. child_kept mark x y o c below low p.1 inside is now }
    ];
  }

  pub cut_sound : IsSound new head None
  cut_sound = record {
    tree = one_tree old new head key n m was updates keeps node sound.tree;
    exact = exact_new;
    filled = one_filled old new head key n m was updates keeps node sound.tree None (λ e. let f = sound.filled.each key n was e in omega (arith, f, cut.count_kept)) sound.filled;
  }

  -- the place of a slot of the run
  module _ (j : ℕ) (low : j < span) where
    beside : n.prefix ≡ (place + j) / 64
    beside = omega (arith, on_path, within, low)

    offset_is : (place + j) % 64 ≡ at + j
    offset_is = omega (arith, within, low)

  leaf_was : entry_at old n.level place ≡ content (slot n at)
  leaf_was = see-is (λ z o. content (slot z o)) None old head sound.tree n.level place key n was refl on_path

  -- a place that is not of the run
  outside : (level at_place : ℕ) → (level ≡ n.level → place ≤ at_place → at_place < place + span → ⊥) → n.level ≡ level → n.prefix ≡ at_place / 64 → at ≤ at_place % 64 → at_place % 64 < at + span → ⊥
  outside level at_place apart l p low high = apart (sym l) (omega (arith, p, on_path, low)) (omega (arith, p, on_path, high))

  pub cut_writes : WritesParts old new n.level place n.level place span step
  cut_writes = record {
    slots = λ value j is low.
        one_here old new head key n m was updates keeps node sound.tree (λ z o. content (slot z o)) None n.level (place + j) refl (beside j low)
        ∙ ap content (slot_is ((place + j) % 64) j low (offset_is j low))
        ∙ part_content (eqb (j % 2 ^ step) 0) (slot n at) at (at + (j - j % 2 ^ step)) ((place + (j - j % 2 ^ step)) % 64) value (sym leaf_was ∙ is) (omega (arith, within, low));
    marks = λ mark j small low.
        one_here old new head key n m was updates keeps node sound.tree (λ z o. bit_of (slot z o) (bit_at (bits z mark) o)) 0 n.level (place + j) refl (beside j low)
        ∙ ap (λ z. bit_of (slot m z) (bit_at (bits m mark) z)) (offset_is j low)
        ∙ ap (λ z. bit_of z (bit_at (bits m mark) (at + j))) (cut.slots.slots j low)
        ∙ ap (bit_of (part_slot (slot n at) at step j)) (cut.marks mark j small low)
        ∙ part_bit (eqb (j % 2 ^ step) 0) (slot n at) (at + (j - j % 2 ^ step)) (bit_at (bits n mark) at) leaf
        ∙ ap (λ z. cond (eqb (j % 2 ^ step) 0) z 0) (sym (see-is (λ z o. bit_of (slot z o) (bit_at (bits z mark) o)) 0 old head sound.tree n.level place key n was refl on_path));
    gone = λ differs. absurd (differs refl);
    others = λ level at_place apart differs.
        one_else old new head key n m was updates keeps node sound.tree (λ z o. content (slot z o)) None level at_place
        (λ l p. ap content (same_slot (at_place % 64) (outside level at_place apart l p)));
    other_marks = λ mark level at_place small apart differs.
        one_else old new head key n m was updates keeps node sound.tree (λ z o. bit_of (slot z o) (bit_at (bits z mark) o)) 0 level at_place
        (λ l p.
        let out = outside level at_place apart l p in
        ap (λ z. bit_of z (bit_at (bits m mark) (at_place % 64))) (same_slot (at_place % 64) out)
        ∙ ap (bit_of (slot n (at_place % 64))) (cut.others mark (at_place % 64) small (omega arith) out));
  }

-- ---- the same as the code makes it: the slots, and then the bits of each mark

written_at : (old new : Slab Node) (place span step l level : ℕ) → l ≡ level → WritesParts old new l place l place span step → WritesParts old new level place level place span step
written_at old new place span step l level same writes = rw same at writes

-- what `cut_run` ensures of the entries
pub record IsRunCut (old new : Slab Node) (head key level place span step : ℕ) : Type 0 where
  pub sound : IsSound new head None
  pub tells : TellsEntries new
  pub parts : Parts old new level place level place span step
  pub stands : StandsAt new key level (place / 64)
  pub len : slab_len new ≡ slab_len old

-- a write of a node that is there
pub len_kept : (s : Slab Node) (key : ℕ) (n m : Node) → get s key ≡ Some n → slab_len (with_value s key m) ≡ slab_len s
len_kept s key n m there = elim (cases_lt key (length s.slots)) [
  | inl within ↦
      let e = count_by-set is_some s.slots key (Some m) None within in
      let f : cond (is_some (get s key)) 1 0 ≡ 1 = ap {B = ℕ} (λ z. cond (is_some z) 1 0) there in
      omega (arith, e, f)
  | inr past ↦ absurd (none-some n (sym (get_or_past s.slots key None past) ∙ there))
]

-- a mark's bits that a slot's mark is copied in
pub record IsSpread (b firsts o w : ℕ) : Type 0 where
  pub is : w ≡ (if eqb (bit_at b o) 1 then bit_or b firsts else b)
  pub fits : w < 2 ^ 64

module _ (old : Slab Node) (head level index key span step o firsts w0 w1 w2 w3 : ℕ) (n : Node) (slots : List Slot) (sound : IsSound old head None) (tells : TellsEntries old) (some : 0 < span) (within : index / 64 ^ level % 64 + span ≤ 64) (stands : StandsAt old key level (index / 64 ^ level / 64)) (run : IsRun old level (index / 64 ^ level) span) (was : get old key ≡ Some n) (is_offset : o ≡ index / 64 ^ level % 64) (are : AreFirsts firsts o span step) (parts : PartsSlots n.slots slots o span step) (spread0 : IsSpread (bits n 0) firsts o w0) (spread1 : IsSpread (bits n 1) firsts o w1) (spread2 : IsSpread (bits n 2) firsts o w2) (spread3 : IsSpread (bits n 3) firsts o w3) where
  abbrev place : ℕ
  place = index / 64 ^ level

  abbrev made : Node
  made = record { level = n.level; count = n.count; prefix = n.prefix; parent = n.parent; marks = w0 ∷ w1 ∷ w2 ∷ w3 ∷ []; slots = slots }

  abbrev cut_slab : Slab Node
  cut_slab = with_value old key made

  same : stands.node ≡ n
  same = same_Some stands.node n (sym stands.there ∙ was)

  level_is : n.level ≡ level
  level_is = sym (ap (λ (z : Node). z.level) same) ∙ stands.level_is

  prefix_is : n.prefix ≡ place / 64
  prefix_is = sym (ap (λ (z : Node). z.prefix) same) ∙ stands.prefix_is

  first_leaf : IsLeafSlot (slot n (place % 64))
  first_leaf = leaf_slot (slot n (place % 64)) (rw (slot_in_is old head sound.tree level place key n stands was) (run.first))

  siblings : (j : ℕ) → 0 < j → j < span → slot n (place % 64 + j) ≡ Sibling (place % 64)
  siblings j more low =
      let e : (place + j) % 64 ≡ place % 64 + j = omega (arith, within, low) in
      let beside = stands_beside old key level place span j within low stands in
      sibling_slot (slot n (place % 64 + j)) (place % 64) (ap (λ z. content (slot n z)) (sym e) ∙ slot_in_is old head sound.tree level (place + j) key n beside was ∙ run.rest j more low)

  quiet : (mark : ℕ) → mark < 4 → (j : ℕ) → 0 < j → j < span → bit_at (bits n mark) (o + j) ≡ 0
  quiet mark small j more low =
      let e : o + j ≡ place % 64 + j = omega (arith, is_offset) in
      ap (bit_at (bits n mark)) e ∙ ((sound.exact mark small).each key n was).sibling (place % 64 + j) (place % 64) (omega (arith, within, low)) (siblings j more low)

  within_o : o + span ≤ 64
  within_o = omega (arith, within, is_offset)

  spreads : (mark : ℕ) → mark < 4 → IsSpread (bits n mark) firsts o (bits made mark)
  spreads zero small = spread0
  spreads (suc zero) small = spread1
  spreads (suc (suc zero)) small = spread2
  spreads (suc (suc (suc zero))) small = spread3
  spreads (suc (suc (suc (suc mark)))) small = absurd (omega (arith, small))

  fits : (mark : ℕ) → bits made mark < 2 ^ 64
  fits zero = spread0.fits
  fits (suc zero) = spread1.fits
  fits (suc (suc zero)) = spread2.fits
  fits (suc (suc (suc zero))) = spread3.fits
  fits (suc (suc (suc (suc mark)))) = lit< tt

  cut_at : IsCut o span step n made
  cut_at = record {
    level = refl;
    prefix = refl;
    parent = refl;
    count_kept = refl;
    slots_length = parts.length_kept;
    marks_length = sym (sound.tree.nodes key n was).marks;
    slots = parts;
    marks = λ mark j small. more_inside (bits n mark) firsts (bits made mark) o span step some within_o are (quiet mark small) (spreads mark small).is j;
    others = λ mark other small. more_outside (bits n mark) firsts (bits made mark) o span step some within_o are (quiet mark small) (spreads mark small).is other;
    any = λ mark small. more_any (bits n mark) firsts (bits made mark) o span step some within_o are (quiet mark small) (spreads mark small).is;
    fits = fits;
  }

  cut : IsCut (place % 64) span step n made
  cut = rw (sym is_offset) cut_at

  updates : Updates old cut_slab key (Some made)
  updates = Updates-with_value old key made (contains_key old key n was)

  writes : WritesParts old cut_slab level place level place span step
  writes = written_at old cut_slab place span step n.level level level_is (cut_writes old cut_slab head key n made place span step sound was prefix_is some within first_leaf siblings cut updates)

  pub is_run_cut : IsRunCut old cut_slab head key level place span step
  is_run_cut = record {
    sound = cut_sound old cut_slab head key n made place span step sound was prefix_is some within first_leaf siblings cut updates;
    tells = parts_tell old cut_slab level place level place span step writes tells run.first (λ e. (omega arith, omega (arith, some)));
    parts = parts_written old cut_slab level place level place span step writes;
    stands = record { node = made; there = updates.changed; level_is = level_is; prefix_is = prefix_is };
    len = len_kept old key n made was;
  }
