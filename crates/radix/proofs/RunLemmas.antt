-- Lemmas on an entry of several slots.
use Rattle.std.proofs.Common.{◌≡◌, ◌≢◌, ℕ, Bool, true, false, MatchBool, eqb, eqb-true, ◌+◌, ◌/◌, ◌%◌, ◌^◌, ◌<◌, ◌*◌, Option, Some, None, refl, sym, ap, ◌∙◌, inl, inr, arith}
use Rattle.std.proofs.lemmas.Bool.{cases_eq}
use Rattle.slab.specs.Slab.{Slab, get}
use Rattle.std.proofs.lemmas.Option.{same_Some, none-some}
use Rattle.radix.proofs.SeeLemmas.{see-is}
use Rattle.radix.specs.declared.node.Node.{Node}
use Rattle.std.specs.Int.{bit_at}
use Rattle.radix.specs.declared.slot.Slot.{Slot}
use Rattle.radix.specs.declared.slot.Slot.TheVariants.{Empty, Leaf, Child, Sibling}
use Rattle.radix.specs.declared.entry.Entry.{Entry}
use Rattle.radix.specs.declared.entry.Entry.TheVariants as entry
use Rattle.radix.specs.Entries.{HasNoMark, node_at, bits, bit_of, IsRun, PutsRun, StandsAt, slot, content, IsFree, entry_at, mark_at}
use Rattle.radix.specs.Tree.{IsSound, SameSlots, IsTree, WritesSlot, WritesRun}

whole : (at d p : ℕ) → d ≡ 0 → at / 64 ^ d ≡ p → at ≡ p
whole at d p none is = omega (arith, rw none at is)

-- the next slot is still free
pub free_next : (old s : Slab Node) (level place from j value : ℕ) → place ≡ from → IsFree old level (from + j) → WritesRun old s level place j value → IsFree s level (place + j)
free_next old s level place from j value same free run = record {
  each = λ d below at sum under.
      run.others below at (λ is low high. let e = whole at d (place + j) (omega (arith, sum, is)) under in omega (arith, e, high))
      ∙ free.each d below at sum (under ∙ ap (λ z. z + j) same);
}

pub run_more : (old s new : Slab Node) (level place j value first : ℕ) → 0 < j → first ≡ place % 64 → WritesRun old s level place j value → WritesSlot s new level (place + j) (Some (entry.Sibling first)) → WritesRun old new level place (j + 1) value
run_more old s new level place j value first some is run puts = record {
  first = puts.others level place (λ l e. omega (arith, e, some)) ∙ run.first;
  rest = λ i low high. elim (cases_eq i j) [
    | inl same ↦ ap (λ z. entry_at new level (place + z)) same ∙ puts.entry ∙ ap (λ o. Some (entry.Sibling o)) is
    | inr differs ↦ puts.others level (place + i) (λ l e. differs (omega (arith, e))) ∙ run.rest i low (omega (arith, high, differs))
  ];
  others = λ other at apart.
      puts.others other at (λ l e. apart l (omega (arith, e)) (omega (arith, e)))
      ∙ run.others other at (λ l low high. apart l low (omega (arith, high)));
  marks = λ mark other at low.
      elim (cases_eq other level) [
        | inl l ↦ elim (cases_eq at (place + j)) [
          | inl p ↦ ap (λ z. mark_at mark new z at) l ∙ ap (λ z. mark_at mark new level z) p ∙ puts.bits_stay mark low ∙ ap (λ z. mark_at mark s level z) (sym p) ∙ ap (λ z. mark_at mark s z at) (sym l)
          | inr q ↦ puts.other_marks mark other at low (λ a b. q b)
        ]
        | inr m ↦ puts.other_marks mark other at low (λ a b. m a)
      ]
      ∙ run.marks mark other at low;
}

pub free_after : (old v new : Slab Node) (level place : ℕ) → old ≡ v → SameSlots old new → IsFree v level place → IsFree new level place
free_after old v new level place same entries free = record {
  each = λ d below at sum under. entries.entries below at ∙ ap (λ s. entry_at s below at) same ∙ free.each d below at sum under;
}

leaf_not : (v f : ℕ) → ◌≡◌ {A = Option Entry} (Some (entry.Leaf v)) (Some (entry.Sibling f)) → ⊥
leaf_not v f e = cc

pub beside_is : (s : Slab Node) (head : ℕ) (tree : IsTree s head) (level place key offset : ℕ) (n : Node) → StandsAt s key level (place / 64) → get s key ≡ Some n → offset < 64 → content (slot n offset) ≡ entry_at s level (place / 64 * 64 + offset)
beside_is s head tree level place key offset n stands there within =
    let same : stands.node ≡ n = same_Some stands.node n (sym stands.there ∙ there) in
    let l : n.level ≡ level = sym (ap (λ (z : Node). z.level) same) ∙ stands.level_is in
    let p : n.prefix ≡ place / 64 = sym (ap (λ (z : Node). z.prefix) same) ∙ stands.prefix_is in
    let at : (place / 64 * 64 + offset) % 64 ≡ offset = omega (arith, within) in
    sym (see-is (λ z i. content (slot z i)) None s head tree level (place / 64 * 64 + offset) key n there l (omega (arith, p, within)) ∙ ap (λ o. content (slot n o)) at)

pub sibling_of : (x : Slot) (first : ℕ) → content x ≡ Some (entry.Sibling first) → x ≡ Sibling first
sibling_of Empty first e = absurd (none-some _ e)
sibling_of (Leaf value) first e = absurd (leaf_not value first e)
sibling_of (Child c) first e = absurd (none-some _ e)
sibling_of (Sibling other) first e = cc

pub follows_is : (s : Slab Node) (head : ℕ) (tree : IsTree s head) (level place key offset first : ℕ) (n : Node) → StandsAt s key level (place / 64) → get s key ≡ Some n → offset < 64 → (r : Bool) → MatchBool r (slot n offset ≡ Sibling first) (slot n offset ≢ Sibling first) → MatchBool r (entry_at s level (place / 64 * 64 + offset) ≡ Some (entry.Sibling first)) (entry_at s level (place / 64 * 64 + offset) ≢ Some (entry.Sibling first))
follows_is s head tree level place key offset first n stands there within true h = sym (beside_is s head tree level place key offset n stands there within) ∙ ap content h
follows_is s head tree level place key offset first n stands there within false h = λ e. h (sibling_of (slot n offset) first (beside_is s head tree level place key offset n stands there within ∙ e))

-- where the bit of an entry or of a node below is set, no further slot of an entry is
pub not_further : (s : Slab Node) (head : ℕ) (sound : IsSound s head None) (level place key offset : ℕ) (n : Node) → StandsAt s key level (place / 64) → get s key ≡ Some n → offset < 64 → (r : Bool) → r ≡ eqb (bit_at (bits n 3) offset) 1 → r ≡ true → (first : ℕ) → entry_at s level (place / 64 * 64 + offset) ≢ Some (entry.Sibling first)
not_further s head sound level place key offset n stands there within r is set first has = by_slot (slot n offset) refl
  where
    one : bit_at (bits n 3) offset ≡ 1
    one = eqb-true (bit_at (bits n 3) offset) 1 (sym is ∙ set)

    content_is : content (slot n offset) ≡ Some (entry.Sibling first)
    content_is = beside_is s head sound.tree level place key offset n stands there within ∙ has

    by_slot : (x : Slot) → slot n offset ≡ x → ⊥
    by_slot Empty e = none-some _ (sym (ap content e) ∙ content_is)
    by_slot (Leaf value) e = leaf_not value first (sym (ap content e) ∙ content_is)
    by_slot (Child c) e = none-some _ (sym (ap content e) ∙ content_is)
    by_slot (Sibling f) e = let zero_bit = ((sound.exact 3 (omega arith)).each key n there).sibling offset f within e in omega (arith, zero_bit, one)

-- the slot of a place in the node that has it
pub slot_in_is : (s : Slab Node) (head : ℕ) (tree : IsTree s head) (level place key : ℕ) (n : Node) → StandsAt s key level (place / 64) → get s key ≡ Some n → content (slot n (place % 64)) ≡ entry_at s level place
slot_in_is s head tree level place key n stands there =
    let same : stands.node ≡ n = same_Some stands.node n (sym stands.there ∙ there) in
    let l : n.level ≡ level = sym (ap (λ (z : Node). z.level) same) ∙ stands.level_is in
    let p : n.prefix ≡ place / 64 = sym (ap (λ (z : Node). z.prefix) same) ∙ stands.prefix_is in
    sym (see-is (λ z i. content (slot z i)) None s head tree level place key n there l p)

pub run_kept : (old new : Slab Node) (level place span : ℕ) → ((other at : ℕ) → entry_at new other at ≡ entry_at old other at) → IsRun old level place span → IsRun new level place span
run_kept old new level place span same run = record { first = rw (same level place) (run.first); rest = λ j low high. same level (place + j) ∙ run.rest j low high }

pub run_put : (old new : Slab Node) (level place span value : ℕ) → PutsRun old new level place span value → IsRun new level place span
run_put old new level place span value puts = record { first = rw (puts.first) tt; rest = puts.rest }

-- where no entry stands no mark does
pub unmarked_none : (s : Slab Node) (mark level place : ℕ) → entry_at s level place ≡ None → mark_at mark s level place ≡ 0
unmarked_none s mark level place none = by_node_at (node_at s.slots level (place / 64)) refl
  where
    by_slot : (x : Slot) (bit : ℕ) → content x ≡ None → bit_of x bit ≡ 0
    by_slot Empty bit e = refl
    by_slot (Leaf value) bit e = absurd (none-some _ (sym e))
    by_slot (Child key) bit e = refl
    by_slot (Sibling first) bit e = absurd (none-some _ (sym e))

    by_node_at : (o : Option Node) → node_at s.slots level (place / 64) ≡ o → mark_at mark s level place ≡ 0
    by_node_at None e = rw e refl
    by_node_at (Some n) e = rw e (by_slot (slot n (place % 64)) (bit_at (bits n mark) (place % 64)) (rw e at none))

pub free_first : (s : Slab Node) (level place : ℕ) → IsFree s level (place + 0) → IsFree s level place
free_first s level place free = let e : place + 0 ≡ place = omega arith in rw e at free

-- what is put has no mark
pub put_unmarked : (old new : Slab Node) (level place : ℕ) → IsFree old level place → ((mark other at : ℕ) → mark < 3 → mark_at mark new other at ≡ mark_at mark old other at) → HasNoMark new level place
put_unmarked old new level place free marks = record { each = λ mark low. marks mark level place low ∙ unmarked_none old mark level place (free.each 0 level place (omega arith) (omega arith)) }
