-- The slots of an entry are written into a node at once: as if each were written by itself.
use Rattle.std.proofs.Common.{◌≡◌, ℕ, zero, suc, ◌+◌, ◌/◌, ◌%◌, ◌<◌, ◌≤◌, List, [], ◌∷◌, Option, Some, None, slice_set, refl, sym, ap, ◌∙◌, inl, inr, arith, subst}
use Rattle.std.proofs.lemmas.Bool.{cases_eq}
use Rattle.slab.specs.Slab.{Slab, get, with_value}
use Rattle.slab.proofs.SlabLemmas.{Updates-with_value}
use Rattle.radix.specs.declared.node.Node.{Node}
use Rattle.radix.specs.declared.slot.Slot.TheVariants.{Leaf, Sibling}
use Rattle.radix.specs.declared.entry.Entry.TheVariants as entry
use Rattle.radix.specs.Entries.{IsFree, StandsAt, mark_at}
use Rattle.radix.specs.Tree.{IsSound, WritesRun, WritesSlot, with_run, with_slot}
use Rattle.radix.proofs.PutLemmas.{fill_puts, fill_sound, fill_stands}
use Rattle.radix.proofs.RemovalLemmas.{weaken}
use Rattle.radix.proofs.RunLemmas.{free_first, free_next, run_more}
use Rattle.radix.proofs.TreeLemmas.{contains_key}

set_again : {X : Type 0} → (xs : List X) (i : ℕ) (a b : X) → slice_set (slice_set xs i a) i b ≡ slice_set xs i b
set_again [] i a b = refl
set_again (x ∷ xs) zero a b = refl
set_again (x ∷ xs) (suc i) a b = ap (λ ys. x ∷ ys) (set_again xs i a b)

run_one : (old new : Slab Node) (level place value : ℕ) → WritesSlot old new level place (Some (entry.Leaf value)) → WritesRun old new level place 1 value
run_one old new level place value puts = record {
  first = puts.entry;
  rest = λ j some high. absurd (omega (arith, some, high));
  others = λ other at apart. puts.others other at (λ l e. apart l (omega (arith, e)) (omega (arith, e)));
  marks = λ mark other at low. elim (cases_eq other level) [
    | inl l ↦ elim (cases_eq at place) [
      | inl p ↦ ap (λ z. mark_at mark new z at) l ∙ ap (λ z. mark_at mark new level z) p ∙ puts.bits_stay mark low ∙ ap (λ z. mark_at mark old level z) (sym p) ∙ ap (λ z. mark_at mark old z at) (sym l)
      | inr q ↦ puts.other_marks mark other at low (λ a b. q b)
    ]
    | inr m ↦ puts.other_marks mark other at low (λ a b. m a)
  ];
}

module _ (s : Slab Node) (head key level place value span : ℕ) (n : Node) (sound : IsSound s head (Some key)) (stands : StandsAt s key level (place / 64)) (there : get s key ≡ Some n) (within : place % 64 + span ≤ 64) (free : (j : ℕ) → j < span → IsFree s level (place + j)) where
  -- so many slots are written
  abbrev pub written : ℕ → Slab Node
  written j = with_value s key (with_run n (place % 64) value j)

  pub record IsWritten (j : ℕ) : Type 0 where
    pub now_sound : IsSound (written j) head None
    pub writes : WritesRun s (written j) level place j value
    pub now_stands : StandsAt (written j) key level (place / 64)

  here : (j : ℕ) → get (written j) key ≡ Some (with_run n (place % 64) value j)
  here j = (Updates-with_value s key (with_run n (place % 64) value j) (contains_key s key n there)).changed

  first_written : 0 < span → IsWritten 1
  first_written some =
      let none = free_first s level place (free 0 some) in
      let same : with_value s key (with_slot n (place % 64) (Leaf value) (n.count + 1)) ≡ written 1 = ap (λ i. with_value s key (record n { slots = slice_set n.slots i (Leaf value); count = n.count + 1 })) (omega arith) in
      record {
        now_sound = subst (λ z. IsSound z head None) same (fill_sound s head key n level place (Leaf value) tt sound stands there none);
        writes = subst (λ z. WritesRun s z level place 1 value) same (run_one s _ level place value (fill_puts s head key n level place (Leaf value) tt sound stands there none));
        now_stands = subst (λ z. StandsAt z key level (place / 64)) same (fill_stands s head key n level place (Leaf value) tt sound stands there none);
      }

  next_written : (j : ℕ) → suc j < span → IsWritten (suc j) → IsWritten (suc (suc j))
  next_written j high was =
      let o = place % 64 in
      let m = with_run n o value (suc j) in
      let at : (place + suc j) % 64 ≡ o + suc j = omega (arith, within, high) in
      let beside : (place + suc j) / 64 ≡ place / 64 = omega (arith, within, high) in
      let stands_there = subst (StandsAt (written (suc j)) key level) (sym beside) was.now_stands in
      let none = free_next s (written (suc j)) level place place (suc j) value refl (free (suc j) high) was.writes in
      let weak = weaken (written (suc j)) head key was.now_sound in
      let again : with_value (written (suc j)) key (with_slot m ((place + suc j) % 64) (Sibling o) (n.count + suc j + 1)) ≡ written (suc (suc j)) =
      ap (λ i. with_value (written (suc j)) key (with_slot m i (Sibling o) (n.count + suc j + 1))) at
      ∙ ap (λ (count : ℕ). with_value (written (suc j)) key (with_slot m (o + suc j) (Sibling o) count)) (omega arith)
      ∙ ap (λ (xs : List (Option Node)). record s { slots = xs }) (set_again s.slots key (Some m) (Some (with_run n o value (suc (suc j))))) in
      record {
        now_sound = subst (λ z. IsSound z head None) again (fill_sound (written (suc j)) head key m level (place + suc j) (Sibling o) tt weak stands_there (here (suc j)) none);
        writes = subst (λ z. WritesRun s z level place (suc (suc j)) value) again (rw (more j) (run_more s (written (suc j)) _ level place (suc j) value o (omega arith) refl was.writes (fill_puts (written (suc j)) head key m level (place + suc j) (Sibling o) tt weak stands_there (here (suc j)) none)));
        now_stands = subst (λ z. StandsAt z key level (place / 64)) again (subst (StandsAt _ key level) beside (fill_stands (written (suc j)) head key m level (place + suc j) (Sibling o) tt weak stands_there (here (suc j)) none));
      }
    where
      more : (j : ℕ) → suc (suc j) ≡ suc j + 1
      more j = omega arith

  more_written : (j : ℕ) → j < span → IsWritten (suc j)
  more_written zero high = first_written high
  more_written (suc j) high = next_written j high (more_written j (omega (arith, high)))

  pub all_written : (j : ℕ) → 0 < j → j ≤ span → IsWritten j
  all_written zero some high = absurd (omega (arith, some))
  all_written (suc j) some high = more_written j (omega (arith, high))
