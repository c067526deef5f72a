-- Lemmas on the mark that every entry has: it stays exact where an entry's slots and then its bit are written.
use Rattle.std.proofs.Common.{◌≡◌, ℕ, ◌+◌, ◌-◌, ◌/◌, ◌%◌, ◌^◌, ◌<◌, ◌≤◌, ◌⊎◌, Option, Some, None, refl, sym, ap, ◌∙◌, inl, inr, arith}
use Rattle.std.proofs.lemmas.Bool.{cases_eq, cases_lt}
use Rattle.slab.specs.Slab.{Slab}
use Rattle.radix.specs.declared.node.Node.{Node}
use Rattle.radix.specs.declared.entry.Entry.{Entry}
use Rattle.radix.specs.declared.entry.Entry.TheVariants as entry
use Rattle.radix.specs.Entries.{entry_at, mark_at, IsElsewhere, IsLeaf, IsEntry, IsRun, IsNext, HasNoNext, IsNextEntry, HasNoNextEntry, HasNoMark, PutsEntry, PutsRun, ClearsRun}
use Rattle.radix.specs.Tree.{TellsEntries, leaf_bit, IsUnmarked, WritesSlot, WritesBit, WritesRun, ErasesRun, SameSlots}

-- a slot is this one or another
pub here_or_else : (level place other at : ℕ) → ((other ≡ level) × (at ≡ place)) ⊎ IsElsewhere level place other at
here_or_else level place other at = elim (cases_eq other level) [
  | inl l ↦ elim (cases_eq at place) [ inl p ↦ inl (l, p) | inr q ↦ inr (λ a b. q b) ]
  | inr m ↦ inr (λ a b. m a)
]

-- a slot is one of a run, or another
pub in_run_or_else : (level place span other at : ℕ) → ((other ≡ level) × ((j : ℕ) × ((j < span) × (at ≡ place + j)))) ⊎ (other ≡ level → place ≤ at → at < place + span → ⊥)
in_run_or_else level place span other at = elim (cases_eq other level) [
  | inr m ↦ inr (λ a low high. m a)
  | inl l ↦ elim (cases_lt at place) [
    | inl below ↦ inr (λ a low high. omega (arith, below, low))
    | inr above ↦ elim (cases_lt at (place + span)) [
      | inl within ↦ inl (l, (at - place, (omega (arith, above, within), omega (arith, above))))
      | inr past ↦ inr (λ a low high. omega (arith, past, high))
    ]
  ]
]

pub tells_same : (old new : Slab Node) → TellsEntries old → SameSlots old new → TellsEntries new
tells_same old new tells same = record { each = λ level place. same.marks 3 level place (omega arith) ∙ tells.each level place ∙ ap leaf_bit (sym (same.entries level place)) }

pub writes_marks : (old new : Slab Node) (level place : ℕ) (x : Option Entry) → WritesSlot old new level place x → (mark other at : ℕ) → mark < 4 → mark_at mark new other at ≡ mark_at mark old other at
writes_marks old new level place x w mark other at low = elim (here_or_else level place other at) [
  | inl p ↦ rw (p.0, p.1) (w.bits_stay mark low)
  | inr apart ↦ w.other_marks mark other at low apart
]

-- ---- an entry of one slot

module _ (old mid new : Slab Node) (level place : ℕ) (x : Option Entry) (w : WritesSlot old mid level place x) (bit : ℕ) (b : WritesBit mid new 3 level place bit) where
  pub written_puts : PutsEntry old new level place x
  written_puts = record {
    entry = b.entries level place ∙ w.entry;
    others = λ other at apart. b.entries other at ∙ w.others other at apart;
    marks = λ mark other at low. b.other_marks mark other at (omega (arith, low)) (omega (arith, low)) ∙ writes_marks old mid level place x w mark other at (omega (arith, low));
  }

-- ---- an entry of several slots

module _ (old mid new : Slab Node) (level place span value : ℕ) (some : 0 < span) (tells : TellsEntries old) (empty : (j : ℕ) → j < span → entry_at old level (place + j) ≡ None) (w : WritesRun old mid level place span value) (b : WritesBit mid new 3 level place 1) where
  bit_in : (j : ℕ) → j < span → mark_at 3 new level (place + j) ≡ leaf_bit (entry_at new level (place + j))
  bit_in j within = elim (cases_eq j 0) [
    | inl zero_j ↦
        let e : place + j ≡ place = omega (arith, zero_j) in
        rw e (b.changed ∙ ap leaf_bit (sym (b.entries level place ∙ w.first)))
    | inr more ↦
        b.others level (place + j) (λ l p. more (omega (arith, p))) ∙ w.marks 3 level (place + j) (omega arith) ∙ tells.each level (place + j)
        ∙ ap leaf_bit (empty j within) ∙ ap leaf_bit (sym (b.entries level (place + j) ∙ w.rest j (omega (arith, more)) within))
  ]

  pub run_tells : TellsEntries new
  run_tells = record {
    each = λ other at. elim (in_run_or_else level place span other at) [
      | inl p ↦ rw (p.0, p.1.1.1) (bit_in p.1.0 p.1.1.0)
      | inr apart ↦
          b.others other at (λ l e. apart l (omega (arith, e)) (omega (arith, e, some)))
          ∙ w.marks 3 other at (omega arith) ∙ tells.each other at ∙ ap leaf_bit (sym (b.entries other at ∙ w.others other at apart))
    ];
  }

  pub run_puts : PutsRun old new level place span value
  run_puts = record {
    first = b.entries level place ∙ w.first;
    rest = λ j low high. b.entries level (place + j) ∙ w.rest j low high;
    others = λ other at apart. b.entries other at ∙ w.others other at apart;
    marks = λ mark other at low. b.other_marks mark other at (omega (arith, low)) (omega (arith, low)) ∙ w.marks mark other at (omega (arith, low));
  }

-- ---- an entry that goes: its bit first, then its slots, then the empty nodes

-- no mark is left once the bit of the entry is gone
pub unmarked_now : (old mid : Slab Node) (level place : ℕ) → HasNoMark old level place → WritesBit old mid 3 level place 0 → IsUnmarked mid level place
unmarked_now old mid level place unmarked b = record {
  each = λ mark low. elim (cases_eq mark 3) [
    | inl is ↦ rw is (b.changed)
    | inr differs ↦ b.other_marks mark level place low differs ∙ unmarked.each mark (omega (arith, low, differs))
  ];
}

module _ (old mid last new : Slab Node) (level place : ℕ) (tells : TellsEntries old) (b : WritesBit old mid 3 level place 0) (same : SameSlots last new) where
  module _ (w : WritesSlot mid last level place None) where
    pub clear_tells : TellsEntries new
    clear_tells = tells_same last new (record {
      each = λ other at.
          writes_marks mid last level place None w 3 other at (omega arith)
          ∙ elim (here_or_else level place other at) [
            | inl p ↦ rw (p.0, p.1) (b.changed ∙ ap leaf_bit (sym w.entry))
            | inr apart ↦ b.others other at apart ∙ tells.each other at ∙ ap leaf_bit (sym (w.others other at apart ∙ b.entries other at))
          ];
    }) same

    pub clear_puts : PutsEntry old new level place None
    clear_puts = record {
      entry = same.entries level place ∙ w.entry;
      others = λ other at apart. same.entries other at ∙ w.others other at apart ∙ b.entries other at;
      marks = λ mark other at low. same.marks mark other at (omega (arith, low)) ∙ writes_marks mid last level place None w mark other at (omega (arith, low)) ∙ b.other_marks mark other at (omega (arith, low)) (omega (arith, low));
    }

  module _ (span : ℕ) (some : 0 < span) (run : IsRun old level place span) (w : ErasesRun mid last level place span) where
    gone_bit : (j : ℕ) → j < span → mark_at 3 mid level (place + j) ≡ leaf_bit (entry_at last level (place + j))
    gone_bit j within = elim (cases_eq j 0) [
      | inl zero_j ↦
          let e : place + j ≡ place = omega (arith, zero_j) in
          ap (mark_at 3 mid level) e ∙ b.changed ∙ ap leaf_bit (sym (w.gone j within))
      | inr more ↦
          b.others level (place + j) (λ l p. more (omega (arith, p))) ∙ tells.each level (place + j)
          ∙ ap leaf_bit (run.rest j (omega (arith, more)) within) ∙ ap leaf_bit (sym (w.gone j within))
    ]

    pub clear_run_tells : TellsEntries new
    clear_run_tells = tells_same last new (record {
      each = λ other at.
          w.marks 3 other at (omega arith)
          ∙ elim (in_run_or_else level place span other at) [
            | inl p ↦ rw (p.0, p.1.1.1) (gone_bit p.1.0 p.1.1.0)
            | inr apart ↦ b.others other at (λ l e. apart l (omega (arith, e)) (omega (arith, e, some))) ∙ tells.each other at ∙ ap leaf_bit (sym (w.others other at apart ∙ b.entries other at))
          ];
    }) same

    pub run_clears : ClearsRun old new level place span
    run_clears = record {
      gone = λ j within. same.entries level (place + j) ∙ w.gone j within;
      others = λ other at apart. same.entries other at ∙ w.others other at apart ∙ b.entries other at;
      marks = λ mark other at low. same.marks mark other at (omega (arith, low)) ∙ w.marks mark other at (omega (arith, low)) ∙ b.other_marks mark other at (omega (arith, low)) (omega (arith, low));
    }

-- ---- the next entry is the next one with that mark

leaf_from : (x : Option Entry) → leaf_bit x ≡ 1 → IsLeaf x
leaf_from None e = absurd (omega (arith, e))
leaf_from (Some (entry.Leaf value)) e = tt
leaf_from (Some (entry.Sibling first)) e = absurd (omega (arith, e))

pub bit_from : (x : Option Entry) → IsLeaf x → leaf_bit x ≡ 1
bit_from None e = absurd e
bit_from (Some (entry.Leaf value)) e = refl
bit_from (Some (entry.Sibling first)) e = absurd e

pub next_entry : (s : Slab Node) (from level place : ℕ) → TellsEntries s → IsNext s 3 from level place → IsNextEntry s from level place
next_entry s from level place tells next = record {
  leaf = leaf_from (entry_at s level place) (sym (tells.each level place) ∙ next.marked);
  after = next.after;
  lowest = λ other index le is. next.lowest other index le (tells.each other (index / 64 ^ other) ∙ bit_from (entry_at s other (index / 64 ^ other)) is);
}

pub no_next_entry : (s : Slab Node) (from : ℕ) → TellsEntries s → HasNoNext s 3 from → HasNoNextEntry s from
no_next_entry s from tells none = record { each = λ level index le is. none.each level index le (tells.each level (index / 64 ^ level) ∙ bit_from (entry_at s level (index / 64 ^ level)) is) }

-- ---- the slots of a run go one by one

pub erases_none : (s : Slab Node) (level place : ℕ) → ErasesRun s s level place 0
erases_none s level place = record { gone = λ j low. absurd (omega (arith, low)); others = λ other at apart. refl; marks = λ mark other at low. refl }

pub erases_more : (old s new : Slab Node) (level place j : ℕ) → ErasesRun old s level place j → WritesSlot s new level (place + j) None → ErasesRun old new level place (j + 1)
erases_more old s new level place j run w = record {
  gone = λ i high. elim (cases_eq i j) [
    | inl same ↦ ap (λ z. entry_at new level (place + z)) same ∙ w.entry
    | inr differs ↦ w.others level (place + i) (λ l e. differs (omega (arith, e))) ∙ run.gone i (omega (arith, high, differs))
  ];
  others = λ other at apart.
      w.others other at (λ l e. apart l (omega (arith, e)) (omega (arith, e)))
      ∙ run.others other at (λ l low high. apart l low (omega (arith, high)));
  marks = λ mark other at low. writes_marks s new level (place + j) None w mark other at low ∙ run.marks mark other at low;
}

-- the slots of a run that are still there
module _ (old s : Slab Node) (level place span j : ℕ) (within : j < span) (run : IsRun old level place span) (gone : ErasesRun old s level place j) where
  pub still : entry_at s level (place + j) ≡ entry_at old level (place + j)
  still = gone.others level (place + j) (λ l low high. omega (arith, high))

  leaf_entry : (x : Option Entry) → IsLeaf x → IsEntry x
  leaf_entry None e = e
  leaf_entry (Some y) e = tt

  pub still_entry : IsEntry (entry_at s level (place + j))
  still_entry = elim (cases_eq j 0) [
    | inl zero_j ↦
        let e : place + j ≡ place = omega (arith, zero_j) in
        let f : entry_at s level (place + j) ≡ entry_at old level place = still ∙ ap (entry_at old level) e in
        entry_by (entry_at old level place) (entry_at s level (place + j)) f (leaf_entry (entry_at old level place) run.first)
    | inr more ↦ entry_by (Some (entry.Sibling (place % 64))) (entry_at s level (place + j)) (still ∙ run.rest j (omega (arith, more)) within) tt
  ]
    where
      entry_by : (x y : Option Entry) → y ≡ x → IsEntry x → IsEntry y
      entry_by x y e is = rw e is
