use Rattle.std.proofs.Common.{◌≡◌, ◌+◌, ◌%◌, Some, ◌∙◌, inl, inr, arith}
use Rattle.std.proofs.lemmas.Bool.{cases_eq}
use Rattle.radix.proofs.EntryBitLemmas.{erases_none, erases_more, still, still_entry}
use Rattle.radix.proofs.RemovalLemmas.{sibling_unmarked, unmarked_at, stands_beside}
use Rattle.radix.proofs.removal.erase_run.Goals as goal

pub slots-init : goal.slots-init
slots-init c = record { sound = c.requires.sound; stands = c.requires.stands; erases = erases_none c.args.nodes.now c.args.level c.args.place }

pub erase_slot-requires-clause-stands : goal.erase_slot-requires-clause-stands
erase_slot-requires-clause-stands c = stands_beside c.slots.nodes c.args.key c.args.level c.args.place c.args.span c.slots.j c.requires.within c.slots-test.true c.slots.invariant.stands

pub erase_slot-requires-clause-sound : goal.erase_slot-requires-clause-sound
erase_slot-requires-clause-sound c = c.slots.invariant.sound

pub erase_slot-requires-clause-entry : goal.erase_slot-requires-clause-entry
erase_slot-requires-clause-entry c = still_entry c.args.nodes.now c.slots.nodes c.args.level c.args.place c.args.span c.slots.j c.slots-test.true c.requires.run c.slots.invariant.erases

pub erase_slot-requires-clause-unmarked : goal.erase_slot-requires-clause-unmarked
erase_slot-requires-clause-unmarked c = elim (cases_eq c.slots.j 0) [
  | inl zero_j ↦ unmarked_at c.args.nodes.now c.slots.nodes c.args.level c.args.place c.slots.j zero_j c.requires.unmarked c.slots.invariant.erases
  | inr more ↦
      sibling_unmarked c.slots.nodes c.args.head (Some c.args.key) c.args.level (c.args.place + c.slots.j) c.args.key (c.args.place % 64) c.slots.invariant.sound
      (stands_beside c.slots.nodes c.args.key c.args.level c.args.place c.args.span c.slots.j c.requires.within c.slots-test.true c.slots.invariant.stands)
      (still c.args.nodes.now c.slots.nodes c.args.level c.args.place c.args.span c.slots.j c.slots-test.true c.requires.run c.slots.invariant.erases ∙ c.requires.run.rest c.slots.j (omega (arith, more)) c.slots-test.true)
]

pub slots-preserved : goal.slots-preserved
slots-preserved c =
    let t = c.erase_slot.ensures.stands in
    record {
      sound = c.erase_slot.ensures.sound;
      stands = record { node = t.node; there = t.there; level_is = t.level_is; prefix_is = omega (arith, t.prefix_is, c.requires.within, c.slots-test.true) };
      erases = erases_more c.args.nodes.now c.slots.nodes c.erase_slot.new.nodes c.args.level c.args.place c.slots.j c.slots.invariant.erases c.erase_slot.ensures.writes;
    }

pub returns-clause-sound : goal.returns-clause-sound
returns-clause-sound c = c.slots.invariant.sound

pub returns-clause-erases : goal.returns-clause-erases
returns-clause-erases c = let e : c.slots.j ≡ c.args.span = omega (arith, c.slots.auto.j-end, c.slots-test.false) in rw e at c.slots.invariant.erases

pub returns-clause-stands : goal.returns-clause-stands
returns-clause-stands c = c.slots.invariant.stands
