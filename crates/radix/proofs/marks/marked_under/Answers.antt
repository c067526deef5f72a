use Rattle.std.proofs.Common.{◌/◌, ◌^◌, inl, inr, arith}
use Rattle.std.proofs.lemmas.Bool.{MatchBool-at_false}
use Rattle.radix.specs.Entries.{HasNoMarkedUnder}
use Rattle.radix.proofs.UnderLemmas.{past_under, over_none, over_tells}
use Rattle.radix.proofs.marks.marked_under.Goals as goal

pub returns-then-top-mark-ne0 : goal.returns-then-top-mark-ne0
returns-then-top-mark-ne0 c = over_tells c.args.nodes.now c.args.head c.requires.sound c.args.mark c.requires.mark c.args.level c.args.index c.index-top.result.now c.index-top.ensures c.if-top-level.true c.place_at.result c.place_at.ensures c.if-top-mark-ne0.true

pub returns-else-top-mark-ne0 : goal.returns-else-top-mark-ne0
returns-else-top-mark-ne0 c = rw (c.if-top-mark-ne0.false) (over_none c.args.nodes.now c.args.head c.requires.sound c.args.mark c.requires.mark c.args.level c.args.index c.index-top.result.now c.index-top.ensures c.if-top-level.true c.if-top-mark-ne0.false)

pub covers-requires : goal.covers-requires
covers-requires c = (c.requires.sound.tree.nodes c.args.head c.index-top.result.now c.index-top.ensures).level

pub returns-else-covers : goal.returns-else-covers
returns-else-covers c =
    let past : HasNoMarkedUnder c.args.nodes.now c.args.mark c.args.level (c.args.index / 64 ^ c.args.level) = elim (MatchBool-at_false _ _ c.if-covers.false c.covers.ensures) [
      | inl less ↦ let h = c.if-top-level.false in absurd (omega (arith, less, h))
      | inr beyond ↦ past_under c.args.nodes.now c.args.head c.requires.sound c.args.mark c.requires.mark c.args.level c.args.index c.index-top.result.now c.index-top.ensures c.if-top-level.false beyond
    ] in
    rw (c.if-covers.false) past
