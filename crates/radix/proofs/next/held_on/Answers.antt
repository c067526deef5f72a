use Rattle.std.proofs.Common.{◌≢◌, ◌<◌, sym, ap, ◌∙◌, arith}
use Rattle.std.specs.Int.{bit_at}
use Rattle.radix.specs.Entries.{bits, slot}
use Rattle.radix.proofs.BitmapLemmas.{set_from, unset_from}
use Rattle.radix.proofs.TrailLemmas.{end_low, end_stands, held_is, none_bit, none_leaf, none_plain}
use Rattle.radix.proofs.next.held_on.Goals as goal
use Rattle.radix.proofs.next.held_on.Goals.{then-first-ge64-via-then-first-ge64, then-first-ge64-via-else-first-ge64+then-not-has_bit}

pub offset_at-requires : goal.offset_at-requires
offset_at-requires c = end_low c.args.nodes.now c.args.head c.requires.sound c.args.mark c.requires.mark c.args.index c.args.trail.key c.args.trail.level c.args.trail.is_set c.args.trail.best c.requires.trail c.index-node.result.now c.index-node.ensures

pub returns-in_default-clause-held : goal.returns-in_default-clause-held
returns-in_default-clause-held c = none_plain c.args.nodes.now c.args.head c.requires.sound c.args.mark c.requires.mark c.args.index c.args.trail.key c.args.trail.level c.args.trail.is_set c.args.trail.best c.requires.trail c.index-node.result.now c.index-node.ensures (λ first is. c.in_default.not-Sibling first (c.read.ensures ∙ ap (slot c.index-node.result.now) c.offset_at.ensures ∙ is))

pub returns-then-first-ge64-clause-held : goal.returns-then-first-ge64-clause-held
returns-then-first-ge64-clause-held c =
    let unset : c.in-Sibling.first < 64 → bit_at (bits c.index-node.result.now c.args.mark) c.in-Sibling.first ≢ 1 =
    λ small. elim c.then-first-ge64.branch [
      | then-first-ge64-via-then-first-ge64 w ↦ absurd (let large = w.if-first-ge64.true in omega (arith, large, small))
      | then-first-ge64-via-else-first-ge64+then-not-has_bit w ↦ unset_from w.has_bit.result _ w.has_bit.ensures w.if-not-has_bit.true
    ] in
    none_bit c.args.nodes.now c.args.head c.requires.sound c.args.mark c.requires.mark c.args.index c.args.trail.key c.args.trail.level c.args.trail.is_set c.args.trail.best c.requires.trail c.index-node.result.now c.index-node.ensures c.in-Sibling.first (ap (slot c.index-node.result.now) (sym c.offset_at.ensures) ∙ sym c.read.ensures ∙ c.in-Sibling.is) unset

pub returns-in_default-read-clause-held : goal.returns-in_default-read-clause-held
returns-in_default-read-clause-held c = none_leaf c.args.nodes.now c.args.head c.requires.sound c.args.mark c.requires.mark c.args.index c.args.trail.key c.args.trail.level c.args.trail.is_set c.args.trail.best c.requires.trail c.index-node.result.now c.index-node.ensures c.in-Sibling.first (ap (slot c.index-node.result.now) (sym c.offset_at.ensures) ∙ sym c.read.ensures ∙ c.in-Sibling.is) (λ value is. c.in_default-read.not-Leaf value (c.read-2.ensures ∙ is))

pub returns-clause-held : goal.returns-clause-held
returns-clause-held c = held_is c.args.nodes.now c.args.head c.requires.sound c.args.mark c.requires.mark c.args.index c.args.trail.key c.args.trail.level c.args.trail.is_set c.args.trail.best c.requires.trail c.index-node.result.now c.index-node.ensures c.in-Sibling.first c.in-Leaf.field-0 (omega (arith, c.if-first-ge64.false)) (ap (slot c.index-node.result.now) (sym c.offset_at.ensures) ∙ sym c.read.ensures ∙ c.in-Sibling.is) (set_from c.has_bit.result _ c.has_bit.ensures c.if-not-has_bit.false) (sym c.read-2.ensures ∙ c.in-Leaf.is)

pub returns-clause-stands : goal.returns-clause-stands
returns-clause-stands c = rw (c.at.ensures) (end_stands c.args.nodes.now c.args.head c.requires.sound c.args.mark c.requires.mark c.args.index c.args.trail.key c.args.trail.level c.args.trail.is_set c.args.trail.best c.requires.trail c.index-node.result.now c.index-node.ensures c.in-Sibling.first (omega (arith, c.if-first-ge64.false)))
