use Rattle.std.proofs.Common.{sym, ◌∙◌}
use Rattle.radix.proofs.TreeLemmas.{contains_key}
use Rattle.radix.proofs.WalkLemmas.{plain_from}
use Rattle.radix.proofs.BitmapLemmas.{unset_from, set_from}
use Rattle.radix.proofs.UnderLemmas.{ends_unset, ends_plain, ends_set, goes_down, goes_lower}
use Rattle.radix.proofs.marks.marked_down.Goals as goal

pub down-init : goal.down-init
down-init c = c.requires.come

pub index-node-requires : goal.index-node-requires
index-node-requires c = contains_key c.args.nodes.now c.down.key c.down.invariant.node c.down.invariant.there

pub offset_at-offset-requires : goal.offset_at-offset-requires
offset_at-offset-requires c = (c.requires.sound.tree.nodes c.down.key c.index-node.result.now c.index-node.ensures).level

pub returns-then-not-has_bit : goal.returns-then-not-has_bit
returns-then-not-has_bit c = ends_unset c.args.nodes.now c.args.head c.requires.sound c.args.mark c.requires.mark c.args.level c.args.index c.down.key c.index-node.result.now c.index-node.ensures c.down.invariant c.offset_at-offset.result c.offset_at-offset.ensures (unset_from c.has_bit.result _ c.has_bit.ensures c.if-not-has_bit.true)

pub returns-then-node-level : goal.returns-then-node-level
returns-then-node-level c = ends_set c.args.nodes.now c.args.head c.requires.sound c.args.mark c.requires.mark c.args.level c.args.index c.down.key c.index-node.result.now c.index-node.ensures c.down.invariant c.offset_at-offset.result c.offset_at-offset.ensures c.if-node-level.true (set_from c.has_bit.result _ c.has_bit.ensures c.if-not-has_bit.false)

pub down-smaller : goal.down-smaller
down-smaller c = goes_lower c.args.nodes.now c.args.head c.requires.sound c.args.mark c.requires.mark c.args.level c.args.index c.down.key c.index-node.result.now c.index-node.ensures c.down.invariant c.offset_at-offset.result c.offset_at-offset.ensures c.in-Child.child (sym c.read.ensures ∙ c.in-Child.is)

pub down-preserved : goal.down-preserved
down-preserved c = goes_down c.args.nodes.now c.args.head c.requires.sound c.args.mark c.requires.mark c.args.level c.args.index c.down.key c.index-node.result.now c.index-node.ensures c.down.invariant c.offset_at-offset.result c.offset_at-offset.ensures c.if-node-level.false c.in-Child.child (sym c.read.ensures ∙ c.in-Child.is)

pub returns-in_default : goal.returns-in_default
returns-in_default c = ends_plain c.args.nodes.now c.args.head c.requires.sound c.args.mark c.requires.mark c.args.level c.args.index c.down.key c.index-node.result.now c.index-node.ensures c.down.invariant c.offset_at-offset.result c.offset_at-offset.ensures c.if-node-level.false (plain_from _ (λ k e. c.in_default.not-Child k (c.read.ensures ∙ e)))
