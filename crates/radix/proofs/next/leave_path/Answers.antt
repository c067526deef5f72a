use Rattle.std.proofs.Common.{ap, inr, arith}
use Rattle.radix.specs.Tree.{level_of}
use Rattle.radix.proofs.BitmapLemmas.{set_from, unset_from}
use Rattle.radix.proofs.FindLemmas.{past_none}
use Rattle.radix.proofs.NextLemmas.{begins, past_head}
use Rattle.radix.proofs.TrailLemmas.{trail_child, trail_down, trail_inner, trail_low, trail_set, trail_unset}
use Rattle.radix.proofs.TreeLemmas.{lowest_plain}
use Rattle.radix.proofs.next.leave_path.Goals as goal

pub place_at-requires : goal.place_at-requires
place_at-requires c = (c.requires.sound.tree.nodes _ _ c.index-top.ensures).level

pub returns-then-place_at-ne0 : goal.returns-then-place_at-ne0
returns-then-place_at-ne0 c = (
  past_head c.args.nodes.now c.args.head c.requires.sound c.args.mark c.requires.mark c.args.index c.index-top.result.now c.index-top.ensures (rw (c.place_at.ensures) at c.if-place_at-ne0.true),
  past_none c.args.nodes.now c.args.head c.requires.sound.tree c.args.index c.index-top.result.now c.index-top.ensures (inr (rw (c.place_at.ensures) at c.if-place_at-ne0.true)),
)

pub down-init : goal.down-init
down-init c = record {
  left = begins c.args.nodes.now c.args.head c.requires.sound c.args.mark c.requires.mark c.args.index c.index-top.result.now c.index-top.ensures (rw (c.place_at.ensures) at c.if-place_at-ne0.false);
  counted = ap level_of c.index-top.ensures;
}

pub offset_at-offset-requires : goal.offset_at-offset-requires
offset_at-offset-requires c = trail_low c.args.nodes.now c.args.head c.requires.sound c.args.mark c.requires.mark c.args.index c.down.key 0 c.down.level c.index-node.result.now c.index-node.ensures c.down.invariant.counted c.down.best c.down.invariant.left

pub child-requires-clause-lowest : goal.child-requires-clause-lowest
child-requires-clause-lowest c = λ key low. lowest_plain c.args.nodes.now c.args.head c.requires.sound.tree c.down.key c.index-node.result.now c.index-node.ensures low c.offset_at-offset.result key

pub returns-then-not-has_bit : goal.returns-then-not-has_bit
returns-then-not-has_bit c = trail_unset c.args.nodes.now c.args.head c.requires.sound c.args.mark c.requires.mark c.args.index c.down.key c.offset_at-offset.result c.down.level c.index-node.result.now c.index-node.ensures c.down.invariant.counted c.down.best c.down.invariant.left c.offset_at-offset.ensures c.lowest_above.result c.lowest_above.ensures c.better-best.result c.better-best.ensures (unset_from c.has_bit.result _ c.has_bit.ensures c.if-not-has_bit.true)

pub returns-in_default : goal.returns-in_default
returns-in_default c = trail_set c.args.nodes.now c.args.head c.requires.sound c.args.mark c.requires.mark c.args.index c.down.key c.offset_at-offset.result c.down.level c.index-node.result.now c.index-node.ensures c.down.invariant.counted c.down.best c.down.invariant.left c.offset_at-offset.ensures c.lowest_above.result c.lowest_above.ensures c.better-best.result c.better-best.ensures (set_from c.has_bit.result _ c.has_bit.ensures c.if-not-has_bit.false) c.in_default.ensures

pub overflow_sub-level : goal.overflow_sub-level
overflow_sub-level c = trail_inner c.args.nodes.now c.args.head c.requires.sound c.args.mark c.requires.mark c.args.index c.down.key c.offset_at-offset.result c.down.level c.index-node.result.now c.index-node.ensures c.down.invariant.counted c.down.best c.down.invariant.left c.in-Some.child c.in-Some.ensures

pub down-smaller : goal.down-smaller
down-smaller c = let inner = trail_inner c.args.nodes.now c.args.head c.requires.sound c.args.mark c.requires.mark c.args.index c.down.key c.offset_at-offset.result c.down.level c.index-node.result.now c.index-node.ensures c.down.invariant.counted c.down.best c.down.invariant.left c.in-Some.child c.in-Some.ensures in omega (arith, inner)

pub down-preserved : goal.down-preserved
down-preserved c = record {
  left = trail_child c.args.nodes.now c.args.head c.requires.sound c.args.mark c.requires.mark c.args.index c.down.key c.offset_at-offset.result c.down.level c.index-node.result.now c.index-node.ensures c.down.invariant.counted c.down.best c.down.invariant.left c.offset_at-offset.ensures c.lowest_above.result c.lowest_above.ensures c.better-best.result c.better-best.ensures c.in-Some.child c.in-Some.ensures;
  counted = trail_down c.args.nodes.now c.args.head c.requires.sound c.args.mark c.requires.mark c.args.index c.down.key c.offset_at-offset.result c.down.level c.index-node.result.now c.index-node.ensures c.down.invariant.counted c.down.best c.down.invariant.left c.in-Some.child c.in-Some.ensures;
}
