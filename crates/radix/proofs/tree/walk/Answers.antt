use Rattle.std.proofs.Common.{sym, ap, ◌∙◌, arith}
use Rattle.std.proofs.lemmas.Bool.{MatchBool-at_false}
use Rattle.radix.specs.Entries.{content}
use Rattle.radix.proofs.TreeLemmas.{contains_key}
use Rattle.radix.proofs.FindLemmas.{past_none, find_step, find_walked, find_stands, counted_low, counted_inner, counted_step}
use Rattle.radix.proofs.tree.walk.Goals as goal

pub covers-requires : goal.covers-requires
covers-requires c = (c.requires.nodes c.args.head c.index-top.result.now c.index-top.ensures).level

pub returns-then-not-covers-clause-found : goal.returns-then-not-covers-clause-found
returns-then-not-covers-clause-found c = past_none c.args.nodes.now c.args.head c.requires c.args.index c.index-top.result.now c.index-top.ensures (MatchBool-at_false _ _ c.if-not-covers.true c.covers.ensures)

pub offset_at-requires : goal.offset_at-requires
offset_at-requires c = counted_low c.args.nodes.now c.args.head c.requires c.args.index c.down.key c.down.node.now c.down.invariant.there c.down.invariant.come c.down.level c.down.invariant.counted

pub returns-in_default : goal.returns-in_default
returns-in_default c = record {
  low = counted_low c.args.nodes.now c.args.head c.requires c.args.index c.down.key c.down.node.now c.down.invariant.there c.down.invariant.come c.down.level c.down.invariant.counted;
  found = find_walked c.args.nodes.now c.args.head c.requires c.args.index c.down.key c.down.node.now c.down.invariant.there c.down.invariant.come c.down.level c.down.invariant.counted c.offset_at.result c.offset_at.ensures (λ k e. c.in_default.not-Child k (c.read-slot.ensures ∙ e)) c.entry_of.result (ap content (sym c.read-slot.ensures) ∙ sym c.entry_of.ensures);
  stands = rw (c.at.ensures) (find_stands c.args.nodes.now c.args.head c.requires c.args.index c.down.key c.down.node.now c.down.invariant.there c.down.invariant.come c.down.level c.down.invariant.counted);
}

pub overflow_sub-level : goal.overflow_sub-level
overflow_sub-level c = counted_inner c.args.nodes.now c.args.head c.requires c.args.index c.down.key c.down.node.now c.down.invariant.there c.down.invariant.come c.down.level c.down.invariant.counted c.offset_at.result c.offset_at.ensures c.in-Child.child (sym c.read-slot.ensures ∙ c.in-Child.is)

pub down-smaller : goal.down-smaller
down-smaller c =
    let inner = counted_inner c.args.nodes.now c.args.head c.requires c.args.index c.down.key c.down.node.now c.down.invariant.there c.down.invariant.come c.down.level c.down.invariant.counted c.offset_at.result c.offset_at.ensures c.in-Child.child (sym c.read-slot.ensures ∙ c.in-Child.is) in
    omega (arith, inner)

pub down-preserved : goal.down-preserved
down-preserved c = record {
  come = find_step c.args.nodes.now c.args.head c.requires c.args.index c.down.key c.down.node.now c.down.invariant.there c.down.invariant.come c.down.level c.down.invariant.counted c.offset_at.result c.offset_at.ensures c.in-Child.child (sym c.read-slot.ensures ∙ c.in-Child.is);
  there = c.index-node.ensures;
  counted = counted_step c.args.nodes.now c.args.head c.requires c.args.index c.down.key c.down.node.now c.down.invariant.there c.down.invariant.come c.down.level c.down.invariant.counted c.offset_at.result c.offset_at.ensures c.in-Child.child (sym c.read-slot.ensures ∙ c.in-Child.is);
}

pub index-node-requires : goal.index-node-requires
index-node-requires c =
    let h = c.requires.children c.down.key c.down.node.now c.offset_at.result c.in-Child.child c.down.invariant.there (sym c.read-slot.ensures ∙ c.in-Child.is) in
    contains_key c.args.nodes.now c.in-Child.child h.below h.there
