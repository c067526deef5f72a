use Rattle.std.proofs.Common.{sym, ◌∙◌}
use Rattle.radix.proofs.DescentLemmas.{SameSlots-trans}
use Rattle.radix.proofs.RemovalLemmas.{void, void_entries, contains_above, up_sound, up_entries, up_there, up_nearer}
use Rattle.radix.proofs.removal.prune.Goals as goal

pub returns-in_default-clause-sound : goal.returns-in_default-clause-sound
returns-in_default-clause-sound c = void c.up.nodes c.args.head _ c.up.child c.index-below.result.now c.up.invariant.sound c.index-below.ensures c.if-below-ne0.false (sym c.key-parent.ensures ∙ c.in_default.is) c.remove.new.self c.remove.ensures.updates

pub returns-in_default-clause-entries : goal.returns-in_default-clause-entries
returns-in_default-clause-entries c =
    SameSlots-trans c.args.nodes.now c.up.nodes c.remove.new.self c.up.invariant.entries
    (void_entries c.up.nodes c.args.head _ c.up.child c.index-below.result.now c.up.invariant.sound c.index-below.ensures c.if-below-ne0.false (sym c.key-parent.ensures ∙ c.in_default.is) c.remove.new.self c.remove.ensures.updates)

pub index_mut-node-requires : goal.index_mut-node-requires
index_mut-node-requires c = contains_above c.args.nodes.now c.up.nodes c.remove.new.self c.args.head c.up.child c.index-below.result.now c.in-Some.above c.up.invariant.sound c.up.invariant.entries c.index-below.ensures c.if-below-ne0.false (sym c.key-parent.ensures ∙ c.in-Some.is) c.remove.ensures.updates

pub up-smaller : goal.up-smaller
up-smaller c = rw (c.empty.ensures) (up_nearer c.args.nodes.now c.up.nodes c.remove.new.self c.args.head c.up.child c.index-below.result.now c.in-Some.above c.up.invariant.sound c.up.invariant.entries c.index-below.ensures c.if-below-ne0.false (sym c.key-parent.ensures ∙ c.in-Some.is) c.remove.ensures.updates c.index_mut-node.result.now c.index_mut-node.ensures.value)

pub up-preserved : goal.up-preserved
up-preserved c = record {
  sound = rw (c.empty.ensures) (up_sound c.args.nodes.now c.up.nodes c.remove.new.self c.args.head c.up.child c.index-below.result.now c.in-Some.above c.up.invariant.sound c.up.invariant.entries c.index-below.ensures c.if-below-ne0.false (sym c.key-parent.ensures ∙ c.in-Some.is) c.remove.ensures.updates c.index_mut-node.result.now c.index_mut-node.ensures.value);
  there = rw (c.empty.ensures) (up_there c.args.nodes.now c.up.nodes c.remove.new.self c.args.head c.up.child c.index-below.result.now c.in-Some.above c.up.invariant.sound c.up.invariant.entries c.index-below.ensures c.if-below-ne0.false (sym c.key-parent.ensures ∙ c.in-Some.is) c.remove.ensures.updates c.index_mut-node.result.now c.index_mut-node.ensures.value);
  entries = rw (c.empty.ensures) (up_entries c.args.nodes.now c.up.nodes c.remove.new.self c.args.head c.up.child c.index-below.result.now c.in-Some.above c.up.invariant.sound c.up.invariant.entries c.index-below.ensures c.if-below-ne0.false (sym c.key-parent.ensures ∙ c.in-Some.is) c.remove.ensures.updates c.index_mut-node.result.now c.index_mut-node.ensures.value);
}
