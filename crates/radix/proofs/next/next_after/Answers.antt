use Rattle.std.proofs.Common.{sym, ◌∙◌}
use Rattle.radix.proofs.ClimbLemmas.{climb_ahead, climb_begins, climb_ends, climb_nearer, climb_up}
use Rattle.radix.proofs.next.next_after.Goals as goal

pub up-init : goal.up-init
up-init c = rw (c.key-key.ensures) (climb_begins c.args.nodes.now c.args.mark c.args.index c.args.slot.cursor c.args.slot.level c.args.slot.place c.requires.stands c.requires.after)

pub lowest_under-requires-clause-ahead : goal.lowest_under-requires-clause-ahead
lowest_under-requires-clause-ahead c = climb_ahead c.args.nodes.now c.args.head c.requires.sound c.args.mark c.requires.mark c.args.index c.up.key c.up.offset c.index-node.result.now c.index-node.ensures c.up.invariant c.in-Some.later c.in-Some.ensures

pub returns-in_default-key-clause-next : goal.returns-in_default-key-clause-next
returns-in_default-key-clause-next c = climb_ends c.args.nodes.now c.args.head c.requires.sound c.args.mark c.requires.mark c.args.index c.up.key c.up.offset c.index-node.result.now c.index-node.ensures c.up.invariant c.in_default.ensures (sym c.key.ensures ∙ c.in_default-key.is)

pub up-smaller : goal.up-smaller
up-smaller c = climb_nearer c.args.nodes.now c.args.head c.requires.sound c.args.mark c.requires.mark c.args.index c.up.key c.up.offset c.index-node.result.now c.index-node.ensures c.up.invariant c.in_default.ensures c.in-Some-key.parent (sym c.key.ensures ∙ c.in-Some-key.is)

pub up-preserved : goal.up-preserved
up-preserved c = climb_up c.args.nodes.now c.args.head c.requires.sound c.args.mark c.requires.mark c.args.index c.up.key c.up.offset c.index-node.result.now c.index-node.ensures c.up.invariant c.in_default.ensures c.in-Some-key.parent (sym c.key.ensures ∙ c.in-Some-key.is)
