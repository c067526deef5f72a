use Rattle.radix.proofs.AheadLemmas.{near_next, near_up}
use Rattle.radix.proofs.next.next_near.Goals as goal

pub ahead_at-requires-clause-next : goal.ahead_at-requires-clause-next
ahead_at-requires-clause-next c = near_next c.args.nodes.now c.args.head c.requires.sound c.args.key c.args.place c.index-node.result.now c.requires.stands c.index-node.ensures c.args.mark c.requires.mark c.args.index c.requires.after c.in-Some.offset c.in-Some.ensures

pub next_under-requires-clause-climbed : goal.next_under-requires-clause-climbed
next_under-requires-clause-climbed c = (near_up c.args.nodes.now c.args.head c.requires.sound c.args.key c.args.place c.index-node.result.now c.requires.stands c.index-node.ensures c.args.mark c.requires.mark c.args.index c.requires.after c.in_default.ensures c.in-Some-above.above (rw (c.in-Some-above.is) at c.requires.above))
