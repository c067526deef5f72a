use Rattle.std.proofs.Common.{sym, ◌∙◌}
use Rattle.radix.proofs.AheadLemmas.{under_lowest, under_place, under_some, under_there}
use Rattle.radix.proofs.next.next_under.Goals as goal

pub index-requires : goal.index-requires
index-requires c = under_there c.args.nodes.now c.args.head c.requires.sound c.args.mark c.requires.mark c.args.index c.args.above c.args.place c.index-node.result.now c.requires.stands (rw (c.key.ensures) at c.index-node.ensures) c.requires.climbed c.in-Some.later c.in-Some.ensures c.in-Child.child (sym c.read.ensures ∙ c.in-Child.is)

pub lowest-first-requires : goal.lowest-first-requires
lowest-first-requires c = under_some c.args.nodes.now c.args.head c.requires.sound c.args.mark c.requires.mark c.args.index c.args.above c.args.place c.index-node.result.now c.requires.stands (rw (c.key.ensures) at c.index-node.ensures) c.requires.climbed c.in-Some.later c.in-Some.ensures c.in-Child.child (sym c.read.ensures ∙ c.in-Child.is) c.index.result.now c.index.ensures

pub ahead_at-requires-clause-stands : goal.ahead_at-requires-clause-stands
ahead_at-requires-clause-stands c = under_place c.args.nodes.now c.args.head c.requires.sound c.args.mark c.requires.mark c.args.index c.args.above c.args.place c.index-node.result.now c.requires.stands (rw (c.key.ensures) at c.index-node.ensures) c.requires.climbed c.in-Some.later c.in-Some.ensures c.in-Child.child (sym c.read.ensures ∙ c.in-Child.is) c.index.result.now c.index.ensures c.lowest-first.result c.lowest-first.ensures.within

pub ahead_at-requires-clause-next : goal.ahead_at-requires-clause-next
ahead_at-requires-clause-next c = under_lowest c.args.nodes.now c.args.head c.requires.sound c.args.mark c.requires.mark c.args.index c.args.above c.args.place c.index-node.result.now c.requires.stands (rw (c.key.ensures) at c.index-node.ensures) c.requires.climbed c.in-Some.later c.in-Some.ensures c.in-Child.child (sym c.read.ensures ∙ c.in-Child.is) c.index.result.now c.index.ensures c.lowest-first.result c.lowest-first.ensures
