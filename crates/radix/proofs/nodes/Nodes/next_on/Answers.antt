use Rattle.std.proofs.Common.{sym}
use Rattle.radix.proofs.TwigLemmas.{next_entry_if, rooted}
use Rattle.radix.proofs.nodes.Nodes.next_on.Goals as goal

pub next_on-requires-clause-sound : goal.next_on-requires-clause-sound
next_on-requires-clause-sound c = rooted c.self.inside.slab c.self.inside.head c.self.invariant.sound c.args.from c.args.twig (rw (sym c.self.view_is) at c.requires)

pub returns-clause-entry : goal.returns-clause-entry
returns-clause-entry c = λ all. rw (c.self.view_is) at (next_entry_if c.self.inside.slab c.args.from _ c.self.invariant.tells all c.next_on.result c.next_on.ensures.next)
