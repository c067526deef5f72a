use Rattle.radix.proofs.AheadLemmas.{unmarked_path}
use Rattle.radix.proofs.next.is_marked.Goals as goal

pub returns-in-None : goal.returns-in-None
returns-in-None c = unmarked_path c.args.nodes.now c.args.head c.requires.sound c.args.mark c.requires.mark c.args.index c.in-Some.trail.key c.in-Some.trail.level c.in-Some.trail.is_set c.in-Some.trail.best c.in-Some.ensures c.if-trail.false (rw (c.in-None.is) at c.held_on.ensures.held)
