use Rattle.std.proofs.Common.{sym, ◌∙◌}
use Rattle.radix.proofs.AheadLemmas.{above_stands}
use Rattle.radix.proofs.next.above.Goals as goal

pub returns-in-Some : goal.returns-in-Some
returns-in-Some c = rw (c.at.ensures) (above_stands c.args.nodes.now c.args.head c.requires.tree c.args.key c.args.level c.args.prefix c.index.result.now c.requires.stands c.index.ensures c.in-Some.parent (sym c.key.ensures ∙ c.in-Some.is))
