use Rattle.std.proofs.Common.{sym, ◌∙◌}
use Rattle.radix.proofs.AheadLemmas.{at_alone, at_leaf}
use Rattle.radix.proofs.next.ahead_at.Goals as goal

pub returns-clause-next : goal.returns-clause-next
returns-clause-next c = at_leaf c.args.nodes.now c.args.head c.requires.sound c.args.key c.args.place c.index-node.result.now c.requires.stands c.index-node.ensures c.args.mark c.args.index c.in-Leaf.value c.requires.next (sym c.read.ensures ∙ c.in-Leaf.is)

pub returns-clause-alone : goal.returns-clause-alone
returns-clause-alone c = λ tells. at_alone c.args.nodes.now c.args.head c.requires.sound c.args.key c.args.place c.index-node.result.now c.requires.stands c.index-node.ensures (c.ends_after.ensures tells)
