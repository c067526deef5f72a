use Rattle.std.proofs.Common.{sym, ◌∙◌, arith}
use Rattle.radix.proofs.TwigLemmas.{turned_aimed, turned_there}
use Rattle.radix.proofs.twig.turned.Goals as goal

pub index-node-requires : goal.index-node-requires
index-node-requires c = turned_there c.args.nodes.now c.requires.sound.head c.requires.sound.sound c.args.from c.args.twig c.requires.twig c.requires.over (omega (arith, c.if-above-eq0.false)) c.lowest-offset.result c.lowest-offset.ensures c.in-Child.key (sym c.read.ensures ∙ c.in-Child.is)

pub returns-clause-aim : goal.returns-clause-aim
returns-clause-aim c = turned_aimed c.args.nodes.now c.requires.sound.head c.requires.sound.sound c.args.from c.args.twig c.requires.twig c.requires.over (omega (arith, c.if-above-eq0.false)) c.lowest-offset.result c.lowest-offset.ensures c.in-Child.key (sym c.read.ensures ∙ c.in-Child.is) c.index-node.result c.index-node.ensures c.without_bit.result c.without_bit.ensures
