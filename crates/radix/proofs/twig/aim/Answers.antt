use Rattle.std.proofs.Common.{arith}
use Rattle.radix.proofs.TwigLemmas.{twig_aimed}
use Rattle.radix.proofs.twig.aim.Goals as goal

pub returns-clause-aim : goal.returns-clause-aim
returns-clause-aim c = twig_aimed c.args.nodes.now c.requires.sound.head c.requires.sound.sound c.args.from c.args.twig c.requires.twig (omega (arith, c.if-twig-eq0.false))
