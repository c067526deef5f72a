use Rattle.radix.proofs.TwigLemmas.{before_stands}
use Rattle.radix.proofs.nodes.Nodes.slot_before.Goals as goal

pub returns-clause-stands : goal.returns-clause-stands
returns-clause-stands c = rw (c.at.ensures) (before_stands c.args.self.now c.args.from c.args.twig c.requires)
