use Rattle.radix.proofs.FirstsLemmas.{firsts-of_run}
use Rattle.radix.proofs.parts.first_bits.Goals as goal

pub returns : goal.returns
returns c = firsts-of_run c.each_lowest.result c.args.at c.args.count c.args.step c.requires.some c.requires.within c.each_lowest.ensures
