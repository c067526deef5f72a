use Rattle.std.proofs.Common.{◌/◌, ◌%◌, refl, arith}
use Rattle.radix.proofs.TreeLemmas.{contains_key}
use Rattle.radix.proofs.twig.twig_at.Goals as goal

pub rest_of-requires-clause-there : goal.rest_of-requires-clause-there
rest_of-requires-clause-there c = contains_key c.args.nodes.now c.args.key c.requires.stands.node c.requires.stands.there

pub rest_above-requires-clause-there : goal.rest_above-requires-clause-there
rest_above-requires-clause-there c = contains_key c.args.nodes.now c.args.key c.requires.stands.node c.requires.stands.there

pub returns-clause-on : goal.returns-clause-on
returns-clause-on c = record {
  prefix = c.args.place / 64;
  offset = c.args.place % 64;
  within = omega arith;
  after = omega arith;
  base_is = refl;
  known = c.requires.mark;
  leaf = c.rest_of.ensures 0 c.requires.stands;
  above = c.rest_above.ensures (c.args.place / 64) c.requires.stands;
}
