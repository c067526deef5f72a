use Rattle.std.proofs.Common.{arith}
use Rattle.radix.proofs.TwigLemmas.{taken_fits, taken_leaf, taken_next, taken_on, taken_single}
use Rattle.radix.proofs.twig.taken.Goals as goal

pub lowest-offset-requires : goal.lowest-offset-requires
lowest-offset-requires c = c.requires.aim.some

pub overflow_add-result : goal.overflow_add-result
overflow_add-result c = omega (arith, taken_fits c.args.nodes.now c.requires.sound.head c.requires.sound.sound c.args.from c.args.twig c.requires.aim c.lowest-offset.result c.lowest-offset.ensures)

pub returns-clause-next : goal.returns-clause-next
returns-clause-next c = taken_next c.args.nodes.now c.requires.sound.head c.requires.sound.sound c.args.from c.args.twig c.requires.aim c.lowest-offset.result c.lowest-offset.ensures c.value-value.result c.value-value.ensures

pub returns-clause-single : goal.returns-clause-single
returns-clause-single c = taken_single c.args.nodes.now c.requires.sound.head c.requires.sound.sound c.args.from c.args.twig c.requires.aim c.lowest-offset.result c.lowest-offset.ensures (c.is_single.ensures c.if-not-is_single.false)

pub returns-clause-twig : goal.returns-clause-twig
returns-clause-twig c = taken_on c.args.nodes.now c.requires.sound.head c.requires.sound.sound c.args.from c.args.twig c.requires.aim c.lowest-offset.result c.lowest-offset.ensures c.without_bit.result c.without_bit.ensures

pub value-value-requires-clause-leaf : goal.value-value-requires-clause-leaf
value-value-requires-clause-leaf c = taken_leaf c.args.nodes.now c.requires.sound.head c.requires.sound.sound c.args.from c.args.twig c.requires.aim c.lowest-offset.result c.lowest-offset.ensures
