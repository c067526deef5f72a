use Rattle.std.proofs.Common.{None, arith}
use Rattle.radix.specs.Tree.{IsSound}
use Rattle.radix.proofs.RoomLemmas.{head_need}
use Rattle.radix.proofs.tree.path_need.Goals as goal

pub returns-in-Some-clause-need : goal.returns-in-Some-clause-need
returns-in-Some-clause-need c =
    let sound : IsSound c.args.nodes.now c.in-Some.head None = rw (c.in-Some.is) at c.requires.sound in
    head_need c.args.nodes.now c.in-Some.head sound.tree c.index.result.now c.index.ensures c.args.index c.args.level c.height_for-lowest.result c.max-height.result c.height_for-lowest.ensures.height
    (omega (arith, c.max-height.ensures)) (omega (arith, c.max-height.ensures))
