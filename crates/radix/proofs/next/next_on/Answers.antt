use Rattle.std.proofs.Common.{arith}
use Rattle.radix.proofs.next.next_on.Goals as goal

pub place_at-requires : goal.place_at-requires
place_at-requires c = let t = c.requires.trail in let low = (c.requires.sound.tree.nodes c.args.trail.key t.node t.there).level in let same = t.level_is in omega (arith, low, same)
