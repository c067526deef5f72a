use Rattle.std.proofs.Common.{◌*◌, ap, arith}
use Rattle.radix.proofs.Places.{pow64}
use Rattle.radix.proofs.tree.first_at.Goals as goal

pub returns : goal.returns
returns c = let same = ap (λ n. c.args.place * n) (pow64 c.args.level) in omega (arith, same, c.requires.fits)
