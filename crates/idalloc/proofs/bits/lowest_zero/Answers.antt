use Rattle.std.proofs.Common.{w32, sym, subst}
use Rattle.std.proofs.Math.Facts.{Fits-lt-pow}
use Rattle.idalloc.specs.Bits.{IsLowestZero}
use Rattle.idalloc.proofs.BitLemmas.{first_zero_is}
use Rattle.idalloc.proofs.bits.lowest_zero.Goals as goal

pub returns : goal.returns
returns c = subst (λ k. IsLowestZero c.args.bits 0 k) (sym c.trailing_ones.ensures) (first_zero_is c.args.bits (Fits-lt-pow {w = w32} c.ranges.bits) c.requires)
