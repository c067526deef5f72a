use Rattle.std.proofs.Common.{w32}
use Rattle.std.proofs.Math.Facts.{Fits-lt-pow}
use Rattle.idalloc.proofs.BitLemmas.{all_set, lowest_zero_is, zeros_fit}
use Rattle.idalloc.proofs.bits.lowest_zero_from.Goals as goal

pub returns-then-zeros-eq0 : goal.returns-then-zeros-eq0
returns-then-zeros-eq0 c = all_set c.args.bits c.args.from (Fits-lt-pow {w = w32} c.ranges.bits) c.requires c.if-zeros-eq0.true

pub returns-else-zeros-eq0 : goal.returns-else-zeros-eq0
returns-else-zeros-eq0 c = lowest_zero_is c.args.bits c.args.from (Fits-lt-pow {w = w32} c.ranges.bits) c.requires (zeros_fit c.args.bits c.args.from) c.if-zeros-eq0.false
