use Rattle.std.proofs.Common.{w64}
use Rattle.std.proofs.lemmas.Nat.Bits.{bit_at-trailing_zeros}
use Rattle.std.proofs.Math.Facts.{Fits-lt-pow}
use Rattle.frames.proofs.bits.lowest_bit.Goals as goal

pub returns : goal.returns
returns c =
    let found = bit_at-trailing_zeros w64 c.args.word c.requires (Fits-lt-pow {w = w64} c.ranges.word) in
    record { within = found.0; set = found.1; lowest = found.2 }
