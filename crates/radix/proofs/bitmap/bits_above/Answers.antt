use Rattle.std.proofs.Common.{◌+◌, arith}
use Rattle.std.proofs.lemmas.Nat.Bits.{bit_at-zero}
use Rattle.radix.proofs.BitmapLemmas.{masked_below, masked_inside}
use Rattle.radix.proofs.bitmap.bits_above.Goals as goal

pub returns-then-place-eq63 : goal.returns-then-place-eq63
returns-then-place-eq63 c = record { same = λ other low high. absurd (omega (arith, c.if-place-eq63.true, low, high)); none = λ other less. bit_at-zero other }

pub returns-else-place-eq63 : goal.returns-else-place-eq63
returns-else-place-eq63 c = record {
  same = λ other low high. masked_inside c.args.bits (c.args.place + 1) other (omega (arith, c.requires, c.if-place-eq63.false)) low high;
  none = λ other less. masked_below c.args.bits (c.args.place + 1) other (omega (arith, c.requires, c.if-place-eq63.false)) less;
}
