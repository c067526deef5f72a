use Rattle.std.proofs.Common.{w64}
use Rattle.std.proofs.lemmas.Nat.Bits.{bit_at_clear_same, bit_at_clear_other}
use Rattle.frames.proofs.bits.without_bit.Goals as goal

pub returns : goal.returns
returns c = record {
  changed = bit_at_clear_same w64 c.args.word c.args.place c.requires;
  others = λ other below differs. bit_at_clear_other w64 c.args.word c.args.place c.requires other below differs;
}
