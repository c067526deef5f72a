use Rattle.std.proofs.Common.{w64}
use Rattle.std.proofs.lemmas.Nat.Bits.{bit_at_set_same, bit_at_set_other}
use Rattle.frames.proofs.bits.with_bit.Goals as goal

pub returns : goal.returns
returns c = record {
  changed = bit_at_set_same w64 c.args.word c.args.place c.requires;
  others = λ other below differs. bit_at_set_other w64 c.args.word c.args.place c.requires other differs;
}
