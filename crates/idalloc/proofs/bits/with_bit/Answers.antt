use Rattle.std.proofs.Common.{w32}
use Rattle.std.proofs.lemmas.Nat.Bits.{bit_at_set_same, bit_at_set_other}
use Rattle.idalloc.proofs.bits.with_bit.Goals as goal

pub returns : goal.returns
returns c = record {
  changed = bit_at_set_same w32 c.args.bits c.args.place c.requires;
  others = λ other below differs. bit_at_set_other w32 c.args.bits c.args.place c.requires other differs;
}
