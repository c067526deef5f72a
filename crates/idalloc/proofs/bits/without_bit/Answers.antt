use Rattle.std.proofs.Common.{w32}
use Rattle.std.proofs.lemmas.Nat.Bits.{bit_at_clear_same, bit_at_clear_other}
use Rattle.idalloc.proofs.bits.without_bit.Goals as goal

pub returns : goal.returns
returns c = record {
  changed = bit_at_clear_same w32 c.args.bits c.args.place c.requires;
  others = λ other below differs. bit_at_clear_other w32 c.args.bits c.args.place c.requires other below differs;
}
