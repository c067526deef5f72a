use Rattle.radix.proofs.ExpandLemmas.{is_full}
use Rattle.radix.proofs.parts.full_at.Goals as goal

pub returns : goal.returns
returns c = rw (c.of.ensures) (is_full c.args.above.now c.args.key c.args.place c.args.step c.first_bits-firsts.result c.bits_if.result c.bits_if-2.result c.bits_if-3.result c.bits_if-4.result c.full_slots.result c.requires.inner c.first_bits-firsts.ensures
    (rw (c.word_in.ensures) at c.full_slots.ensures) (record { is = c.bits_if.ensures; fits = c.bits_if.type_inv }) (record { is = c.bits_if-2.ensures; fits = c.bits_if-2.type_inv }) (record { is = c.bits_if-3.ensures; fits = c.bits_if-3.type_inv }) (record { is = c.bits_if-4.ensures; fits = c.bits_if-4.type_inv }))
