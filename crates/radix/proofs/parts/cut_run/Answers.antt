use Rattle.std.proofs.Common.{arith, refl}
use Rattle.radix.proofs.CutLemmas.{is_run_cut}
use Rattle.radix.proofs.parts.cut_run.Goals as goal

pub offset_at-at-requires : goal.offset_at-at-requires
offset_at-at-requires c =
    let s = c.requires.stands in
    let low = (c.requires.sound.tree.nodes c.args.key s.node s.there).level in
    omega (arith, low, s.level_is)

pub returns : goal.returns
returns c =
    let cut = is_run_cut c.args.nodes.now c.args.head c.args.level c.args.index c.args.key c.args.span c.args.step c.offset_at-at.result c.first_bits-firsts.result c.with_bits_if.result c.with_bits_if-2.result c.with_bits_if-3.result c.with_bits_if-4.result c.index_mut-node.result.now c.part_slots.new.slots c.requires.sound c.requires.tells c.requires.some c.requires.within c.requires.stands c.requires.run c.index_mut-node.ensures.value c.offset_at-at.ensures c.first_bits-firsts.ensures c.part_slots.ensures
    (record { is = c.with_bits_if.ensures; fits = c.with_bits_if.type_inv }) (record { is = c.with_bits_if-2.ensures; fits = c.with_bits_if-2.type_inv }) (record { is = c.with_bits_if-3.ensures; fits = c.with_bits_if-3.type_inv }) (record { is = c.with_bits_if-4.ensures; fits = c.with_bits_if-4.type_inv }) in
    record { sound = cut.sound; tells = cut.tells; parts = cut.parts; stands = cut.stands; len = cut.len; capacity = refl }
