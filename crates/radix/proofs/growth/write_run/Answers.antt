use Rattle.std.proofs.Common.{arith}
use Rattle.std.proofs.lemmas.List.Sums.{count_by-le-length}
use Rattle.radix.specs.Tree.{is_used}
use Rattle.radix.proofs.WrittenLemmas.{all_written}
use Rattle.radix.proofs.growth.write_run.Goals as goal

pub write_slots-requires-clause-count : goal.write_slots-requires-clause-count
write_slots-requires-clause-count c =
    let node = c.requires.sound.tree.nodes c.args.key c.index_mut.result.now c.index_mut.ensures.value in
    let most = count_by-le-length is_used c.index_mut.result.now.slots in
    omega (arith, most, node.count, node.slots)

pub returns : goal.returns
returns c =
    let w = all_written c.args.nodes.now c.args.head c.args.key c.args.level c.args.place c.args.value c.args.span c.index_mut.result.now c.requires.sound c.requires.stands c.index_mut.ensures.value c.requires.within c.requires.free c.args.span c.requires.some (omega arith) in
    rw (c.write_slots.ensures) (record { sound = w.now_sound; writes = w.writes; stands = w.now_stands })
