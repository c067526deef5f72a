use Rattle.std.proofs.Common.{◌/◌, ◌^◌, arith, ◌∙◌}
use Rattle.radix.proofs.RunLemmas.{slot_in_is}
use Rattle.radix.proofs.tree.entry_in.Goals as goal

pub offset_at-requires : goal.offset_at-requires
offset_at-requires c =
    let s = c.requires.stands in
    let low = (c.requires.tree.nodes c.args.key s.node s.there).level in
    omega (arith, low, s.level_is)

pub returns : goal.returns
returns c = c.entry_of.ensures ∙ rw (c.read.ensures, c.offset_at.ensures) (slot_in_is c.args.nodes.now c.args.head c.requires.tree c.args.level (c.args.index / 64 ^ c.args.level) c.args.key c.index.result.now c.requires.stands c.index.ensures)
