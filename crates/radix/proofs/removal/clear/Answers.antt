use Rattle.std.proofs.Common.{◌/◌, ◌^◌}
use Rattle.radix.proofs.EntryBitLemmas.{clear_puts}
use Rattle.radix.proofs.removal.clear.Goals as goal

pub returns-clause-puts : goal.returns-clause-puts
returns-clause-puts c =
    clear_puts c.args.nodes.now c.change_bit.new.nodes c.erase_slot.new.nodes c.prune.new.nodes c.args.level (c.args.index / 64 ^ c.args.level) c.requires.tells c.change_bit.ensures.writes c.prune.ensures.entries
    (rw (c.place_at.ensures) at c.erase_slot.ensures.writes)
