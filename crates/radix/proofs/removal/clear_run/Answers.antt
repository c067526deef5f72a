use Rattle.std.proofs.Common.{◌/◌, ◌^◌}
use Rattle.radix.proofs.EntryBitLemmas.{clear_run_tells}
use Rattle.radix.proofs.removal.clear_run.Goals as goal

pub returns-clause-whole : goal.returns-clause-whole
returns-clause-whole c = record {
  sound = c.prune.ensures.sound;
  tells = clear_run_tells c.args.nodes.now c.change_bit.new.nodes c.erase_run.new.nodes c.prune.new.nodes c.args.level (c.args.index / 64 ^ c.args.level) c.requires.tells c.change_bit.ensures.writes c.prune.ensures.entries
      c.args.span c.requires.some c.requires.run (rw (c.place_at.ensures) at c.erase_run.ensures.erases);
}
