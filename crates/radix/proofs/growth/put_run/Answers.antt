use Rattle.std.proofs.Common.{◌/◌, ◌^◌, ◌+◌, refl, arith, ◌∙◌}
use Rattle.radix.proofs.RunLemmas.{free_after}
use Rattle.radix.proofs.EntryBitLemmas.{tells_same, run_tells}
use Rattle.radix.proofs.growth.put_run.Goals as goal

pub write_run-requires-clause-free : goal.write_run-requires-clause-free
write_run-requires-clause-free c = rw (c.place_at-place.ensures) (λ j low. free_after c.args.nodes.now c.args.nodes.now c.node_for-key.new.nodes c.args.level (c.args.index / 64 ^ c.args.level + j) refl c.node_for-key.ensures.entries (c.requires.free j low))

pub returns-clause-tells : goal.returns-clause-tells
returns-clause-tells c =
    run_tells c.node_for-key.new.nodes c.write_run.new.nodes c.change_bit.new.nodes c.args.level (c.args.index / 64 ^ c.args.level) c.args.span c.args.value c.requires.some
    (tells_same c.args.nodes.now c.node_for-key.new.nodes c.requires.tells c.node_for-key.ensures.entries)
    (λ j low. c.node_for-key.ensures.entries.entries c.args.level (c.args.index / 64 ^ c.args.level + j) ∙ (c.requires.free j low).each 0 c.args.level (c.args.index / 64 ^ c.args.level + j) (omega arith) (omega arith))
    (rw (c.place_at-place.ensures) at c.write_run.ensures.writes) c.change_bit.ensures.writes
