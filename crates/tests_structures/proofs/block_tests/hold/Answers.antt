use Rattle.std.proofs.Common.{sym, ◌∙◌}
use Rattle.std.specs.FinMap as map
use Rattle.blockmap.proofs.BlockLemmas.{mapped_told, none_held}
use Rattle.tests_structures.proofs.block_tests.hold.Goals as goal

pub hold-requires-clause-mapped : goal.hold-requires-clause-mapped
hold-requires-clause-mapped c = mapped_told c.args.blocks.now.spots (c.args.file.0, c.args.page.0) c.in-Some.placed c.in-Some.ensures

pub hold-requires-clause-not_held : goal.hold-requires-clause-not_held
hold-requires-clause-not_held c = none_held (map.get c.args.blocks.now.held c.in-Some.placed.block.0) (sym c.is_held.ensures ∙ c.if-is_held.false)
