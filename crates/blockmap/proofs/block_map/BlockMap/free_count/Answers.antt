use Rattle.std.proofs.Common.{ap, subst, ◌∙◌, length}
use Rattle.blockmap.specs.Blocks.{Blocks, IsBlockMap, free_blocks}
use Rattle.blockmap.proofs.BlockLemmas.{always_so, counted}
use Rattle.blockmap.proofs.block_map.BlockMap.free_count.Goals as goal

pub returns-clause-count : goal.returns-clause-count
returns-clause-count c =
    let s = c.self.inside in
    counted s.count s.free s.spots s.used.used s.held c.self.invariant ∙ ap (λ (b : Blocks). length (free_blocks b)) c.self.view_is

pub returns-clause-always : goal.returns-clause-always
returns-clause-always c =
    let s = c.self.inside in
    subst IsBlockMap c.self.view_is (always_so s.count s.free s.spots s.used.used s.held c.self.invariant)
