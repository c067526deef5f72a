use Rattle.std.proofs.Common.{sym, subst}
use Rattle.std.specs.FinMap as map
use Rattle.std.specs.FinSet as set
use Rattle.std.specs.Ordering.{nat_cmp}
use Rattle.blockmap.specs.Balance.{IsBalanced}
use Rattle.blockmap.specs.Blocks.{Spots}
use Rattle.blockmap.proofs.BlockLemmas.{Held, balanced-new}
use Rattle.blockmap.proofs.block_map.BlockMap.new.Goals as goal

pub invariant_of-result : goal.invariant_of-result
invariant_of-result c =
    let n = c.args.blocks in
    subst (λ (s : Spots). IsBalanced n n s c.new-2.result.used c.new-3.result) (sym c.new.ensures)
    (subst (λ (u : set.FinSet nat_cmp). IsBalanced n n map.empty u c.new-3.result) (sym c.new-2.ensures.used)
    (subst (λ (h : Held). IsBalanced n n map.empty set.empty h) (sym c.new-3.ensures) (balanced-new n c.requires.some c.requires.limit)))
