use Rattle.std.proofs.Common.{sym, ap, ◌∙◌, subst, ◌≡◌, length, All, arith}
use Rattle.blockdev.proofs.BlockLemmas.{length-blocks_of, All-blocks_of}
use Rattle.blockdev.specs.Blocks.{Grid}
use Rattle.blockdev.proofs.blocks.Blocks.count.Goals as goal

pub returns-clause-count : goal.returns-clause-count
returns-clause-count c = sym (length-blocks_of _ _ _) ∙ ap (λ (g : Grid). length g.blocks) c.self.view_is

pub returns-clause-sized : goal.returns-clause-sized
returns-clause-sized c =
    let P : Grid → Type 0 = λ (g : Grid). All (λ x. length x ≡ g.size) g.blocks in
    subst P c.self.view_is (All-blocks_of _ _ _ (omega (arith, c.self.invariant)))
