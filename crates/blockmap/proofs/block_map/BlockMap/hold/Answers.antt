use Rattle.std.proofs.Common.{sym, ap, subst, ◌∙◌}
use Rattle.std.specs.FinMap as map
use Rattle.blockmap.specs.Balance.{IsBalanced}
use Rattle.blockmap.specs.Blocks.{Blocks, is_mapped}
use Rattle.blockmap.proofs.BlockLemmas.{Held, balanced-hold}
use Rattle.blockmap.proofs.block_map.BlockMap.hold.Goals as goal

pub invariant_of-self : goal.invariant_of-self
invariant_of-self c =
    let s = c.self.inside in
    subst (λ (h : Held). IsBalanced s.count s.free s.spots s.used.used h) (sym c.add.ensures)
    (balanced-hold s.count s.free s.spots s.used.used s.held c.self.invariant c.args.block.0 (ap (λ (b : Blocks). is_mapped b.spots c.args.block.0) c.self.view_is ∙ c.requires.mapped) (ap (λ (b : Blocks). map.get b.held c.args.block.0) c.self.view_is ∙ c.requires.not_held))
