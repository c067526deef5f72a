use Rattle.std.proofs.Common.{rules}
use Rattle.deeds.proofs.Lending.{restores}
use Rattle.deeds.proofs.sides.Lent.restore.Goals as goal

pub invariant_of-result : goal.invariant_of-result
invariant_of-result c = let kept = c.self.invariant in (
  kept.0,
  kept.1,
  search rules,
  kept.3,
  restores _ _ _ _ _ kept.4 kept.5 c.take_undone.ensures.out c.take_undone.ensures.desk,
)
