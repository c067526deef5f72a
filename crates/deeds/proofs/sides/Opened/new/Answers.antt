use Rattle.std.proofs.Common.{rules}
use Rattle.deeds.proofs.Lending.{opened_blocks, opened_desk, opened_device, opened_told}
use Rattle.deeds.proofs.sides.Opened.new.Goals as goal

pub invariant_of-result : goal.invariant_of-result
invariant_of-result g c = let is = c.in_ok-owned.ensures.device in (
  search rules,
  search rules,
  search rules,
  opened_device _ _ _ is,
  opened_desk _ _ _ is _ c.in_ok-owned.ensures.desk,
)

pub returns : goal.returns
returns g c = let is = c.in_ok-owned.ensures.device in (opened_told _ _ _ is, opened_blocks _ _ _ is)
