use Rattle.xarray.proofs.CallLemmas.{same_now, same_ranged}
use Rattle.xarray.proofs.ranged.Ranged.reserve.Goals as goal

pub invariant_of-self : goal.invariant_of-self
invariant_of-self c = same_ranged c.self.inside.nodes c.self.invariant c.reserve_path.new.self c.reserve_path.ensures.entries

pub returns-clause-same : goal.returns-clause-same
returns-clause-same c = rw (c.self.view_is) at (same_now c.self.inside.nodes c.self.invariant c.reserve_path.new.self c.reserve_path.ensures.entries)
