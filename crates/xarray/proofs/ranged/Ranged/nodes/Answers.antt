use Rattle.xarray.proofs.CallLemmas.{count_is}
use Rattle.xarray.proofs.ranged.Ranged.nodes.Goals as goal

pub returns-clause-empty : goal.returns-clause-empty
returns-clause-empty c = rw (c.self.view_is) at (count_is c.self.inside.nodes c.self.invariant c.count.result c.count.ensures.bare)
