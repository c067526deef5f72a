use Rattle.std.proofs.Common.{arith}
use Rattle.xarray.proofs.CallLemmas.{fit_by}
use Rattle.xarray.proofs.ranged.Ranged.insert_order.Goals as goal

pub last_of-last-requires-clause-within : goal.last_of-last-requires-clause-within
last_of-last-requires-clause-within c = fit_by c.args.index c.args.order c.requires.aligned c.requires.order (omega (arith, c.ranges.index.fits))
