use Rattle.std.specs.FinMap as map
use Rattle.xarray.proofs.CallLemmas.{stands_bare}
use Rattle.xarray.proofs.ViewLemmas.{is_ranged, ranges-is}
use Rattle.xarray.proofs.ranged.Ranged.new.Goals as goal

pub invariant_of-result : goal.invariant_of-result
invariant_of-result c = is_ranged c.new.result map.empty (stands_bare c.new.result c.new.ensures.bare)

pub returns : goal.returns
returns c = ranges-is c.new.result map.empty (stands_bare c.new.result c.new.ensures.bare)
