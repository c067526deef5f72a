use Rattle.std.proofs.Common.{sym, ap, subst, ◌∙◌}
use Rattle.xarray.specs.MarkedArray.{Array}
use Rattle.blockmap.specs.Keys.{AreSpots, spots}
use Rattle.blockmap.proofs.SpotLemmas.{are-empty, spots-empty}
use Rattle.blockmap.proofs.spots.Spots.new.Goals as goal

pub invariant_of-result : goal.invariant_of-result
invariant_of-result c = subst (λ (a : Array). AreSpots c.least.result.bits a.ranges) (sym c.new.ensures) (are-empty c.least.result.bits)

pub returns : goal.returns
returns c = ap (λ (a : Array). spots c.least.result.bits a.ranges) c.new.ensures ∙ spots-empty c.least.result.bits
