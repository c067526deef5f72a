use Rattle.std.proofs.Common.{◌≡◌, ◌-◌, ◌%◌, ◌<◌, ◌≤◌, Some}
use Rattle.std.specs.FinMap as map
use Rattle.xarray.specs.MarkedArray.{Range}
use Rattle.xarray.specs.View.{ranges_of}
use Rattle.xarray.proofs.ranged.Ranged.order_over.Given as goal

abbrev pub invariant-up : goal.invariant-up
invariant-up l = record {
  low : l.step < 6;
  reached : (r : Range) → map.get (ranges_of l.self) l.first ≡ Some r → l.step ≤ r.order % 6;
}

abbrev pub decreases-up : goal.decreases-up
decreases-up l = 6 - l.step
