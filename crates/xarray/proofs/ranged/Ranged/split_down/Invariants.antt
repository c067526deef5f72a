use Rattle.std.proofs.Common.{◌≡◌, ◌-◌, ◌*◌, ◌/◌, ◌^◌, ◌≤◌, Some}
use Rattle.std.specs.FinMap as map
use Rattle.radix.specs.Parts.{HasNodeRoom}
use Rattle.xarray.specs.MarkedArray.{Range, parts}
use Rattle.xarray.specs.Rows.{tree_of}
use Rattle.xarray.specs.View.{ranges_of}
use Rattle.xarray.proofs.ranged.Ranged.split_down.Given as goal

abbrev pub invariant-levels : goal.invariant-levels
invariant-levels l = record {
  low : l.last ≤ l.level;
  high : 6 * l.level ≤ l.from;
  parts : (r : Range) → map.get (ranges_of l.fn.self) l.first ≡ Some r → ranges_of l.self ≡ parts (ranges_of l.fn.self) l.first (6 * l.level) r (2 ^ (l.from - 6 * l.level));
  room : HasNodeRoom l.self (2 ^ (l.from - 6 * l.level) * tree_of (l.level - l.order / 6));
}

abbrev pub decreases-levels : goal.decreases-levels
decreases-levels l = l.level
