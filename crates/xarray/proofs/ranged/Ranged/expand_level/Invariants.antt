use Rattle.std.proofs.Common.{◌≡◌, ℕ, ◌+◌, ◌-◌, ◌*◌, ◌^◌}
use Rattle.radix.specs.Parts.{HasNodeRoom}
use Rattle.xarray.specs.MarkedArray.{Range, parts}
use Rattle.xarray.specs.Rows.{IsRow}
use Rattle.xarray.specs.View.{ranges_of}
use Rattle.xarray.proofs.ranged.Ranged.expand_level.Given as goal

abbrev pub invariant-nodes : goal.invariant-nodes
invariant-nodes l = record {
  parts : (r : Range) → IsRow (ranges_of l.fn.self) l.first (6 * l.level) (2 ^ (l.from - 6 * l.level)) r → ranges_of l.self ≡ parts (ranges_of l.fn.self) l.first (6 * (l.level - 1) + l.step) r (l.node * 2 ^ l.width * 2 ^ (6 - l.step));
  room : (more : ℕ) → HasNodeRoom l.fn.self (more + 2 ^ (l.from - 6 * l.level)) → HasNodeRoom l.self (more + (2 ^ (l.from - 6 * l.level) - l.node * 2 ^ l.width));
}
