use Rattle.std.proofs.Common.{◌≡◌, ℕ, ◌+◌, ◌-◌, ◌*◌, ◌/◌, ◌^◌}
use Rattle.radix.specs.Entries.{StandsAt}
use Rattle.radix.specs.Parts.{HasNodeRoom}
use Rattle.xarray.specs.MarkedArray.{Range, parts}
use Rattle.xarray.specs.Rows.{IsRow}
use Rattle.xarray.specs.View.{ranges_of}
use Rattle.xarray.proofs.ranged.Ranged.expand_run.Given as goal

abbrev pub invariant-slots : goal.invariant-slots
invariant-slots l = record {
  parts : (r : Range) → IsRow (ranges_of l.fn.self) l.first (6 * l.level) l.count r → ranges_of l.self ≡ parts (ranges_of l.fn.self) l.first (6 * (l.level - 1) + l.step) r (l.slot * 2 ^ (6 - l.step));
  stands : StandsAt l.self l.cursor l.level (l.first / 64 ^ l.level / 64);
  room : (more : ℕ) → HasNodeRoom l.fn.self (more + l.count) → HasNodeRoom l.self (more + (l.count - l.slot));
}
