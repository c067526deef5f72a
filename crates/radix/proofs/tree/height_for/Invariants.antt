use Rattle.std.proofs.Common.{ℕ, ◌≢◌, ◌-◌, ◌/◌, ◌^◌, ◌<◌, ◌≤◌}
use Rattle.radix.proofs.tree.height_for.Given as goal

abbrev pub invariant-up : goal.invariant-up
invariant-up l = record {
  low : l.level ≤ l.height;
  high : l.height ≤ 10;
  missed : (other : ℕ) → l.level ≤ other → other < l.height → l.index / 64 ^ other / 64 ≢ 0;
}

abbrev pub decreases-up : goal.decreases-up
decreases-up l = 10 - l.height
