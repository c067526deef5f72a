use Rattle.std.proofs.Common.{◌≡◌, ◌-◌, ◌^◌, ◌≤◌, ◌⊎◌}
use Rattle.blockmap.specs.Keys.{IsWidth}
use Rattle.blockmap.proofs.keys.Width.for_page.Given as goal

abbrev pub invariant-loop-bits : goal.invariant-loop-bits
invariant-loop-bits l = record {
  is : IsWidth l.bits;
  least : (l.bits ≡ 18) ⊎ (2 ^ (l.bits - 6) ≤ l.page);
}

abbrev pub decreases-loop-bits : goal.decreases-loop-bits
decreases-loop-bits l = 36 - l.bits
