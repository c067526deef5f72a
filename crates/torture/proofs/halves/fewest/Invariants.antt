use Rattle.std.proofs.Common.{◌≤◌, ◌-◌}
use Rattle.torture.proofs.halves.fewest.Given as goal

abbrev pub invariant-halves : goal.invariant-halves
invariant-halves g l = l.some ≤ l.most

abbrev pub decreases-halves : goal.decreases-halves
decreases-halves g l = l.some - l.none
