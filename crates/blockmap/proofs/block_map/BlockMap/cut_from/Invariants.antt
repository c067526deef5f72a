use Rattle.std.specs.Prelude.{◌≤◌, ◌^◌}
use Rattle.std.specs.FinMap as map
use Rattle.blockmap.proofs.CutLemmas.{IsCutting}
use Rattle.blockmap.proofs.block_map.BlockMap.cut_from.Given as goal

abbrev pub invariant-loop-cut : goal.invariant-loop-cut
invariant-loop-cut l = record {
  cutting : IsCutting l.fn.self l.self l.file.0 l.page.0;
  low : l.page.0 ≤ l.guess;
  high : l.guess ≤ 2 ^ 36;
}

abbrev pub decreases-loop-cut : goal.decreases-loop-cut
decreases-loop-cut l = map.len l.self.spots
