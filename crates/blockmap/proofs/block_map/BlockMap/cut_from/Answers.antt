use Rattle.std.proofs.Common.{sym, subst, ◌<◌, arith}
use Rattle.std.specs.FinMap as map
use Rattle.blockmap.specs.Blocks.{Blocks, CutsFrom}
use Rattle.blockmap.proofs.BlockLemmas.{fewer}
use Rattle.blockmap.proofs.CutLemmas.{IsCutting, cutting_begins, cutting_ends, cutting_goes_on}
use Rattle.blockmap.proofs.block_map.BlockMap.cut_from.Goals as goal

pub loop-cut-init : goal.loop-cut-init
loop-cut-init c = record {
  cutting = cutting_begins c.args.self.now c.args.file.0 c.args.page.0;
  low = omega arith;
  high = c.requires.page;
}

pub loop-cut-preserved : goal.loop-cut-preserved
loop-cut-preserved c =
    let found = c.in-Some.ensures.found in
    let low = found.low in
    let within = found.within in
    record {
      cutting =
          subst (λ (b : Blocks). IsCutting c.args.self.now b c.args.file.0 c.args.page.0) (sym c.in-Some.ensures.cut)
          (cutting_goes_on c.args.self.now c.loop-cut.self c.args.file.0 c.args.page.0 c.in-Some.cut c.loop-cut.invariant.cutting found);
      low = omega (arith, low);
      high = omega (arith, within);
    }

pub loop-cut-smaller : goal.loop-cut-smaller
loop-cut-smaller c =
    subst (λ (b : Blocks). map.len b.spots < map.len c.loop-cut.self.spots) (sym c.in-Some.ensures.cut)
    (fewer c.loop-cut.self.spots (c.args.file.0, c.in-Some.cut) c.in-Some.ensures.found.there)

pub returns : goal.returns
returns c =
    subst (λ (b : Blocks). CutsFrom c.args.self.now b c.args.file.0 c.args.page.0) (sym c.in_default.ensures.same)
    (cutting_ends c.args.self.now c.loop-cut.self c.args.file.0 c.args.page.0 c.loop-cut.invariant.cutting c.in_default.ensures.none)
