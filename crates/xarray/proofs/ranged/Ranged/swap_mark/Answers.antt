use Rattle.std.proofs.Common.{sym, ◌∙◌}
use Rattle.xarray.specs.View.{ranges_of}
use Rattle.xarray.proofs.RangeLemmas.{remarked-none, remarked-some}
use Rattle.xarray.proofs.ranged.Ranged.swap_mark.Goals as goal

pub returns-in_default-clause-sets : goal.returns-in_default-clause-sets
returns-in_default-clause-sets c = sym (remarked-none (ranges_of c.args.self.now) c.args.index c.args.mark c.args.is_set c.in_default.ensures.spot)

pub returns-clause-sets : goal.returns-clause-sets
returns-clause-sets c =
    let spot = c.in-Some.ensures.spot in
    c.remark.ensures.marks spot.range spot.there ∙ sym (remarked-some (ranges_of c.args.self.now) c.args.index c.in-Some.spot.first c.args.mark c.args.is_set spot.range spot.is)
