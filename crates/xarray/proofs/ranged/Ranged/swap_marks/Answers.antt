use Rattle.std.proofs.Common.{sym, ◌∙◌}
use Rattle.xarray.specs.View.{ranges_of}
use Rattle.xarray.proofs.RangeLemmas.{given-none, given-some}
use Rattle.xarray.proofs.ranged.Ranged.swap_marks.Goals as goal

pub returns-in_default-clause-gives : goal.returns-in_default-clause-gives
returns-in_default-clause-gives c = sym (given-none (ranges_of c.args.self.now) c.args.index c.args.marks c.in_default.ensures.spot)

pub returns-clause-gives : goal.returns-clause-gives
returns-clause-gives c =
    let spot = c.in-Some.ensures.spot in
    c.give.ensures spot.range spot.there ∙ sym (given-some (ranges_of c.args.self.now) c.args.index c.in-Some.spot.first c.args.marks spot.range spot.is)
