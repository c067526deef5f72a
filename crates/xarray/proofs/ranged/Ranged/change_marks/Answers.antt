use Rattle.std.proofs.Common.{ap, sym, ◌∙◌}
use Rattle.std.specs.FinMap as map
use Rattle.xarray.specs.declared.entry.Marks.{Marks}
use Rattle.xarray.specs.MarkedArray.{marks_after, with_marks}
use Rattle.xarray.specs.View.{ranges_of}
use Rattle.xarray.proofs.RangeLemmas.{changed-none, changed-some}
use Rattle.xarray.proofs.ranged.Ranged.change_marks.Goals as goal

pub returns-in_default-clause-changes : goal.returns-in_default-clause-changes
returns-in_default-clause-changes c = sym (changed-none (ranges_of c.args.self.now) c.args.index c.args.clear c.args.set c.in_default.ensures.spot)

pub returns-clause-changes : goal.returns-clause-changes
returns-clause-changes c =
    let m = ranges_of c.args.self.now in
    let spot = c.in-Some.ensures.spot in
    let put : (marks : Marks) → _ = λ marks. map.insert m c.in-Some.spot.first (with_marks marks spot.range) in
    c.give.ensures spot.range spot.there ∙ ap put (c.after.ensures ∙ ap (marks_after c.args.clear c.args.set) (c.marks_at-marks.ensures spot.range spot.there))
    ∙ sym (changed-some m c.args.index c.in-Some.spot.first c.args.clear c.args.set spot.range spot.is)
