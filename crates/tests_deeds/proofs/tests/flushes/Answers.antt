use Rattle.std.proofs.Common.{◌≡◌, ◌+◌, List, ap, subst, sym, ◌∙◌}
use Rattle.std.specs.Prelude.{slice_get, Some, OnOk}
use Rattle.blockdev.specs.Jobs.{FinishedTask, Task}
use Rattle.deeds.specs.Shown.{Settles}
use Rattle.deeds.specs.Views.{home_in}
use Rattle.deeds.specs.declared.views.Block.{Block}
use Rattle.deeds.specs.declared.views.Place.{Place}
use Rattle.deeds.specs.declared.views.Place.TheVariants.{Home}
use Rattle.tests_deeds.proofs.Flushed.{flush_home}
use Rattle.tests_deeds.proofs.tests.flushes.Goals as goal

pub returns-clause-well : goal.returns-clause-well
returns-clause-well g c =
    let job : Task = c.args.job in
    let at = c.made-report.ensures.block ∙ ap (λ (t : Task). t.block) c.give-errand.ensures.errand in
    let s = subst (λ (x : List Place × FinishedTask). Settles g.B.NamesDeeds.told x.0 x.1 c.take_back.new.self)
    (λ i. (c.give-errand.ensures.desk i, c.parts-finished.ensures.stub i)) c.take_back.ensures.settled in
    let well = flush_home g.B.NamesDeeds.told c.args.desk.now c.take_back.new.self job
    (home_in c.args.desk.now job.block) c.made-report.result c.requires.told c.requires.job.0 c.requires.home at s in
    let now : Block = record { bytes = job.bytes; calls = (home_in c.args.desk.now job.block).calls + 1 } in
    subst (λ (f : FinishedTask). OnOk f.outcome (slice_get c.take_back.new.self job.block ≡ Some (Home now)))
    (sym c.parts-finished.ensures.finished) well
