use Rattle.std.proofs.Common.{◌∙◌, ap, subst, sym}
use Rattle.filesvc.specs.Seen.{SoloSeen}
use Rattle.filesvc.specs.Service.{Serves}
use Rattle.filesvc.proofs.Saved.{failed_flush, flushed_serves, unmoved}
use Rattle.filesvc.proofs.solo.Solo.flush.Goals as goal

pub returns-clause-serves : goal.returns-clause-serves
returns-clause-serves g c =
    let new : SoloSeen = record { world = c.flush_written.new.self; errors = c.self.inside.recorder; attempts = c.self.inside.attempts } in
    subst (λ s. Serves s new) c.self.view_is
    (flushed_serves c.self.inside.world c.flush_written.new.self c.self.inside.recorder c.self.inside.attempts
    c.flush_written.result c.flush_written.ensures.flushed c.flush_written.ensures.faults)
