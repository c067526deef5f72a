use Rattle.std.proofs.Common.{subst}
use Rattle.std.specs.Prelude.{IfOk}
use Rattle.filesvc.specs.Restarts.{Restarts}
use Rattle.filesvc.specs.Seen.{SoloSeen}
use Rattle.filesvc.proofs.Restarting.{ok_restarts}
use Rattle.filesvc.proofs.solo.Solo.catalog.Goals as goal

pub returns-clause-restarts : goal.returns-clause-restarts
returns-clause-restarts g c =
    let own : SoloSeen = record { world = c.self.inside.world; errors = c.self.inside.recorder; attempts = c.self.inside.attempts } in
    subst (λ (s : SoloSeen). IfOk c.catalog.result (Restarts s)) c.self.view_is
    (ok_restarts own c.catalog.result c.self.invariant.serving.reached c.catalog.ensures.told)
