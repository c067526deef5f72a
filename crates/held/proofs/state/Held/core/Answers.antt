use Rattle.std.proofs.Common.{◌≡◌, subst}
use Rattle.runs.specs.World.{World}
use Rattle.tied.specs.Tied.{IsHonest}
use Rattle.tied.proofs.Kept.{kept_honest}
use Rattle.held.specs.Shown.{HeldSeen}
use Rattle.held.proofs.state.Held.core.Goals as goal

pub returns-clause-honest : goal.returns-clause-honest
returns-clause-honest g c = λ tells.
    subst (λ (h : HeldSeen). (w : World)
    × IsHonest g.B.Naming.files g.B.Naming.sizes g.B.Naming.name g.B.Naming.blocks h.log.history w × (w.core ≡ h.core.state))
    c.self.view_is (kept_honest _ _ _ _ _ _ _ _ c.self.invariant.1 tells)
