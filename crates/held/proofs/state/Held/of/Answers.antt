use Rattle.std.proofs.Common.{ap, subst, sym, ◌∙◌}
use Rattle.held.specs.Keeps.{IsLocked}
use Rattle.held.specs.Shown.{HeldSeen}
use Rattle.held.proofs.Openings.{opens}
use Rattle.held.proofs.Tying.{opens_tied}
use Rattle.held.proofs.state.Held.of.Goals as goal

pub invariant_of-result : goal.invariant_of-result
invariant_of-result g c =
    let history = ap (λ (h : HeldSeen). h.log.history) c.opened.view_is ∙ c.requires.fresh.0 in
    let core = ap (λ (h : HeldSeen). h.core.state) c.opened.view_is ∙ c.requires.fresh.1 in (
      (
        opens _ _ g.B.Naming.files g.B.Naming.sizes g.B.Naming.name c.requires.files history core
            (ap (λ (h : HeldSeen). h.log.name) c.opened.view_is ∙ c.requires.locked.named),
        subst (IsLocked _ _ _ _ _ _) (sym c.opened.view_is) c.requires.locked,
      ),
      opens_tied _ _ _ _ _ _ _ _ history core c.requires.desk c.requires.count c.requires.first,
    )
