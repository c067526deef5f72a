use Rattle.std.proofs.Common.{ap, sym, subst, ◌∙◌}
use Rattle.std.specs.Prelude.{IfSome}
use Rattle.filesvc.specs.Rooms.{IsShort, refusal_of}
use Rattle.filesvc.proofs.Wanted.{wanted_is, wanted_short}
use Rattle.filesvc.proofs.solo.Solo.wants.Goals as goal

pub returns-clause-wanted : goal.returns-clause-wanted
returns-clause-wanted g c =
    rw (← c.self.view_is) (ap refusal_of c.wants.ensures ∙ wanted_is c.self.inside.world.core c.args.demand)

pub returns-clause-short : goal.returns-clause-short
returns-clause-short g c =
    rw (← c.self.view_is) (subst (λ o. IfSome o (IsShort c.self.inside.world.core c.args.demand)) (sym c.wants.ensures)
    (wanted_short c.self.inside.world.core c.args.demand))
