use Rattle.std.proofs.Common.{subst}
use Rattle.frames.specs.Order.{Turns, NoneWaits}
use Rattle.frames.proofs.OrderLemmas.{empty_of_total, none_of_empty}
use Rattle.frames.proofs.order.Order.oldest_inactive.Goals as goal

pub returns-in-None : goal.returns-in-None
returns-in-None c =
    let i = c.self.inside in
    let P : Turns → Type 0 = λ (o : Turns). NoneWaits o.inactive in
    subst P c.self.view_is (none_of_empty i.inactive i.turns.items (empty_of_total i.inactive c.in-None.ensures))
