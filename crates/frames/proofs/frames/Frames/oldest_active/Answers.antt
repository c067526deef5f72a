use Rattle.std.proofs.Common.{◌∙◌, ap, not, reverse}
use Rattle.std.specs.Prelude.{find}
use Rattle.frames.specs.Table.{Table, is_aside}
use Rattle.frames.proofs.LinedLemmas.{found_none, found_some}
use Rattle.frames.proofs.frames.Frames.oldest_active.Goals as goal

pub returns-in-Some : goal.returns-in-Some
returns-in-Some c =
    let i = c.self.inside in
    found_some i.aside.items i.order.turns i.order.active i.lists.active c.self.invariant.1.actives c.in-Some.frame c.in-Some.ensures
    ∙ ap (λ (t : Table). find (λ f. not (is_aside t f)) (reverse t.active)) c.self.view_is

pub returns-in-None : goal.returns-in-None
returns-in-None c =
    let i = c.self.inside in
    found_none i.aside.items i.order.turns i.order.active i.lists.active c.self.invariant.1.actives c.in-None.ensures
    ∙ ap (λ (t : Table). find (λ f. not (is_aside t f)) (reverse t.active)) c.self.view_is
