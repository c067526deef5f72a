use Rattle.std.proofs.Common.{◌∙◌, ap, not, reverse}
use Rattle.std.specs.Prelude.{find}
use Rattle.frames.specs.Table.{Table, is_aside}
use Rattle.frames.proofs.LinedLemmas.{found_in_first, found_in_second, found_none, found_some}
use Rattle.frames.proofs.frames.Frames.oldest.Goals as goal

pub returns-in-Some-clause-oldest : goal.returns-in-Some-clause-oldest
returns-in-Some-clause-oldest c =
    let i = c.self.inside in
    let t = c.args.self.now in
    found_in_first (λ f. not (is_aside t f)) (reverse t.inactive) (reverse t.active) c.in-Some.frame
    (found_some i.aside.items i.order.turns i.order.inactive i.lists.inactive c.self.invariant.1.inactives c.in-Some.frame c.in-Some.ensures
    ∙ ap (λ (t : Table). find (λ f. not (is_aside t f)) (reverse t.inactive)) c.self.view_is)

pub returns-in-None-clause-oldest : goal.returns-in-None-clause-oldest
returns-in-None-clause-oldest c =
    let i = c.self.inside in
    let t = c.args.self.now in
    found_in_second (λ f. not (is_aside t f)) (reverse t.inactive) (reverse t.active) _
    (found_none i.aside.items i.order.turns i.order.inactive i.lists.inactive c.self.invariant.1.inactives c.in-None.ensures
    ∙ ap (λ (t : Table). find (λ f. not (is_aside t f)) (reverse t.inactive)) c.self.view_is)
    c.oldest_active.ensures
