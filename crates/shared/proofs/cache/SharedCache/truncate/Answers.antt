use Rattle.std.proofs.Common.{◌∙◌, ap, subst, sym}
use Rattle.machine.specs.declared.event.Event.TheVariants as event
use Rattle.pc_types.specs.declared.ids.HandleId.{HandleId}
use Rattle.shared.specs.Rooms.{IsShortFor}
use Rattle.shared.specs.Seen.{HandleSeen}
use Rattle.shared.proofs.Wanting.{short_admitted}
use Rattle.shared.proofs.cache.SharedCache.truncate.Goals as goal

pub returns-in-Err-clause-wanting : goal.returns-in-Err-clause-wanting
returns-in-Err-clause-wanting g c =
    short_admitted (event.Truncate c.args.handle.now.number c.args.size) c.args.seat.now c.args.seat.now
    c.args.self.now.name c.args.seat.now.name c.args.handle.now.cache c.in-Err.refusal c.without_slip.result
    (sym c.admits.ensures ∙ c.in-Err.is) c.without_slip.ensures

pub returns-in-Err-change-clause-wanting : goal.returns-in-Err-change-clause-wanting
returns-in-Err-change-clause-wanting g c =
    subst (λ (n : HandleId). IsShortFor (event.Truncate n c.args.size) c.args.seat.now c.change.new.seat c.in-Err-change.denied)
    (ap (λ (x : HandleSeen). x.number) c.handle.view_is) c.in-Err-change.ensures.wanting
