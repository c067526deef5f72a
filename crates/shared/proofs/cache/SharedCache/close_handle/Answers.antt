use Rattle.std.proofs.Common.{◌≡◌, ap, subst}
use Rattle.machine.specs.declared.event.Event.TheVariants as event
use Rattle.pc_types.specs.declared.ids.HandleId.{HandleId}
use Rattle.held.specs.Called.{Only}
use Rattle.shared.specs.Denials.{IsDenied}
use Rattle.shared.specs.Seen.{HandleSeen}
use Rattle.shared.proofs.Making.{denied_event}
use Rattle.shared.proofs.Owning.{only_event}
use Rattle.shared.proofs.cache.SharedCache.close_handle.Goals as goal

pub returns-in-Ok-clause-only : goal.returns-in-Ok-clause-only
returns-in-Ok-clause-only g c =
    subst (λ (n : HandleId). Only (λ x. x.event ≡ event.Close n) c.args.seat.now c.close_handle.new.seat)
    (ap (λ (h : HandleSeen). h.number) c.handle.view_is) (only_event _ _ _ _ _ _ _ c.in-Ok.ensures.made tt)

pub returns-clause-denied : goal.returns-clause-denied
returns-clause-denied g c own here =
    subst (λ (n : HandleId). IsDenied g.B.Naming.files g.B.Naming.sizes g.B.Naming.name g.B.Naming.whole (λ e. e ≡ event.Close n) c.args.seat.now
    c.close_handle.new.seat c.in-Err-close_handle.denied) (ap (λ (h : HandleSeen). h.number) c.handle.view_is)
    (denied_event g.B.Naming.files g.B.Naming.sizes g.B.Naming.name g.B.Naming.whole (event.Close c.handle.inside.number) c.deref_mut.result.now
    c.close_handle.new.self c.args.seat.now c.close_handle.new.seat c.in-Err-close_handle.denied tt
    c.in-Err-close_handle.ensures.denied)
