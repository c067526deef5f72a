use Rattle.std.proofs.Common.{◌≡◌, ap, subst}
use Rattle.std.specs.Prelude.{IfErr, IfOk}
use Rattle.machine.specs.declared.event.Event.TheVariants as event
use Rattle.machine.specs.declared.event.Reply.TheVariants as reply
use Rattle.pc_types.specs.declared.ids.HandleId.{HandleId}
use Rattle.held.specs.Called.{Only}
use Rattle.shared.specs.Denials.{IsDenied}
use Rattle.shared.specs.Seen.{HandleSeen}
use Rattle.shared.proofs.Owning.{only_event, only_event_denied}
use Rattle.shared.specs.Called.{Makes}
use Rattle.shared.proofs.Making.{answer_made, event_denied, event_full}
use Rattle.shared.proofs.Answered.{only_answered}
use Rattle.shared.proofs.Ending.{event_once}
use Rattle.shared.proofs.cache.SharedCache.size.Goals as goal

pub returns-clause-denied : goal.returns-clause-denied
returns-clause-denied g c own here =
    subst (λ (n : HandleId). IfErr c.size.result (IsDenied g.B.Naming.files g.B.Naming.sizes g.B.Naming.name g.B.Naming.whole (λ e. e ≡ event.Size n) c.args.seat.now c.size.new.seat))
    (ap (λ (h : HandleSeen). h.number) c.handle.view_is)
    (event_denied g.B.Naming.files g.B.Naming.sizes g.B.Naming.name g.B.Naming.whole c.size.result (event.Size c.handle.inside.number) c.deref_mut.result.now c.size.new.self
    c.args.seat.now c.size.new.seat tt c.size.ensures.denied)

pub returns-clause-full : goal.returns-clause-full
returns-clause-full g c own here =
    event_full g.B.Naming.files g.B.Naming.sizes g.B.Naming.name g.B.Naming.whole c.size.result (event.Size c.handle.inside.number) c.deref_mut.result.now c.size.new.self
    c.args.seat.now c.size.new.seat c.size.ensures.denied

pub returns-clause-only : goal.returns-clause-only
returns-clause-only g c =
    subst (λ (n : HandleId). Only (λ x. x.event ≡ event.Size n) c.args.seat.now c.size.new.seat)
    (ap (λ (h : HandleSeen). h.number) c.handle.view_is)
    (only_answered (λ x. x.event ≡ event.Size c.handle.inside.number) c.args.seat.now c.size.new.seat _ _ c.size.result
    c.size.ensures.made c.size.ensures.denied (λ r m. only_event _ _ _ _ _ _ _ m tt)
    (λ d q. only_event_denied g.B.Naming.files g.B.Naming.sizes g.B.Naming.name g.B.Naming.whole (event.Size c.handle.inside.number) c.deref_mut.result.now c.size.new.self c.args.seat.now
    c.size.new.seat d q tt))

pub returns-clause-refused_once : goal.returns-clause-refused_once
returns-clause-refused_once g c = event_once g.B.Naming.files g.B.Naming.sizes g.B.Naming.name g.B.Naming.whole c.size.result (event.Size c.handle.inside.number) c.deref_mut.result.now c.size.new.self c.args.seat.now c.size.new.seat
    c.size.ensures.denied

pub returns-clause-answer : goal.returns-clause-answer
returns-clause-answer g c =
    subst (λ (n : HandleId). IfOk c.size.result (λ r. Makes c.args.seat.now c.size.new.seat r.1 (event.Size n) (reply.Size r.0)))
    (ap (λ (h : HandleSeen). h.number) c.handle.view_is)
    (answer_made c.size.result (event.Size c.handle.inside.number) reply.Size c.deref_mut.result.now c.size.new.self
    c.args.seat.now c.size.new.seat c.size.ensures.made)
