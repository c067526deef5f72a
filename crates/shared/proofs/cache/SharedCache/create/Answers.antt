use Rattle.std.proofs.Common.{◌≡◌, ◌<◌, Ok}
use Rattle.std.proofs.lemmas.Result.{IfOk-weaker}
use Rattle.cachecore.specs.Replies.{created}
use Rattle.held.specs.Entered.{Made}
use Rattle.machine.specs.declared.event.Event.TheVariants as event
use Rattle.shared.proofs.Owning.{only_event, only_event_denied}
use Rattle.shared.proofs.Making.{event_denied, event_full}
use Rattle.shared.proofs.Numbering.{few_made}
use Rattle.shared.proofs.Answered.{only_answered}
use Rattle.shared.proofs.Ending.{event_once}
use Rattle.shared.proofs.cache.SharedCache.create.Goals as goal

pub returns-clause-denied : goal.returns-clause-denied
returns-clause-denied g c own = event_denied g.B.Naming.files g.B.Naming.sizes g.B.Naming.name g.B.Naming.whole c.create.result event.Create c.deref_mut.result.now c.create.new.self
    c.args.seat.now c.create.new.seat tt c.create.ensures.denied

pub returns-clause-full : goal.returns-clause-full
returns-clause-full g c own = event_full g.B.Naming.files g.B.Naming.sizes g.B.Naming.name g.B.Naming.whole c.create.result event.Create c.deref_mut.result.now c.create.new.self
    c.args.seat.now c.create.new.seat c.create.ensures.denied

pub returns-clause-only : goal.returns-clause-only
returns-clause-only g c =
    only_answered (λ x. x.event ≡ event.Create) c.args.seat.now c.create.new.seat _ _ c.create.result c.create.ensures.made
    c.create.ensures.denied (λ r m. only_event _ _ _ _ _ _ _ m tt)
    (λ d q. only_event_denied g.B.Naming.files g.B.Naming.sizes g.B.Naming.name g.B.Naming.whole event.Create c.deref_mut.result.now c.create.new.self c.args.seat.now c.create.new.seat d q tt)

pub returns-clause-refused_once : goal.returns-clause-refused_once
returns-clause-refused_once g c = event_once g.B.Naming.files g.B.Naming.sizes g.B.Naming.name g.B.Naming.whole c.create.result event.Create c.deref_mut.result.now c.create.new.self c.args.seat.now c.create.new.seat
    c.create.ensures.denied

pub returns-clause-few : goal.returns-clause-few
returns-clause-few g c =
    IfOk-weaker c.create.result
    (λ r. Made event.Create (created (Ok r.0)) c.deref_mut.result.now c.create.new.self c.args.seat.now c.create.new.seat r.1) (λ r. r.0.0 < 64)
    (λ r m. few_made r.0 c.deref_mut.result.now c.create.new.self c.args.seat.now c.create.new.seat r.1 m) c.create.ensures.made
