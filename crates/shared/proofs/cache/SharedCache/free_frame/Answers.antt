use Rattle.std.proofs.Common.{◌≡◌, ◌∙◌, ap, false}
use Rattle.std.proofs.lemmas.Result.{IfOk-weaker}
use Rattle.std.specs.Sync.Mutex.{mutex_guard_value}
use Rattle.held.specs.Shown.{HeldSeen}
use Rattle.shared.specs.Rooms.{IsUnwritten}
use Rattle.shared.proofs.Rooming.{unwritten_on}
use Rattle.shared.proofs.Settling.{settles_evicted, settles_on}
use Rattle.std.proofs.lemmas.Result.{IfErr-weaker}
use Rattle.shared.specs.Denials.{IsDenied}
use Rattle.shared.specs.Own.{IsRoomEvent}
use Rattle.shared.proofs.Making.{room_on}
use Rattle.shared.proofs.cache.SharedCache.free_frame.Goals as goal

-- no page went, so the state is as it was
pub returns-in-Ok-false-clause-unwritten : goal.returns-in-Ok-false-clause-unwritten
returns-in-Ok-false-clause-unwritten g c =
    let s = (mutex_guard_value c.args.guard).core.state in
    let t = c.evict_idle.new.state.core.state in
    let same : t ≡ s = (c.in-Ok-false.ensures.none c.in-Ok-false.field-0-test).1
    ∙ ap (λ (x : HeldSeen). x.core.state) c.deref_mut.ensures.value in
    IfOk-weaker c.flush_one.result (λ made. made ≡ false → IsUnwritten t c.evict_idle.new.seat c.flush_one.new.seat)
    (λ made. made ≡ false → IsUnwritten s c.args.seat.now c.flush_one.new.seat)
    (λ made q e. unwritten_on s t c.args.seat.now c.evict_idle.new.seat c.flush_one.new.seat same c.evict_idle.ensures.only
    (q e)) c.flush_one.ensures.unwritten

pub returns-in-Ok-false-clause-settled : goal.returns-in-Ok-false-clause-settled
returns-in-Ok-false-clause-settled g c =
    settles_on g.B.Naming.name c.args.seat.now c.evict_idle.new.seat c.flush_one.new.seat
    (settles_evicted g.B.Naming.name c.args.seat.now c.evict_idle.new.seat c.evict_idle.ensures.only) c.flush_one.ensures.settled

pub returns-in-Ok-false-clause-denied : goal.returns-in-Ok-false-clause-denied
returns-in-Ok-false-clause-denied g c =
    IfErr-weaker c.flush_one.result (IsDenied g.B.Naming.files g.B.Naming.sizes g.B.Naming.name g.B.Naming.whole IsRoomEvent c.evict_idle.new.seat c.flush_one.new.seat)
    (IsDenied g.B.Naming.files g.B.Naming.sizes g.B.Naming.name g.B.Naming.whole IsRoomEvent c.args.seat.now c.flush_one.new.seat)
    (λ d q. room_on g.B.Naming.files g.B.Naming.sizes g.B.Naming.name g.B.Naming.whole c.args.seat.now c.evict_idle.new.seat c.flush_one.new.seat d c.evict_idle.ensures.goes q)
    c.flush_one.ensures.denied
