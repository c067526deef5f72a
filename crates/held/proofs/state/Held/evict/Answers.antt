use Rattle.std.proofs.Common.{refl, sym}
use Rattle.machine.specs.declared.event.Event.TheVariants as event
use Rattle.cachecore.specs.Replies.{evicted}
use Rattle.held.proofs.Replies.{bare_evicted, quiet_evicted}
use Rattle.held.proofs.Holds.{bare}
use Rattle.held.proofs.Tying.{on_quiet}
use Rattle.held.proofs.state.Held.evict.Goals as goal

pub invariant_of-self-2 : goal.invariant_of-self-2
invariant_of-self-2 g c =
    let m =
    (bare _ _ _ _ _ _ _
    (record { log = c.self.inside.log; core = c.self.inside.core; errors = c.self.inside.recorder })
    (record { log = c.enter-slip.new.self; core = c.evict-answer.new.self; errors = c.self.inside.recorder })
    c.args.seat.now c.enter-slip.new.seat c.enter-slip.result c.self.invariant.0
    event.Evict (evicted c.evict-answer.result) c.of_evict.result refl (bare_evicted c.evict-answer.result) (sym c.if-not-has_room.ensures)
    c.evict-answer.ensures.step c.evict-answer.ensures.lists c.of_evict.ensures c.enter-slip.ensures.entered c.enter-slip.ensures.room refl) in
    (m.1, on_quiet m.0 c.self.invariant.0.0 c.self.invariant.1 (λ kind end same. absurd cc) (quiet_evicted c.evict-answer.result))
