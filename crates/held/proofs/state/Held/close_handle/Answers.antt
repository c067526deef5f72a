use Rattle.std.proofs.Common.{refl, sym}
use Rattle.machine.specs.declared.event.Event.TheVariants as event
use Rattle.cachecore.specs.Replies.{closed}
use Rattle.held.proofs.Replies.{bare_closed, quiet_closed}
use Rattle.held.proofs.Holds.{bare}
use Rattle.held.proofs.Tying.{on_quiet}
use Rattle.held.proofs.state.Held.close_handle.Goals as goal

pub invariant_of-self-in_err-slip : goal.invariant_of-self-in_err-slip
invariant_of-self-in_err-slip g c =
    let m =
    (bare _ _ _ _ _ _ _
    (record { log = c.self.inside.log; core = c.self.inside.core; errors = c.self.inside.recorder })
    (record { log = c.enter-slip.new.self; core = c.close-answer.new.self; errors = c.self.inside.recorder })
    c.args.seat.now c.enter-slip.new.seat c.enter-slip.result c.self.invariant.0
    (event.Close c.args.handle) (closed c.close-answer.result) c.of_close.result refl (bare_closed c.close-answer.result) (sym c.if-not-has_room.ensures)
    c.close-answer.ensures.step c.close-answer.ensures.lists c.of_close.ensures c.enter-slip.ensures.entered c.enter-slip.ensures.room refl) in
    (m.1, on_quiet m.0 c.self.invariant.0.0 c.self.invariant.1 (λ kind end same. absurd cc) (quiet_closed c.close-answer.result))

pub invariant_of-self-2 : goal.invariant_of-self-2
invariant_of-self-2 g c =
    let m =
    (bare _ _ _ _ _ _ _
    (record { log = c.self.inside.log; core = c.self.inside.core; errors = c.self.inside.recorder })
    (record { log = c.enter-slip.new.self; core = c.close-answer.new.self; errors = c.self.inside.recorder })
    c.args.seat.now c.enter-slip.new.seat c.enter-slip.result c.self.invariant.0
    (event.Close c.args.handle) (closed c.close-answer.result) c.of_close.result refl (bare_closed c.close-answer.result) (sym c.if-not-has_room.ensures)
    c.close-answer.ensures.step c.close-answer.ensures.lists c.of_close.ensures c.enter-slip.ensures.entered c.enter-slip.ensures.room refl) in
    (m.1, on_quiet m.0 c.self.invariant.0.0 c.self.invariant.1 (λ kind end same. absurd cc) (quiet_closed c.close-answer.result))
