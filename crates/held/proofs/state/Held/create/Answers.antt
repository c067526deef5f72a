use Rattle.std.proofs.Common.{refl, sym}
use Rattle.machine.specs.declared.event.Event.TheVariants as event
use Rattle.cachecore.specs.Replies.{created}
use Rattle.held.proofs.Replies.{bare_created, quiet_created}
use Rattle.held.proofs.Holds.{bare}
use Rattle.held.proofs.Tying.{on_quiet}
use Rattle.held.proofs.state.Held.create.Goals as goal

pub invariant_of-self-2 : goal.invariant_of-self-2
invariant_of-self-2 g c =
    let m =
    (bare _ _ _ _ _ _ _
    (record { log = c.self.inside.log; core = c.self.inside.core; errors = c.self.inside.recorder })
    (record { log = c.enter-slip.new.self; core = c.create-answer.new.self; errors = c.self.inside.recorder })
    c.args.seat.now c.enter-slip.new.seat c.enter-slip.result c.self.invariant.0
    event.Create (created c.create-answer.result) c.of_create.result refl (bare_created c.create-answer.result) (sym c.if-not-has_room.ensures)
    c.create-answer.ensures.step c.create-answer.ensures.lists c.of_create.ensures c.enter-slip.ensures.entered c.enter-slip.ensures.room refl) in
    (m.1, on_quiet m.0 c.self.invariant.0.0 c.self.invariant.1 (λ kind end same. absurd cc) (quiet_created c.create-answer.result))
