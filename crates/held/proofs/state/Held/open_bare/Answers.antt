use Rattle.std.proofs.Common.{refl, sym}
use Rattle.machine.specs.declared.event.Event.TheVariants as event
use Rattle.cachecore.specs.Replies.{opened}
use Rattle.held.proofs.Replies.{bare_opened, quiet_opened}
use Rattle.held.proofs.Holds.{bare}
use Rattle.held.proofs.Tying.{on_quiet}
use Rattle.held.proofs.state.Held.open_bare.Goals as goal

pub invariant_of-self-2 : goal.invariant_of-self-2
invariant_of-self-2 g c =
    let m =
    (bare _ _ _ _ _ _ _
    (record { log = c.self.inside.log; core = c.self.inside.core; errors = c.self.inside.recorder })
    (record { log = c.enter-slip.new.self; core = c.open-answer.new.self; errors = c.self.inside.recorder })
    c.args.seat.now c.enter-slip.new.seat c.enter-slip.result c.self.invariant.0
    (event.Open c.args.file) (opened c.open-answer.result) c.of_open.result refl (bare_opened c.open-answer.result) (sym c.if-not-has_room.ensures)
    c.open-answer.ensures.step c.open-answer.ensures.lists c.of_open.ensures c.enter-slip.ensures.entered c.enter-slip.ensures.room refl) in
    (m.1, on_quiet m.0 c.self.invariant.0.0 c.self.invariant.1 (λ kind end same. absurd cc) (quiet_opened c.open-answer.result))
