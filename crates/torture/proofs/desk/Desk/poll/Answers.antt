use Rattle.std.proofs.Common.{arith}
use Rattle.std.proofs.Common.{ap}
use Rattle.filesvc.specs.Seen.{SoloSeen}
use Rattle.torture.proofs.Handles.{desk_told, polled_told, stays_same}
use Rattle.torture.proofs.desk.Desk.poll.Goals as goal

pub invariant_of-self : goal.invariant_of-self
invariant_of-self g c =
    desk_told c.self.inside.solo c.poll_error.new.self c.self.inside.handles.items c.args.at c.index_mut.result.now c.poll_error.new.handle c.self.inside.stray
    (stays_same c.self.inside.solo c.poll_error.new.self (ap (λ (s : SoloSeen). s.world) c.poll_error.ensures.same) (ap (λ (s : SoloSeen). s.errors.board) c.poll_error.ensures.same))
    (omega (arith, c.len.ensures, c.if-at-len.false)) c.index_mut.ensures.value
    (polled_told c.self.inside.solo c.poll_error.new.self c.index_mut.result.now c.poll_error.new.handle c.poll_error.result c.poll_error.ensures.answers (λ n. (c.poll_error.ensures.foreign n).2) c.poll_error.ensures.told)
    c.self.invariant
