use Rattle.std.proofs.Common.{arith}
use Rattle.std.proofs.Common.{ap}
use Rattle.filesvc.specs.Seen.{SoloSeen}
use Rattle.torture.proofs.Handles.{desk_sought, stays_same}
use Rattle.torture.proofs.desk.Desk.seek.Goals as goal

pub invariant_of-self : goal.invariant_of-self
invariant_of-self g c =
    desk_sought c.self.inside.solo c.seek.new.self c.self.inside.handles.items c.args.at c.index_mut.result.now c.seek.new.handle c.self.inside.stray c.seek.result
    (stays_same c.self.inside.solo c.seek.new.self (ap (λ (s : SoloSeen). s.world) c.seek.ensures.same) (ap (λ (s : SoloSeen). s.errors.board) c.seek.ensures.same))
    (omega (arith, c.len.ensures, c.if-at-len.false)) c.index_mut.ensures.value c.seek.ensures.cursor c.seek.ensures.kept c.self.invariant
