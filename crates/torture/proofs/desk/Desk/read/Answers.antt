use Rattle.std.proofs.Common.{arith}
use Rattle.torture.proofs.Handles.{desk_moved, stays_kept}
use Rattle.torture.proofs.desk.Desk.read.Goals as goal

pub invariant_of-self : goal.invariant_of-self
invariant_of-self g c =
    desk_moved c.self.inside.solo c.read.new.self c.self.inside.handles.items c.args.at _ c.index_mut.result.now c.read.new.handle c.self.inside.stray
    (stays_kept c.self.inside.solo c.read.new.self c.read.ensures.serves.keeps)
    (omega (arith, c.len.ensures, c.if-at-len.false)) c.index_mut.ensures.value c.read.ensures.cursor c.self.invariant
