use Rattle.std.proofs.Common.{arith}
use Rattle.torture.proofs.Handles.{desk_told, stays_kept}
use Rattle.torture.proofs.desk.Desk.fsync.Goals as goal

pub invariant_of-self : goal.invariant_of-self
invariant_of-self g c =
    desk_told c.self.inside.solo c.fsync.new.self c.self.inside.handles.items c.args.at c.index_mut.result.now c.fsync.new.handle c.self.inside.stray
    (stays_kept c.self.inside.solo c.fsync.new.self c.fsync.ensures.serves.keeps)
    (omega (arith, c.len.ensures, c.if-at-len.false)) c.index_mut.ensures.value c.fsync.ensures.told c.self.invariant
