use Rattle.std.proofs.Common.{arith}
use Rattle.torture.proofs.Handles.{desk_told, stays_kept}
use Rattle.torture.proofs.desk.Desk.fsync_range.Goals as goal

pub invariant_of-self : goal.invariant_of-self
invariant_of-self g c =
    desk_told c.self.inside.solo c.fsync_range.new.self c.self.inside.handles.items c.args.at c.index_mut.result.now c.fsync_range.new.handle c.self.inside.stray
    (stays_kept c.self.inside.solo c.fsync_range.new.self c.fsync_range.ensures.serves.keeps)
    (omega (arith, c.len.ensures, c.if-at-len.false)) c.index_mut.ensures.value c.fsync_range.ensures.told c.self.invariant
