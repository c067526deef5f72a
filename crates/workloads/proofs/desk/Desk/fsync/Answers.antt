use Rattle.std.proofs.Common.{arith, subst, sym}
use Rattle.filesvc.specs.Service.{IsOpen}
use Rattle.workloads.proofs.Opened.{all_synced}
use Rattle.workloads.proofs.desk.Desk.fsync.Goals as goal

pub invariant_of-self : goal.invariant_of-self
invariant_of-self g c =
    let was : IsOpen c.self.inside.solo c.index_mut.result.now = subst (IsOpen c.self.inside.solo) (sym c.index_mut.ensures.value)
    (c.self.invariant c.args.at c.index_mut.result.now (omega (arith, c.len.ensures, c.if-at-len.false))) in
    all_synced c.self.inside.solo c.fsync.new.self c.self.inside.handles.items c.args.at c.index_mut.result.now c.fsync.new.handle
    c.fsync.ensures.serves.keeps c.fsync.ensures.told was c.self.invariant
