use Rattle.std.proofs.Common.{◌≤◌, arith, subst, sym}
use Rattle.std.specs.Prelude.{Ok, Err, OnOk, Result, ◌==◌}
use Rattle.pc_types.specs.declared.limits.TheConstants.{LAST_PAGE}
use Rattle.pc_types.specs.declared.refusal.Refusal.{Refusal}
use Rattle.machine.specs.State.{dirty_in, file_at}
use Rattle.runs.specs.Syncing.{dirty_between}
use Rattle.filesvc.specs.Seen.{SoloSeen}
use Rattle.filesvc.specs.Service.{ServesBut, Tells}
use Rattle.filesvc.proofs.Ranged.{some_dirty}
use Rattle.filesvc.proofs.SyncLaws.{whole_file}
use Rattle.filesvc.proofs.solo.Solo.fsync.Goals as goal

on_ok : (r : Result Unit Refusal) (P Q : Type 0) → (P → Q) → OnOk r P → OnOk r Q
on_ok (Ok x) P Q h p = h p
on_ok (Err why) P Q h p = tt

pub returns-clause-cost : goal.returns-clause-cost
returns-clause-cost g c = λ names.
    let file = file_at c.args.self.now.world.core c.args.handle.now.file in
    let range = c.fsync_range.ensures.cost names in
    let all : dirty_between file 0 LAST_PAGE ≤ dirty_in file = some_dirty 0 LAST_PAGE file in
    omega arith

pub returns-clause-synced : goal.returns-clause-synced
returns-clause-synced g c = λ tells.
    let old : SoloSeen = record { world = c.self.inside.world; errors = c.self.inside.recorder; attempts = c.self.inside.attempts } in
    on_ok c.fsync_range.result _ _
    (whole_file c.self.inside.name old c.fsync_range.new.self c.self.inside.recorder.board c.args.handle.now.file c.self.invariant.serving
    (subst (λ (s : SoloSeen). ServesBut (λ f. f == c.args.handle.now.file) s c.fsync_range.new.self) (sym c.self.view_is) c.fsync_range.ensures.serves)
    (subst Tells (sym c.self.view_is) tells))
    (c.fsync_range.ensures.synced tells)
