use Rattle.std.proofs.Common.{◌≡◌, ◌-◌, ◌+◌, ◌≤◌, ℕ, true}
use Rattle.std.specs.FinMap as map
use Rattle.std.specs.Prelude.{is_some, Some}
use Rattle.machine.specs.State.{file_at}
use Rattle.runs.specs.Syncing.{dirty_between}
use Rattle.pc_types.specs.declared.limits.TheConstants.{SERIAL_END}
use Rattle.world.specs.Stepping.{world_of}
use Rattle.filesvc.specs.Made.{Writes}
use Rattle.filesvc.specs.Rests.{IsServing}
use Rattle.filesvc.specs.Service.{Serves}
use Rattle.filesvc.specs.Syncs.{service_of}
use Rattle.filesvc.proofs.SyncLaws.{InSync, SyncOf}
use Rattle.filesvc.proofs.SyncsKept.{OnlySync}
use Rattle.filesvc.proofs.Waiting.{waiting}
use Rattle.filesvc.proofs.fsync.sync_file.Given as goal

abbrev pub invariant-steps : goal.invariant-steps
invariant-steps g l = record {
  serving : IsServing l.world.core.name l.world l.recorder.board l.recorder;
  serves : Serves (service_of l.fn.world l.fn.recorder) (service_of l.world l.recorder);
  writes : Writes l.fn.handle l.fn.first l.fn.last l.sync l.fn.world l.world;
  of : SyncOf l.fn.handle l.fn.first l.fn.last l.sync l.fn.world.core l.world.core;
  cost : (f : ℕ) → map.get l.fn.world.core.handles l.fn.handle.0 ≡ Some f → l.world.device.calls + waiting l.fn.first.0 l.fn.last.0 l.world.core f ≤ l.fn.world.device.calls + dirty_between (file_at l.fn.world.core f) l.fn.first.0 l.fn.last.0;
  only : OnlySync l.world.core l.sync.0;
  syncing : is_some l.fn.world.device.contents ≡ true → InSync l.fn.handle l.fn.first l.fn.last l.sync (world_of l.fn.world) (world_of l.world);
}

abbrev pub decreases-steps : goal.decreases-steps
decreases-steps g l = SERIAL_END - l.world.core.next
