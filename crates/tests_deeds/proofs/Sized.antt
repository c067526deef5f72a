-- A device keeps its sizes in a call.
use Rattle.std.proofs.Common.{◌≡◌, ℕ, List}
use Rattle.pc_types.specs.declared.kind.Kind.{Kind}
use Rattle.pc_types.specs.declared.kind.Kind.TheVariants.{Fill, Flush}
use Rattle.blockdev.specs.Device.{Told, Outcome}
use Rattle.blockdev.specs.Jobs.{Task, FinishedTask, Transfers}
use Rattle.blockdev.specs.Watching.{Watch, Makes}

sizes_by : (k : Kind) (old new : Told) (b : ℕ) (before : List ℕ) (r : Outcome) (after : List ℕ)
    → Transfers k old b before r after new → (new.size ≡ old.size) × (new.count ≡ old.count)
sizes_by Fill old new b before r after t = (t.call.size, t.call.count)
sizes_by Flush old new b before r after t = (t.0.call.size, t.0.call.count)

pub sizes_stay : (old new : Watch) (job : Task) (done : FinishedTask) → Makes old job done new
    → (new.device.size ≡ old.device.size) × (new.device.count ≡ old.device.count)
sizes_stay old new job done m =
    sizes_by job.kind old.device new.device job.block job.bytes done.outcome done.bytes m.performs.call
