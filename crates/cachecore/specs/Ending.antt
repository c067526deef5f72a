-- Inside this crate: which request a finished job ends.
use Rattle.std.specs.Prelude.{ℕ, ◌&&◌, ◌==◌, if◌then◌else◌, Option, None}
use Rattle.std.specs.Ordering.{nat_cmp}
use Rattle.std.specs.FinMap.{FinMap, get}
use Rattle.pc_types.specs.declared.kind.Kind.{Kind}
use Rattle.pc_types.specs.Kinds.{same_kind}
use Rattle.blockdev.specs.Jobs.{FinishedTask}
use Rattle.machine.specs.State.{Request}
use Rattle.writeback.specs.Flights.{of_call}

-- the request of this kind that a finished job ends, where there is one, in a cache of this name
abbrev pub request_ended : ℕ → FinMap nat_cmp Request → Kind → FinishedTask → Option Request
request_ended name requests kind f =
    if f.cache == name && same_kind kind f.kind then of_call kind f.block (get requests f.serial) else None
