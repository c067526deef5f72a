-- What may come of the device call of a task, told by its one block.
use Rattle.std.specs.Prelude.{◌≡◌, ◌⊎◌, ℕ, ◌+◌, Bool, true, List, length, OnOk, OnErr}
use Rattle.pc_types.specs.declared.kind.Kind.{Kind}
use Rattle.pc_types.specs.declared.kind.Kind.TheVariants.{Fill, Flush}
use Rattle.blockdev.specs.Device.{Outcome}
use Rattle.blockdev.specs.Jobs.{Task, FinishedTask}
use Rattle.deeds.specs.declared.views.Block.{Block}

-- the block's bytes before, the buffer's before, the outcome, the buffer's after, the block's after. A fill reads the
-- block or leaves the buffer as it was. A flush writes it whole, and one that failed did or did not
abbrev pub Leaves : Kind → List ℕ → List ℕ → Outcome → List ℕ → List ℕ → Type 0
Leaves Fill before bytes r after left = (left ≡ before) × OnOk r (after ≡ before) × OnErr r (after ≡ bytes)
Leaves Flush before bytes r after left =
    (after ≡ bytes) × OnOk r (left ≡ bytes) × OnErr r ((left ≡ before) ⊎ (left ≡ bytes))

-- what one call for the task may leave: a call more, and the bytes that there were or, of a flush, those of the task
abbrev pub MayLeave : Bool → Task → Block → Block → Type 0
MayLeave told task before left = (left.calls ≡ before.calls + 1)
    × (told ≡ true → (left.bytes ≡ before.bytes) ⊎ ((task.kind ≡ Flush) × (left.bytes ≡ task.bytes)))

-- what the device may have of a block while a task is on its way: what it had before, or what the task's call may leave
abbrev pub MayHave : Bool → Task → Block → Block → Type 0
MayHave told task before now = (now ≡ before) ⊎ MayLeave told task before now

-- the same request, one call, and where the device tells its contents, what this may leave
pub record Comes (told : Bool) (task : Task) (before : Block) (finished : FinishedTask) (left : Block) : Type 0 where
  pub cache : finished.cache ≡ task.cache
  pub serial : finished.serial ≡ task.serial
  pub kind : finished.kind ≡ task.kind
  pub block : finished.block ≡ task.block
  pub length : length finished.bytes ≡ length task.bytes
  pub calls : left.calls ≡ before.calls + 1
  pub leaves : told ≡ true → Leaves task.kind before.bytes task.bytes finished.outcome finished.bytes left.bytes
