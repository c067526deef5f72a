-- How many calls the device made.
use Rattle.std.proofs.Common.{◌≡◌, ℕ, ◌+◌, ◌<◌, ◌≤◌, List, map as map_list, ap, sym, ◌∙◌, arith, inl, inr}
use Rattle.std.specs.Prelude.{min}
use Rattle.std.specs.FinMap as map
use Rattle.std.proofs.Math.Nat.{eq-or-lt_of_le}
use Rattle.pc_types.specs.declared.kind.Kind.{Kind}
use Rattle.pc_types.specs.declared.kind.Kind.TheVariants.{Fill, Flush}
use Rattle.blockdev.specs.Device.{Calls, Outcome, Told, max_calls}
use Rattle.blockdev.specs.Jobs.{FinishedTask, Task, Transfers}
use Rattle.blockdev.specs.Watching.{Makes, Watch}
use Rattle.deeds.specs.Shown.{calls_of, uncalled}
use Rattle.deeds.specs.declared.views.Block.{Block}
use Rattle.deeds.proofs.Counts.{calls_uncalled}
use Rattle.machine.specs.State.{State}
use Rattle.tied.specs.Tied.{ended_count}
use Rattle.trail.specs.declared.entry.Entry.{Entry}
use Rattle.shared.specs.Keeps.{HasMade, IsCalledFor}

-- ---- at the beginning

counted_first : (first calls most : ℕ) → calls ≡ first → calls ≤ most → calls ≡ min (first + 0) most
counted_first first calls most same few = omega arith

pub made_first : (first : ℕ) (blocks : List (List ℕ)) (side : List Block) (device : Told) → side ≡ map_list uncalled blocks
    → device.calls ≡ first → device.calls ≤ max_calls → HasMade first (calls_of side) device
made_first first blocks side device is same few =
    counted_first first device.calls max_calls same few
    ∙ ap (λ n. min (first + n) max_calls) (sym (ap calls_of is ∙ calls_uncalled blocks))

-- ---- one more

call_of : (kind : Kind) (old new : Told) (block : ℕ) (before : List ℕ) (r : Outcome) (after : List ℕ)
    → Transfers kind old block before r after new → Calls old r new
call_of Fill old new block before r after t = t.call
call_of Flush old new block before r after t = t.0.call

counted : (n first more most : ℕ) → n ≡ min (first + more) most → n ≤ most
counted n first more most is = omega arith

one_more : (first more n m most : ℕ) → n ≡ min (first + more) most → n < most → m ≡ n + 1
    → m ≡ min (first + (more + 1)) most
one_more first more n m most is low next = omega arith

at_most : (first more n m most : ℕ) → n ≡ min (first + more) most → n ≡ most → m ≡ n → m ≡ min (first + (more + 1)) most
at_most first more n m most is full same = omega arith

counted_on : (first more : ℕ) (old new : Told) (r : Outcome) → HasMade first more old → Calls old r new
    → HasMade first (more + 1) new
counted_on first more old new r made call = elim (eq-or-lt_of_le (counted old.calls first more max_calls made)) [
  | inl full ↦ at_most first more old.calls new.calls max_calls made full
      (ap (λ (d : Told). d.calls) (call.exhausted full).1)
  | inr low ↦ one_more first more old.calls new.calls max_calls made low (call.calls low)
]

pub made_on : (first more later : ℕ) (old new : Watch) (job : Task) (done : FinishedTask) → HasMade first more old.device
    → Makes old job done new → later ≡ more + 1 → HasMade first later new.device
made_on first more later old new job done made m is =
    counted_on first more old.device new.device done.outcome made
    (call_of job.kind old.device new.device job.block job.bytes done.outcome done.bytes m.performs.call)
    ∙ ap (λ n. min (first + n) max_calls) (sym is)

-- ---- at the end

pub called_for : (first calls : ℕ) (history : List Entry) (core : State) (device : Told) → HasMade first calls device
    → (more : ℕ) × (more ≤ map.len core.requests) × (calls ≡ ended_count history + more)
    → IsCalledFor first history core device
called_for first calls history core device made all =
    (all.0, all.1, made ∙ ap (λ n. min (first + n) max_calls) all.2)
