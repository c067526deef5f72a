-- What a clean sync leaves where nothing is written meanwhile.
use Rattle.std.specs.Prelude.{◌≡◌, ℕ, ◌<◌, Bool, true, false, Some, slice_get}
use Rattle.machine.specs.declared.event.Event.TheVariants as event
use Rattle.machine.specs.declared.event.Reply.TheVariants as reply
use Rattle.machine.specs.State.{tags_at}
use Rattle.runs.specs.World.{World, Move, Act}
use Rattle.runs.specs.Runs.{Steps, EveryRun, core_at}
use Rattle.runs.specs.Syncing.{Begin, InRange, IsSync, its_file}

-- whether a step is a write to a file or a truncation
abbrev pub writes : Move → Bool
writes (Act (event.Write h o b) (reply.Wrote n end)) = true
writes (Act (event.Append h b) (reply.Wrote n end)) = true
writes (Act (event.Truncate h z) reply.Done) = true
writes _ = false

-- no step after step i, before step j, is one
abbrev pub WritesNothing : Steps → ℕ → ℕ → Type 0
WritesNothing run i j = (k : ℕ) (move : Move) (new : World) → i < k → k < j → slice_get run k ≡ Some (move, new)
    → writes move ≡ false

-- where a sync answers Clean and nothing was written since it began, no page of its range is DIRTY or under WRITEBACK, and so the
-- device has it (`FilesAreHeld`)
abbrev pub SyncsLeaveClean : Type 0
SyncsLeaveClean = EveryRun (λ w run. (a : Begin) (j p : ℕ) → IsSync w run a j reply.Clean → WritesNothing run a.step j
    → InRange a p → let tags = tags_at (core_at w run j) (its_file w run a) p in
    (tags.dirty ≡ false) × (tags.writeback ≡ false))
