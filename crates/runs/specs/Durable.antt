-- What a device has made durable, over every run. A write that a device answered may still stand in a cache of the
-- device's own; a flush that ends well makes all that was written before it durable, and nothing else does. So what is
-- durable is what the device held as it was last flushed well. A flush changes neither the cache nor what the device
-- holds, and may come at any moment of a run.
use Rattle.std.specs.Prelude.{◌≡◌, ℕ, zero, suc, ◌≤◌, Bool, true, if◌then◌else◌, length}
use Rattle.machine.specs.declared.event.Reply.TheVariants as reply
use Rattle.runs.specs.Runs.{EveryRun}
use Rattle.runs.specs.Syncing.{Begin, IsSync, Synced}

-- the last moment up to n at which the device was flushed well
abbrev pub last_flush : (ℕ → Bool) → ℕ → ℕ
last_flush flushed zero = 0
last_flush flushed (suc n) = if flushed (suc n) then suc n else last_flush flushed n

-- where a sync answers Clean and the device is flushed well after that, then from there on the sync's range is synced by
-- what the device held at the last good flush
abbrev pub SyncsAreDurable : Type 0
SyncsAreDurable = EveryRun (λ w run.
    (flushed : ℕ → Bool) (a : Begin) (j k n : ℕ) → IsSync w run a j reply.Clean → flushed k ≡ true → j ≤ k → k ≤ n
    → n ≤ length run → Synced w run a (last_flush flushed n))
