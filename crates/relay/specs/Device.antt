-- What a relayed device tells: no bytes, and of its calls only how many.
use Rattle.std.specs.Prelude.{ℕ, None}
use Rattle.blockdev.specs.Device.{Told}

abbrev pub told_relay : ℕ → ℕ → Told
told_relay size count = record { size = size; count = count; contents = None; plan = None; durable = None; flush_plan = None; calls = 0; flushes = 0; faults = 0 }
