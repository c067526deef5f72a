-- A device some of whose calls fail.
use Rattle.std.specs.Prelude.{None}
use Rattle.blockdev.specs.Device.{Told}

-- the device, with no call made yet, and of the faults to come nothing told
abbrev pub faulty : Told → Told
faulty d = record d { plan = None; flush_plan = None; calls = 0; flushes = 0; faults = 0 }
