-- What a turn of a flusher says of the ring, and of its gate.
use Rattle.std.specs.Prelude.{ℕ}
use Rattle.crossbeam_queue.specs.Fifo.{Held}
use Rattle.crossbeam_queue.specs.Passes.{view}
use Rattle.ring.specs.Order.{Stands}
use Rattle.shared.specs.declared.turns.Flushed.{Flushed}
use Rattle.shared.specs.declared.turns.Flushed.TheVariants as flushed
use Rattle.shared.specs.declared.worker.Worker.{Worker}

-- it made the device call itself only where the ring was full at one moment
abbrev pub WasFull : Worker → Flushed → Type 0
WasFull w (flushed.Ended slip done) = Held 64 (Stands (view w.pass))
WasFull w f = Unit {0}

-- a device call that it made went by the gate, with the job's serial
abbrev pub EntersBy : (ℕ → Type 0) → Flushed → Type 0
EntersBy through (flushed.Ended slip done) = through done.serial.0
EntersBy through f = Unit {0}
