-- What is said of a run that ended early, and its exit status.
use Rattle.std.specs.Prelude.{◌≡◌, ℕ, ◌⊎◌, List, ◌++◌, codes, decimal}
use Rattle.std.specs.declared.io.ErrorKind.{ErrorKind}
use Rattle.std.specs.declared.io.ErrorKind.TheVariants.{OutOfMemory}
use Rattle.textline.specs.declared.stop.Stop.{Stop}
use Rattle.textline.specs.declared.stop.Stop.TheVariants.{Malformed, Input, Output, Memory}

-- 2 for a line that is none, 3 for input or output, 4 for memory
abbrev pub status_of : Stop → ℕ
status_of (Malformed line) = 2
status_of Input = 3
status_of Output = 3
status_of Memory = 4

-- input, output or memory failed
abbrev pub IsFault : Stop → Type 0
IsFault (Malformed line) = ⊥
IsFault _ = Unit {0}

-- the statuses that there are
abbrev pub IsStatus : ℕ → Type 0
IsStatus status = (status ≡ 0) ⊎ ((status ≡ 2) ⊎ ((status ≡ 3) ⊎ (status ≡ 4)))

-- why a run ended
abbrev pub reason_of : Stop → List ℕ
reason_of (Malformed line) = codes "line " ++ decimal line ++ codes ": malformed"
reason_of Input = codes "input failed"
reason_of Output = codes "output failed"
reason_of Memory = codes "out of memory"

-- why a read that failed ends a run
abbrev pub stop_of_kind : ErrorKind → Stop
stop_of_kind OutOfMemory = Memory
stop_of_kind _ = Input
