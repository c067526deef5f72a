-- Which file a flush in flight writes to.
use Rattle.std.specs.Prelude.{ℕ, if◌then◌else◌, Option, Some, None}
use Rattle.std.specs.FinMap as map
use Rattle.pc_types.specs.Kinds.{is_flush}
use Rattle.machine.specs.State.{State, Request}

-- the file of a request that is a flush
abbrev pub flushed_file : Option Request → Option ℕ
flushed_file None = None
flushed_file (Some x) = if is_flush x.kind then Some x.file else None

-- the file of the flush in flight with this serial
abbrev pub flush_of : State → ℕ → Option ℕ
flush_of s t = flushed_file (map.get s.requests t)
