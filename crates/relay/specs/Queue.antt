-- What the program is to do, and what stays of it once that is done.
use Rattle.std.specs.Prelude.{ℕ, Bool, true, false, List, [], ◌∷◌, drop, Option, Some, None, Result, Ok, Err, if◌then◌else◌}
use Rattle.relay.specs.declared.queue.Task.{Task}
use Rattle.relay.specs.declared.queue.Task.TheVariants.{Read, Write, Flush}

pub record QueueSeen : Type 0 where
  -- the writes that wait, the oldest first: each a block and its bytes
  pub writes : List (ℕ × List ℕ)
  -- the block that the program is to read
  pub wanted : Option ℕ
  -- the block that it has read
  pub fetched : Option (ℕ × List ℕ)
  -- the block that it could not read, and the error code
  pub unread : Option (ℕ × ℕ)
  -- whether it is to make a flush
  pub is_asked : Bool
  -- whether a flush ended well and nothing was written since
  pub is_flushed : Bool
  -- the code of a write that failed, which no flush told yet
  pub failure : Option ℕ
  -- the code of a flush that failed
  pub broken : Option ℕ

abbrev pub empty_queue : QueueSeen
empty_queue = record { writes = []; wanted = None; fetched = None; unread = None; is_asked = false; is_flushed = false; failure = None; broken = None }

-- the oldest write, or the flush that was asked for where none waits
abbrev pub write_or_flush : List (ℕ × List ℕ) → Bool → Option Task
write_or_flush (w ∷ ws) asked = Some (Write (record { 0 = w.0 }))
write_or_flush [] asked = if asked then Some Flush else None

-- what the program is to do next: the read first, since a call waits for it
abbrev pub next_of : Option ℕ → List (ℕ × List ℕ) → Bool → Option Task
next_of (Some b) writes asked = Some (Read (record { 0 = b }))
next_of None writes asked = write_or_flush writes asked

abbrev pub next_task : QueueSeen → Option Task
next_task q = next_of q.wanted q.writes q.is_asked

-- the queue after a task of it was done and ended so; a read that went well has these bytes
abbrev pub ended : QueueSeen → Task → List ℕ → Result (Unit {0}) ℕ → QueueSeen
ended q (Read b) bytes (Ok u) = record q { wanted = None; fetched = Some (b.0, bytes) }
ended q (Read b) bytes (Err code) = record q { wanted = None; unread = Some (b.0, code) }
ended q (Write b) bytes (Ok u) = record q { writes = drop 1 q.writes }
ended q (Write b) bytes (Err code) = record q { failure = Some code }
ended q Flush bytes (Ok u) = record q { is_asked = false; is_flushed = true }
ended q Flush bytes (Err code) = record q { is_asked = false; broken = Some code }
