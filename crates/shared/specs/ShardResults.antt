-- What calls of a cache of shards answer, beside what the shard's own call does.
use Rattle.std.specs.Prelude.{ℕ, Result, Ok, Err}
use Rattle.held.specs.declared.denied.Denied.{Denied}
use Rattle.held.specs.declared.log.Slip.{Slip}
use Rattle.pc_types.specs.declared.ids.FileId.{FileId}
use Rattle.pc_types.specs.Refusals.{refusal_number}
use Rattle.shared.specs.Seen.{HandleSeen}
use Rattle.shared.specs.ShardCalls.{number_of}
use Rattle.shared.specs.declared.shards.denied.CreateDenied.{CreateDenied}
use Rattle.shared.specs.declared.shards.denied.CreateDenied.TheVariants.{ByShard, NoShard}
use Rattle.shared.specs.declared.shards.handle.ShardHandle.{ShardHandle}

-- the answer of the shard's `create`, with the file's number among all
abbrev pub numbered : ℕ → ℕ → Result (FileId × Slip) Denied → Result (FileId × Slip) CreateDenied
numbered shards shard (Ok r) = Ok (record { 0 = number_of shards shard r.0.0 }, r.1)
numbered shards shard (Err d) = Err (ByShard d)

-- the answer of the shard's `open`
abbrev pub opened_in : Result (ShardHandle × Slip) Denied → Result (HandleSeen × Slip) Denied
opened_in (Ok r) = Ok (r.0.handle, r.1)
opened_in (Err d) = Err d

-- the answer of the shard's `close_handle`
abbrev pub closed_in : Result Slip (Denied × ShardHandle) → Result Slip (Denied × HandleSeen)
closed_in (Ok slip) = Ok slip
closed_in (Err e) = Err (e.0, e.1.handle)

-- the number of the refusal
abbrev pub create_number : CreateDenied → ℕ
create_number NoShard = 23
create_number (ByShard d) = refusal_number d.refusal
