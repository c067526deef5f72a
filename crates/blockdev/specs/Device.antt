-- What a device tells of itself, and what a read or a write does to it.
use Rattle.std.specs.Prelude.{◌≡◌, ℕ, ◌+◌, ◌<◌, ◌⊎◌, List, [], ◌∷◌, length, drop, slice_get, slice_set, All, Option, Some, None, option_map, IfSome, Result, Ok, Err, OnOk, OnErr}
use Rattle.blockdev.specs.declared.fault.Fault.{Fault}
use Rattle.blockdev.specs.declared.fault.FaultEffect.{FaultEffect}
use Rattle.blockdev.specs.declared.fault.FaultEffect.TheVariants.{Old, New}
use Rattle.blockdev.specs.Blocks.{block_at, zero_blocks}

-- what is told of a device
pub record Told : Type 0 where
  -- bytes of a block
  pub size : ℕ
  -- how many blocks
  pub count : ℕ
  -- the bytes of each block, or nothing where the device does not tell them
  pub contents : Option (List (List ℕ))
  -- the fault of each call to come, if it is to fail; calls past the end succeed. Nothing where the device does not tell
  pub plan : Option (List (Option Fault))
  -- the bytes of each block that would be left if the power went, or nothing where the device does not tell them
  pub durable : Option (List (List ℕ))
  -- the code with which the next flush is to fail, if it is to; those after it succeed. Nothing where the device does not tell
  pub flush_plan : Option (Option ℕ)
  -- reads and writes that were made
  pub calls : ℕ
  -- flushes that were made
  pub flushes : ℕ
  -- reads, writes and flushes that failed
  pub faults : ℕ

-- the contents that are told are `count` blocks of `size` bytes
abbrev pub IsSized : Told → Type 0
IsSized d = IfSome d.contents (λ blocks. (length blocks ≡ d.count) × All (λ bytes. length bytes ≡ d.size) blocks)

-- zeros, no call made and none to fail
abbrev pub fresh : ℕ → ℕ → Told
fresh size count =
    record { size = size; count = count; contents = Some (zero_blocks size count); plan = Some []; durable = Some (zero_blocks size count); flush_plan = Some None; calls = 0; flushes = 0; faults = 0 }

-- the most calls that are counted, and the most flushes
abbrev pub max_calls : ℕ
max_calls = 18446744073709551615

-- how a call ends
abbrev pub Outcome : Type 0
Outcome = Result (Unit {0}) ℕ

-- the fault of the next call
abbrev pub next_fault : List (Option Fault) → Option Fault
next_fault [] = None
next_fault (fault ∷ plan) = fault

-- the answer of a call with this fault
abbrev pub answer : Option Fault → Outcome
answer None = Ok tt
answer (Some fault) = Err fault.code

-- the contents with one block changed
abbrev pub with_block : Option (List (List ℕ)) → ℕ → List ℕ → Option (List (List ℕ))
with_block contents b bytes = option_map (λ (blocks : List (List ℕ)). slice_set blocks b bytes) contents

-- what a fault of a write leaves, of the old contents and those with the new bytes
abbrev pub kept : FaultEffect → Option (List (List ℕ)) → Option (List (List ℕ)) → Option (List (List ℕ))
kept Old old written = old
kept New old written = written

-- what a write leaves that ends with this fault, or without one
abbrev pub left_by : Option Fault → Option (List (List ℕ)) → Option (List (List ℕ)) → Option (List (List ℕ))
left_by None old written = written
left_by (Some fault) old written = kept fault.effect old written

-- a block of what is told
abbrev pub told_at : Option (List (List ℕ)) → ℕ → Option (Option (List ℕ))
told_at told b = option_map (λ (blocks : List (List ℕ)). slice_get blocks b) told

-- what is durable of each block after a call: what was, or what the device held of it before the call or after it. A device may
-- make a write durable at any time
abbrev pub Settles : Told → Told → Type 0
Settles old new = (b : ℕ) → (told_at new.durable b ≡ told_at old.durable b)
    ⊎ ((told_at new.durable b ≡ told_at old.contents b) ⊎ (told_at new.durable b ≡ told_at new.contents b))

-- what every call does: the device before it, the answer, the device after it
pub record Calls (old : Told) (r : Outcome) (new : Told) : Type 0 where
  pub size : new.size ≡ old.size
  pub count : new.count ≡ old.count
  pub durable : Settles old new
  -- it is no flush
  pub flush_plan : new.flush_plan ≡ old.flush_plan
  pub flushes : new.flushes ≡ old.flushes
  -- each call is counted
  pub calls : old.calls < max_calls → new.calls ≡ old.calls + 1
  -- a fault is counted exactly where one is answered
  pub well : OnOk r (new.faults ≡ old.faults)
  pub faults : old.calls < max_calls → OnErr r (new.faults ≡ old.faults + 1)
  -- the call went as the plan told, and the plan moved on
  pub planned : old.calls < max_calls → IfSome old.plan (λ plan. r ≡ answer (next_fault plan))
  pub plan : old.calls < max_calls → new.plan ≡ option_map (drop 1) old.plan
  -- a call that can't be counted fails as an input or output error, and changes nothing
  pub exhausted : old.calls ≡ max_calls → (r ≡ Err 5) × (new ≡ old)

-- a read of a block into a slice that held `before` and then holds `after`
pub record Reads (old : Told) (block : ℕ) (before : List ℕ) (r : Outcome) (after : List ℕ) (new : Told) : Type 0 where
  pub call : Calls old r new
  pub contents : new.contents ≡ old.contents
  pub bytes : OnOk r (IfSome old.contents (λ blocks. after ≡ block_at blocks block))
  pub failed : OnErr r (after ≡ before)

-- a write of bytes to a block
pub record Writes (old : Told) (block : ℕ) (bytes : List ℕ) (r : Outcome) (new : Told) : Type 0 where
  pub call : Calls old r new
  pub written : OnOk r (new.contents ≡ with_block old.contents block bytes)
  -- one that fails took effect whole or not at all
  pub whole : OnErr r ((new.contents ≡ old.contents) ⊎ (new.contents ≡ with_block old.contents block bytes))
  -- and did as the plan told
  pub effect : old.calls < max_calls → IfSome old.plan (λ plan. new.contents ≡ left_by (next_fault plan) old.contents (with_block old.contents block bytes))

-- how a flush ends that is to fail with this code, or not at all
abbrev pub flush_answer : Option ℕ → Outcome
flush_answer None = Ok tt
flush_answer (Some code) = Err code

-- a flush: where it ends well, what was written before it is durable
pub record Flushes (old : Told) (r : Outcome) (new : Told) : Type 0 where
  -- it is no read and no write
  pub same : new ≡ record old { durable = new.durable; flush_plan = new.flush_plan; flushes = new.flushes; faults = new.faults }
  pub durable : OnOk r (new.durable ≡ old.contents)
  pub failed : OnErr r (Settles old new)
  -- each flush is counted
  pub flushes : old.flushes < max_calls → new.flushes ≡ old.flushes + 1
  -- a fault is counted exactly where one is answered
  pub well : OnOk r (new.faults ≡ old.faults)
  pub faults : old.flushes < max_calls → OnErr r (new.faults ≡ old.faults + 1)
  -- the flush went as the plan told, and the plan moved on
  pub planned : old.flushes < max_calls → IfSome old.flush_plan (λ fault. r ≡ flush_answer fault)
  pub plan : old.flushes < max_calls → new.flush_plan ≡ option_map (λ fault. None) old.flush_plan
  -- a flush that can't be counted fails as an input or output error, and changes nothing
  pub exhausted : old.flushes ≡ max_calls → (r ≡ Err 5) × (new ≡ old)
