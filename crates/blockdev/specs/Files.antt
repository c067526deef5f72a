-- A file of bytes, and what is seen of a device over it.
use Rattle.std.specs.Prelude.{ℕ, ◌+◌, Bool, false, List, ◌++◌, length, take, drop, Option, None, option_map}
use Rattle.blockdev.specs.Blocks.{blocks_of}
use Rattle.blockdev.specs.Device.{Told}

-- as many bytes from an offset on
abbrev pub bytes_at : List ℕ → ℕ → ℕ → List ℕ
bytes_at all offset n = take n (drop offset all)

-- the bytes that are told, with others in place of those from an offset on
abbrev pub put_at : Option (List ℕ) → ℕ → List ℕ → Option (List ℕ)
put_at told offset these = option_map (λ (all : List ℕ). take offset all ++ (these ++ drop (offset + length these) all)) told

-- the bytes that are told, cut into blocks
abbrev pub told_blocks : ℕ → ℕ → Option (List ℕ) → Option (List (List ℕ))
told_blocks size count told = option_map (blocks_of size count) told

-- what is seen of a device over a file: what it tells, and whether a flush of it failed
pub record FileSeen : Type 0 where
  pub told : Told
  pub is_broken : Bool

-- a device over a file that tells these bytes, and these as synced. No call was made, and of those to fail nothing is told
abbrev pub over_file : ℕ → ℕ → Option (List ℕ) → Option (List ℕ) → FileSeen
over_file size count bytes synced = record {
  told = record { size = size; count = count; contents = told_blocks size count bytes; plan = None; durable = told_blocks size count synced; flush_plan = None; calls = 0; flushes = 0; faults = 0 };
  is_broken = false;
}

-- a file in memory: its bytes, those at its last sync that went well, and whether its next sync is to fail
pub record MemSeen : Type 0 where
  pub bytes : List ℕ
  pub synced : List ℕ
  pub is_failing : Bool
