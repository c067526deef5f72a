-- How far a read or a write in parts has come.
use Rattle.std.specs.Prelude.{◌≡◌, ℕ, ◌-◌, ◌≤◌, List, length, take}
use Rattle.pc_types.specs.Files as plain
use Rattle.machine.specs.State.{file_at}
use Rattle.runs.specs.Plain.{plain_file}
use Rattle.filesvc.specs.Seen.{HandleSeen, SoloSeen}
use Rattle.filesvc.specs.Service.{Keeps, Serves, Tells, files}
use Rattle.desk.specs.Seen.{with_file}

-- the first bytes of `out` were read
pub record HasRead (old : SoloSeen) (h : HandleSeen) (offset most : ℕ) (new : SoloSeen) (out : List ℕ) (done : ℕ) : Type 0 where
  pub serves : Serves old new
  pub length : length out ≡ most
  pub within : done ≤ most
  -- the file has them
  pub there : done ≤ (file_at old.world.core h.file).size - offset
  pub bytes : Tells old → take done out ≡ plain.pread (plain_file (files old) h.file) offset done

-- the first of these bytes were written, and nothing else
pub record HasWritten (old : SoloSeen) (h : HandleSeen) (offset : ℕ) (bytes : List ℕ) (new : SoloSeen) (done : ℕ) : Type 0 where
  pub keeps : Keeps old new
  pub within : done ≤ length bytes
  pub file : Tells old → files new ≡ with_file (files old) h.file (plain.pwrite (plain_file (files old) h.file) offset (take done bytes))
  pub none : done ≡ 0 → Tells old → files new ≡ files old
