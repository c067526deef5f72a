-- What callers see of a handle and of a failed write.
use Rattle.std.specs.Prelude.{ℕ, Bool}
use Rattle.errboard.specs.Shown.{PassSeen, ReceiptSeen}
use Rattle.pc_types.specs.declared.ids.FileId.{FileId}
use Rattle.pc_types.specs.declared.ids.HandleId.{HandleId}

-- the name of its cache, its file, its number, its cursor, whether writes go to the end of the file, and what it was told
-- of failed writes
pub record HandleSeen : Type 0 where
  pub cache : ℕ
  pub file : FileId
  pub number : HandleId
  pub cursor : ℕ
  pub append : Bool
  pub pass : PassSeen

-- the name of the cache, and the receipt of the recording
pub record FailedSeen : Type 0 where
  pub cache : ℕ
  pub receipt : ReceiptSeen
