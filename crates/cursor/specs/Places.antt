-- Where a cursor is to be put.
use Rattle.std.specs.Prelude.{ℕ, ℤ, pos, negsuc, ◌+ℤ◌, nat_le, if◌then◌else◌, Result, Ok, Err}
use Rattle.pc_types.specs.declared.limits.TheConstants.{MAX_FILE_SIZE}
use Rattle.pc_types.specs.declared.refusal.Refusal.{Refusal}
use Rattle.pc_types.specs.declared.refusal.Refusal.TheVariants.{TooLarge}
use Rattle.cursor.specs.declared.seek.Seek.{Seek}
use Rattle.cursor.specs.declared.seek.Seek.TheVariants.{Set, Cur, End}

-- the place, with this cursor in a file of this size
abbrev pub target : Seek → ℕ → ℕ → ℤ
target (Set n) cursor size = pos n
target (Cur d) cursor size = pos cursor +ℤ d
target (End d) cursor size = pos size +ℤ d

-- a cursor may stand from 0 to the greatest size of a file
abbrev pub placed : ℤ → Result ℕ Refusal
placed (pos n) = if nat_le n MAX_FILE_SIZE then Ok n else Err TooLarge
placed (negsuc n) = Err TooLarge
