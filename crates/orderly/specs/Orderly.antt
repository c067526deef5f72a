-- What every step of the cache keeps, whatever bytes its device gives.
use Rattle.std.specs.Prelude.{◌≡◌, ℕ, ◌<◌, true, false, length, Some}
use Rattle.std.specs.FinMap as finmap
use Rattle.pc_types.specs.declared.kind.Kind.TheVariants.{Flush}
use Rattle.machine.specs.State.{Request, State, file_at, handle_file, has_block, is_open, page_count, tags_at}

-- a write of page p of file f by way of block k
abbrev pub write_of : ℕ → ℕ → ℕ → Request
write_of f p k = record { kind = Flush; file = f; page = p; block = k; dropped = false }

-- such a write is in flight
abbrev pub IsUnderWrite : State → ℕ → ℕ → Type 0
IsUnderWrite s f p = (t k : ℕ) × (finmap.get s.requests t ≡ Some (write_of f p k))

-- what every step of the cache keeps, whatever bytes its device gives
pub record IsOrderly (s : State) : Type 0 where
  pub positive : 0 < s.sizes.page
  -- a page with a block is a page of its file
  pub within : (f p : ℕ) → has_block s f p ≡ true → p < page_count s.sizes.page (file_at s f).size
  -- a page under WRITEBACK has its write in flight
  pub flush : (f p : ℕ) → (tags_at s f p).writeback ≡ true → IsUnderWrite s f p
  -- an open handle has a file
  pub handles : (h : ℕ) → is_open s h ≡ true → handle_file s h < length s.files
