-- What contracts see of the sides, and of a request whose device call was made.
use Rattle.std.specs.Prelude.{◌≡◌, ℕ, Bool, true, false, List, [], count_by, map, replicate, slice_get, slice_set, sum_by, Option, Some, None}
use Rattle.atomic_table.specs.Seated.{TableId}
use Rattle.blockdev.specs.Blocks.{block_at}
use Rattle.blockdev.specs.Device.{Told}
use Rattle.blockdev.specs.Jobs.{Task, FinishedTask}
use Rattle.deeds.specs.declared.views.Block.{Block}
use Rattle.deeds.specs.declared.views.Given.{Given}
use Rattle.deeds.specs.declared.views.Place.{Place}
use Rattle.deeds.specs.declared.views.Place.TheVariants.{Home, Out}
use Rattle.deeds.specs.Comes.{Comes}

abbrev pub no_table : TableId
no_table = record { words = 0; slots = 0; views_name = 0; atom = 0; block = 0; offset = 0; slot_names = [] }

-- a block of which no call was made yet
abbrev pub uncalled : List ℕ → Block
uncalled bytes = record { bytes = bytes; calls = 0 }

-- the bytes of blocks
abbrev pub bytes_of : List Block → List (List ℕ)
bytes_of blocks = map (λ (b : Block). b.bytes) blocks

-- the calls that were made of them
abbrev pub calls_of : List Block → ℕ
calls_of blocks = sum_by (λ (b : Block). b.calls) blocks

-- both sides, before a type names them: the table behind them, whether the device tells its contents, and the blocks
pub record OpenedSeen : Type 0 where
  pub table : TableId
  pub told : Bool
  pub blocks : List (List ℕ)

-- a job with a deed, before a type names it: the job, and the table behind the deed
pub record ParcelSeen : Type 0 where
  pub task : Task
  pub table : TableId

-- all deeds are at home but one, which is lent
pub record OneOut (blocks : List Block) (places : List Place) : Type 0 where
  pub given : Given
  pub was : slice_get blocks given.task.block ≡ Some given.before
  pub out : places ≡ slice_set (map Home blocks) given.task.block (Out given)

-- a deed comes home: it was out for what the desk says, what came of its call may come of that, and the desk has what the
-- call left of the block
pub record Settles (told : Bool) (before : List Place) (finished : FinishedTask) (after : List Place) : Type 0 where
  pub given : Given
  pub left : Block
  pub out : slice_get before finished.block ≡ Some (Out given)
  pub comes : Comes told given.task given.before finished left
  pub home : after ≡ slice_set before finished.block (Home left)

-- the bytes of a block, where they are told
abbrev pub told_at : Option (List (List ℕ)) → ℕ → List ℕ
told_at None block = []
told_at (Some blocks) block = block_at blocks block

-- where the device tells its contents, they are these
abbrev pub AreTold : Bool → Told → List (List ℕ) → Type 0
AreTold told device blocks = told ≡ true → device.contents ≡ Some blocks

-- the blocks that a device tells, and of one that tells none as many without bytes
abbrev pub found_in : Option (List (List ℕ)) → ℕ → List (List ℕ)
found_in None count = replicate count []
found_in (Some blocks) count = blocks

-- what the desk knows of a block: what the device has of it, or had when its deed was given
abbrev pub known_of : Place → Block
known_of (Home now) = now
known_of (Out g) = g.before

abbrev pub known : List Place → List Block
known places = map known_of places

-- how many deeds are out
abbrev pub is_out : Place → Bool
is_out (Home now) = false
is_out (Out g) = true

abbrev pub out_count : List Place → ℕ
out_count places = count_by is_out places
