-- What holds of the state under its lock.
use Rattle.std.specs.Prelude.{◌≡◌, ℕ, List, [], ◌∷◌, length}
use Rattle.atomic_table.specs.Seated.{TableId}
use Rattle.errboard.specs.Shown.{RecorderSeen}
use Rattle.errboard.specs.Views.{files, recorded_of}
use Rattle.pc_types.specs.Limits.{Sizes}
use Rattle.machine.specs.State.{State, file_at}
use Rattle.trail.specs.declared.entry.Entry.{Entry}
use Rattle.trail.specs.Entries.{bytes_in}
use Rattle.trail.specs.Room.{Room, less}
use Rattle.held.specs.Shown.{HeldSeen}

-- each failed write of a file that the state counts is recorded, and no other
pub record AreTold (s : State) (e : RecorderSeen) : Type 0 where
  pub lists : length e.all ≡ files
  pub counted : (f : ℕ) → length (recorded_of e.all f) ≡ (file_at s f).failures

-- the room that is left of this much after a history
abbrev pub room_after : Room → List Entry → Room
room_after whole [] = whole
room_after whole (e ∷ es) = room_after (less whole (bytes_in e)) es

-- it is the cache of this name and these sizes, with these tables behind its seats and its error board. It made so many seats,
-- and its trail had this much room at first
pub record IsLocked (called : ℕ) (table board : TableId) (sizes : Sizes) (made : ℕ) (whole : Room) (h : HeldSeen) : Type 0 where
  pub named : h.log.name ≡ called
  pub seats : h.log.table ≡ table
  pub errors : h.errors.board ≡ board
  pub sized : h.core.state.sizes ≡ sizes
  pub counted : h.log.made ≡ made
  pub told : AreTold h.core.state h.errors
  pub room : h.log.room ≡ room_after whole h.log.history
