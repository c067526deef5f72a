-- What contracts see of the locked state and of a seat.
use Rattle.std.specs.Prelude.{◌≡◌, ℕ, ◌<◌, List, [], length, slice_index_or}
use Rattle.atomic_table.specs.Seated.{TableId}
use Rattle.atomic_table.specs.Table.{Me}
use Rattle.cachecore.specs.Core.{Core}
use Rattle.errboard.specs.Shown.{RecorderSeen}
use Rattle.trail.specs.Room.{Room}
use Rattle.trail.specs.declared.entry.Entry.{Entry}
use Rattle.held.specs.declared.views.View.{View}
use Rattle.held.specs.declared.views.View.TheVariants.{Keeper, Holds, Seat}

-- the table of a history, the name of its cache, its entries, the room that is left, and how many seats it made
pub record LogSeen : Type 0 where
  pub table : TableId
  pub name : ℕ
  pub history : List Entry
  pub room : Room
  pub made : ℕ

-- the history, the core, and the failed writes that were recorded
pub record HeldSeen : Type 0 where
  pub log : LogSeen
  pub core : Core
  pub errors : RecorderSeen

-- the table of a seat, the name of its state, its number, its list (a beginning of the trail), and how many entries it
-- made
pub record SeatSeen : Type 0 where
  pub table : TableId
  pub name : ℕ
  pub number : ℕ
  pub list : List Entry
  pub count : ℕ

abbrev pub all_of : View → List Entry
all_of (Keeper all made) = all
all_of (Holds all made number list count) = all
all_of v = []

abbrev pub made_of : View → ℕ
made_of (Keeper all made) = made
made_of (Holds all made number list count) = made
made_of v = 0

abbrev pub number_in : View → ℕ
number_in (Holds all made number list count) = number
number_in (Seat number list count) = number
number_in v = 0

abbrev pub list_of : View → List Entry
list_of (Holds all made number list count) = list
list_of (Seat number list count) = list
list_of v = []

abbrev pub count_in : View → ℕ
count_in (Holds all made number list count) = count
count_in (Seat number list count) = count
count_in v = 0

abbrev pub IsKeeper : Me ℕ View → Type 0
IsKeeper me = me ≡ (Keeper (all_of me.0) (made_of me.0), [])

abbrev pub IsSeat : Me ℕ View → Type 0
IsSeat me = me ≡ (Seat (number_in me.0) (list_of me.0) (count_in me.0), [])

-- seats numbered from 0, of one state, that have seen and made nothing
abbrev pub IsFresh : TableId → ℕ → SeatSeen → ℕ → Type 0
IsFresh table name s number = (s.table ≡ table) × (s.name ≡ name) × (s.number ≡ number) × (s.list ≡ []) × (s.count ≡ 0)

abbrev pub AreFresh : TableId → ℕ → List SeatSeen → Type 0
AreFresh table name seats = (k : ℕ) (d : SeatSeen) → k < length seats → IsFresh table name (slice_index_or seats k d) k
