-- What calls leave of their caller's seat.
use Rattle.std.specs.Prelude.{◌≡◌, ◌+◌, ◌≤◌, ◌++◌, All, List}
use mathlib.Core.List.{IsPrefix}
use Rattle.trail.specs.declared.entry.Entry.{Entry}
use Rattle.held.specs.Shown.{SeatSeen}
use Rattle.held.specs.Views.{count_of}

-- it is the same seat, and has seen more or as much
pub record Goes (before after : SeatSeen) : Type 0 where
  pub same : (after.table ≡ before.table) × (after.name ≡ before.name) × (after.number ≡ before.number)
  pub grows : IsPrefix before.list after.list
  pub count : before.count ≤ after.count

-- of the entries that it has seen since, its own are such alone, and it counted each
pub record Only (own : Entry → Type 0) (before after : SeatSeen) : Type 0 where
  pub same : after.number ≡ before.number
  pub since : List Entry
  pub saw : after.list ≡ before.list ++ since
  pub made : All (λ e. e.seat ≡ before.number → own e) since
  pub count : after.count ≡ before.count + count_of before.number since

-- it made one event past such
pub record Once (tries : Entry → Type 0) (before after : SeatSeen) : Type 0 where
  pub at : SeatSeen
  pub tried : Only tries before at
  pub last : Only (λ _. Unit {0}) at after
  pub one : after.count ≡ at.count + 1

-- it has seen more or as much, and made nothing
pub record IsShown (before after : SeatSeen) : Type 0 where
  pub same : after ≡ record before { list = after.list }
  pub only : Only (λ _. ⊥) before after
