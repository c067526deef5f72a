-- What holds of a cache with its history, between its calls.
use Rattle.std.specs.Prelude.{◌≡◌, true}
use Rattle.machine.specs.Catalogs.{Catalog}
use Rattle.machine.specs.State.{State}
use Rattle.trail.specs.History.{After}
use Rattle.trail.specs.Room.{keeps_room, reserved}
use Rattle.held.specs.Shown.{LogSeen}

pub record IsHeld (files : Catalog) (log : LogSeen) (core : State) : Type 0 where
  -- the history is legal from these files on, and the core is what it leaves
  pub history : After files core.sizes core.name log.history core
  pub name : log.name ≡ core.name
  -- the trail has room for the ends of what is in flight
  pub room : keeps_room log.room core.sizes.page (reserved core) ≡ true
