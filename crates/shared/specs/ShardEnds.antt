-- What the end of a cache of shards gives.
use Rattle.std.specs.Prelude.{◌≡◌, ◌<◌, ◌≤◌, ◌+◌, ◌-◌, All, ℕ, List, Option, Some, true, [], length, map, min, slice_get, take, Vec, vec_capacity, vec_len}
use mathlib.Core.List.{IsPrefix}
use Rattle.blockdev.specs.Device.{Told}
use Rattle.held.specs.Shown.{SeatSeen}
use Rattle.held.specs.Views.{AreOfSeats, count_of}
use Rattle.machine.specs.State.{State}
use Rattle.shared.specs.Keeps.{IsCalledFor, IsDisk, IsLeftBy}
use Rattle.shared.specs.ShardNames.{CacheNames}
use Rattle.shared.specs.ShardSeats.{AreSeated, IsSeated, part}
use Rattle.shared.specs.ShardWorkers.{AllFrom, AreWorkers}
use Rattle.shared.specs.Workers.{Drained}
use Rattle.shared.specs.declared.shards.close.Closed.{Closed}
use Rattle.shared.specs.declared.shards.close.Ends.{Ends}
use Rattle.shared.specs.declared.worker.Worker.{Worker}
use Rattle.trail.specs.History.{After}
use Rattle.trail.specs.declared.entry.Entry.{Entry}

-- a shard's cache came to its end, with this core, this device, and a trail that has these histories and this cache's name. All that
-- its seats had seen is in one of them, and so many of their events; its own worker emptied the ring
pub record IsClosed (n : CacheNames) (own : Worker) (seats : List SeatSeen) (records : List Entry → Type 0) (cache : Option ℕ) (core : State)
    (device : Told) : Type 0 where
  pub named : core.name ≡ n.name
  pub sized : core.sizes ≡ n.sizes
  pub disk : IsDisk n.sizes device
  pub history : List Entry
  pub recorded : records history
  pub of : cache ≡ Some n.name
  pub leaves : After n.files n.sizes n.name history core
  pub drained : Drained own history core
  pub seen : All (λ s. IsPrefix s.list history × (s.count ≡ count_of s.number history)) seats
  pub left : n.told ≡ true → IsLeftBy n.files n.sizes n.name n.blocks history core device
  pub called : IsCalledFor n.calls history core device
  pub others : AreOfSeats n.seats history

-- nothing yet, with room for so many
abbrev pub IsRoomOf : {X Z : Type 0} → ℕ → Vec X Z → Type 0
IsRoomOf count v = (v.items ≡ []) × (count ≤ vec_capacity v)

-- nothing yet, with room for as many columns of so many seats as there are shards, and for what these leave
pub record IsRoomFor (shards callers : ℕ) {D T : Type 0} (ends : Ends D T) : Type 0 where
  pub columns : (vec_len ends.columns ≡ shards) × All (IsRoomOf callers) ends.columns.items
  pub closed : (ends.closed.items ≡ []) × (shards ≤ vec_capacity ends.closed)

-- a worker of each shard is there, and so many callers as have seats, each with a seat at each shard
pub record HasAll (shards : ℕ) (names : ℕ → CacheNames) (own : List Worker) (seats : List (List SeatSeen)) : Type 0 where
  pub workers : (length own ≡ shards) × AreWorkers names own
  pub callers : (k : ℕ) → k < shards → (names k).seats ≡ length seats + 1
  pub came : All (IsSeated shards names) seats
  pub tables : All (AreSeated names) seats

-- the cache of this shard came to its end by its own of these workers, with its column of these seats, and left this
abbrev pub ClosesAt : {D T : Type 0} → (ℕ → CacheNames) → (T → List Entry → Type 0) → (T → Option ℕ) → (D → Told) → List Worker
    → List (List SeatSeen) → ℕ → Closed D T → Type 0
ClosesAt names records cache told own seats k c =
    (w : Worker) × (slice_get own k ≡ Some w)
    × IsClosed (names k) w (map (λ s. part s k) seats) (records c.trail) (cache c.trail) c.core.state (told c.device)

-- of so many shards those from this one on have ended, the last first, of these workers and these seats: so much is left of the workers
-- and of each caller's seats, and `ends` has what the shards left, in order, and room for the others
pub record HasEndedFrom (k shards : ℕ) (names : ℕ → CacheNames) {D T : Type 0} (records : T → List Entry → Type 0) (cache : T → Option ℕ)
    (told : D → Told) (own : List Worker) (seats : List (List SeatSeen)) (others : List Worker) (rest : List (List SeatSeen))
    (ends : Ends D T) : Type 0 where
  pub workers : others ≡ take k own
  pub rows : rest ≡ map (take k) seats
  pub columns : (vec_len ends.columns ≡ min shards k) × All (IsRoomOf (length seats)) ends.columns.items
  pub closed : AllFrom (ClosesAt names records cache told own seats) k ends.closed.items
  pub count : vec_len ends.closed ≡ shards - k
  pub spare : shards ≤ vec_capacity ends.closed
