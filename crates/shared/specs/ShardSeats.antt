-- A caller's seats, one at each shard.
use Rattle.std.specs.Prelude.{◌≤◌, IfErr, OnOk, Result, ◌≡◌, ◌<◌, ◌&&◌, ◌==◌, ℕ, Bool, List, [], length, nat_lt, slice_index_or, slice_set}
use mathlib.Core.List.{IsPrefix}
use Rattle.held.specs.Names.{no_table}
use Rattle.held.specs.declared.log.Slip.{Slip}
use Rattle.pc_types.specs.declared.refusal.Refusal.{Refusal}
use Rattle.pc_types.specs.declared.refusal.Refusal.TheVariants.{Stranger}
use Rattle.held.specs.Shown.{IsFresh, SeatSeen}
use Rattle.shared.specs.ShardNames.{CacheNames, names_at}

abbrev pub no_seat : SeatSeen
no_seat = record { table = no_table; name = 0; number = 0; list = []; count = 0 }

-- the seat at this shard
abbrev pub part : List SeatSeen → ℕ → SeatSeen
part seats k = slice_index_or seats k no_seat

-- whether there is a seat at this shard, and it is of the cache of this name
abbrev pub is_of : ℕ → List SeatSeen → ℕ → Bool
is_of name seats k = nat_lt k (length seats) && ((part seats k).name == name)

-- no seat but that at this shard changed
abbrev pub OnlyAt : ℕ → List SeatSeen → List SeatSeen → Type 0
OnlyAt k before after = after ≡ slice_set before k (part after k)

-- each seat that has the name of its shard's cache has its table
abbrev pub AreSeated : (ℕ → CacheNames) → List SeatSeen → Type 0
AreSeated names seats =
    (k : ℕ) → k < length seats → (part seats k).name ≡ (names k).name → (part seats k).table ≡ (names k).table

-- the caller of this number has a seat of the same number at each of these caches, which has entered and seen nothing
pub record AreOf (number : ℕ) (names : List CacheNames) (seats : List SeatSeen) : Type 0 where
  pub count : length seats ≡ length names
  pub each : (k : ℕ) → k < length names → let n = names_at names k in IsFresh n.table n.name (part seats k) number

-- so has each caller, in order of their numbers
abbrev pub AreCallers : List CacheNames → List (List SeatSeen) → Type 0
AreCallers names rows = (i : ℕ) (d : List SeatSeen) → i < length rows → AreOf i names (slice_index_or rows i d)

-- a seat at each of so many shards, of the shard's cache
abbrev pub IsSeated : ℕ → (ℕ → CacheNames) → List SeatSeen → Type 0
IsSeated shards names seats = (length seats ≡ shards) × ((k : ℕ) → k < shards → (part seats k).name ≡ (names k).name)

-- the seat was shown the slip's entry, or there is no such entry; it entered nothing
pub record Sees (slip : Slip) (before after : SeatSeen) (result : Result Unit Refusal) : Type 0 where
  pub same : (after.table ≡ before.table) × (after.name ≡ before.name) × (after.number ≡ before.number) × (after.count ≡ before.count)
  pub grows : IsPrefix before.list after.list
  pub ok : OnOk result (slip.place < length after.list)
  pub err : IfErr result (λ e. (e ≡ Stranger) × (length after.list ≤ slip.place))

-- it is the same seat: it entered nothing, and has seen more or as much
pub record SeesMore (before after : SeatSeen) : Type 0 where
  pub same : (after.table ≡ before.table) × (after.name ≡ before.name) × (after.number ≡ before.number) × (after.count ≡ before.count)
  pub grows : IsPrefix before.list after.list
