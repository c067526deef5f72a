-- The tables of a cache, and what a call makes of them: its step of the machine, and what the cache always keeps.
use Rattle.std.proofs.Common.{◌≡◌, ℕ, sym, subst}
use Rattle.std.specs.Ordering.{nat_cmp}
use Rattle.std.specs.FinMap.{FinMap}
use Rattle.pc_types.specs.Limits.{Sizes}
use Rattle.blockmap.specs.Blocks.{Blocks}
use Rattle.writeback.specs.Flights.{Flights}
use Rattle.machine.specs.declared.event.Event.{Event}
use Rattle.machine.specs.declared.event.Reply.{Reply}
use Rattle.machine.specs.State.{State, Sync}
use Rattle.machine.specs.Step.{Step}
use Rattle.pagestore.specs.Store.{Store}
use Rattle.cachecore.specs.Tables.{IsCache, state_of}
use Rattle.cachecore.specs.declared.cache.CacheCore.TheInside.{Inside}

pub record Parts : Type 0 where
  pub sizes : Sizes
  pub name : ℕ
  pub handles : FinMap nat_cmp ℕ
  pub store : Store
  pub blocks : Blocks
  pub flights : Flights
  pub syncs : FinMap nat_cmp Sync

abbrev pub parts_of : Inside → Parts
parts_of i =
    record {
      sizes = i.geometry;
      name = i.name;
      handles = i.handles;
      store = i.pages;
      blocks = i.blocks;
      flights = i.requests;
      syncs = i.syncs;
    }

abbrev pub state_by : Parts → State
state_by x = state_of x.sizes x.name x.store.files x.handles x.blocks x.flights x.syncs

-- what a cache of these parts keeps
abbrev pub IsKept : Parts → Type 0
IsKept x = IsCache (state_by x) x.store x.blocks

pub record Goes (s : State) (e : Event) (r : Reply) (new : Parts) : Type 0 where
  pub step : Step s e r (state_by new)
  pub cache : IsKept new

-- by what the calls of the parts ensure, from the state that callers see
pub goes_to : (s seen : State) → s ≡ seen → (e : Event) (r : Reply) (new now : Parts) → now ≡ new → Goes s e r new
    → Goes seen e r now
goes_to s seen seen_is e r new now is g = subst (λ t. Goes t e r now) seen_is (subst (Goes s e r) (sym is) g)
