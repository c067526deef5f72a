-- Inside this crate: the jobs in flight, and the world that they make with the core and the device.
use Rattle.std.specs.Prelude.{◌≡◌, ℕ, ◌<◌, ◌≤◌, Bool, true, false, List, [], ◌∷◌, if◌then◌else◌, length, IfSome, Option}
use Rattle.std.specs.Prelude.{Some}
use Rattle.std.specs.Prelude.{None}
use Rattle.std.specs.Ordering.{nat_cmp}
use Rattle.std.specs.FinMap as finmap
use Rattle.blockdev.specs.Jobs.{Task, IsJobFor}
use Rattle.pc_types.specs.Kinds.{is_flush}
use Rattle.pc_types.specs.declared.limits.TheConstants.{MIN_PAGE_SIZE}
use Rattle.maps.specs.Maps.{filter_map_values}
use Rattle.machine.specs.declared.event.Outcome.{Outcome}
use Rattle.machine.specs.State.{State, Request}
use Rattle.cachecore.specs.Replies.{outcome_of}
use Rattle.world.specs.declared.jobs.Flight.{Flight}
use Rattle.world.specs.declared.jobs.Flight.TheVariants.{Asked, Made}
use Rattle.world.specs.Stepping.{WorldSeen}
use Rattle.blockdev.specs.Watching.{Watch}

-- ---- a job in flight

-- what is asked of the device; where it was done, with the bytes that the buffer was left with
abbrev pub task_of : Flight → Task
task_of (Asked job) = job
task_of (Made f) = record { cache = f.cache; serial = f.serial; kind = f.kind; block = f.block; bytes = f.bytes }

abbrev pub serial_of : Flight → ℕ
serial_of flight = (task_of flight).serial

abbrev pub entry_of : Flight → ℕ × Flight
entry_of flight = (serial_of flight, flight)

-- no key stands twice
abbrev pub EachOnce : {X : Type 0} → List (ℕ × X) → Type 0
EachOnce [] = Unit {0}
EachOnce (e ∷ es) = (finmap.find nat_cmp e.0 es ≡ None) × EachOnce es

-- whether there is a job whose device call is to be made
abbrev pub is_asked : Option Flight → Bool
is_asked (Some (Asked job)) = true
is_asked _ = false

-- how its device call went, where it was made
abbrev pub outcome_in : Flight → Option Outcome
outcome_in (Asked job) = None
outcome_in (Made f) = Some (outcome_of f.kind f.outcome f.bytes)

-- what it writes, where it is a flush
abbrev pub written_by : Flight → Option (List ℕ)
written_by flight = if is_flush (task_of flight).kind then Some (task_of flight).bytes else None

abbrev pub Jobs : Type 0
Jobs = finmap.FinMap nat_cmp Flight

-- ---- the world

abbrev pub seen_of : State → Jobs → Watch → WorldSeen
seen_of core jobs dev =
    record {
      core = core;
      device = dev.device;
      unflushed = dev.unflushed;
      outcomes = filter_map_values outcome_in jobs;
      writing = filter_map_values written_by jobs;
    }

-- a request of this serial, which was given out, and its job
pub record IsJob (core : State) (t : ℕ) (x : Request) (flight : Flight) : Type 0 where
  pub given : t < core.next
  pub fits : IsJobFor core.name core.sizes.blocks core.sizes.page (task_of flight)
  pub serial : (task_of flight).serial ≡ t
  pub kind : (task_of flight).kind ≡ x.kind
  pub block : (task_of flight).block ≡ x.block

-- each request has its job, and no other job is in flight
abbrev pub HasJob : State → ℕ → Option Request → Option Flight → Type 0
HasJob core t (Some x) (Some flight) = IsJob core t x flight
HasJob core t None None = Unit {0}
HasJob core t _ _ = ⊥

-- ---- what always holds

pub record IsWorld (core : State) (jobs : Jobs) (dev : Watch) : Type 0 where
  -- the geometry's least page
  pub page_size : MIN_PAGE_SIZE ≤ core.sizes.page
  pub each_job : (t : ℕ) → HasJob core t (finmap.get core.requests t) (finmap.get jobs t)
  pub count : finmap.len jobs ≡ finmap.len core.requests
  pub block_size : dev.device.size ≡ core.sizes.page
  pub block_count : dev.device.count ≡ core.sizes.blocks

-- a spare buffer has as many bytes as a page
abbrev pub IsSpare : State → Option (List ℕ) → Type 0
IsSpare core spare = IfSome spare (λ buffer. length buffer ≡ core.sizes.page)
