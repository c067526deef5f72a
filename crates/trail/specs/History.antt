-- Legal histories: those of the machine, with a seat beside each event.
use Rattle.std.specs.Prelude.{ℕ, List, map}
use Rattle.pc_types.specs.Limits.{Sizes}
use Rattle.machine.specs.Catalogs.{Catalog, IsCatalog}
use Rattle.machine.specs.declared.event.Event.{Event}
use Rattle.machine.specs.declared.event.Reply.{Reply}
use Rattle.machine.specs.History as machine
use Rattle.machine.specs.State.{State}
use Rattle.trail.specs.declared.entry.Entry.{Entry}

-- what the machine sees of an entry
abbrev pub seatless : Entry → Event × Reply
seatless e = (e.event, e.reply)

-- the entries are steps of the machine, one after the other, from a cache with these files that stand on its device, and
-- this is the state at the end. There is at most one: an event and its reply settle the state
abbrev pub After : Catalog → Sizes → ℕ → List Entry → State → Type 0
After files sizes name history new =
    IsCatalog sizes files × machine.AfterFiles files sizes name (map seatless history) new

abbrev pub IsLegal : Catalog → Sizes → ℕ → List Entry → Type 0
IsLegal files sizes name history = (new : State) × After files sizes name history new
