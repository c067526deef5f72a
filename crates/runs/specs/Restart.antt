-- A cache that begins where another ended: over the same device, with the files as they stand there.
use Rattle.std.specs.Prelude.{◌≡◌, ℕ, false, length}
use Rattle.std.specs.FinMap as map
use Rattle.machine.specs.State.{State, tags_at}
use Rattle.machine.specs.Catalogs.{IsCatalog, adopted, catalog_of}
use Rattle.runs.specs.Seen.{files_seen}
use Rattle.runs.specs.World.{World}
use Rattle.runs.specs.Runs.{Adopts, EveryRun, last, plain_at}

-- no page is DIRTY or under WRITEBACK, as where each file was synced since it was last written
abbrev pub IsClean : State → Type 0
IsClean s = (f p : ℕ) → ((tags_at s f p).dirty ≡ false) × ((tags_at s f p).writeback ≡ false)

-- the world of a cache of this name that begins with the files of w. It may have other frames and another dirty limit. No
-- device call of the old cache is under way any more
abbrev pub restarted : World → ℕ → ℕ → ℕ → World
restarted w frames dirty_limit name =
    record {
      core = adopted (record w.core.sizes { frames = frames; dirty_limit = dirty_limit }) name (catalog_of w.core);
      device = w.device;
      outcomes = map.empty;
      writing = map.empty;
    }

-- where a run ends clean, a run may begin with the catalog of its end, and with the same plain files. So a read of that run
-- answers what they have (`ReadsAreRight`)
abbrev pub RunsMayRestart : Type 0
RunsMayRestart = EveryRun (λ w run. (frames dirty_limit name : ℕ) → IsClean (last w run).core
    → let new = restarted (last w run) frames dirty_limit name in
    IsCatalog new.core.sizes (catalog_of (last w run).core)
    × Adopts (catalog_of (last w run).core) new
    × ((files_seen new).files ≡ (plain_at w run (length run)).files))
