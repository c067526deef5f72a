-- Every legal history leaves few files.
use Rattle.std.proofs.Common.{◌≤◌, List, length, map}
use Rattle.pc_types.specs.declared.limits.TheConstants.{MAX_FILES}
use Rattle.machine.specs.Catalogs.{Catalog}
use Rattle.machine.specs.State.{State}
use Rattle.orderly.proofs.Legal.{legal_few}
use Rattle.trail.specs.declared.entry.Entry.{Entry}
use Rattle.trail.specs.History.{After, seatless}

pub few_files : (files : Catalog) (history : List Entry) (s : State) → After files s.sizes s.name history s → length s.files ≤ MAX_FILES
few_files files history s h = legal_few files s.sizes s.name (map seatless history) s h.0 h.1
