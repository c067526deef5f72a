-- What a sync of a file does next, and what it answers of failed writes, in the words of the machine.
use Rattle.std.specs.Prelude.{◌≡◌, ◌≢◌, ℕ, true, false, List, find, is_some, Option, Some, None, option_map, unwrap_or}
use Rattle.std.specs.Prelude.{slice_index_or, IsTrue, if◌then◌else◌}
use Rattle.std.specs.FinMap as map
use Rattle.pc_types.specs.Limits.{is_err_code}
use Rattle.writeback.specs.declared.picks.SyncStep.{SyncStep}
use Rattle.writeback.specs.declared.picks.SyncStep.TheVariants.{Await, Held, Over, Start}
use Rattle.writeback.specs.Flights.{Flights, first_awaited}
use Rattle.machine.specs.State.{File, Page, Sync, no_file}
use Rattle.machine.specs.Changes.{is_left}

-- how many writes of a file failed, and the code of the last
abbrev pub failed_of : List File → ℕ → ℕ × ℕ
failed_of files f = ((slice_index_or files f no_file).failures, (slice_index_or files f no_file).last_code)

-- where there are other failures than these, the last has a code
abbrev pub IsCoded : ℕ × ℕ → ℕ → Type 0
IsCoded failed since = failed.0 ≢ since → IsTrue (is_err_code failed.1)

-- the code of the last, where there are others
abbrev pub FailedSince : ℕ × ℕ → ℕ → Option ℕ → Type 0
FailedSince failed since None = failed.0 ≡ since
FailedSince failed since (Some code) = (failed.0 ≢ since) × (code ≡ failed.1)

-- the lowest page of the file that a sync y has left to start
abbrev pub left_of : File → Sync → Option (ℕ × Page)
left_of file y = if is_some y.bound then None else find (is_left y) (map.entries file.pages)

-- the serial below which it awaits the flushes of the file
abbrev pub bound_now : Flights → Sync → ℕ
bound_now t y = unwrap_or y.bound t.next

-- What a sync y of file f does next. Start and Held name the lowest page that it has left, and differ by whether a
-- write of it
-- is in flight. Await and Over say that none is left, and whether there is a request to await: Await names the bound
-- and the
-- page of the first.
abbrev pub SyncSays : ℕ → File → Flights → Sync → SyncStep → Type 0
SyncSays f file t y (Start g) = (page : Page) × (left_of file y ≡ Some (g.page.0, page)) × (page.tags.writeback ≡ false)
SyncSays f file t y (Held p) = (page : Page) × (left_of file y ≡ Some (p.0, page)) × (page.tags.writeback ≡ true)
SyncSays f file t y (Await p b) =
    (left_of file y ≡ None) × (b.0 ≡ bound_now t y)
    × (option_map (λ e. e.1.page) (first_awaited f y b.0 t.requests) ≡ Some p.0)
SyncSays f file t y Over = (left_of file y ≡ None) × (first_awaited f y (bound_now t y) t.requests ≡ None)
