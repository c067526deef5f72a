-- Which page is written next, and what becomes of its tags. A sync first tags each DIRTY page with TOWRITE, so that
-- callers who keep dirtying pages cannot prolong it (Linux: tag_pages_for_writeback and write_cache_pages).
use Rattle.std.specs.Prelude.{ℕ, ◌<◌, Bool, if◌then◌else◌, Option, Some, None, find}
use Rattle.std.specs.FinMap as map
use Rattle.mapping.specs.Pages.{Mapped, Pages, found, with_tags, within}
use Rattle.writeback.specs.declared.picks.SyncStep.{SyncStep}
use Rattle.writeback.specs.declared.picks.SyncStep.TheVariants.{Await, Held, Over, Start}
use Rattle.machine.specs.PageTags as tags
use Rattle.machine.specs.State.{Request, Sync}
use Rattle.writeback.specs.Flights.{Flights, first_awaited}

-- ---- picking

-- a page to flush
abbrev pub is_flushable : ℕ × Mapped → Bool
is_flushable e = tags.is_flushable e.1.tags

-- the lowest of them
abbrev pub flush_pick : Pages → Option (ℕ × Mapped)
flush_pick pages = find is_flushable (map.entries pages)

-- a page that a sync has left to start
abbrev pub is_left : Sync → ℕ × Mapped → Bool
is_left y e = tags.is_left y e.0 e.1.tags

-- the lowest of them
abbrev pub sync_pick : Pages → Sync → Option (ℕ × Mapped)
sync_pick pages y = find (is_left y) (map.entries pages)

-- ---- tags

-- a sync of the pages from `first` to `last` began
abbrev pub to_write : ℕ → ℕ → ℕ → Mapped → Mapped
to_write first last p page = record page { tags = tags.to_write (within first last p) page.tags }

-- a page whose write ended, well or not
abbrev pub after_write : Bool → Mapped → Mapped
after_write failed page = record page { tags = tags.after_write failed page.tags }

-- a page whose write began and ended in one
abbrev pub written_through : Bool → Mapped → Mapped
written_through failed page = after_write failed (with_tags tags.under_write page)

-- ---- a step of a sync y of file f

-- it has nothing to start: it waits for the first write that it awaits, or is over where there is none
abbrev pub settled : ℕ → Option (ℕ × Request) → SyncStep
settled bound None = Over
settled bound (Some e) = Await (record { 0 = e.1.page }) (record { 0 = bound })

abbrev pub waits : ℕ → Sync → ℕ → Flights → SyncStep
waits f y bound t = settled bound (first_awaited f y bound t.requests)

-- the lowest page that is left to start is started, but where a write of it is in flight the sync waits. Where none is
-- left the bound becomes the next serial
abbrev pub picked : ℕ → Sync → Flights → Option (ℕ × Mapped) → SyncStep
picked f y t None = waits f y t.next t
picked f y t (Some e) = if e.1.tags.writeback then Held (record { 0 = e.0 }) else Start (found e)

abbrev pub bounded : ℕ → Sync → Pages → Flights → Option ℕ → SyncStep
bounded f y pages t None = picked f y t (sync_pick pages y)
bounded f y pages t (Some bound) = waits f y bound t

abbrev pub sync_step : ℕ → Pages → Flights → Sync → SyncStep
sync_step f pages t y = bounded f y pages t y.bound

-- a page that is to be started has a number below n
abbrev pub StartsBelow : ℕ → SyncStep → Type 0
StartsBelow n (Start pick) = pick.page.0 < n
StartsBelow n _ = Unit {0}
