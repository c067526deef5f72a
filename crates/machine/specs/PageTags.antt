-- What writes and syncs make of a page's tags.
use Rattle.std.specs.Prelude.{ℕ, Bool, true, false, not, ◌&&◌, ◌||◌, nat_lt, option_map, unwrap_or}
use Rattle.pc_types.specs.Tags.{TagSet}
use Rattle.machine.specs.State.{Sync, in_range}

-- whether a write of the page may begin: DIRTY, and none is in flight. Memory-cleaning writeback skips a page under
-- WRITEBACK
abbrev pub is_flushable : TagSet → Bool
is_flushable tags = tags.dirty && not tags.writeback

-- a page whose write is started loses DIRTY and TOWRITE and gets WRITEBACK
abbrev pub under_write : TagSet
under_write = record { dirty = false; writeback = true; towrite = false }

-- a page whose write ended: WRITEBACK is cleared, and DIRTY is set where the write failed. A DIRTY that a write set
-- meanwhile stays
abbrev pub after_write : Bool → TagSet → TagSet
after_write failed tags = record tags { dirty = tags.dirty || failed; writeback = false }

-- a sync began, whose range has the page or not: a DIRTY page of the range becomes TOWRITE
abbrev pub to_write : Bool → TagSet → TagSet
to_write within tags = record tags { towrite = tags.towrite || tags.dirty && within }

-- whether a sync has the page left to start: it is TOWRITE, in the range, and past the last page that the sync started
abbrev pub is_left : Sync → ℕ → TagSet → Bool
is_left y p tags = tags.towrite && in_range y p && unwrap_or (option_map (λ q. nat_lt q p) y.started) true
