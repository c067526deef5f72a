-- Which room a call wants: frames for the pages that it lacks, and room for those that it makes dirty; and what is in
-- flight. No event asks for it.
use Rattle.std.specs.Prelude.{◌≡◌, ◌<◌, ℕ, ◌+◌, ◌-◌, Bool, true, not, ◌&&◌, if◌then◌else◌, Option, Some, None, is_some, nat_lt, nat_le, count_by}
use Rattle.std.specs.FinMap as map
use Rattle.std.specs.List.{list_any}
use Rattle.pc_types.specs.declared.limits.TheConstants.{MAX_FILE_SIZE, MAX_TOUCHED}
use Rattle.pc_types.specs.Kinds.{is_fill, is_flush}
use Rattle.cachecore.specs.declared.answers.Demand.{Demand}
use Rattle.cachecore.specs.declared.answers.InFlight.{InFlight}
use Rattle.cachecore.specs.declared.answers.Want.{Want}
use Rattle.cachecore.specs.declared.answers.Want.TheVariants.{Clean, Frames}
use Rattle.machine.specs.Changes.{flush_pick}
use Rattle.machine.specs.State.{State, dirty_total, file_at, handle_file, free_frames, is_cached, is_open, tags_at}
use Rattle.machine.specs.State.{touched, touched_count}
use Rattle.machine.specs.Tests.{read_count}

-- n bytes at o of an open file, which a call may touch: some, in at most 16 pages, and none past the greatest size of a
-- file
abbrev pub may_touch : State → ℕ → ℕ → ℕ → Bool
may_touch s h o n =
    is_open s h && nat_lt 0 n && nat_le (touched_count s.sizes.page o n) MAX_TOUCHED && nat_le (o + n) MAX_FILE_SIZE

-- how many pages of f that they touch are absent, and how many are not DIRTY
abbrev pub lacking : State → ℕ → ℕ → ℕ → ℕ
lacking s f o n = count_by (λ p. not (is_cached s f p)) (touched s.sizes.page o n)

abbrev pub dirtied : State → ℕ → ℕ → ℕ → ℕ
dirtied s f o n = count_by (λ p. not (tags_at s f p).dirty) (touched s.sizes.page o n)

-- whether fewer frames are free than such pages are absent
abbrev pub lacks_frames : State → ℕ → ℕ → ℕ → Bool
lacks_frames s h o n = may_touch s h o n && nat_lt (free_frames s) (lacking s (handle_file s h) o n)

-- how many frames fewer are free than such pages are absent
abbrev pub frames_short : State → ℕ → ℕ → ℕ → ℕ
frames_short s h o n = if may_touch s h o n then lacking s (handle_file s h) o n - free_frames s else 0

-- whether too many pages would be dirty with them
abbrev pub passes_limit : State → ℕ → ℕ → ℕ → Bool
passes_limit s h o n =
    let more = dirtied s (handle_file s h) o n in
    may_touch s h o n && (nat_lt 0 more && nat_lt s.sizes.dirty_limit (dirty_total s + more))

-- how many bytes a demand is for: of a call that makes no page dirty none past the end of the file
abbrev pub demanded : State → Demand → ℕ
demanded s d = if d.dirties then d.count else read_count s (handle_file s d.handle.0) d.offset d.count

-- which room a call with this demand wants: so many more free frames, or fewer dirty pages
abbrev pub wants : State → Demand → Option Want
wants s d =
    if lacks_frames s d.handle.0 d.offset (demanded s d) then Some (Frames (frames_short s d.handle.0 d.offset (demanded s d)))
    else if d.dirties && passes_limit s d.handle.0 d.offset (demanded s d) then Some Clean else None

-- how many requests of each kind are in flight, and how many syncs in progress
abbrev pub in_flight : State → InFlight
in_flight s =
    record {
      fills = count_by (λ x. is_fill x.kind) (map.values s.requests);
      flushes = count_by (λ x. is_flush x.kind) (map.values s.requests);
      syncs = map.len s.syncs;
    }

-- some request is in flight
abbrev pub is_busy : State → Bool
is_busy s = nat_lt 0 (map.len s.requests)

-- whether a request in flight is dropped. It holds its block until it ends, though the page is cut off that it was of
abbrev pub holds_cut : State → Bool
holds_cut s = list_any (λ x. x.dropped) (map.values s.requests)

-- no file has a page to write; f is the first that has one
abbrev pub NothingToWrite : State → Type 0
NothingToWrite s = (f : ℕ) → flush_pick (file_at s f) ≡ None

abbrev pub IsFirstToWrite : State → ℕ → Type 0
IsFirstToWrite s f =
    (is_some (flush_pick (file_at s f)) ≡ true) × ((g : ℕ) → g < f → flush_pick (file_at s g) ≡ None)
