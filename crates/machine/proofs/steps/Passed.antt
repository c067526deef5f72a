-- What is known where no test of an event holds.
use Rattle.pc_types.specs.Tags.{no_tags}
use Rattle.machine.proofs.steps.Choices.{some_of, not_false, and_true, not_true, if_none, if_some, first_passed, below}
use Rattle.machine.proofs.steps.Choices.{at_most, positive, mapped_some}
use Rattle.pc_types.specs.declared.ids.FileId.{FileId}
use Rattle.pc_types.specs.declared.ids.HandleId.{HandleId}
use Rattle.pc_types.specs.declared.ids.PageIndex.{PageIndex}
use Rattle.std.proofs.Common.{◌≡◌, ℕ, ◌+◌, ◌<◌, ◌≤◌, Bool, true, false, cond, not, eqb, eqb-true, length, refl, ap, sym}
use Rattle.std.proofs.Common.{◌∙◌, ◌&&◌, ◌==◌, Option, Some, None, is_some, option_map, nat_lt, nat_le, count_by, find}
use Rattle.std.specs.Prelude.{unwrap_or}
use Rattle.std.specs.FinMap as map
use Rattle.pc_types.specs.declared.limits.TheConstants.{MAX_FILE_SIZE, MAX_SYNCS, MAX_TOUCHED}
use Rattle.pc_types.specs.declared.kind.Kind.{Kind}
use Rattle.pc_types.specs.declared.kind.Kind.TheVariants.{Fill, Flush}
use Rattle.pc_types.specs.Kinds.{same_kind}
use Rattle.machine.specs.declared.event.End.{End}
use Rattle.machine.specs.declared.event.Event.TheVariants as event
use Rattle.machine.specs.declared.event.Reply.{Reply}
use Rattle.machine.specs.State.{State, Page, Request, Sync, file_at, handle_file, is_open, page_at, page_count}
use Rattle.machine.specs.State.{is_cached, is_filling, tags_at, is_written, touched, touched_count, free_frames}
use Rattle.machine.specs.State.{free_blocks, without_block, dirty_total}
use Rattle.machine.specs.Changes.{boundary, flush_pick, sync_pick, is_left}
use Rattle.machine.specs.Tests.{tests, write_tests, write_stop, truncate_stop, room_tests, stopped, first_of, is_full}
use Rattle.machine.specs.Tests.{is_of, fits, start_tests}
use Rattle.maps.proofs.Found.{found}

pub not_stopped : (s : State) (f : ℕ) (o : Option ℕ) → stopped s f o ≡ None → o ≡ None
not_stopped s f None e = refl
not_stopped s f (Some p) e = absurd cc

none_first : (s : State) (f : ℕ) (o : Option ℕ) (rest : Option Reply) → first_of (stopped s f o) rest ≡ None
    → (o ≡ None) × (rest ≡ None)
none_first s f None rest e = (refl, e)
none_first s f (Some p) rest e = absurd cc

-- a write of at least one byte
pub record MayWrite (s : State) (h o n : ℕ) : Type 0 where
  pub opened : is_open s h ≡ true
  pub some : 0 < n
  pub short : touched_count s.sizes.page o n ≤ MAX_TOUCHED
  pub small : o + n ≤ MAX_FILE_SIZE
  pub free : write_stop s (handle_file s h) o n ≡ None
  pub fits : room_tests s (handle_file s h) o n ≡ None
  pub frames : count_by (λ p. not (is_cached s (handle_file s h) p)) (touched s.sizes.page o n) ≤ free_frames s
  pub blocks : length (without_block s (handle_file s h) (touched s.sizes.page o n)) ≤ length (free_blocks s)

pub may_write : (s : State) (h o n : ℕ) → write_tests s h o n ≡ None → MayWrite s h o n
may_write s h o n t =
    let f = handle_file s h in
    let pages = touched s.sizes.page o n in
    let dirtied = count_by (λ p. not (tags_at s f p).dirty) pages in
    let opened = if_none (not (is_open s h)) _ _ t in
    let some = if_none (eqb n 0) _ _ opened.1 in
    let short = if_none (nat_lt MAX_TOUCHED (touched_count s.sizes.page o n)) _ _ some.1 in
    let small = if_none (nat_lt MAX_FILE_SIZE (o + n)) _ _ short.1 in
    let free = none_first s f (write_stop s f o n) (room_tests s f o n) small.1 in
    let dirty = if_none (nat_lt 0 dirtied && nat_lt s.sizes.dirty_limit (dirty_total s + dirtied)) _ _ free.1 in
    let frames = if_none (nat_lt (free_frames s) (count_by (λ p. not (is_cached s f p)) pages)) _ _ dirty.1 in
    let blocks = if_none (nat_lt (length (free_blocks s)) (length (without_block s f pages))) _ None frames.1 in
    record {
      opened = first_passed (is_open s h) _ _ t;
      some = positive n some.0;
      short = at_most _ MAX_TOUCHED short.0;
      small = at_most (o + n) MAX_FILE_SIZE small.0;
      free = free.0;
      fits = free.1;
      frames = at_most _ (free_frames s) frames.0;
      blocks = at_most _ (length (free_blocks s)) blocks.0;
    }

pub record MayTruncate (s : State) (h z : ℕ) : Type 0 where
  pub opened : is_open s h ≡ true
  pub small : z ≤ MAX_FILE_SIZE
  pub free : truncate_stop s (handle_file s h) (boundary s (handle_file s h) z) ≡ None

pub may_truncate : (s : State) (h : HandleId) (z : ℕ)
    → tests s (event.Truncate h z) ≡ None → MayTruncate s h.0 z
may_truncate s h z t =
    let opened = if_none (not (is_open s h.0)) _ _ t in
    let small = if_none (nat_lt MAX_FILE_SIZE z) _ _ opened.1 in
    record {
      opened = first_passed (is_open s h.0) _ _ t;
      small = at_most z MAX_FILE_SIZE small.0;
      free = not_stopped s _ _ small.1;
    }

pub record MayFill (s : State) (h p : ℕ) : Type 0 where
  pub opened : is_open s h ≡ true
  pub within : p < page_count s.sizes.page (file_at s (handle_file s h)).size
  pub idle : is_filling s (handle_file s h) p ≡ false
  pub absent : is_cached s (handle_file s h) p ≡ false
  pub frame : 0 < free_frames s
  pub room : (is_written s (handle_file s h) p && is_full s) ≡ false

pub may_fill : (s : State) (h : HandleId)
    (p : PageIndex) → tests s (event.FillBegin h p) ≡ None
    → MayFill s h.0 p.0
may_fill s h p t =
    let f = handle_file s h.0 in
    let opened = if_none (not (is_open s h.0)) _ _ t in
    let within = if_none (nat_le (page_count s.sizes.page (file_at s f).size) p.0) _ _ opened.1 in
    let idle = if_none (is_filling s f p.0) _ _ within.1 in
    let absent = if_none (is_cached s f p.0) _ _ idle.1 in
    let frame = if_none (eqb (free_frames s) 0) _ _ absent.1 in
    record {
      opened = first_passed (is_open s h.0) _ _ t;
      within = below p.0 _ within.0;
      idle = idle.0;
      absent = absent.0;
      frame = positive (free_frames s) frame.0;
      room = (if_none (is_written s f p.0 && is_full s) _ None frame.1).0;
    }

-- the end of request x
pub record MayEnd (s : State) (kind : Kind) (end : End) (x : Request) : Type 0 where
  pub cache : end.cache ≡ s.name
  pub is : map.get s.requests end.serial.0 ≡ Some x
  pub kind_is : x.kind ≡ kind
  pub block : end.block.0 ≡ x.block
  pub fitting : fits kind end.outcome ≡ true

same : (k l : Kind) → same_kind k l ≡ true → l ≡ k
same Fill Fill e = refl
same Fill Flush e = absurd cc
same Flush Fill e = absurd cc
same Flush Flush e = refl

pub may_end : (s : State) (kind : Kind) (end : End) → tests s (event.End kind end) ≡ None
    → (x : Request) × MayEnd s kind end x
may_end s kind end t =
    go (map.get s.requests end.serial.0) refl
    (and_true (end.cache == s.name) (is_of kind end (map.get s.requests end.serial.0)) (if_some _ _ t))
  where
    go : (o : Option Request) → map.get s.requests end.serial.0 ≡ o
        → (((end.cache == s.name) ≡ true) × (is_of kind end o ≡ true)) → (x : Request) × MayEnd s kind end x
    go None is b = absurd (let e = b.1 in cc)
    go (Some x) is b =
        let kinds = same_kind kind end.kind && same_kind kind x.kind in
        let four = and_true (kinds && end.block.0 == x.block) (fits kind end.outcome) b.1 in
        let three = and_true kinds (end.block.0 == x.block) four.0 in
        let two = and_true (same_kind kind end.kind) (same_kind kind x.kind) three.0 in (
          x,
          record {
            cache = eqb-true end.cache s.name b.0;
            is = is;
            kind_is = same kind x.kind two.1;
            block = eqb-true end.block.0 x.block three.1;
            fitting = four.1;
          },
        )

-- the flush of page p
pub record MayFlush (s : State) (f p : ℕ) (page : Page) : Type 0 where
  pub exists : f < length s.files
  pub pick : flush_pick (file_at s f) ≡ Some p
  pub is : page_at s f p ≡ Some page
  pub dirty : page.tags.dirty ≡ true
  pub clean : page.tags.writeback ≡ false
  pub room : is_full s ≡ false

pub may_flush : (s : State) (f : FileId) → tests s (event.FlushBegin f) ≡ None
    → (p : ℕ) × (page : Page) × MayFlush s f.0 p page
may_flush s f t =
    let exists = if_none (nat_le (length s.files) f.0) _ _ t in
    let some = if_none (not (is_some (flush_pick (file_at s f.0)))) _ _ exists.1 in
    let room = if_none (is_full s) _ None some.1 in
    let test : ℕ × Page → Bool = λ e. e.1.tags.dirty && not e.1.tags.writeback in
    let p = some_of (flush_pick (file_at s f.0))
    (not_false _ some.0) in
    let e = mapped_some (λ (e : ℕ × Page). e.0) (find test (map.entries (file_at s f.0).pages)) p.0 p.1 in
    let a = found (file_at s f.0).pages test e.0 e.1 in
    let b = and_true e.0.1.tags.dirty (not e.0.1.tags.writeback) a.0 in (
      p.0,
      e.0.1,
      record {
        exists = below f.0 _ exists.0;
        pick = p.1;
        is = ap (map.get (file_at s f.0).pages) (sym e.2) ∙ a.1;
        dirty = b.0;
        clean = not_true e.0.1.tags.writeback b.1;
        room = room.0;
      },
    )

-- the begin of a sync
pub record MayBegin (s : State) (h first last : ℕ) : Type 0 where
  pub opened : is_open s h ≡ true
  pub range : first ≤ last
  pub room : map.len s.syncs < MAX_SYNCS

pub may_begin : (s : State) (h : HandleId)
    (first last : PageIndex)
    → tests s (event.SyncBegin h first last) ≡ None → MayBegin s h.0 first.0 last.0
may_begin s h first last t =
    let opened = if_none (not (is_open s h.0)) _ _ t in
    let range = if_none (nat_lt last.0 first.0) _ _ opened.1 in
    let room = if_none (nat_le MAX_SYNCS (map.len s.syncs)) _ None range.1 in
    record {
      opened = first_passed (is_open s h.0) _ _ t;
      range = at_most first.0 last.0 range.0;
      room = below _ MAX_SYNCS room.0;
    }

-- the start of page p by sync y
pub record MayStart (s : State) (y : Sync) (p : ℕ) (page : Page) : Type 0 where
  pub pick : sync_pick s y ≡ Some p
  pub unbound : y.bound ≡ None
  pub is : page_at s (handle_file s y.handle) p ≡ Some page
  pub left : is_left y (p, page) ≡ true
  pub clean : page.tags.writeback ≡ false
  pub room : is_full s ≡ false

pub may_start : (s : State) (y : Sync) (p : ℕ) → sync_pick s y ≡ Some p
    → start_tests s (handle_file s y.handle) (Some p) ≡ None → (page : Page) × MayStart s y p page
may_start s y p pick t = go y.bound refl pick
  where
    f : ℕ
    f = handle_file s y.handle

    go : (o : Option ℕ) → y.bound ≡ o
        → cond (is_some o) None (option_map (λ (e : ℕ × Page). e.0)
        (find (is_left y) (map.entries (file_at s (handle_file s y.handle)).pages))) ≡ Some p
        → (page : Page) × MayStart s y p page
    go (Some b) is k = absurd cc
    go None is k =
        let e = mapped_some (λ (e : ℕ × Page). e.0)
        (find (is_left y) (map.entries (file_at s (handle_file s y.handle)).pages)) p k in
        let a = found (file_at s (handle_file s y.handle)).pages (is_left y) e.0 e.1 in
        let here : page_at s (handle_file s y.handle) p ≡ Some e.0.1 =
        ap (map.get (file_at s (handle_file s y.handle)).pages) (sym e.2) ∙ a.1 in
        let idle = if_none (tags_at s (handle_file s y.handle) p).writeback _ _ t in (
          e.0.1,
          record {
            pick = pick;
            unbound = is;
            is = here;
            left = ap (λ q. is_left y (q, e.0.1)) (sym e.2) ∙ a.0;
            clean = sym (ap (λ (o : Option Page).
                (unwrap_or (option_map (λ (page : Page). page.tags) o) no_tags).writeback)
                here) ∙ idle.0;
            room = (if_none (is_full s) _ None idle.1).0;
          },
        )
