-- Between calls each cached page is DIRTY or idle: where none is idle and none is to be written, none is cached, and no call lacks frames.
use Rattle.std.proofs.Common.{◌≡◌, ℕ, ◌/◌, ◌+◌, ◌-◌, ◌<◌, ◌≤◌, Bool, true, false, cond, get_or, List, [], ◌∷◌, map, length, zero, suc, refl, ap, sym, subst, ◌∙◌, arith}
use Rattle.std.specs.Int.{is_power_of_two}
use Rattle.std.specs.Prelude.{◌&&◌, ◌||◌, not, is_some, option_map, Option, Some, None, nat_le, nat_lt, sum_by, IsTrue}
use Rattle.std.specs.List.{list_any}
use Rattle.std.specs.FinMap as finmap
use Rattle.std.specs.FinMap.{get-entries, len-empty}
use Rattle.std.specs.Ordering.{nat_cmp}
use Rattle.std.proofs.lemmas.Bool.Decides.{nat_tests}
use Rattle.std.proofs.lemmas.List.Sums.{sum_by-cons}
use Rattle.pc_types.specs.Limits.{Sizes, is_geometry, is_page_size}
use Rattle.pc_types.specs.declared.limits.TheConstants.{CLEAN_FRAMES, MAX_BLOCKS, MAX_FILE_SIZE, MAX_FRAMES, MAX_PAGE_SIZE, MAX_TOUCHED, MIN_DIRTY_LIMIT, MIN_FRAMES, MIN_PAGE_SIZE}
use Rattle.pc_types.specs.declared.refusal.Refusal.TheVariants.{NoSuchFile, TooManyInFlight}
use Rattle.machine.specs.declared.event.Event.TheVariants as event
use Rattle.machine.specs.declared.event.Reply.TheVariants as reply
use Rattle.machine.specs.State.{State, File, Page, cached_total, dirty_in, dirty_total, file_at, handle_file, free_frames, is_cached, tags_at, is_idle, is_open, no_file, page_at, touched_count, tags_of}
use Rattle.machine.specs.Changes.{flush_pick}
use Rattle.machine.specs.Tests.{has_idle, is_full, refuse, tests}
use Rattle.cachecore.specs.Wants.{dirtied, lacking, lacks_frames, passes_limit}
use Rattle.maps.proofs.Found.{found_none}
use Rattle.maps.proofs.MapLaws.{any_value, no_entries}
use Rattle.cachecore.proofs.TouchCounts.{count_below}
use Rattle.maps.proofs.Count.{count_le, count_of}
use Rattle.maps.proofs.Lengths.{count_empty, len_le}
use Rattle.runs.proofs.moments.FrameCounts.{filling_is, is_live_fill}
use Rattle.runs.proofs.events.Lookups.{cached_within}
use Rattle.machine.specs.Sound.{Sound}
use Rattle.orderly.proofs.Orderly.{none_under}
use Rattle.orderly.specs.Orderly.{IsOrderly}

-- ---- an idle page is found

any_entry : (es : List (ℕ × Page)) → list_any is_idle (map (λ (e : ℕ × Page). e.1) es) ≡ list_any (λ (e : ℕ × Page). is_idle e.1) es
any_entry [] = refl
any_entry (e ∷ es) = ap (λ b. is_idle e.1 || b) (any_entry es)

abbrev idle_in : File → Bool
idle_in file = list_any (λ (e : ℕ × Page). is_idle e.1) (finmap.entries file.pages)

none_idle : idle_in no_file ≡ true → ⊥
none_idle h = absurd (let e : idle_in no_file ≡ false = ap (list_any (λ (e : ℕ × Page). is_idle e.1)) (no_entries nat_cmp) in cc)

any_file : (files : List File) (f : ℕ) → idle_in (get_or files f no_file) ≡ true → list_any idle_in files ≡ true
any_file [] f h = absurd (none_idle h)
any_file (x ∷ files) zero h = ap (λ b. b || list_any idle_in files) h
any_file (x ∷ files) (suc f) h = or_later (idle_in x) (list_any idle_in files) (any_file files f h)
  where
    or_later : (a b : Bool) → b ≡ true → (a || b) ≡ true
    or_later true b e = refl
    or_later false b e = e

some_idle : (s : State) (f p : ℕ) (page : Page) → page_at s f p ≡ Some page → is_idle page ≡ true → has_idle s ≡ true
some_idle s f p page is idle = any_file s.files f (sym (any_entry (finmap.entries (file_at s f).pages)) ∙ any_value nat_cmp is_idle p page (finmap.entries (file_at s f).pages) (sym (get-entries (file_at s f).pages p) ∙ is) idle)

no_idle : (b : Bool) → cond b None (Some reply.NoneIdle) ≡ Some reply.NoneIdle → b ≡ false
no_idle true e = absurd cc
no_idle false e = refl

-- ---- a page that is to be written is found

pub no_pick : (b d : Bool) (o : Option ℕ) → cond b (refuse NoSuchFile) (cond (not (is_some o)) (Some reply.Nothing) (cond d (refuse TooManyInFlight) None)) ≡ Some reply.Nothing → o ≡ None
no_pick true d o e = absurd cc
no_pick false true (Some p) e = absurd cc
no_pick false false (Some p) e = absurd cc
no_pick false d None e = refl

not_picked : (o : Option (ℕ × Page)) → option_map (λ e. e.0) o ≡ None → o ≡ None
not_picked None e = refl
not_picked (Some x) e = absurd cc

-- ---- no page is cached

untagged : (dirty writeback towrite : Bool) → (dirty && not writeback) ≡ false → writeback ≡ false → (towrite ≡ true → dirty ≡ true) → (not dirty && not writeback && not towrite) ≡ true
untagged true w t a b c = absurd cc
untagged false true t a b c = absurd cc
untagged false false true a b c = absurd (let x = c refl in cc)
untagged false false false a b c = refl

-- a sum of nothing
no_sum : (count : File → ℕ) (files : List File) → ((f : ℕ) → count (get_or files f no_file) ≡ 0) → sum_by count files ≡ 0
no_sum count [] h = refl
no_sum count (x ∷ files) h = let a = h 0 in let b = no_sum count files (λ f. h (suc f)) in let c = sum_by-cons count x files in omega arith

undirty : (dirty writeback : Bool) → (dirty && not writeback) ≡ false → writeback ≡ false → dirty ≡ false
undirty true false a b = absurd cc
undirty true true a b = absurd cc
undirty false w a b = refl

-- where no request is in flight, and no file with a cached page has a page that a flush could begin with
module _ (s : State) (orderly : IsOrderly s) (resting : s.requests ≡ finmap.empty)
    (picks : (f p : ℕ) (page : Page) → page_at s f p ≡ Some page → flush_pick (file_at s f) ≡ None) where
  no_write : (f p : ℕ) (page : Page) → page_at s f p ≡ Some page → page.tags.writeback ≡ false
  no_write f p page is = by page.tags.writeback refl
    where
      by : (b : Bool) → page.tags.writeback ≡ b → page.tags.writeback ≡ false
      by false e = e
      by true e = absurd (none_under s orderly resting f p (ap (λ o. (tags_of o).writeback) is ∙ e))

  not_left : (f p : ℕ) (page : Page) → page_at s f p ≡ Some page → (page.tags.dirty && not page.tags.writeback) ≡ false
  not_left f p page is =
      found_none (file_at s f).pages (λ e. e.1.tags.dirty && not e.1.tags.writeback) (not_picked _ (picks f p page is)) p page is

  no_dirty : (f p : ℕ) (page : Page) → page_at s f p ≡ Some page → page.tags.dirty ≡ false
  no_dirty f p page is = undirty page.tags.dirty page.tags.writeback (not_left f p page is) (no_write f p page is)

  -- no page is DIRTY or under WRITEBACK
  pub all_clean : (f p : ℕ) → ((tags_at s f p).dirty ≡ false) × ((tags_at s f p).writeback ≡ false)
  all_clean f p = by (page_at s f p) refl
    where
      by : (o : Option Page) → page_at s f p ≡ o → ((tags_at s f p).dirty ≡ false) × ((tags_at s f p).writeback ≡ false)
      by None e = (ap (λ o. (tags_of o).dirty) e, ap (λ o. (tags_of o).writeback) e)
      by (Some page) e = (
        ap (λ o. (tags_of o).dirty) e ∙ no_dirty f p page e,
        ap (λ o. (tags_of o).writeback) e ∙ no_write f p page e,
      )

module _ (s : State) (ok : Sound s) (orderly : IsOrderly s) (resting : s.requests ≡ finmap.empty)
    (clean : (f : ℕ) → f < length s.files → tests s (event.FlushBegin (record { 0 = f })) ≡ Some reply.Nothing) where
  nothing_picked : (f p : ℕ) (page : Page) → page_at s f p ≡ Some page → flush_pick (file_at s f) ≡ None
  nothing_picked f p page is =
      no_pick (nat_le (length s.files) f) (is_full s) (flush_pick (file_at s f)) (clean f (cached_within s f p (ap is_some is)))

  none_dirty : dirty_total s ≡ 0
  none_dirty = no_sum dirty_in s.files (λ f. (
      let a = count_le (λ (x : Page). x.tags.dirty) (λ (x : Page). x.tags.dirty) (file_at s f).pages
      (finmap.empty {X = Page} {R = nat_cmp})
      (λ q x e t. absurd (let k : true ≡ false = sym t ∙ no_dirty s orderly resting nothing_picked f q x e in cc)) in
      let b = count_empty (λ (x : Page). x.tags.dirty) in omega arith))

  -- no call would make too many pages dirty
  pub clean_enough : MIN_DIRTY_LIMIT ≤ s.sizes.dirty_limit → (h o n : ℕ) → passes_limit s h o n ≡ false
  clean_enough many h o n =
      let most = count_below (dirtied s (handle_file s h) o n) (o / s.sizes.page) (touched_count s.sizes.page o n)
      (λ p. not ((tags_at s (handle_file s h) p).dirty)) refl in
      let none = none_dirty in
      by (is_open s h) (nat_lt 0 n) (nat_le (touched_count s.sizes.page o n) MAX_TOUCHED) (nat_le (o + n) MAX_FILE_SIZE)
      (nat_lt 0 (dirtied s (handle_file s h) o n))
      (nat_lt s.sizes.dirty_limit (dirty_total s + dirtied s (handle_file s h) o n))
      (λ small. grind (arith, nat_tests))
    where
      by : (a b c d x e : Bool) → (c ≡ true → e ≡ false) → ((a && b && c && d) && (x && e)) ≡ false
      by true true true true true e k = k refl
      by true true true true false e k = refl
      by false b c d x e k = refl
      by true false c d x e k = refl
      by true true false d x e k = refl
      by true true true false x e k = refl

  module _ (idle : tests s event.Evict ≡ Some reply.NoneIdle) where
    none_cached : (f p : ℕ) (page : Page) → page_at s f p ≡ Some page → ⊥
    none_cached f p page is =
        let free = untagged page.tags.dirty page.tags.writeback page.tags.towrite (not_left s orderly resting nothing_picked f p page is)
        (no_write s orderly resting nothing_picked f p page is)
        (subst (λ o. (tags_of o).towrite ≡ true → (tags_of o).dirty ≡ true) is (ok.towrite_dirty f p)) in
        let some = some_idle s f p page is free in
        let none = no_idle (has_idle s) idle in
        absurd (let x : true ≡ false = sym some ∙ none in cc)

    no_pages : (f : ℕ) → finmap.len (file_at s f).pages ≡ 0
    no_pages f =
        let a = len_le (file_at s f).pages (finmap.empty {X = Page} {R = nat_cmp})
        (λ q x e. absurd (none_cached f q x e)) in
        let b = len-empty nat_cmp Page in omega arith

    all_free : free_frames s ≡ s.sizes.frames
    all_free =
        let a : cached_total s ≡ 0 = no_sum (λ (file : File). finmap.len file.pages) s.files no_pages in
        let b = filling_is s in
        let c = ap (count_of is_live_fill) resting in
        let d = count_empty is_live_fill in omega arith

    pub some_free : MIN_FRAMES ≤ s.sizes.frames → 0 < free_frames s
    some_free many = let free = all_free in omega arith

    pub enough : MIN_FRAMES ≤ s.sizes.frames → (h o n : ℕ) → lacks_frames s h o n ≡ false
    enough many h o n =
        let most = count_below (lacking s (handle_file s h) o n) (o / s.sizes.page) (touched_count s.sizes.page o n)
        (λ p. not (is_cached s (handle_file s h) p)) refl in
        let free = all_free in
        by (is_open s h) (nat_lt 0 n) (nat_le (touched_count s.sizes.page o n) MAX_TOUCHED)
        (nat_le (o + n) MAX_FILE_SIZE) (nat_lt (free_frames s) (lacking s (handle_file s h) o n))
        (λ small. grind (arith, nat_tests))
      where
        by : (a b c d e : Bool) → (c ≡ true → e ≡ false) → ((a && b && c && d) && e) ≡ false
        by true true true true e k = k refl
        by false b c d e k = refl
        by true false c d e k = refl
        by true true false d e k = refl
        by true true true false e k = refl

-- the page size of a geometry
pub enough_page : (g : Sizes) → IsTrue (is_geometry g) → MIN_PAGE_SIZE ≤ g.page
enough_page g e = by (is_power_of_two g.page) (nat_le MIN_PAGE_SIZE g.page) (nat_le g.page MAX_PAGE_SIZE) (nat_le MIN_FRAMES g.frames) (nat_le g.frames MAX_FRAMES) (nat_le MIN_DIRTY_LIMIT g.dirty_limit) (nat_le g.dirty_limit (g.frames - CLEAN_FRAMES)) (nat_le 1 g.blocks) (nat_le g.blocks MAX_BLOCKS) refl e
  where
    by : (p q r b c d x y z : Bool) → nat_le MIN_PAGE_SIZE g.page ≡ q → IsTrue ((p && q && r) && b && c && d && x && y && z) → MIN_PAGE_SIZE ≤ g.page
    by true true r b c d x y z k e = grind (arith, nat_tests)
    by true false r b c d x y z k e = absurd cc
    by false q r b c d x y z k e = absurd cc

-- the frames of a geometry
pub enough_frames : (g : Sizes) → IsTrue (is_geometry g) → MIN_FRAMES ≤ g.frames
enough_frames g e = by (is_page_size g.page) (nat_le MIN_FRAMES g.frames) (nat_le g.frames MAX_FRAMES) (nat_le MIN_DIRTY_LIMIT g.dirty_limit) (nat_le g.dirty_limit (g.frames - CLEAN_FRAMES)) (nat_le 1 g.blocks) (nat_le g.blocks MAX_BLOCKS) refl e
  where
    by : (a b c d x y z : Bool) → nat_le MIN_FRAMES g.frames ≡ b → IsTrue (a && b && c && d && x && y && z) → MIN_FRAMES ≤ g.frames
    by true true c d x y z k e = grind (arith, nat_tests)
    by true false c d x y z k e = absurd cc
    by false b c d x y z k e = absurd cc

-- its dirty limit
pub enough_dirty : (g : Sizes) → IsTrue (is_geometry g) → MIN_DIRTY_LIMIT ≤ g.dirty_limit
enough_dirty g e = by (is_page_size g.page) (nat_le MIN_FRAMES g.frames) (nat_le g.frames MAX_FRAMES) (nat_le MIN_DIRTY_LIMIT g.dirty_limit) (nat_le g.dirty_limit (g.frames - CLEAN_FRAMES)) (nat_le 1 g.blocks) (nat_le g.blocks MAX_BLOCKS) refl e
  where
    by : (a b c d x y z : Bool) → nat_le MIN_DIRTY_LIMIT g.dirty_limit ≡ d → IsTrue (a && b && c && d && x && y && z) → MIN_DIRTY_LIMIT ≤ g.dirty_limit
    by true true true true x y z k e = grind (arith, nat_tests)
    by true true true false x y z k e = absurd cc
    by true true false d x y z k e = absurd cc
    by true false c d x y z k e = absurd cc
    by false b c d x y z k e = absurd cc
