-- A truncation as the code makes it, part by part: the state after it, and that the tables still fit.
use Rattle.std.proofs.Common.{◌≡◌, ℕ, ◌+◌, ◌/◌, ◌<◌, ◌≤◌, Bool, true, false, cond, not, eqb, List, [], length}
use Rattle.std.proofs.Common.{get_or, refl, ap, sym, subst, ◌∙◌, arith}
use Rattle.std.specs.Prelude.{◌&&◌, Option, Some, None, is_some, option_map, unwrap_or, nat_le, nat_lt, slice_set}
use Rattle.std.specs.Ordering.{nat_cmp}
use Rattle.std.specs.FinMap as finmap
use Rattle.std.specs.FinMap.{FinMap}
use Rattle.std.specs.FinSet as set
use Rattle.std.proofs.lemmas.List.{set-set}
use Rattle.pc_types.specs.Limits.{Sizes}
use Rattle.pc_types.specs.declared.limits.TheConstants.{MAX_FILE_SIZE}
use Rattle.pc_types.specs.Tags.{no_tags}
use Rattle.pc_types.proofs.FileLaws.{length-cut}
use Rattle.blockmap.specs.Blocks.{Blocks, CutsFrom}
use Rattle.blockmap.specs.Keys.{IsPage}
use Rattle.writeback.specs.Flights.{Flights}
use Rattle.machine.specs.State.{Sync, State, File, Page, Request, no_file, file_at, page_at, has_block, is_filling}
use Rattle.machine.specs.State.{page_count}
use Rattle.pagestore.specs.Store.{the_page, Store, stored_at, is_awaited, with_pages}
use Rattle.machine.specs.Changes.{boundary, cut_page, cut_boundary, cut_request, put_file, shrunk}
use Rattle.maps.specs.Maps.{each_value}
use Rattle.pagestore.specs.Cuts.{RemovesFrom, pages_below}
use Rattle.pagestore.specs.Ranges.{AreSized}
use Rattle.machine.specs.Sound.{Sound}
use Rattle.machine.proofs.sound.Changes.{lookups, same_lookups}
use Rattle.cachecore.specs.Tables.{IsCore, state_of}
use Rattle.machine.proofs.changes.ChangeLaws.{cut_pages, get-cut_pages, shrunk_truncates}
use Rattle.cachecore.proofs.FileChanges.{core-changed}
use Rattle.cachecore.proofs.FillCuts.{filling-shrunk, filling_counted}
use Rattle.cachecore.proofs.HoldCuts.{Holds-cut}
use Rattle.machine.proofs.steps.Choices.{mapped_some}
use Rattle.maps.proofs.Maps.{get-each_value}
use Rattle.maps.proofs.Lengths.{len_changed}
use Rattle.maps.proofs.MapLaws.{len-each_value, same_place_map}
use Rattle.pagestore.proofs.RangeLemmas.{stored-with, length-with}
use Rattle.machine.proofs.sound.Cuts.{shrunk_sound}
use Rattle.machine.proofs.sound.Lookups.{page_at-same}

-- ---- the pages of the file that is cut

pub len-cut_boundary : (s : State) (f z : ℕ) (o : Option ℕ)
    → finmap.len (cut_boundary s f z o) ≡ finmap.len (file_at s f).pages
len-cut_boundary s f z None = refl
len-cut_boundary s f z (Some q) = len_changed q (cut_page s.sizes.page z (has_block s f q)) (file_at s f).pages

some_bytes : (P : ℕ) (m : FinMap nat_cmp Page) (q : ℕ) (o : Option Page) → finmap.get m q ≡ o → AreSized P m
    → (x : Page) → o ≡ Some x → length x.bytes ≡ P
some_bytes P m q o e sized x is =
    ap (λ (p : Option Page). length (unwrap_or p (record { bytes = []; tags = no_tags })).bytes) (sym (e ∙ is))
    ∙ sized.each q (ap is_some (e ∙ is))

cut_bytes : (P z : ℕ) (has : Bool) (page : Page) → length page.bytes ≡ P → length (cut_page P z has page).bytes ≡ P
cut_bytes P z true page e = length-cut _ P
cut_bytes P z false page e = e

pub sized_cut : (s : State) (f z : ℕ) → AreSized s.sizes.page (file_at s f).pages
    → AreSized s.sizes.page (cut_pages s f z)
sized_cut s f z sized = record { each = λ q there. of_cut q (finmap.get (cut_pages s f z) q) refl there }
  where
    of_page : (q : ℕ) (o : Option Page) → page_at s f q ≡ o → (b past has : Bool) (x : Page)
        → cond past None (cond b (option_map (cut_page s.sizes.page z has) o) o) ≡ Some x
        → length x.bytes ≡ s.sizes.page
    of_page q o e b true has x is = absurd cc
    of_page q None e true false has x is = absurd cc
    of_page q None e false false has x is = absurd cc
    of_page q (Some y) e true false has x is =
        (let same : cut_page s.sizes.page z has y ≡ x = cc in ap (λ (k : Page). length k.bytes) (sym same)
        ∙ cut_bytes s.sizes.page z has y (some_bytes s.sizes.page (file_at s f).pages q (Some y) e sized y refl))
    of_page q (Some y) e false false has x is = some_bytes s.sizes.page (file_at s f).pages q (Some y) e sized x is

    of_cut : (q : ℕ) (o : Option Page) → finmap.get (cut_pages s f z) q ≡ o → is_some o ≡ true
        → length (the_page (cut_pages s f z) q).bytes ≡ s.sizes.page
    of_cut q None e there = absurd cc
    of_cut q (Some x) e there =
        ap (λ (o : Option Page). length (unwrap_or o (record { bytes = []; tags = no_tags })).bytes) e
        ∙ of_page q (page_at s f q) refl (eqb (z / s.sizes.page) q && is_some (boundary s f z))
        (nat_le (page_count s.sizes.page z) q) (has_block s f q) x (sym (get-cut_pages s f z q) ∙ e)

-- ---- the steps of the code: the boundary page is cut, the pages past it leave, and the size is set

pub record ShrinkSteps (s : State) (f z : ℕ) (old tail freed now : Store) : Type 0 where
  pub here : f < length old.files
  pub files : s.files ≡ old.files
  pub is_cut : tail ≡ with_pages old f (cut_boundary s f z (boundary s f z)) old.free
  pub is_freed : RemovesFrom tail freed f (page_count s.sizes.page z)
  pub is_sized : now ≡ record freed { files = slice_set freed.files f (record (stored_at freed f) { size = z }) }

module _ {s : State} {f z : ℕ} {old tail freed now : Store} (w : ShrinkSteps s f z old tail freed now) where
  abbrev m : FinMap nat_cmp Page
  m = cut_boundary s f z (boundary s f z)

  tail_file : stored_at tail f ≡ record (stored_at old f) { pages = m }
  tail_file = ap (λ (t : Store). stored_at t f) w.is_cut ∙ stored-with old f w.here m old.free

  tail_here : f < length tail.files
  tail_here = omega (arith, w.here, ap (λ (t : Store). length t.files) w.is_cut, length-with old f m old.free)

  kept_pages : pages_below tail f (page_count s.sizes.page z) ≡ cut_pages s f z
  kept_pages = ap (λ (x : File). finmap.retain_keys x.pages (λ p. nat_lt p (page_count s.sizes.page z))) tail_file

  freed_file : stored_at freed f ≡ record (stored_at old f) { pages = cut_pages s f z }
  freed_file =
      ap (λ (t : Store). stored_at t f) w.is_freed.pages
      ∙ stored-with tail f tail_here (pages_below tail f (page_count s.sizes.page z)) freed.free
      ∙ (λ i. let x : File = record (tail_file i) { pages = kept_pages i } in x)

  abbrev file : File
  file = record (file_at s f) { size = z; pages = cut_pages s f z }

  new_file : (let x : File = record (stored_at freed f) { size = z } in x) ≡ file
  new_file = ap (λ (x : File). let y : File = record x { size = z } in y) freed_file
      ∙ ap (λ (fs : List File). let y : File = record (get_or fs f no_file) { size = z; pages = cut_pages s f z } in y)
      (sym w.files)

  pub shrunk_files : now.files ≡ slice_set s.files f file
  shrunk_files =
      let one : File = record (stored_at old f) { pages = m } in
      let two : File = record (stored_at tail f) { pages = pages_below tail f (page_count s.sizes.page z) } in
      ap (λ (t : Store). t.files) w.is_sized
      ∙ ap (slice_set freed.files f) new_file
      ∙ ap (λ (t : Store). slice_set t.files f file) w.is_freed.pages
      ∙ set-set tail.files f two file
      ∙ ap (λ (t : Store). slice_set t.files f file) w.is_cut
      ∙ set-set old.files f one file
      ∙ ap (λ (fs : List File). slice_set fs f file) (sym w.files)

  pub shrunk_page : now.page ≡ old.page
  shrunk_page = ap (λ (t : Store). t.page) w.is_sized ∙ ap (λ (t : Store). t.page) w.is_freed.pages
      ∙ ap (λ (t : Store). t.page) w.is_cut

  pub shrunk_awaited : (g q : ℕ)
      → is_awaited now g q ≡ (is_awaited old g q && not (eqb g f && nat_le (page_count s.sizes.page z) q))
  shrunk_awaited g q = ap (λ (t : Store). is_awaited t g q) w.is_sized ∙ w.is_freed.filling g q
      ∙ ap (λ (t : Store). is_awaited t g q && not (eqb g f && nat_le (page_count s.sizes.page z) q)) w.is_cut

  pub shrunk_freed : now.free + finmap.len (cut_pages s f z) + set.len now.filling ≡ old.free
      + finmap.len (file_at s f).pages + set.len old.filling
  shrunk_freed =
      let free : now.free ≡ freed.free = ap (λ (t : Store). t.free) w.is_sized in
      let filling : set.len now.filling ≡ set.len freed.filling = ap (λ (t : Store). set.len t.filling) w.is_sized in
      let kept : finmap.len (pages_below tail f (page_count s.sizes.page z)) ≡ finmap.len (cut_pages s f z) =
      ap finmap.len kept_pages in
      let was : finmap.len (stored_at tail f).pages ≡ finmap.len (file_at s f).pages =
      ap (λ (x : File). finmap.len x.pages) tail_file ∙ len-cut_boundary s f z (boundary s f z) in
      let tail_free : tail.free ≡ old.free = ap (λ (t : Store). t.free) w.is_cut in
      let tail_filling : set.len tail.filling ≡ set.len old.filling = ap (λ (t : Store). set.len t.filling) w.is_cut in
      omega (arith, w.is_freed.freed, free, filling, kept, was, tail_free, tail_filling)

-- ---- the state after it

module _ (sizes : Sizes) (name f z : ℕ) (handles : FinMap nat_cmp ℕ) (old tail freed now : Store)
    (before after : Blocks) (flight landed : Flights) (syncs : FinMap nat_cmp Sync) where
  abbrev s : State
  s = state_of sizes name old.files handles before flight syncs

  module _ (w : ShrinkSteps s f z old tail freed now) (cuts : CutsFrom before after f (page_count sizes.page z))
      (drops : landed
      ≡ record flight { requests = each_value (λ _. cut_request f (page_count sizes.page z)) flight.requests }) where
    spots_now : after.spots ≡ (shrunk s f z).spots
    spots_now = same_place_map after.spots (shrunk s f z).spots
        (λ g q. cuts.spots (g, q) ∙ sym ((shrunk_truncates s f z w.here).spots g q))

    pub shrunk_state : state_of sizes name now.files handles after landed syncs ≡ shrunk s f z
    shrunk_state = λ i. record {
      sizes = sizes;
      name = name;
      files = shrunk_files w i;
      handles = handles;
      spots = spots_now i;
      next = (drops i).next;
      requests = (drops i).requests;
      syncs = syncs;
    }

    pub core-shrunk : IsCore s old before → z ≤ MAX_FILE_SIZE
        → IsCore (state_of sizes name now.files handles after landed syncs) now after
    core-shrunk c small =
        let t : State = shrunk s f z in
        let filling : (g q : ℕ) → is_awaited now g q ≡ is_filling t g q =
        λ g q. shrunk_awaited w g q
        ∙ ap (λ b. b && not (eqb g f && nat_le (page_count sizes.page z) q)) (c.filling g q)
        ∙ sym (filling-shrunk s f z g q) in
        let sound : Sound t = shrunk_sound s c.sound f z in
        let was = filling_counted s old c.sound c.filling in
        let is = filling_counted t now sound filling in
        subst (λ x. IsCore x now after) (sym shrunk_state)
        (core-changed c f w.here (record (file_at s f) { size = z; pages = cut_pages s f z }) t.spots
        t.requests t.syncs now after (sized_cut s f z (c.sized f)) small (shrunk_page w)
        (omega (arith, shrunk_freed w, was, is)) filling cuts.count
        (Holds-cut s c.sound f z before after refl cuts c.holds)
        (λ u r e.
        let x = mapped_some cut (finmap.get s.requests u) r (sym (get-each_value (λ _. cut) s.requests u) ∙ e) in
        subst (λ (k : Request). IsPage k.file k.page × (k.file < length old.files)) x.2
        (same_place x.0 (c.within u x.0 x.1) (c.filed u x.0 x.1)))
        refl (len-each_value (λ _. cut) s.requests) sound)
      where
        cut : Request → Request
        cut = cut_request f (page_count sizes.page z)

        same_place : (r : Request) → IsPage r.file r.page → r.file < length old.files
            → IsPage (cut r).file (cut r).page × ((cut r).file < length old.files)
        same_place r h k = elim (eqb r.file f && nat_le (page_count sizes.page z) r.page) as (λ b.
            let x : Request = cond b (record r { dropped = true }) r in
            IsPage x.file x.page × (x.file < length old.files))
            [ true ↦ (h, k) | false ↦ (h, k) ]

-- ---- a file that gets longer, or stays

grown_sound : (s : State) (f z : ℕ) → Sound s → Sound (put_file s f (record (file_at s f) { size = z }))
grown_sound s f z ok = same_lookups (lookups s) _ (page_at-same s f (record (file_at s f) { size = z }) refl)
    (λ g q. refl) (λ t. refl) refl ok

module _ (sizes : Sizes) (name f z : ℕ) (handles : FinMap nat_cmp ℕ) (old now : Store) (blocks : Blocks)
    (flight : Flights) (syncs : FinMap nat_cmp Sync) where
  abbrev before : State
  before = state_of sizes name old.files handles blocks flight syncs

  module _ (here : f < length old.files)
      (is : now ≡ record old { files = slice_set old.files f (record (stored_at old f) { size = z }) }) where
    pub grown_state : state_of sizes name now.files handles blocks flight syncs
        ≡ put_file before f (record (file_at before f) { size = z })
    grown_state = ap (λ (t : Store). state_of sizes name t.files handles blocks flight syncs) is

    pub core-grown : IsCore before old blocks → z ≤ MAX_FILE_SIZE
        → IsCore (state_of sizes name now.files handles blocks flight syncs) now blocks
    core-grown c small =
        let sound : Sound (put_file before f (record (file_at before f) { size = z })) =
        grown_sound before f z c.sound in
        subst (λ x. IsCore x now blocks) (sym grown_state)
        (core-changed c f here (record (file_at before f) { size = z }) before.spots before.requests
        before.syncs now blocks (c.sized f) small (ap (λ (t : Store). t.page) is)
        (let free : now.free ≡ old.free = ap (λ (t : Store). t.free) is in omega (arith, free))
        (λ g q. ap (λ (t : Store). is_awaited t g q) is ∙ c.filling g q) refl c.holds
        (λ t r e. (c.within t r e, c.filed t r e)) refl refl sound)
