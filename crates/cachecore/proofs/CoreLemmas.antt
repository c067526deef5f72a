-- What the tables of a cache keep, and the machine's state after each change of them.
use Rattle.std.proofs.Common.{◌≡◌, ℕ, ◌+◌, ◌-◌, ◌/◌, ◌<◌, ◌≤◌, zero, suc, max, Bool, true, false, cond, not, ◌&&◌, eqb}
use Rattle.std.proofs.Common.{List, [], ◌∷◌, ◌++◌, length, get_or, refl, ap, sym, subst, ◌∙◌, arith}
use Rattle.std.proofs.Common.{length-append, map}
use Rattle.std.specs.Prelude.{Option, Some, None, is_some, filter, nat_lt, slice_set, count_by, ◌||◌}
use Rattle.std.specs.FinSet as set
use Rattle.std.specs.List.{list_any, range_with_len, zip}
use Rattle.std.specs.Ordering.{nat_cmp}
use Rattle.std.specs.Cmp.{nat_cmp_total}
use Rattle.std.specs.FinMap as finmap
use Rattle.std.specs.FinMap.{FinMap, get-empty, len-empty, len-insert}
use Rattle.std.proofs.lemmas.Bool.{false≢true}
use Rattle.std.proofs.lemmas.List.Sums.{sum_by_push, length-filter}
use Rattle.pc_types.specs.Limits.{Sizes}
use Rattle.pc_types.specs.declared.limits.TheConstants.{MAX_FILES, MAX_FILE_SIZE, MAX_FRAMES}
use Rattle.pc_types.specs.declared.refusal.Refusal.TheVariants.{DirtyLimit, NoFrame, NoSpace}
use Rattle.machine.specs.State.{State, Page, File, Request, Sync, no_file, file_at, is_cached, is_filling}
use Rattle.machine.specs.State.{tags_at, dirty_total, handle_file, fills, filling_total, free_frames}
use Rattle.machine.specs.State.{free_blocks, without_block, touched, touched_count}
use Rattle.pc_types.specs.Kinds.{is_fill}
use Rattle.pc_types.specs.Spots.{Spot, place_cmp}
use Rattle.blockmap.specs.Blocks as device
use Rattle.blockmap.specs.Blocks.{Blocks}
use Rattle.pagestore.specs.Store.{blank, Store, NoneAwaited, is_awaited, stored_at, with_pages, with_lists}
use Rattle.maps.specs.Maps.{overwrite}
use Rattle.machine.specs.Changes.{written, written_pages, placed, put_file, put_page}
use Rattle.machine.specs.Tests.{covers, must_fill, room_tests, refuse, write_tests}
use Rattle.pagestore.specs.Ranges.{AreSized}
use Rattle.cachecore.specs.Tables.{IsCache, IsCore, state_of}
use Rattle.machine.specs.PageLists.{PageLists, no_lists}
use Rattle.writeback.specs.Flights.{Flights}
use Rattle.cachecore.specs.Holding.{Holds}
use Rattle.machine.specs.Sound.{Sound}
use Rattle.cachecore.specs.Placing.{is_bare, placed_on, with_placed}
use Rattle.maps.proofs.Maps.{get-insert_nat, get-remove_nat}
use Rattle.maps.proofs.MapLaws.{no_entries}
use Rattle.cachecore.proofs.FileChanges.{core-changed}
use Rattle.cachecore.proofs.Holdings.{free_blocks-same, Holds-none}
use Rattle.pagestore.proofs.Runs.{none_absent}
use Rattle.machine.proofs.steps.Passed.{MayWrite, may_write}
use Rattle.machine.proofs.steps.Choices.{neither}
use Rattle.cachecore.proofs.StepLemmas.{create_step}
use Rattle.machine.proofs.sound.Pages.{makes_zeros_sound}
use Rattle.cachecore.proofs.SyncLaws.{none_syncs}
use Rattle.machine.proofs.sound.Steps.{histories_are_sound, steps_stay_sound}
use Rattle.machine.proofs.sound.Writes.{written_sound}
use Rattle.machine.specs.declared.event.Event.TheVariants as event
use Rattle.machine.specs.declared.event.Reply.TheVariants as reply
use Rattle.cachecore.proofs.WriteLemmas.{WriteParts, parts-file, parts-pages, parts-size, parts_sized}
use Rattle.cachecore.proofs.WriteLemmas.{sized_insert}
use Rattle.machine.proofs.changes.WriteLengths.{len-written_pages}

-- ---- at the start

pub sized_none : (P : ℕ) → AreSized P no_file.pages
sized_none P = record { each = λ q e. absurd (false≢true (sym (ap is_some (get-empty nat_cmp q)) ∙ e)) }

pub some_none : {A : Type 0} (f : A) (o : Option A) → o ≡ None → o ≡ Some f → ⊥
some_none f o a b = cc

-- without requests no page is filling
pub none_filling : (s : State) (f p : ℕ) → s.requests ≡ finmap.empty → is_filling s f p ≡ false
none_filling s f p e = ap (λ (es : List (ℕ × Request)). list_any (fills f p) (map (λ (e : ℕ × Request). e.1) es))
    (ap finmap.entries e ∙ no_entries nat_cmp)

pub none_in_flight : (s : State) → s.requests ≡ finmap.empty → filling_total s ≡ 0
none_in_flight s e =
    ap (λ (es : List (ℕ × Request)). count_by (λ (r : Request). is_fill r.kind && not r.dropped)
    (map (λ (e : ℕ × Request). e.1) es)) (ap finmap.entries e ∙ no_entries nat_cmp)

pub get_or-push : {A : Type 0} (xs : List A) (d : A) (i : ℕ) → get_or (xs ++ d ∷ []) i d ≡ get_or xs i d
get_or-push [] d zero = refl
get_or-push [] d (suc i) = refl
get_or-push (x ∷ xs) d zero = refl
get_or-push (x ∷ xs) d (suc i) = get_or-push xs d i

-- the state of a store with a page of zeros more
pub zeros_state : (sizes : Sizes) (name : ℕ) (store : Store) (handles : FinMap nat_cmp ℕ) (blocks : Blocks)
    (flights : Flights) (syncs : FinMap nat_cmp Sync) (f p free : ℕ) → store.page ≡ sizes.page
    → state_of sizes name (with_pages store f (finmap.insert (stored_at store f).pages p (blank store.page)) free).files
    handles blocks flights syncs ≡ put_page (state_of sizes name store.files handles blocks flights syncs) f p
    (blank sizes.page)
zeros_state sizes name store handles blocks flights syncs f p free page =
    ap (λ n. state_of sizes name (slice_set store.files f
    (record (stored_at store f) { pages = finmap.insert (stored_at store f).pages p (blank n) })) handles blocks flights
    syncs) page

module _ {s : State} {store : Store} {blocks : Blocks} (c : IsCore s store blocks) where
  -- ---- the page lists, of which the tables say nothing

  pub core-lists : (lists : PageLists) → IsCore s (with_lists store lists) blocks
  core-lists lists = assumption c

  -- ---- a new file

  pub core-create : (now : Store) → now.page ≡ store.page → now.filling ≡ store.filling → now.free ≡ store.free
      → length s.files < MAX_FILES → IsCore (record s { files = s.files ++ no_file ∷ [] }) now blocks
  core-create now page filling free few =
      let more : length (s.files ++ no_file ∷ []) ≡ length s.files + 1 = length-append s.files (no_file ∷ []) in
      record {
        few_files = omega arith;
        known = λ h f e. let old : f < length s.files = c.known h f e in omega arith;
        bounded = λ f. subst (λ (x : File). x.size ≤ MAX_FILE_SIZE) (sym (get_or-push s.files no_file f)) (c.bounded f);
        sized = λ f. subst (λ (x : File). AreSized s.sizes.page x.pages) (sym (get_or-push s.files no_file f))
            (c.sized f);
        page = page ∙ c.page;
        framed = c.framed;
        counted =
            omega (
              arith,
              sum_by_push (λ (file : File). finmap.len file.pages) s.files no_file,
              len-empty nat_cmp Page,
              c.counted,
              free,
            );
        filling = λ f p. ap (λ (m : set.FinSet place_cmp). set.contains m (f, p)) filling ∙ c.filling f p;
        device = c.device;
        holds = c.holds;
        within = c.within;
        filed = λ t r e. (let old : r.file < length s.files = c.filed t r e in omega arith);
        failed = λ f. subst (λ (x : File). x.failures + finmap.len s.requests ≤ s.next)
            (sym (get_or-push s.files no_file f)) (c.failed f);
        serials = c.serials;
        sound = steps_stay_sound s _ event.Create (reply.File (record { 0 = length s.files })) (create_step s few)
            c.sound;
      }

  -- ---- handles

  core-tables : (now : FinMap nat_cmp ℕ) (syncs : FinMap nat_cmp Sync)
      → ((h f : ℕ) → finmap.get now h ≡ Some f → f < length s.files)
      → IsCore (record s { handles = now; syncs = syncs }) store blocks
  core-tables now syncs known = assumption (known, c)

  -- other syncs
  pub core-syncs : (syncs : FinMap nat_cmp Sync) → IsCore (record s { syncs = syncs }) store blocks
  core-syncs syncs = core-tables s.handles syncs c.known

  pub core-open : (h f : ℕ) → f < length s.files
      → IsCore (record s { handles = finmap.insert s.handles h f }) store blocks
  core-open h f here = core-tables (finmap.insert s.handles h f) s.syncs
      (λ k g e. one k g (sym (get-insert_nat s.handles h f k) ∙ e))
    where
      one : (k g : ℕ) → cond (eqb k h) (Some f) (finmap.get s.handles k) ≡ Some g → g < length s.files
      one k g e = elim (eqb k h) as (λ b. cond b (Some f) (finmap.get s.handles k) ≡ Some g → g < length s.files) [
        | true ↦ λ same. let is : f ≡ g = cc in omega arith
        | false ↦ λ same. c.known k g same
      ] e

  pub core-close : (h : ℕ) → IsCore (record s { handles = finmap.remove s.handles h }) store blocks
  core-close h =
      core-tables (finmap.remove s.handles h) s.syncs (λ k g e. one k g (sym (get-remove_nat s.handles h k) ∙ e))
    where
      one : (k g : ℕ) → cond (eqb k h) None (finmap.get s.handles k) ≡ Some g → g < length s.files
      one k g e = elim (eqb k h) as (λ b. cond b None (finmap.get s.handles k) ≡ Some g → g < length s.files) [
        | true ↦ λ same. absurd cc
        | false ↦ λ same. c.known k g same
      ] e

  -- ---- counts

  pub free_frames_are : free_frames s ≡ store.free
  free_frames_are = omega (arith, c.counted)

  -- ---- another entry at f, with so many pages more

  core-file : (f : ℕ) (e : File) (made : ℕ) (now : Store) (bs : Blocks) → f < length s.files
      → AreSized s.sizes.page e.pages → e.size ≤ MAX_FILE_SIZE → finmap.len e.pages ≡ finmap.len (file_at s f).pages
      + made → made ≤ store.free
      → now.page ≡ store.page → now.free ≡ store.free - made → ((g q : ℕ) → is_awaited now g q ≡ is_awaited store g q)
      → bs.count ≡ blocks.count → bs.held ≡ blocks.held → e.failures ≡ (file_at s f).failures
      → Sound (record (put_file s f e) { spots = bs.spots })
      → IsCore (record (put_file s f e) { spots = bs.spots }) now bs
  core-file f e made now bs here sized small more room page free idle count held failures sound =
      core-changed c f here e bs.spots s.requests s.syncs now bs sized small page
      (omega (arith, more, room, free)) (λ g q. idle g q ∙ c.filling g q) count
      (subst (λ (h : FinMap nat_cmp Bool). Holds h s.requests) (sym held) c.holds)
      (λ t r k. (c.within t r k, c.filed t r k)) failures refl sound

  -- ---- a page of zeros

  pub core-zeros : (f p : ℕ) (now : Store) → is_cached s f p ≡ false → is_filling s f p ≡ false → f < length s.files
      → 0 < store.free → now.page ≡ store.page → now.free ≡ store.free - 1
      → ((g q : ℕ) → is_awaited now g q ≡ is_awaited store g q) → s.spots ≡ blocks.spots
      → IsCore (put_page s f p (blank s.sizes.page)) now blocks
  core-zeros f p now absent idle here room page free same spots =
      let e0 : File = file_at s f in
      let e1 : File = record e0 { pages = finmap.insert e0.pages p (blank s.sizes.page) } in
      let one_more : finmap.len e1.pages ≡ finmap.len e0.pages + 1 =
      len-insert nat_cmp_total e0.pages p (blank s.sizes.page)
      ∙ ap (λ b. cond b (finmap.len e0.pages) (finmap.len e0.pages + 1)) absent in
      let sound : Sound (put_page s f p (blank s.sizes.page)) = makes_zeros_sound s c.sound f p absent idle in
      subst (λ (m : FinMap place_cmp Spot). IsCore (record (put_file s f e1) { spots = m }) now blocks) (sym spots)
      (core-file f e1 1 now blocks here (sized_insert s.sizes.page p e0.pages (c.sized f)) (c.bounded f) one_more
      (omega arith) page free same refl refl refl
      (subst (λ (m : FinMap place_cmp Spot). Sound (record (put_file s f e1) { spots = m })) spots sound))

  -- ---- blocks

  module _ (spots : s.spots ≡ blocks.spots) where
    pub free_blocks_are : free_blocks s ≡ device.free_blocks blocks
    free_blocks_are = free_blocks-same s blocks spots (sym c.device) c.holds

    bare_are : (f : ℕ) (pages : List ℕ) → without_block s f pages ≡ filter (is_bare blocks f) pages
    bare_are f pages = ap (λ (m : FinMap place_cmp Spot). filter (λ p. not (is_some (finmap.get m (f, p)))) pages) spots

    placed_are : (f : ℕ) (pages : List ℕ) → placed_on blocks f pages ≡ placed s f pages
    placed_are f pages =
        λ i. overwrite (map (λ (e : ℕ × ℕ). ((f, e.0), record { block = e.1; valid = 0 }))
        (zip (sym (bare_are f pages) i) (sym free_blocks_are i))) (sym spots i)

    -- ---- whether there is room, as the code tests it

    module _ (f o n P : ℕ) (over unframed unplaced : Bool) (page : P ≡ s.sizes.page)
        (over_is : over ≡ (nat_lt 0 (count_by (λ p. not (tags_at s f p).dirty) (touched P o n)) && nat_lt
        s.sizes.dirty_limit (dirty_total s + count_by (λ p. not (tags_at s f p).dirty) (touched P o n))))
        (unframed_is : unframed ≡ nat_lt store.free (count_by (λ p. not (is_cached s f p)) (touched P o n)))
        (unplaced_is : unplaced ≡ nat_lt (length (device.free_blocks blocks))
        (count_by (is_bare blocks f) (touched P o n))) where
      need_is : count_by (is_bare blocks f) (touched P o n) ≡ length (without_block s f (touched s.sizes.page o n))
      need_is = (λ i. count_by (is_bare blocks f) (touched (page i) o n))
          ∙ sym (length-filter (is_bare blocks f) (touched s.sizes.page o n))
          ∙ ap length (sym (bare_are f (touched s.sizes.page o n)))

      over_now : over ≡ (nat_lt 0 (count_by (λ p. not (tags_at s f p).dirty) (touched s.sizes.page o n))
          && nat_lt s.sizes.dirty_limit (dirty_total s + count_by (λ p. not (tags_at s f p).dirty)
          (touched s.sizes.page o n)))
      over_now = over_is ∙ ap (λ (n : ℕ). nat_lt 0 n && nat_lt s.sizes.dirty_limit (dirty_total s + n))
          (λ i. count_by (λ p. not (tags_at s f p).dirty) (touched (page i) o n))

      unframed_now : unframed ≡ nat_lt (free_frames s)
          (count_by (λ p. not (is_cached s f p)) (touched s.sizes.page o n))
      unframed_now = unframed_is
          ∙ (λ i. nat_lt (sym free_frames_are i) (count_by (λ p. not (is_cached s f p)) (touched (page i) o n)))

      unplaced_now : unplaced ≡ nat_lt (length (free_blocks s))
          (length (without_block s f (touched s.sizes.page o n)))
      unplaced_now = unplaced_is ∙ (λ i. nat_lt (length (sym free_blocks_are i)) (need_is i))

      pub room_is : room_tests s f o n
          ≡ cond over (refuse DirtyLimit) (cond unframed (refuse NoFrame) (cond unplaced (refuse NoSpace) None))
      room_is =
          λ i. cond (sym over_now i) (refuse DirtyLimit)
          (cond (sym unframed_now i) (refuse NoFrame) (cond (sym unplaced_now i) (refuse NoSpace) None))

    -- ---- a write

    module _ (h f o n P : ℕ) (file : handle_file s h ≡ f) (page : P ≡ s.sizes.page)
        (passed : write_tests s h o n ≡ None) where
      may : MayWrite s h o n
      may = may_write s h o n passed

      pub frames_enough : count_by (λ p. not (is_some (finmap.get (file_at s f).pages p)))
          (range_with_len (o / P) (touched_count P o n)) ≤ store.free
      frames_enough =
          let same : count_by (λ p. not (is_some (finmap.get (file_at s f).pages p)))
          (range_with_len (o / P) (touched_count P o n)) ≡ count_by (λ p. not (is_cached s (handle_file s h) p))
          (touched s.sizes.page o n) = (λ i. count_by (λ p. not (is_cached s (sym file i) p)) (touched (page i) o n)) in
          omega (arith, may.frames, same, free_frames_are)

      pub blocks_enough : count_by (is_bare blocks f) (range_with_len (o / P) (touched_count P o n))
          ≤ length (device.free_blocks blocks)
      blocks_enough =
          let same : count_by (is_bare blocks f) (range_with_len (o / P) (touched_count P o n))
          ≡ length (without_block s (handle_file s h) (touched s.sizes.page o n)) =
          (λ i. count_by (is_bare blocks (sym file i)) (touched (page i) o n))
          ∙ sym (length-filter (is_bare blocks (handle_file s h)) (touched s.sizes.page o n))
          ∙ ap length (sym (bare_are (handle_file s h) (touched s.sizes.page o n))) in
          omega (arith, may.blocks, same, ap length free_blocks_are)

      -- no page that is written is filling
      pub none_awaited : NoneAwaited f (o / P) ((o + n - 1) / P + 1) store
      none_awaited = record { each = λ q low high. c.filling f q ∙ idle q low high }
        where
          idle : (q : ℕ) → o / P ≤ q → q < (o + n - 1) / P + 1 → is_filling s f q ≡ false
          idle q low high =
              let l : o / s.sizes.page ≤ q = subst (λ k. o / k ≤ q) page low in
              let m : q < (o + n - 1) / s.sizes.page + 1 = subst (λ k. q < (o + n - 1) / k + 1) page high in
              let none =
              none_absent (λ p. is_filling s (handle_file s h) p
              || (must_fill s (handle_file s h) p && not (covers s.sizes.page o n p))) (o / s.sizes.page)
              (touched_count s.sizes.page o n) may.free q l (omega (arith, l, m)) in
              ap (λ g. is_filling s g q) (sym file) ∙ (neither (is_filling s (handle_file s h) q) _ none).0

    module _ (h f o P : ℕ) (b : List ℕ) (e1 e2 : File) (now : Store) (file : handle_file s h ≡ f)
        (page : P ≡ s.sizes.page) (passed : write_tests s h o (length b) ≡ None) (here : f < length s.files)
        (parts : WriteParts P o b (file_at s f) e1 e2) (positive : 0 < P)
        (bound : o + length b ≤ MAX_FILE_SIZE) where
      -- what is said of the page size that the code read, of the one that the cache has
      w : WriteParts s.sizes.page o b (file_at s f) e1 e2
      w = subst (λ k. WriteParts k o b (file_at s f) e1 e2) page parts

      full : 0 < s.sizes.page
      full = omega (arith, page, positive)

      some : 0 < length b
      some = (may_write s h o (length b) passed).some

      abbrev pub taken : ℕ → Blocks
      taken k = with_placed blocks f (range_with_len (o / k) (touched_count k o (length b)))

      entry : e2 ≡ record (file_at s f)
          { size = max (file_at s f).size (o + length b); pages = written_pages s.sizes.page o b (file_at s f).pages }
      entry = parts-file w full some

      write_same : record (put_file s f e2) { spots = (taken s.sizes.page).spots } ≡ written s f o b
      write_same = λ i. record (put_file s f (entry i)) { spots = placed_are f (touched s.sizes.page o (length b)) i }

      -- the state after a write
      pub write_state : record (put_file s f e2) { spots = (taken P).spots } ≡ written s f o b
      write_state = ap (λ k. let t : State = record (put_file s f e2) { spots = (taken k).spots } in t) page
          ∙ write_same

      pub core-written : now.page ≡ store.page
          → now.free ≡ store.free - count_by (λ p. not (is_some (finmap.get (file_at s f).pages p)))
          (range_with_len (o / P) (touched_count P o (length b)))
          → ((g q : ℕ) → is_awaited now g q ≡ is_awaited store g q)
          → IsCore (record (put_file s f e2) { spots = (taken P).spots }) now (taken P)
      core-written same free idle =
          let made : ℕ = count_by (λ p. not (is_some (finmap.get (file_at s f).pages p)))
          (range_with_len (o / P) (touched_count P o (length b))) in
          let more : finmap.len e2.pages ≡ finmap.len (file_at s f).pages + made =
          ap finmap.len (parts-pages w full some)
          ∙ len-written_pages s.sizes.page o b (file_at s f).pages
          ∙ ap (λ k. finmap.len (file_at s f).pages
          + count_by (λ p. not (is_some (finmap.get (file_at s f).pages p)))
          (range_with_len (o / k) (touched_count k o (length b)))) (sym page) in
          let sound : Sound (written s f o b) =
          subst (λ g. Sound (written s g o b)) file
          (written_sound s c.sound h o b (may_write s h o (length b) passed)) in
          core-file f e2 made now (taken P) here (parts_sized w (c.sized f))
          (omega (arith, c.bounded f, bound, parts-size w)) more
          (frames_enough h f o (length b) P file page passed) same free idle refl refl
          (ap (λ (x : File). x.failures) entry) (subst Sound (sym write_state) sound)
