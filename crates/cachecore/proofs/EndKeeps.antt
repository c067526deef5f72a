-- What a cache keeps as a request ends.
use Rattle.std.proofs.Common.{◌≡◌, ℕ, ◌+◌, ◌<◌, ◌≤◌, Bool, true, false, cond, eqb, eqb-true, eq-eqb, not, List, []}
use Rattle.std.proofs.Common.{length, refl, ap, sym, subst, ◌∙◌, arith}
use Rattle.std.specs.Prelude.{◌&&◌, Option, Some, None, is_some, option_map, unwrap_or}
use Rattle.std.specs.Ordering.{nat_cmp}
use Rattle.std.specs.FinMap as finmap
use Rattle.std.specs.FinMap.{FinMap}
use Rattle.std.specs.FinSet as set
use Rattle.std.specs.FinSet.{len-insert}
use Rattle.std.proofs.lemmas.Bool.{false≢true, false_from_ne_true}
use Rattle.pc_types.specs.Tags.{no_tags}
use Rattle.pc_types.specs.Kinds.{is_fill}
use Rattle.pc_types.specs.Spots.{place_cmp}
use Rattle.pc_types.specs.declared.kind.Kind.TheVariants.{Fill, Flush}
use Rattle.mapping.proofs.MapLemmas.{get-insert_here, get-insert_there, len_insert_new, len_remove_old}
use Rattle.blockmap.specs.Blocks.{Blocks, Spots}
use Rattle.machine.specs.State.{State, File, Page, Request, file_at, fills, is_filling, cached_total}
use Rattle.pagestore.specs.Store.{the_page, Store, is_awaited}
use Rattle.maps.specs.Maps.{change_at, put_some}
use Rattle.machine.specs.Changes.{put_page, ended, after_write, flushed, flush_failed}
use Rattle.pagestore.specs.Ranges.{AreSized}
use Rattle.machine.specs.Sound.{Sound}
use Rattle.machine.proofs.sound.Changes.{lookups, one_request}
use Rattle.machine.specs.PageLists.{left}
use Rattle.cachecore.specs.Tables.{IsCore}
use Rattle.machine.proofs.steps.Choices.{and_true}
use Rattle.cachecore.proofs.FillPlaces.{is_live_fill}
use Rattle.cachecore.proofs.FileKeeps.{FitsCore, all_frames, after, count_files, each_file, cached_after, requests_core}
use Rattle.cachecore.proofs.FileKeeps.{file_core}
use Rattle.cachecore.proofs.HoldLaws.{Holds-ended}
use Rattle.maps.proofs.MapLaws.{get-change_at, places_total}
use Rattle.maps.proofs.Lengths.{len_changed}
use Rattle.cachecore.proofs.RequestLaws.{any-ended, none-ended, fills_of, not_fill, flush_fills_none}
use Rattle.maps.proofs.Maps.{get_left}
use Rattle.machine.proofs.sound.Pages.{ended_sound, filled_sound, flush_failed_sound, flushed_sound}
use Rattle.machine.proofs.changes.StateLaws.{filling_shows}
use Rattle.pagestore.proofs.StoreEntries.{contains-put_in, same_places}

-- ---- a page put into its file, and a place taken out of a set

pub sized_put : (P p : ℕ) (pages : FinMap nat_cmp Page) (page : Page) → AreSized P pages → length page.bytes ≡ P
    → AreSized P (finmap.insert pages p page)
sized_put P p pages page sized size = record { each = λ q h. go q (eqb q p) refl h }
  where
    go : (q : ℕ) (b : Bool) → eqb q p ≡ b → is_some (finmap.get (finmap.insert pages p page) q) ≡ true
        → length (the_page (finmap.insert pages p page) q).bytes ≡ P
    go q true e h = ap (λ (o : Option Page). length (unwrap_or o (record { bytes = []; tags = no_tags })).bytes)
        (get-insert_here pages p page q (eqb-true q p e)) ∙ size
    go q false e h =
        let same = get-insert_there pages p page q (λ k. false≢true (sym e ∙ eq-eqb q p k)) in
        ap (λ (o : Option Page). length (unwrap_or o (record { bytes = []; tags = no_tags })).bytes) same
        ∙ sized.each q (sym (ap is_some same) ∙ h)

same_twice : (a b : ℕ) (x : Bool) → (eqb a a && eqb b b) ≡ x → x ≡ true
same_twice a b x e = sym e ∙ (λ i. eq-eqb a a refl i && eq-eqb b b refl i)

set_less : (places : set.FinSet place_cmp) (f p : ℕ) → set.contains places (f, p) ≡ true
    → set.len (set.remove places (f, p)) + 1 ≡ set.len places
set_less places f p there = sym more ∙ ap set.len back
  where
    gone : set.contains (set.remove places (f, p)) (f, p) ≡ false
    gone = contains-put_in places f p false f p
        ∙ ap (λ b. cond b false (set.contains places (f, p))) (same_twice f p _ refl)

    more : set.len (set.insert (set.remove places (f, p)) (f, p)) ≡ set.len (set.remove places (f, p)) + 1
    more = len-insert places_total (set.remove places (f, p)) (f, p)
        ∙ ap (λ b. cond b (set.len (set.remove places (f, p))) (set.len (set.remove places (f, p)) + 1)) gone

    each : (g q : ℕ) (b : Bool) → (eqb g f && eqb q p) ≡ b → cond b true (cond b false (set.contains places (g, q)))
        ≡ set.contains places (g, q)
    each g q false e = refl
    each g q true e = sym ((λ i. set.contains places (eqb-true g f (parts.0) i, eqb-true q p (parts.1) i)) ∙ there)
      where
        parts : (eqb g f ≡ true) × (eqb q p ≡ true)
        parts = and_true (eqb g f) (eqb q p) e

    back : set.insert (set.remove places (f, p)) (f, p) ≡ places
    back = same_places _ _ (λ g q. contains-put_in (set.remove places (f, p)) f p true g q
        ∙ ap (cond (eqb g f && eqb q p) true) (contains-put_in places f p false g q)
        ∙ each g q (eqb g f && eqb q p) refl)

-- the value at one key changed, and put anew
pub put_is : (p : ℕ) (g : Page → Page) (pages : FinMap nat_cmp Page) → is_some (finmap.get pages p) ≡ true
    → finmap.insert pages p (g (the_page pages p)) ≡ change_at p g pages
put_is p g pages there = go (finmap.get pages p) there
  where
    go : (o : Option Page) → is_some o ≡ true
        → finmap.insert pages p (g (unwrap_or o (record { bytes = []; tags = no_tags }))) ≡ put_some p (option_map g o)
        pages
    go None h = absurd cc
    go (Some page) h = refl

-- pages of which one changes, but not its bytes
pub sized_changed : (P p : ℕ) (g : Page → Page) (pages : FinMap nat_cmp Page)
    → ((page : Page) → (g page).bytes ≡ page.bytes) → AreSized P pages → AreSized P (change_at p g pages)
sized_changed P p g pages same sized = record { each = λ q there. by_key q (eqb q p) (get-change_at p g pages q) there }
  where
    at : (o : Option Page) → ℕ
    at o = length (unwrap_or o (record { bytes = []; tags = no_tags })).bytes

    mapped : (o : Option Page) → (is_some (option_map g o) ≡ is_some o) × (at (option_map g o) ≡ at o)
    mapped None = (refl, refl)
    mapped (Some page) = (refl, ap length (same page))

    by_key : (q : ℕ) (b : Bool) → finmap.get (change_at p g pages) q ≡ cond b (option_map g (finmap.get pages q))
        (finmap.get pages q) → is_some (finmap.get (change_at p g pages) q) ≡ true
        → at (finmap.get (change_at p g pages) q) ≡ P
    by_key q true e there = let m = mapped (finmap.get pages q) in ap at e ∙ m.1
        ∙ sized.each q (sym m.0 ∙ sym (ap is_some e) ∙ there)
    by_key q false e there = ap at e ∙ sized.each q (sym (ap is_some e) ∙ there)

-- ---- a request ends

module _ {s : State} {store : Store} {blocks : Blocks} (c : IsCore s store blocks) (t : ℕ) (x : Request)
    (is : finmap.get s.requests t ≡ Some x) where
  less : finmap.len s.requests ≡ finmap.len (finmap.remove s.requests t) + 1
  less = len_remove_old s.requests t x is

  abbrev pub held_left : Blocks
  held_left = record blocks { held = finmap.remove blocks.held x.block }

  -- with the file's new content
  module _ (e : File) (spots : Spots) where
    here : x.file < length s.files
    here = c.filed t x is

    abbrev new : State
    new = after c x.file e here spots s.next (finmap.remove s.requests t) s.syncs

    end_fits : (now : Store) → now.page ≡ s.sizes.page → ((g q : ℕ) → is_awaited now g q ≡ is_filling new g q)
        → cached_total s + finmap.len e.pages + set.len now.filling + now.free ≡ s.sizes.frames
        + finmap.len (file_at s x.file).pages
        → e.failures ≤ (file_at s x.file).failures + 1 → Sound new
        → FitsCore new now (finmap.remove blocks.held x.block)
    end_fits now page filling counted failures sound =
        let files = count_files c x.file e here spots s.next (finmap.remove s.requests t) s.syncs in
        let cached = cached_after c x.file e here spots s.next (finmap.remove s.requests t) s.syncs in
        let n = less in
        record {
          page = page;
          filling = filling;
          counted = omega arith;
          holds = Holds-ended blocks.held s.requests c.holds t x is;
          within = λ u q k. c.within u q (get_left s.requests t u q k).1;
          filed = λ u q k. (let a = c.filed u q (get_left s.requests t u q k).1 in omega arith);
          failed = each_file c x.file e here spots s.next (finmap.remove s.requests t) s.syncs
              (λ y. y.failures + finmap.len (finmap.remove s.requests t) ≤ s.next)
              (let a = c.failed x.file in omega arith)
              (λ g. (let a = c.failed g in omega arith));
          serials = c.serials;
          sound = sound;
        }

  -- with no other change of the files
  ended_fits : (now : Store) → now.page ≡ s.sizes.page → ((g q : ℕ) → is_awaited now g q ≡ is_filling (ended s t) g q)
      → set.len now.filling + now.free ≡ set.len store.filling + store.free
      → FitsCore (ended s t) now (finmap.remove blocks.held x.block)
  ended_fits now page filling counted =
      let n = less in
      let all = all_frames c in
      record {
        page = page;
        filling = filling;
        counted = omega arith;
        holds = Holds-ended blocks.held s.requests c.holds t x is;
        within = λ u q k. c.within u q (get_left s.requests t u q k).1;
        filed = λ u q k. c.filed u q (get_left s.requests t u q k).1;
        failed = λ g. (let a = c.failed g in omega arith);
        serials = c.serials;
        sound = ended_sound s c.sound t;
      }

  -- a request ends that fills no page
  quiet : is_live_fill x ≡ false → (g q : ℕ) → is_awaited store g q ≡ is_filling (ended s t) g q
  quiet fails g q = c.filling g q ∙ sym (any-ended (fills g q) s.requests t x is (not_fill x fails g q))

  pub quiet_core : is_live_fill x ≡ false → IsCore (ended s t) store (record held_left { spots = s.spots })
  quiet_core fails = requests_core c s.spots s.next (finmap.remove s.requests t) s.syncs store
      (finmap.remove blocks.held x.block) (ended_fits store c.page (quiet fails) refl)

  module _ (live : x.dropped ≡ false) where
    -- ---- a fill ends

    module _ (kind : x.kind ≡ Fill) where
      pub fills_here : is_awaited store x.file x.page ≡ true
      fills_here = c.filling x.file x.page ∙ filling_shows s x.file x.page t x is it
        where
          it : fills x.file x.page x ≡ true
          it = (λ i. is_fill (kind i) && not (live i) && (eq-eqb x.file x.file refl i && eq-eqb x.page x.page refl i))

      -- its page is filling no more
      not_filling : (now : Store) → now.filling ≡ set.remove store.filling (x.file, x.page) → (g q : ℕ)
          → is_awaited now g q ≡ is_filling (ended s t) g q
      not_filling now places g q =
          ap (λ (y : set.FinSet place_cmp). set.contains y (g, q)) places
          ∙ contains-put_in store.filling x.file x.page false g q
          ∙ go (eqb g x.file && eqb q x.page) refl
        where
          only : (u : ℕ) (y : Request) → finmap.get s.requests u ≡ Some y → fills g q y ≡ true → g ≡ x.file → q ≡ x.page
              → u ≡ t
          only u y k passes a b = let h = fills_of g q y passes in
              one_request (lookups s) c.sound u t y x k is h.1 live (h.2 ∙ a) (h.3 ∙ b)

          go : (b : Bool) → (eqb g x.file && eqb q x.page) ≡ b
              → cond b false (is_awaited store g q) ≡ is_filling (ended s t) g q
          go true e =
              let parts = and_true (eqb g x.file) (eqb q x.page) e in
              sym (none-ended (fills g q) s.requests t x
              (λ u y k passes. only u y k passes (eqb-true g x.file parts.0) (eqb-true q x.page parts.1)))
          go false e =
              c.filling g q ∙ sym (any-ended (fills g q) s.requests t x is (false_from_ne_true (fills g q x) (λ passes.
              let h = fills_of g q x passes in
              false≢true (sym e ∙ (λ i. eq-eqb g x.file (sym h.2) i && eq-eqb q x.page (sym h.3) i)))))

      abbrev without_place : Store
      without_place =
          record store {
            filling = set.remove store.filling (x.file, x.page);
            free = store.free + 1;
            lists = left x.file x.page store.lists;
          }

      pub unfilled_core : IsCore (ended s t) without_place (record held_left { spots = s.spots })
      unfilled_core =
          let one = set_less store.filling x.file x.page fills_here in
          requests_core c s.spots s.next (finmap.remove s.requests t) s.syncs without_place
          (finmap.remove blocks.held x.block)
          (ended_fits without_place c.page (not_filling without_place refl) (omega arith))

      module _ (bytes : List ℕ) (size : length bytes ≡ s.sizes.page) where
        abbrev filled_page : Page
        filled_page = record { bytes = bytes; tags = no_tags }

        pub filled_core : (now : Store) → now.page ≡ store.page
            → now.filling ≡ set.remove store.filling (x.file, x.page) → now.free ≡ store.free
            → IsCore (put_page (ended s t) x.file x.page filled_page) now (record held_left { spots = s.spots })
        filled_core now page places free =
            let e : File =
            record (file_at s x.file) { pages = finmap.insert (file_at s x.file).pages x.page filled_page } in
            let one = set_less store.filling x.file x.page fills_here in
            let left = ap set.len places in
            let more = len_insert_new (file_at s x.file).pages x.page filled_page (c.sound.fill t x is live kind) in
            let all = all_frames c in
            file_core c x.file e (c.filed t x is) s.spots s.next (finmap.remove s.requests t) s.syncs now
            (finmap.remove blocks.held x.block) refl
            (sized_put s.sizes.page x.page (file_at s x.file).pages filled_page (c.sized x.file) size)
            (end_fits e s.spots now (page ∙ c.page) (not_filling now places) (omega arith) (omega arith)
            (filled_sound s c.sound t x is live bytes))

    -- ---- a flush ends

    module _ (kind : x.kind ≡ Flush) where
      -- the page changes, but not its bytes, and the file is the same but for its failures
      tags_core : (e : File) (g : Page → Page) (spots : Spots) (now : Store)
          → e.pages ≡ change_at x.page g (file_at s x.file).pages → ((page : Page) → (g page).bytes ≡ page.bytes)
          → e.size ≡ (file_at s x.file).size → e.failures ≤ (file_at s x.file).failures + 1
          → now.page ≡ store.page → now.filling ≡ store.filling → now.free ≡ store.free
          → Sound (after c x.file e (c.filed t x is) spots s.next (finmap.remove s.requests t)
          s.syncs)
          → IsCore (after c x.file e (c.filed t x is) spots s.next (finmap.remove s.requests t) s.syncs)
          now (record blocks { spots = spots; held = finmap.remove blocks.held x.block })
      tags_core e g spots now pages bytes size failures same places free sound =
          let count = ap finmap.len pages ∙ len_changed x.page g (file_at s x.file).pages in
          let left = ap set.len places in
          let all = all_frames c in
          file_core c x.file e (c.filed t x is) spots s.next (finmap.remove s.requests t) s.syncs now
          (finmap.remove blocks.held x.block) size
          (subst (AreSized s.sizes.page) (sym pages)
          (sized_changed s.sizes.page x.page g (file_at s x.file).pages bytes (c.sized x.file)))
          (end_fits e spots now (same ∙ c.page) (λ g q. ap (λ (y : set.FinSet place_cmp). set.contains y (g, q)) places
          ∙ quiet (flush_fills_none x kind) g q) (omega arith) failures sound)

      pub flushed_core : (now : Store) → now.page ≡ store.page → now.filling ≡ store.filling → now.free ≡ store.free
          → IsCore (flushed (ended s t) x) now (record held_left { spots = (flushed (ended s t) x).spots })
      flushed_core now same places free =
          let e : File =
          record (file_at s x.file) { pages = change_at x.page (after_write false) (file_at s x.file).pages } in
          tags_core e (after_write false) (flushed (ended s t) x).spots now refl (λ page. refl) refl (omega arith) same
          places free (flushed_sound s c.sound t x is live)

      pub failed_core : (code : ℕ) (now : Store) → now.page ≡ store.page → now.filling ≡ store.filling
          → now.free ≡ store.free → IsCore (flush_failed (ended s t) x code) now (record held_left { spots = s.spots })
      failed_core code now same places free =
          let e : File =
          record (file_at s x.file) {
            failures = (file_at s x.file).failures + 1;
            last_code = code;
            pages = change_at x.page (after_write true) (file_at s x.file).pages;
          } in
          tags_core e (after_write true) s.spots now refl (λ page. refl) refl (omega arith) same places free
          (flush_failed_sound s c.sound t x is live code)
