-- A request ends.
use Rattle.std.proofs.Common.{◌≡◌, ℕ, ◌+◌, ◌-◌, ◌*◌, ◌/◌, ◌<◌, ◌≤◌, true, false, ltb, List, length, refl, ap, sym}
use Rattle.std.proofs.Common.{subst, ◌∙◌, arith, Option, Some, None, is_some, option_map, le-div_iff_mul-le}
use Rattle.std.specs.FinMap as finmap
use Rattle.std.proofs.lemmas.Bool.Decides.{nat_tests}
use Rattle.std.proofs.lemmas.List.{get_or_past}
use Rattle.std.proofs.Math.Bool.{or-true, or-false}
use Rattle.pc_types.specs.Files.{page_of}
use Rattle.pc_types.specs.Tags.{no_tags}
use Rattle.pc_types.specs.Spots.{Spot, place_cmp, shown}
use Rattle.pc_types.specs.declared.kind.Kind.TheVariants.{Fill, Flush}
use Rattle.machine.specs.declared.event.Event.TheVariants as event
use Rattle.machine.specs.declared.event.Outcome.{Outcome}
use Rattle.machine.specs.declared.event.Outcome.TheVariants as outcome
use Rattle.machine.specs.State.{State, File, Page, Request, file_at, page_at, spot_at, valid_at, no_file, page_count}
use Rattle.machine.specs.Changes.{put_page, put_file, ended, after_write, flushed, flush_failed}
use Rattle.maps.specs.Maps.{put_some}
use Rattle.machine.specs.Tests.{tests}
use Rattle.machine.proofs.steps.Ends.{own_end_passes}
use Rattle.runs.specs.Plain.{Plain, plain_file}
use Rattle.runs.specs.World.{World, block_bytes}
use Rattle.runs.proofs.views.View.{Flight, FlushIs, Goes, no_gone, put1, put2, writeback, spot_of}
use Rattle.runs.proofs.events.Coupled.{view, Coupled, After, file_changed, put_view}
use Rattle.runs.proofs.events.Lookups.{cached_within, page_at-put_one, change_page-is, size-put, failures-set}
use Rattle.runs.proofs.events.Lookups.{get-remove1, get-insert2}
use Rattle.runs.proofs.events.Tables.{Tables, fit, flight, flight_at, flight_is, bytes_of, flight_ended, ended_tables}
use Rattle.runs.proofs.views.EndQuietly.{end_quietly}
use Rattle.runs.proofs.views.FillEnd.{fill_end}
use Rattle.runs.proofs.views.FlushFailed.{flush_fails}
use Rattle.runs.proofs.views.FlushWritten.{flush_written}

module _ (w : World) (plain : Plain) (c : Coupled w plain) (t : ℕ) (x : Request)
    (there : finmap.get w.core.requests t ≡ Some x) where
  -- the request with its bytes
  abbrev r : Flight
  r = flight (bytes_of w.writing t) x

  is : flight_at w.core.requests w.writing t ≡ Some r
  is = flight_is w.core.requests w.writing t x there

  abbrev s : State
  s = w.core

  -- the world with the outcome and the bytes gone, and this state of the cache
  abbrev pub done : State → World
  done z = record w { core = z; outcomes = finmap.remove w.outcomes t; writing = finmap.remove w.writing t }

  tables : Tables (finmap.remove s.requests t) (finmap.remove w.outcomes t) (finmap.remove w.writing t)
  tables = ended_tables s.requests w.outcomes w.writing c.tables t

  ended_view : view (done (ended s t)) plain
      ≡ record (view w plain) {
        request = put1 (flight_at s.requests w.writing) t None;
        outcome = put1 (finmap.get w.outcomes) t None;
      }
  ended_view = λ i. record (view w plain) {
    request = λ u. flight_ended s.requests w.writing t u i;
    outcome = λ u. get-remove1 w.outcomes t u i;
  }

  pub quietly : (r.dropped ≡ false → r.kind ≡ Flush → ⊥) → After w plain no_gone (done (ended s t)) plain
  quietly q =
      let now = subst (Goes no_gone (view w plain)) (sym ended_view) (end_quietly (view w plain) c.good t r is q) in
      assumption tables

  -- and a page is put
  put_ended : (f p : ℕ) (page : Page) → f < length s.files → view (done (put_page (ended s t) f p page)) plain
      ≡ record (view w plain) {
        page = put2 (page_at s) f p (Some page);
        request = put1 (flight_at s.requests w.writing) t None;
        outcome = put1 (finmap.get w.outcomes) t None;
      }
  put_ended f p page here = put_view (done (ended s t)) plain f p page here
      ∙ (λ i. record (ended_view i) { page = put2 (page_at s) f p (Some page) })

  -- ---- a fill

  pub within : (p : ℕ) (f : ℕ) → p < page_count s.sizes.page (file_at s f).size → f < length s.files
  within p f h = elim (ltb f (length s.files)) as (λ b. ltb f (length s.files) ≡ b → f < length s.files) [
    | true ↦ λ e. grind (arith, nat_tests)
    | false ↦ λ e. absurd (
        let past : file_at s f ≡ no_file = get_or_past s.files f no_file (grind (arith, nat_tests)) in
        let zero_size : (file_at s f).size ≡ 0 = ap (λ (x : File). x.size) past in
        let no_pages : page_count s.sizes.page (file_at s f).size ≡ 0 = ap (page_count s.sizes.page) zero_size
        ∙ none_counted s.sizes.page c.good.positive in omega arith)
  ] refl
    where
      none_counted : (P : ℕ) → 0 < P → (0 + (P - 1)) / P ≡ 0
      none_counted P h = let no : 1 ≤ (0 + (P - 1)) / P → 1 * P ≤ 0 + (P - 1) = (le-div_iff_mul-le h).0 in
          let none : ¬ (1 ≤ (0 + (P - 1)) / P) = (λ k. let a = no k in omega arith) in omega arith

  module _ (bytes : List ℕ) where
    abbrev page : Page
    page = record { bytes = shown s.sizes.page (valid_at s x.file x.page) bytes; tags = no_tags }

    pub filled : r.dropped ≡ false → r.kind ≡ Fill → finmap.get w.outcomes t ≡ Some (outcome.Read bytes)
        → After w plain no_gone (done (put_page (ended s t) r.file r.page page)) plain
    filled live kind noted =
        let f = (c.good.requests t r is).fill live kind in
        let here : r.file < length s.files =
        within r.page r.file (c.good.spot_in r.file r.page (ap is_some (spot_of _ _ f.mapped).1)) in
        file_changed w plain c (done (put_page (ended s t) r.file r.page page)) r.file _ here refl refl refl refl refl
        (put_ended r.file r.page page here) (fill_end (view w plain) c.good t r is live kind bytes noted) tables

  -- ---- a flush

  flush_is : r.dropped ≡ false → r.kind ≡ Flush
      → FlushIs (spot_at s x.file x.page) (page_at s x.file x.page)
      (page_of s.sizes.page (plain_file plain x.file) x.page) (finmap.get w.outcomes t) (block_bytes w x.block) r
  flush_is live kind = (c.good.requests t r is).flush live kind

  tagged : (o : Option Page) → writeback o ≡ true → (page : Page) × (o ≡ Some page)
  tagged None e = absurd cc
  tagged (Some page) e = (page, refl)

  module _ (live : r.dropped ≡ false) (kind : r.kind ≡ Flush) (old_page : Page)
      (cached : page_at s x.file x.page ≡ Some old_page) where
    here : x.file < length s.files
    here = cached_within s x.file x.page (ap is_some cached)

    abbrev failed_file : ℕ → File
    failed_file code =
        record (file_at s x.file) {
          failures = (file_at s x.file).failures + 1;
          last_code = code;
          pages = finmap.insert (file_at s x.file).pages x.page (after_write true old_page);
        }

    abbrev unflushed : ℕ → State
    unflushed code = put_file (ended s t) x.file (failed_file code)

    is_failed : (code : ℕ) → flush_failed (ended s t) x code ≡ unflushed code
    is_failed code =
        ap (λ o. put_file (ended s t) x.file
        (record (file_at s x.file) {
          failures = (file_at s x.file).failures + 1;
          last_code = code;
          pages = put_some x.page (option_map (after_write true) o) (file_at s x.file).pages;
        })) cached

    failed_view : (code : ℕ) → view (done (unflushed code)) plain
        ≡ record (view w plain) {
          page = put2 (page_at s) x.file x.page (Some (after_write true old_page));
          request = put1 (flight_at s.requests w.writing) t None;
          outcome = put1 (finmap.get w.outcomes) t None;
          failures = put1 (λ k. (file_at s k).failures) x.file ((file_at s x.file).failures + 1);
        }
    failed_view code = λ i. record (ended_view i) {
      page = λ g q. page_at-put_one (ended s t) x.file x.page (after_write true old_page) (failed_file code) refl here g
          q i;
      size = λ g. size-put (ended s t) x.file (failed_file code) here refl g i;
      failures = λ g. failures-set (ended s t) x.file (failed_file code) here g i;
    }

    failed_put : (code : ℕ) → After w plain no_gone (done (unflushed code)) plain
    failed_put code = file_changed w plain c (done (unflushed code)) x.file (failed_file code) here refl refl refl refl
        refl (failed_view code)
        (flush_fails (view w plain) c.good t r is live kind old_page (after_write true old_page) cached refl
        (or-true old_page.tags.dirty) refl refl) tables

    abbrev spots : finmap.FinMap place_cmp Spot
    spots = finmap.insert s.spots (x.file, x.page) (record { block = x.block; valid = s.sizes.page })

    abbrev clean : State
    clean = record (put_page (ended s t) x.file x.page (after_write false old_page)) { spots = spots }

    is_flushed : flushed (ended s t) x ≡ clean
    is_flushed =
        ap (λ (z : State). record z { spots = spots })
        (change_page-is (ended s t) x.file x.page (after_write false) old_page cached)

    written_view : view (done clean) plain
        ≡ record (view w plain) {
          page = put2 (page_at s) x.file x.page (Some (after_write false old_page));
          spot = put2 (spot_at s) x.file x.page (Some (record { block = x.block; valid = s.sizes.page }));
          request = put1 (flight_at s.requests w.writing) t None;
          outcome = put1 (finmap.get w.outcomes) t None;
        }
    written_view = λ i. record (put_ended x.file x.page (after_write false old_page) here i) {
      spot = λ g q. get-insert2 s.spots x.file x.page (record { block = x.block; valid = s.sizes.page }) g q i;
    }

    written_put : finmap.get w.outcomes t ≡ Some outcome.Written → After w plain no_gone (done clean) plain
    written_put noted = file_changed w plain c (done clean) x.file _ here refl refl refl refl refl written_view
        (flush_written (view w plain) c.good t r is live kind old_page (after_write false old_page) cached noted refl
        (or-false old_page.tags.dirty) refl refl) tables

  pub failed : (code : ℕ) → x.dropped ≡ false → x.kind ≡ Flush
      → After w plain no_gone (done (flush_failed (ended s t) x code)) plain
  failed code live kind = let a = tagged (page_at s x.file x.page) (flush_is live kind).writeback in
      subst (λ z. After w plain no_gone (done z) plain) (sym (is_failed live kind a.0 a.1 code))
      (failed_put live kind a.0 a.1 code)

  pub written : x.dropped ≡ false → x.kind ≡ Flush → finmap.get w.outcomes t ≡ Some outcome.Written
      → After w plain no_gone (done (flushed (ended s t) x)) plain
  written live kind noted = let a = tagged (page_at s x.file x.page) (flush_is live kind).writeback in
      subst (λ z. After w plain no_gone (done z) plain) (sym (is_flushed live kind a.0 a.1))
      (written_put live kind a.0 a.1 noted)

  -- no test of the end holds
  pub known : (o : Outcome) → finmap.get w.outcomes t ≡ Some o
      → tests s (event.End x.kind (record { cache = s.name; kind = x.kind; serial = record { 0 = t }; block = record { 0 = x.block }; outcome = o }))
      ≡ None
  known o noted = own_end_passes s t x o there (sym (λ i. fit (there i) (noted i)) ∙ c.tables.fit t)
