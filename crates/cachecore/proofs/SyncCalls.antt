-- The calls of a sync, way by way: the step of the machine, and what the cache keeps.
use Rattle.std.proofs.Common.{◌≡◌, ℕ, ◌+◌, ◌<◌, ◌≤◌, Bool, true, false, cond, [], length, refl, ap, sym}
use Rattle.std.proofs.Common.{subst, ◌∙◌, arith}
use Rattle.std.specs.Prelude.{◌&&◌, Option, Some, None, find, is_some, nat_le, option_map, unwrap_or}
use Rattle.std.specs.Ordering.{nat_cmp}
use Rattle.std.specs.FinMap as finmap
use Rattle.std.specs.FinMap.{FinMap}
use Rattle.std.proofs.lemmas.Bool.{false≢true}
use Rattle.std.proofs.lemmas.Bool.Decides.{nat_tests}
use Rattle.pc_types.specs.Tags.{TagSet, no_tags}
use Rattle.pc_types.specs.declared.ids.HandleId.{HandleId}
use Rattle.pc_types.specs.declared.ids.PageIndex.{PageIndex}
use Rattle.pc_types.specs.declared.ids.Serial.{Serial}
use Rattle.pc_types.specs.declared.ids.SyncId.{SyncId}
use Rattle.pc_types.specs.declared.limits.TheConstants.{MAX_SYNCS}
use Rattle.pc_types.specs.declared.refusal.Refusal.TheVariants.{Stranger, TooManyInFlight}
use Rattle.blockdev.specs.Jobs.{Task}
use Rattle.mapping.proofs.MapLemmas.{remove_absent}
use Rattle.mapping.specs.declared.page.FoundPage.{FoundPage}
use Rattle.writeback.specs.Flights as flights
use Rattle.writeback.specs.declared.picks.SyncStep.TheVariants.{Await, Held, Over, Start}
use Rattle.maps.specs.Maps.{change_at, each_value}
use Rattle.maps.proofs.Found.{found}
use Rattle.maps.proofs.Maps.{get-each_value}
use Rattle.maps.proofs.MapLaws.{len-each_value}
use Rattle.machine.specs.declared.event.Event.TheVariants as event
use Rattle.machine.specs.declared.event.Reply.TheVariants as reply
use Rattle.machine.specs.State.{State, File, Page, Request, Sync, file_at, first_awaited, handle_file}
use Rattle.machine.specs.State.{in_range, page_at, tags_of}
use Rattle.machine.specs.Changes.{is_left, put_sync, started, sync_begun, to_write}
use Rattle.machine.specs.Sound.{Sound}
use Rattle.machine.specs.Step.{IsLowest, Step}
use Rattle.machine.specs.Tests.{is_full}
use Rattle.machine.proofs.sound.Steps.{steps_stay_sound}
use Rattle.machine.proofs.steps.Choices.{and_true}
use Rattle.machine.proofs.steps.Passed.{may_start}
use Rattle.pagestore.specs.Ranges.{AreSized}
use Rattle.pagestore.specs.Store.{stored_at, with_pages}
use Rattle.pagestore.specs.Syncing.{FailedSince, IsCoded, SyncSays, bound_now, failed_of, left_of}
use Rattle.cachecore.specs.Syncing.{AreSyncs}
use Rattle.cachecore.specs.Starting.{IsNext, IsStarted, MayStart, with_started}
use Rattle.cachecore.specs.Tables.{IsCore}
use Rattle.cachecore.proofs.CoreLemmas.{core-syncs}
use Rattle.cachecore.proofs.FileKeeps.{all_frames, cached_after, count_files, each_file, file_core}
use Rattle.cachecore.proofs.Parts.{Goes, IsKept, Parts, goes_to, state_by}
use Rattle.cachecore.proofs.SyncChanges.{change_is, changed_syncs, put_syncs, removed_syncs}
use Rattle.cachecore.proofs.SyncLaws.{moved_syncs, pages_failed}
use Rattle.cachecore.proofs.SyncSteps.{begun_step, clean_step, dropped_step, failed_step, full_step, held_step, no_test}
use Rattle.cachecore.proofs.SyncSteps.{not_dropped_step}
use Rattle.cachecore.proofs.SyncSteps.{pick_is, started_step, wait_step}

-- a table that is full
pub crowded : (k : ℕ) → (k < MAX_SYNCS → false ≡ true) → MAX_SYNCS ≤ k
crowded k full = go (nat_le MAX_SYNCS k) refl
  where
    go : (b : Bool) → nat_le MAX_SYNCS k ≡ b → MAX_SYNCS ≤ k
    go true e = grind (arith, nat_tests)
    go false e = absurd (false≢true (full (let less : k < MAX_SYNCS = grind (arith, nat_tests) in less)))

-- pages that become TOWRITE have their bytes
sized_marked : (P : ℕ) (y : Sync) (pages : FinMap nat_cmp Page) → AreSized P pages
    → AreSized P (each_value (to_write y) pages)
sized_marked P y pages sized =
    record {
      each = λ q there. one q (finmap.get pages q) refl (sym (ap is_some (get-each_value (to_write y) pages q))
          ∙ there);
    }
  where
    at : Option Page → ℕ
    at o = length (unwrap_or o (record { bytes = []; tags = no_tags })).bytes

    one : (q : ℕ) (o : Option Page) → finmap.get pages q ≡ o → is_some (option_map (to_write y q) (finmap.get pages q))
        ≡ true → at (finmap.get (each_value (to_write y) pages) q) ≡ P
    one q None e there =
        absurd (let none = ap (λ (o : Option Page). is_some (option_map (to_write y q) o)) e in
        let clash : true ≡ false = sym there ∙ none in cc)
    one q (Some page) e there = ap at (get-each_value (to_write y) pages q ∙ ap (option_map (to_write y q)) e)
        ∙ ap at (sym e) ∙ sized.each q (ap is_some e)

-- the page that is left is the file's
left_found : (file : File) (y : Sync) (q : ℕ) (page : Page) → left_of file y ≡ Some (q, page)
    → finmap.get file.pages q ≡ Some page
left_found file y q page is = go (is_some y.bound) is
  where
    go : (b : Bool) → cond b None (find (is_left y) (finmap.entries file.pages)) ≡ Some (q, page)
        → finmap.get file.pages q ≡ Some page
    go true e = absurd cc
    go false e = (found file.pages (is_left y) (q, page) e).1

module _ (p : Parts)
    (w : IsKept p) where
  abbrev s : State
  s = state_by p

  -- ---- a sync begins

  module _ (h : HandleId) (first last : PageIndex) (file : ℕ) (file_is : Some file ≡ finmap.get p.handles h.0)
      (m : SyncId) where
    abbrev pub fresh : Sync
    fresh = record {
      handle = h.0;
      first = first.0;
      last = last.0;
      started = None;
      failures = (stored_at p.store file).failures;
      bound = None;
    }

    abbrev pub begun : Parts
    begun = record p {
      store = with_pages p.store file (each_value (to_write fresh) (stored_at p.store file).pages)
          p.store.free;
      syncs = finmap.insert p.syncs m.0 fresh;
    }

    here : file < length p.store.files
    here = w.core.known h.0 file (sym file_is)

    marked_core : Sound (sync_begun s file m.0 fresh) → IsCore (sync_begun s file m.0 fresh) begun.store p.blocks
    marked_core sound =
        let e : File =
        record (stored_at p.store file) { pages = each_value (to_write fresh) (stored_at p.store file).pages } in
        let count = len-each_value (to_write fresh) (stored_at p.store file).pages in
        let all = all_frames w.core in
        let files = count_files w.core file e here s.spots s.next s.requests begun.syncs in
        let cached = cached_after w.core file e here s.spots s.next s.requests begun.syncs in
        file_core w.core file e here s.spots s.next s.requests begun.syncs begun.store p.blocks.held
        refl (sized_marked p.sizes.page fresh (stored_at p.store file).pages (w.core.sized file))
        (record {
          page = w.core.page;
          filling = w.core.filling;
          counted = omega arith;
          holds = w.core.holds;
          within = w.core.within;
          filed = λ t x k. (let a = w.core.filed t x k in omega arith);
          failed = each_file w.core file e here s.spots s.next s.requests begun.syncs
              (λ x. x.failures + finmap.len s.requests ≤ s.next) (w.core.failed file) w.core.failed;
          serials = w.core.serials;
          sound = sound;
        })

    marked_syncs : AreSyncs p.handles begun.store.files begun.syncs
    marked_syncs =
        let moved = moved_syncs p.handles p.store.files p.syncs w.syncs begun.store.files
        (pages_failed begun.store p.store file _ _ refl) in
        let count : (failed_of begun.store.files (unwrap_or (finmap.get p.handles h.0) 0)).0
        ≡ (stored_at p.store file).failures = ap (λ o. (failed_of begun.store.files (unwrap_or o 0)).0)
        (sym file_is) ∙ ap (λ (k : ℕ × ℕ). k.0) (pages_failed begun.store p.store file _ _ refl file) in
        put_syncs p.handles begun.store.files p.syncs moved m.0 fresh (ap is_some (sym file_is))
        (λ other. absurd (other count))

    pub begins : first.0 ≤ last.0 → finmap.len p.syncs < MAX_SYNCS → IsLowest (λ k. is_some (finmap.get p.syncs k)) m.0
        → Goes s (event.SyncBegin h first last) (reply.Sync m) begun
    begins order room lowest =
        let of : handle_file s h.0 ≡ file = ap (λ o. unwrap_or o 0) (sym file_is) in
        let step = begun_step s h first last (ap is_some (sym file_is)) order room m lowest
        (state_by begun)
        (λ i. sync_begun s (sym of i) m.0 (record fresh { failures = (file_at s (sym of i)).failures })) in
        record {
          step = step;
          cache = record {
            core =
                marked_core (steps_stay_sound s (state_by begun) (event.SyncBegin h first last)
                (reply.Sync m) step w.core.sound);
            syncs = marked_syncs;
          };
        }

  -- ---- a sync is over or dropped

  abbrev pub without : SyncId → Parts
  without m = record p { syncs = finmap.remove p.syncs m.0 }

  pub without_cache : (m : SyncId) → IsKept (without m)
  without_cache m =
      record {
        core = core-syncs w.core (finmap.remove p.syncs m.0);
        syncs = removed_syncs p.handles p.store.files p.syncs w.syncs m.0;
      }

  pub drops : (m : SyncId) → is_some (finmap.get p.syncs m.0) ≡ true
      → Goes s (event.SyncDrop m) reply.Dropped (without m)
  drops m there =
      record { step = dropped_step s m there (state_by (without m)) refl; cache = without_cache m }

  -- there is no such sync
  pub drops_none : (m : SyncId) → finmap.get p.syncs m.0 ≡ None
      → Goes s (event.SyncDrop m) (reply.Refused Stranger) (without m)
  drops_none m none =
      goes_to s s refl (event.SyncDrop m) (reply.Refused Stranger) p (without m)
      (let same = remove_absent p.syncs m.0 none in λ i. let x : Parts = record p { syncs = same i } in x)
      (record { step = not_dropped_step s m (ap is_some none); cache = w })

  -- ---- a sync y goes on, of this file

  module _ (m : SyncId) (y : Sync) (at : Some y ≡ finmap.get p.syncs m.0) where
    -- its handle is open
    pub must_be_open : None ≡ finmap.get p.handles y.handle → ⊥
    must_be_open none =
        (let there = w.syncs.opened m.0 y (sym at) in let gone = ap is_some none in let clash : true ≡ false = sym there
        ∙ sym gone in cc)

    module _ (file : ℕ) (file_is : Some file ≡ finmap.get p.handles y.handle) where
      of : handle_file s y.handle ≡ file
      of = ap (λ o. unwrap_or o 0) (sym file_is)

      -- where a write of the file failed since the sync began, there is a code
      pub told_code : IsCoded (failed_of p.store.files file) y.failures
      told_code = subst (λ f. IsCoded (failed_of p.store.files f) y.failures) of (w.syncs.coded m.0 y (sym at))

      -- the page that is left
      at_file : (q : ℕ) (page : Page) → left_of (stored_at p.store file) y ≡ Some (q, page)
          → page_at s (handle_file s y.handle) q ≡ Some page
      at_file q page is = ap (λ f. page_at s f q) of ∙ left_found (stored_at p.store file) y q page is

      pub held_call : (q : PageIndex) → SyncSays file (stored_at p.store file) p.flights y (Held q)
          → Step s (event.SyncStep m) (reply.Wait q) s
      held_call q says = held_step s m y (sym at) q (pick_is s y file of (Some (q.0, says.0)) says.1) says.0
          (at_file q.0 says.0 says.1) says.2

      pub next_call : (g : FoundPage) → SyncSays file (stored_at p.store file) p.flights y (Start g)
          → IsNext s m.0 file g.page.0
      next_call g says = record {
        sync = y;
        is = sym at;
        file = of;
        pick = pick_is s y file of (Some (g.page.0, says.0)) says.1;
        page = says.0;
        cached = left_found (stored_at p.store file) y g.page.0 says.0 says.1;
        clean = says.2;
      }

      -- the first request that it awaits
      first_is : (b : ℕ) → b ≡ bound_now p.flights y → flights.first_awaited file y b p.flights.requests
          ≡ first_awaited s y
      first_is b is i = flights.first_awaited (sym of i) y (is i) p.flights.requests

      abbrev pub bounded : ℕ → Parts
      bounded b = record p { syncs = change_at m.0 (λ y. record y { bound = Some b }) p.syncs }

      pub awaits : (q : PageIndex) (b : Serial) → SyncSays file (stored_at p.store file) p.flights y (Await q b)
          → Goes s (event.SyncStep m) (reply.Wait q) (bounded b.0)
      awaits q b says =
          let z : Sync = record y { bound = Some b.0 } in
          let put = change_is p.syncs m.0 (λ (y : Sync). let z : Sync = record y { bound = Some b.0 } in z) y
          (sym at) in
          record {
            step = wait_step s m y (sym at) (pick_is s y file of None says.0) q
                (ap (option_map (λ (e : ℕ × Request). e.1.page)) (sym (first_is b.0 says.1)) ∙ says.2)
                (state_by (bounded b.0))
                ((λ i. let t : State = record s { syncs = put i } in t)
                ∙ (λ i. put_sync s m.0 (record y { bound = Some (says.1 i) })));
            cache = record {
              core = core-syncs w.core (bounded b.0).syncs;
              syncs = subst (AreSyncs p.handles p.store.files) (sym put)
                  (changed_syncs p.handles p.store.files p.syncs w.syncs m.0 y z (sym at) refl refl);
            };
          }

      module _ (says : SyncSays file (stored_at p.store file) p.flights y Over) where
        none_awaited : first_awaited s y ≡ None
        none_awaited = sym (first_is (bound_now p.flights y) refl) ∙ says.1

        pub clean_call : FailedSince (failed_of p.store.files file) y.failures None
            → Goes s (event.SyncStep m) reply.Clean (without m)
        clean_call same = record {
          step = clean_step s m y (sym at) (pick_is s y file of None says.0) none_awaited
              (ap (λ f. (failed_of p.store.files f).0) of ∙ same) (state_by (without m)) refl;
          cache = without_cache m;
        }

        pub failed_call : (code : ℕ) → FailedSince (failed_of p.store.files file) y.failures (Some code)
            → Goes s (event.SyncStep m) (reply.Failed code) (without m)
        failed_call code more =
            let k : FailedSince (failed_of p.store.files (handle_file s y.handle)) y.failures (Some code) =
            subst (λ f. FailedSince (failed_of p.store.files f) y.failures (Some code)) (sym of) more in
            record {
              step = failed_step s m y (sym at) (pick_is s y file of None says.0) none_awaited k.0 code k.1
                  (state_by (without m)) refl;
              cache = without_cache m;
            }

-- ---- a page is started

pub last_cache : (p : Parts)
    → IsKept p → (m q : ℕ) (y : Sync) → finmap.get p.syncs m ≡ Some y
    → (x : FinMap nat_cmp Sync) → x ≡ change_at m (with_started q) p.syncs
    → IsKept (record p { syncs = x })
last_cache p w m q y at x is = record {
  core = core-syncs w.core x;
  syncs = subst (AreSyncs p.handles p.store.files) (sym (is ∙ change_is p.syncs m (with_started q) y at))
      (changed_syncs p.handles p.store.files p.syncs w.syncs m y (with_started q y) at refl refl);
}

module _ (s : State) (sound : Sound s) (m : SyncId) (f : ℕ) (q : PageIndex) (n : IsNext s m.0 f q.0) where
  cached : page_at s (handle_file s n.sync.handle) q.0 ≡ Some n.page
  cached = ap (λ g. page_at s g q.0) n.file ∙ n.cached

  pub next_full : is_full s ≡ true → Step s (event.SyncStep m) (reply.Refused TooManyInFlight) s
  next_full full = full_step s m n.sync n.is q n.pick n.page cached n.clean full

  module _ (room : is_full s ≡ false) where
    -- it is DIRTY
    pub next_startable : MayStart s f q.0
    next_startable =
        let may = may_start s n.sync q.0 n.pick (no_test s m n.sync n.is q n.pick n.page cached n.clean room) in
        let same : may.0 ≡ n.page =
        (let both : Some may.0 ≡ Some n.page = sym may.1.is ∙ cached in let a : may.0 ≡ n.page = cc in a) in
        let left = subst (λ (page : Page). is_left n.sync (q.0, page) ≡ true) same may.1.left in
        let towrite =
        (and_true n.page.tags.towrite (in_range n.sync q.0)
        (and_true (n.page.tags.towrite && in_range n.sync q.0) _ left).0).0 in
        let tags = ap (λ (o : Option Page). tags_of o) n.cached in (
          n.page,
          n.cached,
          sym (ap (λ (t : TagSet). t.dirty) tags)
              ∙ sound.towrite_dirty f q.0 (ap (λ (t : TagSet). t.towrite) tags ∙ towrite),
          n.clean,
        )

    pub next_started : (job : Task) (mid : State) → IsStarted s f q.0 job mid → (x : FinMap nat_cmp Sync)
        → x ≡ change_at m.0 (with_started q.0) mid.syncs
        → Step s (event.SyncStep m) (reply.Job (record { 0 = job.serial })) (record mid { syncs = x })
    next_started job mid h x is =
        let kept : mid.syncs ≡ s.syncs = ap (λ (t : State). t.syncs) h.state in
        let put : x ≡ finmap.insert s.syncs m.0 (with_started q.0 n.sync) = is
        ∙ ap (change_at m.0 (with_started q.0)) kept ∙ change_is s.syncs m.0 (with_started q.0) n.sync n.is in
        started_step s m n.sync n.is q n.pick n.page cached n.clean room (record { 0 = job.serial }) h.next
        (record mid { syncs = x })
        ((λ i. let t : State = record (h.state i) { syncs = put i } in t)
        ∙ ap (λ g. put_sync (started s g q.0) m.0 (with_started q.0 n.sync)) (sym n.file))
