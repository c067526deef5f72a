-- Requests that begin, are carried out and end in one call: the state between, which nobody sees, and the two steps.
use Rattle.std.proofs.Common.{◌≡◌, ℕ, ◌+◌, ◌^◌, ◌<◌, Bool, false, true, List, [], length, cond, refl, ap, sym, subst, ◌∙◌, inl, inr}
use Rattle.std.specs.Prelude.{◌&&◌, Option, Some, None, Ok, Err, IsTrue, is_some, option_map, unwrap_or, slice_set}
use Rattle.std.specs.FinMap as finmap
use Rattle.std.specs.FinMap.{FinMap}
use Rattle.std.specs.FinSet as set
use Rattle.std.specs.Ordering.{nat_cmp}
use Rattle.std.proofs.lemmas.Bool.{cases_eq}
use Rattle.pc_types.specs.Kinds.{is_flush}
use Rattle.pc_types.specs.Limits.{Sizes, is_err_code}
use Rattle.pc_types.specs.Spots.{Spot, shown}
use Rattle.pc_types.specs.Tags.{no_tags}
use Rattle.pc_types.specs.declared.ids.HandleId.{HandleId}
use Rattle.pc_types.specs.declared.ids.PageIndex.{PageIndex}
use Rattle.pc_types.specs.declared.ids.Serial.{Serial}
use Rattle.pc_types.specs.declared.ids.SyncId.{SyncId}
use Rattle.pc_types.specs.declared.kind.Kind.TheVariants.{Fill, Flush}
use Rattle.pc_types.specs.declared.limits.TheConstants.{SERIAL_END}
use Rattle.blockdev.specs.Device as device
use Rattle.blockdev.specs.Jobs.{FinishedTask, Task}
use Rattle.blockdev.specs.Watching.{Watch}
use Rattle.blockmap.specs.Blocks.{Blocks, with_valid}
use Rattle.blockmap.specs.Keys.{IsPage}
use Rattle.blockmap.specs.Told.{told}
use Rattle.blockmap.specs.declared.spots.Placed.{Placed}
use Rattle.mapping.proofs.MapLemmas.{get-insert_here, get-insert_there, get-remove_here, get-remove_there}
use Rattle.maps.proofs.MapLaws.{same_nat_map}
use Rattle.maps.specs.Maps.{change_at}
use Rattle.writeback.specs.Flights.{Flights}
use Rattle.machine.specs.declared.event.Event.{Event}
use Rattle.machine.specs.declared.event.Event.TheVariants as event
use Rattle.machine.specs.declared.event.Reply.{Reply}
use Rattle.machine.specs.declared.event.Reply.TheVariants as reply
use Rattle.machine.specs.ListChanges.{lists_after, lists_unfilled}
use Rattle.machine.specs.PageLists as lists
use Rattle.machine.specs.PageLists.{PageLists}
use Rattle.machine.specs.State.{State, Page, Request, Sync, block_at, file_at, free_frames, handle_file, is_cached, is_filling}
use Rattle.machine.specs.State.{is_written, page_bytes, page_count, spot_at, valid_at}
use Rattle.machine.specs.Changes.{after_write, requested, started, under_write}
use Rattle.machine.specs.Tests.{is_full}
use Rattle.machine.specs.Step.{Step}
use Rattle.machine.proofs.steps.Choices.{at_false}
use Rattle.pagestore.specs.Filling.{filled}
use Rattle.pagestore.specs.Store.{Store, is_awaited, stored_at, the_page, with_pages}
use Rattle.pagestore.proofs.RangeLemmas.{pages-with, with-with}
use Rattle.cachecore.specs.AtOnce.{IsCarriedOut, IsWritten}
use Rattle.cachecore.specs.Core.{Core}
use Rattle.cachecore.specs.Replies.{IsJobOf, end_of}
use Rattle.cachecore.specs.Starting.{IsStarted, IsToStart, MayStart, with_started}
use Rattle.cachecore.proofs.EndCalls.{awaited_here, few_failures, fill_done, fill_fails, flush_done, flush_fails}
use Rattle.cachecore.proofs.EndKeeps.{put_is}
use Rattle.cachecore.proofs.EndSteps.{Ends}
use Rattle.cachecore.proofs.FillCalls.{fill_job, reading, reading_cache}
use Rattle.cachecore.proofs.FillKeeps.{block_is, unheld_here as unheld_absent}
use Rattle.cachecore.proofs.FlushCalls.{begun, begun_cache, cached_start, same_block, started_call, unheld_block}
use Rattle.cachecore.proofs.FlushKeeps.{fresh}
use Rattle.cachecore.proofs.Parts.{Goes, IsKept, Parts, state_by}
use Rattle.cachecore.proofs.StepLemmas.{above_zero, by_change, filling_tests_left}

-- ---- maps

module _ {X : Type 0} (m : FinMap nat_cmp X) (k : ℕ) where
  -- an entry that was put where none was, and is taken away
  pub remove-insert : (x : X) → finmap.get m k ≡ None → finmap.remove (finmap.insert m k x) k ≡ m
  remove-insert x none = same_nat_map _ _ (λ q. elim (cases_eq q k) [
    | inl e ↦ get-remove_here (finmap.insert m k x) k q e ∙ sym (ap (finmap.get m) e ∙ none)
    | inr n ↦ get-remove_there (finmap.insert m k x) k q n ∙ get-insert_there m k x q n
  ])

  -- an entry that is put over another
  pub insert-insert : (x y : X) → finmap.insert (finmap.insert m k x) k y ≡ finmap.insert m k y
  insert-insert x y = same_nat_map _ _ (λ q. elim (cases_eq q k) [
    | inl e ↦ get-insert_here (finmap.insert m k x) k y q e ∙ sym (get-insert_here m k y q e)
    | inr n ↦ get-insert_there (finmap.insert m k x) k y q n ∙ get-insert_there m k x q n ∙ sym (get-insert_there m k y q n)
  ])

-- ---- what is left of a request that began and ended

-- its serial is taken
abbrev pub passed : Flights → Flights
passed t = record t { next = t.next + 1 }

module _ (p : Parts) (w : IsKept p) where
  pub passed_is : (x : Request)
      → passed p.flights
      ≡ record { next = p.flights.next + 1; requests = finmap.remove (finmap.insert p.flights.requests p.flights.next x) p.flights.next }
  passed_is x = λ i. record {
    next = p.flights.next + 1;
    requests = sym (remove-insert p.flights.requests p.flights.next x (fresh w.core)) i;
  }

  pub held_again : (b : ℕ) → finmap.get p.blocks.held b ≡ None
      → p.blocks ≡ record p.blocks { held = finmap.remove (finmap.insert p.blocks.held b false) b }
  held_again b none = λ i. record p.blocks { held = sym (remove-insert p.blocks.held b false none) i }

-- ---- writes

-- the page after its write began, and after that ended, as two calls leave the store and as one does
pub through_is : (s : Store) (f q : ℕ) → f < length s.files → is_some (finmap.get (stored_at s f).pages q) ≡ true
    → (failed : Bool) → (mid : Store) → mid ≡ with_pages s f (change_at q under_write (stored_at s f).pages) s.free
    → with_pages s f (finmap.insert (stored_at s f).pages q (after_write failed (under_write (the_page (stored_at s f).pages q)))) s.free
    ≡ with_pages mid f (finmap.insert (stored_at mid f).pages q (after_write failed (the_page (stored_at mid f).pages q))) mid.free
through_is s f q here cached failed mid is =
    let P = (stored_at s f).pages in
    let z = under_write (the_page P q) in
    let changed : change_at q under_write P ≡ finmap.insert P q z = sym (put_is q under_write P cached) in
    let page : the_page (finmap.insert P q z) q ≡ z =
    ap (λ (o : Option Page). unwrap_or o (record { bytes = []; tags = no_tags })) (get-insert_here P q z q refl) in
    let twice : finmap.insert (finmap.insert P q z) q (after_write failed (the_page (finmap.insert P q z) q))
    ≡ finmap.insert P q (after_write failed z) =
    ap (λ (y : Page). finmap.insert (finmap.insert P q z) q (after_write failed y)) page
    ∙ insert-insert P q z (after_write failed z) in
    let one : Store = with_pages s f (finmap.insert P q z) s.free in
    let pages : (stored_at one f).pages ≡ finmap.insert P q z = pages-with s f here (finmap.insert P q z) s.free in
    let mid_is : mid ≡ one = is ∙ ap (λ m. with_pages s f m s.free) changed in
    sym (ap (λ (t : Store). with_pages t f (finmap.insert (stored_at t f).pages q (after_write failed (the_page (stored_at t f).pages q))) t.free) mid_is
    ∙ ap (λ m. with_pages one f (finmap.insert m q (after_write failed (the_page m q))) s.free) pages
    ∙ ap (λ m. with_pages one f m s.free) twice
    ∙ with-with s f here (finmap.insert P q z) (finmap.insert P q (after_write failed z)) s.free s.free)

module _ (p : Parts) (w : IsKept p) (f q : ℕ) (start : MayStart (state_by p) f q) (place : IsPage f q)
    (here : f < length p.store.files) (room : is_full (state_by p) ≡ false) (placed : Placed)
    (placed_is : Some placed ≡ option_map told (finmap.get p.blocks.spots (f, q))) (went : device.Outcome) where
  abbrev pub old_bytes : List ℕ
  old_bytes = (the_page (stored_at p.store f).pages q).bytes

  abbrev pub written_job : Task
  written_job = record {
    cache = p.name;
    serial = p.flights.next;
    kind = Flush;
    block = placed.block.0;
    bytes = old_bytes;
  }

  abbrev pub written_done : FinishedTask
  written_done = record {
    cache = p.name;
    serial = p.flights.next;
    kind = Flush;
    block = placed.block.0;
    bytes = old_bytes;
    outcome = went;
  }

  abbrev pub writing : Parts
  writing = begun p w f q start

  writing_kept : IsKept writing
  writing_kept = begun_cache p w f q start place room

  pub is_started : IsStarted (state_by p) f q written_job (state_by writing)
  is_started = started_call p w f q start placed placed_is (record { 0 = p.flights.next }) refl written_job refl

  abbrev request : Request
  request = record { kind = Flush; file = f; page = q; block = unwrap_or (block_at (state_by p) f q) 0; dropped = false }

  there : finmap.get (state_by writing).requests p.flights.next ≡ Some request
  there = get-insert_here p.flights.requests p.flights.next request p.flights.next refl

  pub its_request : (x : Request) → finmap.get (state_by writing).requests p.flights.next ≡ Some x
      → (x.file ≡ f) × (x.kind ≡ Flush)
  its_request x is =
      let same : x ≡ request = ap (λ (o : Option Request). unwrap_or o request) (sym is ∙ there) in
      (ap (λ (x : Request). x.file) same, ap (λ (x : Request). x.kind) same)

  ends : Ends (state_by writing) Flush written_done request
  ends = record {
    cache = refl;
    job = refl;
    found = there;
    kind_is = refl;
    block = same_block p w f q start placed placed_is;
  }

  abbrev pub WriteGoes : Reply → Parts → Type 0
  WriteGoes r new = Goes (state_by writing) (event.End Flush (end_of written_done)) r new

  released : p.blocks ≡ record writing.blocks { held = finmap.remove writing.blocks.held request.block }
  released = held_again p w request.block (ap (finmap.get p.blocks.held) (sym (same_block p w f q start placed placed_is))
      ∙ unheld_block p w f q start placed placed_is)

  put : (failed : Bool) (k : Store)
      → k ≡ with_pages p.store f (finmap.insert (stored_at p.store f).pages q
      (after_write failed (under_write (the_page (stored_at p.store f).pages q)))) p.store.free
      → k ≡ with_pages writing.store f (finmap.insert (stored_at writing.store f).pages q
      (after_write failed (the_page (stored_at writing.store f).pages q))) writing.store.free
  put failed k is = is ∙ through_is p.store f q here (cached_start p w f q start) failed writing.store refl

  pub write_ends : went ≡ Ok tt → (k : Store) (b : Blocks) (t : Flights)
      → k ≡ with_pages p.store f (finmap.insert (stored_at p.store f).pages q
      (after_write false (under_write (the_page (stored_at p.store f).pages q)))) p.store.free
      → b ≡ record p.blocks { spots = with_valid p.sizes.page (finmap.get p.blocks.spots (f, q)) (f, q) p.blocks.spots }
      → t ≡ passed p.flights
      → WriteGoes reply.Written (record writing { store = k; blocks = b; flights = t })
  write_ends well k b t store blocks fly =
      flush_done writing writing_kept written_done request (state_by writing) refl ends refl well k p.blocks b t
      (put false k store) released blocks (fly ∙ passed_is p w request)

  pub failures_left : (k : Store)
      → k ≡ with_pages p.store f (finmap.insert (stored_at p.store f).pages q
      (after_write true (under_write (the_page (stored_at p.store f).pages q)))) p.store.free
      → (stored_at k f).failures + 1 < 2 ^ 64
  failures_left k is =
      few_failures writing writing_kept written_done request (state_by writing) refl ends refl k (put true k is)

  pub write_fails : (code n : ℕ) → n ≡ code → went ≡ Err code → IsTrue (is_err_code code) → (k0 k : Store) (t : Flights)
      → k0 ≡ with_pages p.store f (finmap.insert (stored_at p.store f).pages q
      (after_write true (under_write (the_page (stored_at p.store f).pages q)))) p.store.free
      → k ≡ record k0 {
        files = slice_set k0.files f (record (stored_at k0 f)
            { failures = (stored_at k0 f).failures + 1; last_code = n });
      }
      → t ≡ passed p.flights
      → WriteGoes (reply.Failed code) (record writing { store = k; blocks = p.blocks; flights = t })
  write_fails code n same failed is_code k0 k t before after fly =
      flush_fails writing writing_kept written_done request (state_by writing) refl ends refl code n same failed is_code k0 k
      p.blocks t (put true k0 before) after released (fly ∙ passed_is p w request)

-- the event that began it, and its end
pub carried : (old was : Core) (f p : ℕ) (from : Watch) (r : Reply) (new : Core) (to : Watch) → IsWritten was f p from r new to
    → was.state.name ≡ old.state.name → was.state.sizes ≡ old.state.sizes → was.lists ≡ old.lists → (e : Event)
    → ((job : Task) (mid : State) → IsStarted was.state f p job mid
    → Step old.state e (reply.Job (record { 0 = job.serial })) mid)
    → ((t : Serial) → lists_after old.state e (reply.Job t) old.lists ≡ old.lists) → IsCarriedOut old e from f r new to
carried old was f p from r new to h name sizes same e begins still =
    let of = h.started.job_is in
    let it = h.its of.0 of.1 in
    record {
      begun = h.begun;
      job = h.job;
      done = h.done;
      begins = begins h.job h.begun h.started;
      its = (
        of.0,
        of.1,
        of.2
            ∙ (λ i. record {
              cache = h.begun.name;
              serial = h.job.serial;
              kind = of.0.kind;
              block = of.0.block;
              bytes = cond (is_flush (sym it.1 i)) (page_bytes h.begun of.0.file of.0.page) h.job.bytes;
            }),
      );
      file = it.0;
      within = h.within;
      fits = record {
        cache = h.fits.cache ∙ name;
        block = subst (λ (g : Sizes). h.job.block < g.blocks) sizes h.fits.block;
        size = h.fits.size ∙ ap (λ (g : Sizes). g.page) sizes;
      };
      makes = h.makes;
      ends = subst (λ k. Step h.begun (event.End k (end_of h.done)) r new.state) (sym h.kind) h.ends;
      lists = h.lists ∙ same
          ∙ sym (ap (λ k. lists_after h.begun (event.End k (end_of h.done)) r
          (lists_after old.state e (reply.Job (record { 0 = h.job.serial })) old.lists)) h.kind
          ∙ still (record { 0 = h.job.serial }));
    }

-- a sync's page is started after the sync has noted it, which is the same step
pub noted_first : (old t : State) → t ≡ old → (m : SyncId) (f p : ℕ) → IsToStart old m f p → (x : FinMap nat_cmp Sync)
    → x ≡ change_at m.0 (with_started p) t.syncs → (job : Task) (mid : State) → IsStarted (record t { syncs = x }) f p job mid
    → Step old (event.SyncStep m) (reply.Job (record { 0 = job.serial })) mid
noted_first old t same m f p start x put job mid h =
    let bare : State = record mid { syncs = old.syncs } in
    let begun : IsStarted old f p job bare = record {
      next = h.next ∙ ap (λ (s : State). s.next) same;
      state = (λ i. record (h.state i) { syncs = old.syncs }) ∙ (λ i. record (started (same i) f p) { syncs = old.syncs });
      job_is = h.job_is;
    } in
    let noted : mid.syncs ≡ change_at m.0 (with_started p) old.syncs =
    ap (λ (s : State). s.syncs) h.state ∙ put ∙ ap (λ (s : State). change_at m.0 (with_started p) s.syncs) same in
    subst (λ y. Step old (event.SyncStep m) (reply.Job (record { 0 = job.serial })) (record mid { syncs = y })) (sym noted)
    (start.begins job bare begun)

-- ---- reads

pub read_step : (s : State) (h : HandleId) (p : PageIndex) (f : ℕ) → finmap.get s.handles h.0 ≡ Some f
    → p.0 < page_count s.sizes.page (file_at s f).size → is_filling s f p.0 ≡ false → is_cached s f p.0 ≡ false
    → 0 < free_frames s → is_written s f p.0 ≡ true → is_full s ≡ false
    → Step s (event.FillBegin h p) (reply.Job (record { 0 = s.next })) (requested s Fill f p.0)
read_step s h p f found inside idle absent frames written room =
    let of : handle_file s h.0 ≡ f = ap (λ o. unwrap_or o 0) found in
    by_change s (event.FillBegin h p) (reply.Job (record { 0 = s.next })) (requested s Fill f p.0)
    (filling_tests_left s h p f (sym found) inside ∙ at_false _ _ _ idle ∙ at_false _ _ _ absent
    ∙ at_false _ _ _ (above_zero (free_frames s) frames) ∙ at_false _ _ _ (λ i. written i && room i))
    (ap (λ g. is_written s g p.0) of ∙ written, refl)
    (ap (λ g. requested s Fill g p.0) (sym of))

module _ (p : Parts) (w : IsKept p) (f q : ℕ) (absent : is_cached (state_by p) f q ≡ false)
    (idle : is_filling (state_by p) f q ≡ false) (spot : Spot) (at : spot_at (state_by p) f q ≡ Some spot)
    (valid : 0 < spot.valid) (place : IsPage f q)
    (here : f < length p.store.files) (frames : 0 < p.store.free) (serials : p.flights.next < SERIAL_END)
    (before after : List ℕ) (went : device.Outcome) where
  abbrev pub read_job : Task
  read_job = record { cache = p.name; serial = p.flights.next; kind = Fill; block = spot.block; bytes = before }

  abbrev pub read_done : FinishedTask
  read_done = record {
    cache = p.name;
    serial = p.flights.next;
    kind = Fill;
    block = spot.block;
    bytes = after;
    outcome = went;
  }

  abbrev pub being_read : Parts
  being_read = reading p w f q absent idle spot at

  being_kept : IsKept being_read
  being_kept = reading_cache p w f q absent idle spot at place here valid frames serials

  pub is_read_job : IsJobOf (state_by being_read) read_job (λ x. read_job.bytes)
  is_read_job = fill_job (state_by p) (state_by being_read) f q spot.block (ap (option_map (λ (x : Spot). x.block)) at) refl read_job refl refl refl refl

  abbrev wanted : Request
  wanted = record { kind = Fill; file = f; page = q; block = unwrap_or (block_at (state_by p) f q) 0; dropped = false }

  wanted_there : finmap.get (state_by being_read).requests p.flights.next ≡ Some wanted
  wanted_there = get-insert_here p.flights.requests p.flights.next wanted p.flights.next refl

  pub read_request : (x : Request) → finmap.get (state_by being_read).requests p.flights.next ≡ Some x
      → (x.file ≡ f) × (x.kind ≡ Fill)
  read_request x is =
      let same : x ≡ wanted = ap (λ (o : Option Request). unwrap_or o wanted) (sym is ∙ wanted_there) in
      (ap (λ (x : Request). x.file) same, ap (λ (x : Request). x.kind) same)

  read_ends_it : Ends (state_by being_read) Fill read_done wanted
  read_ends_it = record {
    cache = refl;
    job = refl;
    found = wanted_there;
    kind_is = refl;
    block = sym (block_is w.core f q absent idle spot at);
  }

  abbrev pub ReadGoes : Reply → Parts → Type 0
  ReadGoes r new = Goes (state_by being_read) (event.End Fill (end_of read_done)) r new

  -- it waits for its bytes
  pub awaits_it : is_awaited being_read.store f q ≡ true
  awaits_it = awaited_here being_read being_kept read_done wanted (state_by being_read) refl read_ends_it refl

  pub unfilled_lists : (l : PageLists) → lists_unfilled (finmap.get (state_by being_read).requests p.flights.next) l ≡ lists.left f q l
  unfilled_lists l = ap (λ o. lists_unfilled o l) wanted_there

  pub read_its : IsJobOf (state_by being_read) read_job
      (λ x. cond (is_flush x.kind) (page_bytes (state_by being_read) x.file x.page) read_job.bytes)
  read_its = (
    is_read_job.0,
    is_read_job.1,
    is_read_job.2
        ∙ (λ i. record {
          cache = p.name;
          serial = read_job.serial;
          kind = is_read_job.0.kind;
          block = is_read_job.0.block;
          bytes = cond (is_flush (sym (read_request is_read_job.0 is_read_job.1).1 i))
              (page_bytes (state_by being_read) is_read_job.0.file is_read_job.0.page) read_job.bytes;
        }),
  )

  pub read_file : read_its.0.file ≡ f
  read_file = (read_request read_its.0 read_its.1).0

  let_go : p.blocks ≡ record being_read.blocks { held = finmap.remove being_read.blocks.held wanted.block }
  let_go = held_again p w wanted.block (ap (finmap.get p.blocks.held) (block_is w.core f q absent idle spot at)
      ∙ unheld_absent w.core f q absent idle spot at)

  -- what the block shows, by the state
  shows : shown being_read.store.page spot.valid after ≡ shown p.sizes.page (valid_at (state_by being_read) f q) after
  shows = λ i. shown (w.core.page i)
      (sym (ap (λ o. unwrap_or (option_map (λ (x : Spot). x.valid) o) 0) at) i) after

  pub read_ends : went ≡ Ok tt → (k0 k : Store) (t : Flights) → k0 ≡ being_read.store
      → k ≡ filled k0 f q (shown k0.page spot.valid after) → t ≡ passed p.flights
      → ReadGoes reply.Filled (record being_read { store = k; blocks = p.blocks; flights = t })
  read_ends well k0 k t begun store fly =
      fill_done being_read being_kept read_done wanted (state_by being_read) refl read_ends_it refl well k p.blocks t
      (store ∙ ap (λ (s : Store). filled s f q (shown s.page spot.valid after)) begun ∙ ap (filled being_read.store f q) shows)
      let_go (fly ∙ passed_is p w wanted)

  pub read_fails : (code : ℕ) → went ≡ Err code → (k0 k : Store) (t : Flights) → k0 ≡ being_read.store
      → k ≡ record k0 {
        filling = set.remove k0.filling (f, q);
        free = k0.free + 1;
        lists = lists.left f q k0.lists;
      }
      → t ≡ passed p.flights
      → ReadGoes (reply.Failed code) (record being_read { store = k; blocks = p.blocks; flights = t })
  read_fails code failed k0 k t begun store fly =
      fill_fails being_read being_kept read_done wanted (state_by being_read) refl read_ends_it refl code failed k p.blocks t
      (store ∙ ap (λ (s : Store). let z : Store = record s {
        filling = set.remove s.filling (f, q);
        free = s.free + 1;
        lists = lists.left f q s.lists;
      } in z) begun) let_go (fly ∙ passed_is p w wanted)
