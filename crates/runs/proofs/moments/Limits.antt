-- How many files, handles, requests, syncs, frames and failures there are at most, and how long files are; and that
-- the handle of a sync in progress is open.
use Rattle.std.proofs.Common.{List, ◌≡◌, ℕ, ◌+◌, ◌/◌, ◌<◌, ◌≤◌, ◌++◌, Bool, true, false, cond, not, eqb, eq-eqb, []}
use Rattle.std.proofs.Common.{◌∷◌, length, get_or, refl, ap, sym, subst, ◌∙◌, arith, inl, inr, count_by, ◌&&◌, Option}
use Rattle.std.proofs.Common.{Some, None, is_some, option_map, max, nat_le, slice_set, sum_by, nat_cmp, length-set}
use Rattle.std.proofs.Common.{length-append, map}
use Rattle.std.proofs.lemmas.List.Sums.{sum_by-cons}
use Rattle.maps.specs.Maps.{change_at}
use Rattle.machine.specs.State.{spot_at, touched, free_frames, State, File, Page, Request, Sync, file_at, handle_file}
use Rattle.machine.specs.State.{is_open, page_at, page_count, has_block, no_file, cached_total, filling_total}
use Rattle.machine.specs.Changes as changes
use Rattle.machine.specs.Catalogs.{adopted}
use Rattle.machine.proofs.changes.Adopted.{file_of, same_count, adopted_file}
use Rattle.machine.specs.Changes.{put_page, put_file, sync_begun, flush_failed, boundary, cut_page, cut_request}
use Rattle.machine.specs.Changes.{to_write, new_sync, under_write, after_write, started, shrunk, ended}
use Rattle.std.specs.List.{list_any}
use Rattle.std.specs.FinMap as finmap
use Rattle.std.specs.FinMap.{len-empty}
use Rattle.pc_types.specs.Kinds.{is_fill}
use Rattle.pc_types.specs.declared.kind.Kind.TheVariants.{Fill}
use Rattle.pc_types.specs.declared.limits.TheConstants.{MAX_FILES, MAX_FILE_SIZE, MAX_HANDLES, MAX_IN_FLIGHT, MAX_SYNCS}
use Rattle.pc_types.specs.declared.limits.TheConstants.{SERIAL_END}
use Rattle.machine.specs.Tests.{is_full}
use Rattle.machine.proofs.steps.Cases.{Cases}
use Rattle.machine.proofs.changes.ChangeLaws.{cut_pages, get-cut_pages}
use Rattle.machine.proofs.steps.Choices.{neither, below, by_choice}
use Rattle.maps.proofs.Maps.{none_passes}
use Rattle.maps.proofs.MapLaws.{len-each_value}
use Rattle.machine.proofs.changes.StateLaws.{get_or-set}
use Rattle.runs.specs.Plain.{Plain}
use Rattle.runs.specs.Seen.{files_seen}
use Rattle.runs.specs.Runs.{Steps, IsFirst, Run, last}
use Rattle.runs.specs.World.{World, Move, WorldStep}
use Rattle.runs.proofs.views.View.{put1_tells, spot_of, live_spot}
use Rattle.runs.proofs.events.Coupled.{view, Coupled}
use Rattle.runs.proofs.events.Tables.{flight, bytes_of, flight_is}
use Rattle.runs.proofs.moments.CoreSteps.{core_cases}
use Rattle.maps.proofs.Count.{count_of}
use Rattle.runs.proofs.events.Ends.{within}
use Rattle.runs.proofs.moments.FrameCounts.{cached_set, cached_more, count_cut, filling_is, is_live_fill}
use Rattle.maps.proofs.Lengths.{count_empty, count_put, count_gone, count_one_gone, len_le, len_put, len_put_there}
use Rattle.maps.proofs.Lengths.{len_changed, len_gone, len_one_gone}
use Rattle.runs.proofs.events.Lookups.{cached_within, get-insert1, get-remove1, failures-set, failures-put}
use Rattle.machine.proofs.sound.Lookups.{get_or-default}
use Rattle.runs.proofs.moments.Moments.{run_keeps, first_coupled}
use Rattle.machine.proofs.changes.WriteLengths.{len-written_pages}

-- the handle of the sync is open, and its range is one
pub record SyncFits (s : State) (y : Sync) : Type 0 where
  pub opened : is_open s y.handle ≡ true
  pub range : y.first ≤ y.last

pub record Limits (s : State) : Type 0 where
  pub files : length s.files ≤ MAX_FILES
  pub handles : finmap.len s.handles ≤ MAX_HANDLES
  pub requests : finmap.len s.requests ≤ MAX_IN_FLIGHT
  pub syncs : finmap.len s.syncs ≤ MAX_SYNCS
  pub sizes : (f : ℕ) → (file_at s f).size ≤ MAX_FILE_SIZE
  pub frames : cached_total s + filling_total s ≤ s.sizes.frames
  -- each failure was a request that ended
  pub failures : (f : ℕ) → (file_at s f).failures + finmap.len s.requests ≤ s.next
  pub serials : s.next ≤ SERIAL_END
  pub each_sync : (m : ℕ) (y : Sync) → finmap.get s.syncs m ≡ Some y → SyncFits s y

-- ---- the parts, each for a change that leaves the others

-- one more of what was fewer than the limit
one_more : (a b n : ℕ) → a ≤ b + 1 → b < n → a ≤ n
one_more a b n h k = omega arith

no_more : (a b n : ℕ) → a ≤ b → b ≤ n → a ≤ n
no_more a b n h k = omega arith

longest : (a b n : ℕ) → a ≤ n → b ≤ n → max a b ≤ n
longest a b n h k = omega arith

in_flight : (s : State) → is_full s ≡ false → finmap.len s.requests < MAX_IN_FLIGHT
in_flight s e =
    below (finmap.len s.requests) MAX_IN_FLIGHT
    (neither (nat_le MAX_IN_FLIGHT (finmap.len s.requests)) (nat_le SERIAL_END s.next) e).0

has_serial : (s : State) → is_full s ≡ false → s.next + 1 ≤ SERIAL_END
has_serial s e =
    next_at_most s.next SERIAL_END
    (below s.next SERIAL_END (neither (nat_le MAX_IN_FLIGHT (finmap.len s.requests)) (nat_le SERIAL_END s.next) e).1)
  where
    next_at_most : (a b : ℕ) → a < b → a + 1 ≤ b
    next_at_most a b h = omega arith

module _ (s : State) (c : Limits s) (valid : (h : ℕ) → is_open s h ≡ true → handle_file s h < length s.files)
    (live_file : (t : ℕ) (r : Request) → finmap.get s.requests t ≡ Some r → r.dropped ≡ false
    → r.file < length s.files) where
  -- ---- requests

  -- what the requests of the new state have to meet, by the failures and the next serial
  record RequestsFit (new : State) : Type 0 where
    pub count : finmap.len new.requests ≤ MAX_IN_FLIGHT
    pub filling : cached_total new + filling_total new ≤ new.sizes.frames
    pub failures : (f : ℕ) → (file_at new f).failures + finmap.len new.requests ≤ new.next
    pub serials : new.next ≤ SERIAL_END

  -- ---- files

  -- file f is changed, and its failures are no more; requests are no more
  record FileChange (new : State) (f : ℕ) (file : File) : Type 0 where
    pub here : f < length s.files
    pub files : new.files ≡ slice_set s.files f file
    pub size : file.size ≤ MAX_FILE_SIZE
    pub handles : new.handles ≡ s.handles
    pub sizes : new.sizes ≡ s.sizes

  file_change : (new : State) (f : ℕ) (file : File) → f < length s.files → new.files ≡ slice_set s.files f file
      → file.size ≤ MAX_FILE_SIZE → new.handles ≡ s.handles → new.sizes ≡ s.sizes → FileChange new f file
  file_change new f file here files size handles sizes = assumption

  file_now : (new : State) (f : ℕ) (file : File) → FileChange new f file → (g : ℕ)
      → file_at new g ≡ cond (eqb g f) file (file_at s g)
  file_now new f file k g = ap (λ fs. get_or fs g no_file) k.files ∙ get_or-set s.files f g file no_file k.here

  same_failures : (new : State) (f : ℕ) (file : File) → FileChange new f file → file.failures ≡ (file_at s f).failures
      → (g : ℕ) → (file_at new g).failures ≡ (file_at s g).failures
  same_failures new f file k e g = ap (λ fs. (get_or fs g no_file).failures) k.files ∙ failures-put s f file k.here e g

  one_file : (new : State) (f : ℕ) (file : File) → FileChange new f file → RequestsFit new
      → finmap.len new.syncs ≤ MAX_SYNCS → ((m : ℕ) (y : Sync) → finmap.get new.syncs m ≡ Some y → SyncFits s y)
      → Limits new
  one_file new f file k requests syncs each = record {
    files = subst (λ n. n ≤ MAX_FILES) (sym (ap length k.files ∙ length-set s.files f file)) c.files;
    handles = subst (λ m. finmap.len m ≤ MAX_HANDLES) (sym k.handles) c.handles;
    requests = requests.count;
    syncs = syncs;
    sizes = λ g. subst (λ x. x ≤ MAX_FILE_SIZE) (sym (ap (λ (x : File). x.size) (file_now new f file k g)))
        (either (eqb g f) g);
    frames = requests.filling;
    failures = requests.failures;
    serials = requests.serials;
    each_sync = λ m y is. let a = each m y is in
        record { opened = ap (λ h. is_some (finmap.get h y.handle)) k.handles ∙ a.opened; range = a.range };
  }
    where
      either : (b : Bool) (g : ℕ) → (cond b file (file_at s g)).size ≤ MAX_FILE_SIZE
      either true g = k.size
      either false g = c.sizes g

  -- the requests are as they were, and the file has no more pages than there are frames for
  requests_stay : (new : State) (f : ℕ) (file : File) → FileChange new f file → file.failures ≡ (file_at s f).failures
      → new.requests ≡ s.requests → new.next ≡ s.next → cached_total s + finmap.len file.pages + filling_total s
      ≤ s.sizes.frames + finmap.len (file_at s f).pages → RequestsFit new
  requests_stay new f file k same q n room = record {
    count = subst (λ m. finmap.len m ≤ MAX_IN_FLIGHT) (sym q) c.requests;
    filling = let a = cached_set s new f file k.here k.files in let b = ap (λ x. x.frames) k.sizes in
        let d = filling_is s in let e = filling_is new in let g = ap (count_of is_live_fill) q in omega arith;
    failures = λ g. let a = same_failures new f file k same g in let b = ap finmap.len q in let old = c.failures g in
        omega arith;
    serials = subst (λ x. x ≤ SERIAL_END) (sym n) c.serials;
  }

  -- a file is put whose pages there are frames for
  put : (f : ℕ) (file : File) → f < length s.files → file.size ≤ MAX_FILE_SIZE → file.failures ≡ (file_at s f).failures
      → cached_total s + finmap.len file.pages + filling_total s ≤ s.sizes.frames + finmap.len (file_at s f).pages
      → Limits (put_file s f file)
  put f file here size same room =
      let k = file_change (put_file s f file) f file here refl size refl refl in
      one_file _ f file k (requests_stay _ f file k same refl refl room) c.syncs c.each_sync

  -- requests are no more, and of them no more fill; nor has the file more pages
  requests_fewer : (new : State) (f : ℕ) (file : File) → FileChange new f file → file.failures ≡ (file_at s f).failures
      → finmap.len new.requests ≤ finmap.len s.requests → new.next ≡ s.next
      → count_of is_live_fill new.requests + finmap.len file.pages ≤ count_of is_live_fill s.requests
      + finmap.len (file_at s f).pages → RequestsFit new
  requests_fewer new f file k same q n room = record {
    count = no_more _ (finmap.len s.requests) MAX_IN_FLIGHT q c.requests;
    filling = let a = cached_set s new f file k.here k.files in let b = ap (λ x. x.frames) k.sizes in
        let d = filling_is s in let e = filling_is new in let old = c.frames in omega arith;
    failures = λ g. let a = same_failures new f file k same g in let old = c.failures g in omega arith;
    serials = subst (λ x. x ≤ SERIAL_END) (sym n) c.serials;
  }

  -- a request begins that fills no page, and a page changes
  flush_more : (new : State) (f : ℕ) (file : File) (x : Request) → FileChange new f file
      → file.failures ≡ (file_at s f).failures → is_live_fill x ≡ false → is_full s ≡ false
      → new.requests ≡ finmap.insert s.requests s.next x → new.next ≡ s.next + 1
      → finmap.len file.pages ≡ finmap.len (file_at s f).pages → RequestsFit new
  flush_more new f file x k same none room q n pages = record {
    count = subst (λ m. finmap.len m ≤ MAX_IN_FLIGHT) (sym q)
        (one_more _ (finmap.len s.requests) MAX_IN_FLIGHT (len_put s.requests s.next x) (in_flight s room));
    filling = let a = cached_set s new f file k.here k.files in let b = ap (λ x. x.frames) k.sizes in
        let d = filling_is s in let e = filling_is new in let old = c.frames in
        let g = ap (count_of is_live_fill) q in let h = count_put is_live_fill s.requests s.next x in
        let i : ◌≡◌ {A = ℕ} (cond (is_live_fill x) 1 0) 0 = ap (λ b. cond b 1 0) none in omega arith;
    failures = λ g. let a = same_failures new f file k same g in let b = ap finmap.len q in
        let d = len_put s.requests s.next x in let old = c.failures g in omega arith;
    serials = subst (λ y. y ≤ SERIAL_END) (sym n) (has_serial s room);
  }

  -- ---- syncs

  put_syncs : (k : ℕ) (z : Sync) → SyncFits s z → (m : ℕ) (y : Sync) → finmap.get (finmap.insert s.syncs k z) m ≡ Some y
      → SyncFits s y
  put_syncs k z ok m y is = elim (put1_tells (finmap.get s.syncs) k (Some z) m) [
    | inl a ↦ subst (SyncFits s) (let it : Some z ≡ Some y = sym (get-insert1 s.syncs k z m ∙ a.1) ∙ is in
        let same : z ≡ y = cc in same) ok
    | inr a ↦ c.each_sync m y (sym (get-insert1 s.syncs k z m ∙ a.1) ∙ is)
  ]

  -- a sync that stands, with a new bound or a new page that it started last
  same_sync : (m : ℕ) (y z : Sync) → finmap.get s.syncs m ≡ Some y → z.handle ≡ y.handle → z.first ≡ y.first
      → z.last ≡ y.last → SyncFits s z
  same_sync m y z is h a b = let old = c.each_sync m y is in
      record { opened = ap (is_open s) h ∙ old.opened; range = let r = old.range in omega arith }

  -- only other tables change
  other_tables : (new : State) → new.files ≡ s.files → new.sizes ≡ s.sizes → new.requests ≡ s.requests
      → new.next ≡ s.next → finmap.len new.handles ≤ MAX_HANDLES → finmap.len new.syncs ≤ MAX_SYNCS
      → ((m : ℕ) (y : Sync) → finmap.get new.syncs m ≡ Some y → SyncFits new y) → Limits new
  other_tables new e z q n h y each = record {
    files = subst (λ fs. length fs ≤ MAX_FILES) (sym e) c.files;
    handles = h;
    requests = subst (λ m. finmap.len m ≤ MAX_IN_FLIGHT) (sym q) c.requests;
    syncs = y;
    sizes = λ g. subst (λ fs. (get_or fs g no_file).size ≤ MAX_FILE_SIZE) (sym e) (c.sizes g);
    frames = let a = ap (sum_by (λ (x : File). finmap.len x.pages)) e in let b = ap (λ x. x.frames) z in
        let d = filling_is s in let i = filling_is new in let g = ap (count_of is_live_fill) q in let old = c.frames in
        omega arith;
    failures = λ g. let a = ap (λ fs. (get_or fs g no_file).failures) e in let b = ap finmap.len q in
        let old = c.failures g in omega arith;
    serials = subst (λ x. x ≤ SERIAL_END) (sym n) c.serials;
    each_sync = each;
  }

  -- a table of syncs, with the handles as they were
  only_syncs : (syncs : finmap.FinMap nat_cmp Sync) → finmap.len syncs ≤ MAX_SYNCS
      → ((m : ℕ) (y : Sync) → finmap.get syncs m ≡ Some y → SyncFits s y) → Limits (record s { syncs = syncs })
  only_syncs syncs l each = other_tables (record s { syncs = syncs }) refl refl refl refl c.handles l
      (λ m y is. let a = each m y is in record { opened = a.opened; range = a.range })

  dropped_sync : (k : ℕ) → Limits (record s { syncs = finmap.remove s.syncs k })
  dropped_sync k =
      only_syncs (finmap.remove s.syncs k) (no_more _ (finmap.len s.syncs) MAX_SYNCS (len_gone s.syncs k) c.syncs)
      (λ m y is. elim (put1_tells (finmap.get s.syncs) k None m) [
        | inl a ↦ absurd (let b = sym (get-remove1 s.syncs k m ∙ a.1) ∙ is in cc)
        | inr a ↦ c.each_sync m y (sym (get-remove1 s.syncs k m ∙ a.1) ∙ is)
      ])

  -- ---- handles

  opening : (h f : ℕ) (m : ℕ) (y : Sync) → finmap.get s.syncs m ≡ Some y
      → SyncFits (record s { handles = finmap.insert s.handles h f }) y
  opening h f m y is = let old = c.each_sync m y is in record {
    opened = elim (put1_tells (finmap.get s.handles) h (Some f) y.handle) [
      | inl a ↦ ap is_some (get-insert1 s.handles h f y.handle ∙ a.1)
      | inr a ↦ ap is_some (get-insert1 s.handles h f y.handle ∙ a.1) ∙ old.opened
    ];
    range = old.range;
  }

  -- the handle that is closed is no sync's
  closing : (h : ℕ) → list_any (λ (y : Sync). eqb y.handle h) (finmap.values s.syncs) ≡ false → (m : ℕ) (y : Sync)
      → finmap.get s.syncs m ≡ Some y → SyncFits (record s { handles = finmap.remove s.handles h }) y
  closing h free m y is = let old = c.each_sync m y is in record {
    opened = elim (put1_tells (finmap.get s.handles) h None y.handle) [
      | inl a ↦ absurd (let b = none_passes (λ (y : Sync). eqb y.handle h) s.syncs m y free is in
          let d = eq-eqb y.handle h a.0 in cc)
      | inr a ↦ ap is_some (get-remove1 s.handles h y.handle ∙ a.1) ∙ old.opened
    ];
    range = old.range;
  }

  -- ---- one case each

  -- a write of a page is started, and a table of syncs is put in
  starts_with : (f p : ℕ) (page : Page) → page_at s f p ≡ Some page → is_full s ≡ false
      → (syncs : finmap.FinMap nat_cmp Sync) → finmap.len syncs ≤ MAX_SYNCS
      → ((m : ℕ) (y : Sync) → finmap.get syncs m ≡ Some y → SyncFits s y)
      → Limits (record (started s f p) { syncs = syncs })
  starts_with f p page is room syncs l each =
      let new = record (started s f p) { syncs = syncs } in
      let k = file_change new f _ (cached_within s f p (ap is_some is)) refl (c.sizes f) refl refl in
      one_file new f _ k (flush_more new f _ _ k refl refl room refl refl
      (len_changed p under_write (file_at s f).pages)) l each

  ends_quietly : (t : ℕ) → Limits (ended s t)
  ends_quietly t = record {
    files = c.files;
    handles = c.handles;
    requests = no_more _ (finmap.len s.requests) MAX_IN_FLIGHT (len_gone s.requests t) c.requests;
    syncs = c.syncs;
    sizes = c.sizes;
    frames = let d = filling_is s in let i = filling_is (ended s t) in let g = count_gone is_live_fill s.requests t in
        let old = c.frames in omega arith;
    failures = λ f. let a = len_gone s.requests t in let old = c.failures f in omega arith;
    serials = c.serials;
    each_sync = λ m y is. assumption (c.each_sync m y is);
  }

  fails : (t : ℕ) (x : Request) (code : ℕ) → finmap.get s.requests t ≡ Some x → x.dropped ≡ false
      → Limits (flush_failed (ended s t) x code)
  fails t x code is live =
      let new = flush_failed (ended s t) x code in
      let file = file_at s x.file in
      let after : File =
      record file {
        failures = file.failures + 1;
        last_code = code;
        pages = change_at x.page (after_write true) file.pages;
      } in
      let k = file_change new x.file after (live_file t x is live) refl (c.sizes x.file) refl refl in
      one_file new x.file after k (record {
        count = no_more _ (finmap.len s.requests) MAX_IN_FLIGHT (len_gone s.requests t) c.requests;
        filling = let a = cached_set s new x.file after k.here refl in
            let l = len_changed x.page (after_write true) file.pages in let d = filling_is s in
            let i = filling_is new in let g = count_gone is_live_fill s.requests t in let old = c.frames in omega arith;
        failures = λ g.
            let one_less = len_one_gone s.requests t x is in
            let before = c.failures g in
            let before_file = c.failures x.file in
            elim (put1_tells (λ k. (file_at s k).failures) x.file (file.failures + 1) g) [
              | inl h ↦ (let a = failures-set (ended s t) x.file after k.here g ∙ h.1 in omega arith)
              | inr h ↦ (let a = failures-set (ended s t) x.file after k.here g ∙ h.1 in omega arith)
            ];
        serials = c.serials;
      }) c.syncs c.each_sync

  kept_page : (o : Option Page) (P z : ℕ) (has : Bool) (x : Page) → option_map (cut_page P z has) o ≡ Some x
      → (y : Page) × (o ≡ Some y)
  kept_page None P z has x e = absurd cc
  kept_page (Some y) P z has x e = (y, refl)

  cut_from : (f z q : ℕ) (x : Page) → finmap.get (cut_pages s f z) q ≡ Some x → (y : Page) × (page_at s f q ≡ Some y)
  cut_from f z q x e =
      by_choice (λ o. o ≡ Some x) (nat_le (page_count s.sizes.page z) q) _ _ (λ k. absurd cc)
      (by_choice (λ o. o ≡ Some x) (eqb (z / s.sizes.page) q && is_some (boundary s f z)) _ _
      (kept_page (page_at s f q) s.sizes.page z (has_block s f q) x) (λ k. (x, k)))
      (sym (get-cut_pages s f z q) ∙ e)

  cuts : (f z : ℕ) → f < length s.files → z ≤ MAX_FILE_SIZE → Limits (shrunk s f z)
  cuts f z here small =
      let new = shrunk s f z in
      let n = page_count s.sizes.page z in
      let k = file_change new f _ here refl small refl refl in
      one_file new f _ k (requests_fewer new f _ k refl (let a = len-each_value (λ _. cut_request f n) s.requests in
      omega arith) refl
      (let a = count_cut f n s.requests in let b = len_le (cut_pages s f z) (file_at s f).pages (cut_from f z) in
      omega arith)) c.syncs c.each_sync

  pub limit_cases : Cases s (λ e r new. Limits new)
  limit_cases = record {
    same = λ e r step q. c;
    writes_none = λ e h o is step. c;
    creates = λ f room is. record {
      files = one_more _ (length s.files) MAX_FILES (let a = length-append s.files (no_file ∷ []) in omega arith) room;
      handles = c.handles;
      requests = c.requests;
      syncs = c.syncs;
      sizes = λ g. subst (λ n. n ≤ MAX_FILE_SIZE) (sym (ap (λ (x : File). x.size) (get_or-default s.files no_file g)))
          (c.sizes g);
      frames = let old = c.frames in let a = cached_more s (record s { files = s.files ++ no_file ∷ [] }) refl in
          omega arith;
      failures = λ g. let a = ap (λ (x : File). x.failures) (get_or-default s.files no_file g) in
          let old = c.failures g in omega arith;
      serials = c.serials;
      each_sync = λ m y is. assumption (c.each_sync m y is);
    };
    opens = λ f h in_files room low. other_tables (record s { handles = finmap.insert s.handles h.0 f.0 }) refl refl
        refl refl (one_more _ (finmap.len s.handles) MAX_HANDLES (len_put s.handles h.0 f.0) room) c.syncs
        (opening h.0 f.0);
    closes = λ h opened free. other_tables (record s { handles = finmap.remove s.handles h.0 }) refl refl refl refl
        (no_more _ (finmap.len s.handles) MAX_HANDLES (len_gone s.handles h.0) c.handles) c.syncs (closing h.0 free);
    writes = λ e h o b is may. written (handle_file s h.0) o b (valid h.0 may.opened) may.small may.frames;
    shrinks = λ h z may less. cuts (handle_file s h.0) z (valid h.0 may.opened) may.small;
    grows = λ h z may more. put (handle_file s h.0) _ (valid h.0 may.opened) may.small refl
        (let old = c.frames in omega arith);
    makes_zeros = λ h p may unwritten. put_one (handle_file s h.0) p.0 _ (valid h.0 may.opened)
        (let free = may.frame in omega arith);
    evicts = λ f p page is idle. put f.0 _ (cached_within s f.0 p.0 (ap is_some is)) (c.sizes f.0) refl
        (let n = len_gone (file_at s f.0).pages p.0 in let old = c.frames in omega arith);
    fills = λ h p t may has room is. filling _ refl room (let free = may.frame in omega arith);
    flushes = λ f p page t may is. starts_with f.0 p page may.is may.room s.syncs c.syncs c.each_sync;
    drops = λ kind end x may dropped. ends_quietly end.serial.0;
    fill_fails = λ end x code may live o. ends_quietly end.serial.0;
    fill_ends = λ end x b may live o. filled end.serial.0 x _ may.is live may.kind_is;
    flush_fails = λ end x code may live o. fails end.serial.0 x code may.is live;
    flush_ends = λ end x may live o. flushed end.serial.0 x may.is live;
    begins = λ h first last m may low. begun (handle_file s h.0) m.0 (new_sync s h.0 first.0 last.0)
        (valid h.0 may.opened) may.room (record { opened = may.opened; range = may.range });
    starts = λ m y p page t is may given. starts_with (handle_file s y.handle) p page may.is may.room
        (finmap.insert s.syncs m.0 (record y { started = Some p })) (sync_put m.0 y _ is)
        (put_syncs m.0 _ (same_sync m.0 y _ is refl refl refl));
    waits = λ m y e p is pick first page. only_syncs _ (sync_put m.0 y _ is)
        (put_syncs m.0 _ (same_sync m.0 y _ is refl refl refl));
    over = λ m y r is pick first verdict. dropped_sync m.0;
    sync_drops = λ m y is. dropped_sync m.0;
  }
    where
      sync_put : (n : ℕ) (y z : Sync) → finmap.get s.syncs n ≡ Some y
          → finmap.len (finmap.insert s.syncs n z) ≤ MAX_SYNCS
      sync_put n y z is = subst (λ k. k ≤ MAX_SYNCS) (sym (len_put_there s.syncs n z y is)) c.syncs

      written : (f o : ℕ) (b : List ℕ) → f < length s.files → o + length b ≤ MAX_FILE_SIZE
          → count_by (λ p. not (is_some (page_at s f p)))
          (touched s.sizes.page o (length b)) ≤ free_frames s
          → Limits (changes.written s f o b)
      written f o b here small room =
          let new = changes.written s f o b in
          let k = file_change new f _ here refl
          (longest (file_at s f).size (o + length b) MAX_FILE_SIZE (c.sizes f) small) refl refl in
          one_file new f _ k (requests_stay new f _ k refl refl refl
          (let n = len-written_pages s.sizes.page o b (file_at s f).pages in let old = c.frames in omega arith))
          c.syncs c.each_sync

      put_one : (f p : ℕ) (page : Page) → f < length s.files → cached_total s + 1 + filling_total s ≤ s.sizes.frames
          → Limits (put_page s f p page)
      put_one f p page here free =
          put f _ here (c.sizes f) refl (let n = len_put (file_at s f).pages p page in omega arith)

      filling : (x : Request) → is_live_fill x ≡ true → is_full s ≡ false
          → cached_total s + 1 + filling_total s ≤ s.sizes.frames
          → Limits (record s { requests = finmap.insert s.requests s.next x; next = s.next + 1 })
      filling x fill room free = record {
        files = c.files;
        handles = c.handles;
        requests = one_more _ (finmap.len s.requests) MAX_IN_FLIGHT (len_put s.requests s.next x) (in_flight s room);
        syncs = c.syncs;
        sizes = c.sizes;
        frames = let d = filling_is s in
            let i = filling_is (record s { requests = finmap.insert s.requests s.next x; next = s.next + 1 }) in
            let g = count_put is_live_fill s.requests s.next x in let j : ◌≡◌ {A = ℕ} (cond (is_live_fill x) 1 0) 1 =
            ap (λ b. cond b 1 0) fill in omega arith;
        failures = λ f. let a = len_put s.requests s.next x in let old = c.failures f in omega arith;
        serials = has_serial s room;
        each_sync = λ m y is. assumption (c.each_sync m y is);
      }

      filled : (t : ℕ) (x : Request) (page : Page) → finmap.get s.requests t ≡ Some x → x.dropped ≡ false
          → x.kind ≡ Fill → Limits (put_page (ended s t) x.file x.page page)
      filled t x page is live kind =
          let new = put_page (ended s t) x.file x.page page in
          let it : is_live_fill x ≡ true = (λ i. is_fill (kind i) && not (live i)) in
          let k = file_change new x.file _ (live_file t x is live) refl (c.sizes x.file) refl refl in
          one_file new x.file _ k (requests_fewer new x.file _ k refl (len_gone s.requests t) refl
          (let less = count_one_gone is_live_fill s.requests t x is it in
          let more = len_put (file_at s x.file).pages x.page page in omega arith)) c.syncs c.each_sync

      flushed : (t : ℕ) (x : Request) → finmap.get s.requests t ≡ Some x → x.dropped ≡ false
          → Limits (changes.flushed (ended s t) x)
      flushed t x is live =
          let new = changes.flushed (ended s t) x in
          let k = file_change new x.file _ (live_file t x is live) refl (c.sizes x.file) refl refl in
          one_file new x.file _ k (requests_fewer new x.file _ k refl (len_gone s.requests t) refl
          (let a = count_gone is_live_fill s.requests t in
          let b = len_changed x.page (after_write false) (file_at s x.file).pages in omega arith)) c.syncs
          c.each_sync

      begun : (f m : ℕ) (y : Sync) → f < length s.files → finmap.len s.syncs < MAX_SYNCS → SyncFits s y
          → Limits (sync_begun s f m y)
      begun f m y here room fits =
          let new = sync_begun s f m y in
          let k = file_change new f _ here refl (c.sizes f) refl refl in
          one_file new f _ k (requests_stay new f _ k refl refl refl
          (let a = len-each_value (to_write y) (file_at s f).pages in let old = c.frames in omega arith))
          (one_more _ (finmap.len s.syncs) MAX_SYNCS (len_put s.syncs m y) room) (put_syncs m y fits)

-- ---- a step of the world

module _ (w : World) (plain : Plain) (k : Coupled w plain) where
  pub live_file_of : (t : ℕ) (x : Request) → finmap.get w.core.requests t ≡ Some x → x.dropped ≡ false
      → x.file < length w.core.files
  live_file_of t x is d =
      let r = flight_is w.core.requests w.writing t x is in
      let spot = spot_of (spot_at w.core x.file x.page) x.block
      (live_spot (view w plain) k.good t (flight (bytes_of w.writing t) x) r d) in
      within w plain k t x is x.page x.file (k.good.spot_in x.file x.page (ap is_some spot.1))

  move_limits : Limits w.core → (new : World) (move : Move) → WorldStep w move new → Limits new.core
  move_limits c new move m = core_cases w new Limits c (limit_cases w.core c k.valid live_file_of) move m

first_limits : (w : World) → IsFirst w → Limits w.core
first_limits w first = subst Limits (sym first.adopts.core) (record {
  files = let a = same_count first.catalog.sizes in let b = first.is_catalog.count in omega arith;
  handles = small _ MAX_HANDLES (len-empty nat_cmp ℕ);
  requests = small _ MAX_IN_FLIGHT (len-empty nat_cmp Request);
  syncs = small _ MAX_SYNCS (len-empty nat_cmp Sync);
  sizes = λ f. let a = ap (λ (x : File). x.size) (adopted_file w.core.sizes w.core.name first.catalog f) in
      let b = first.is_catalog.file_sizes f in omega arith;
  frames = let b = filling_is (adopted w.core.sizes w.core.name first.catalog) in
      let d = count_empty is_live_fill in let e = none_cached first.catalog.sizes in omega arith;
  failures = λ f. let a = len-empty nat_cmp Request in
      let b = ap (λ (x : File). x.failures) (adopted_file w.core.sizes w.core.name first.catalog f) in omega arith;
  serials = omega arith;
  each_sync = λ m y is. absurd (let a = sym (finmap.get-empty {X = Sync} nat_cmp m) ∙ is in cc);
})
  where
    small : (a n : ℕ) → a ≡ 0 → a ≤ n
    small a n e = omega arith

    none_cached : (sizes : List ℕ) → sum_by (λ (x : File). finmap.len x.pages) (map file_of sizes) ≡ 0
    none_cached [] = refl
    none_cached (z ∷ sizes) =
        let a = sum_by-cons (λ (x : File). finmap.len x.pages) (file_of z) (map file_of sizes) in
        let b = len-empty nat_cmp Page in let c = none_cached sizes in omega arith

pub run_limits : (run : Steps) (w : World) → IsFirst w → Run w run → Limits (last w run).core
run_limits run w first r = run_keeps Limits (λ w new plain k c move m. move_limits w plain k c new move m) run w
    (files_seen w) (first_coupled w first) (first_limits w first) r
