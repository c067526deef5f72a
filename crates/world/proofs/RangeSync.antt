-- A sync of a range of pages, between whose steps nothing comes but flushes, device calls and ends of requests: where
-- it answers Clean the device has these pages of the file as they were when the sync began.
use Rattle.std.proofs.Common.{◌≡◌, ◌≢◌, ℕ, zero, suc, ◌<◌, ◌≤◌, ◌⊎◌, Bool, true, false, eqb, eqb-true, [], ◌∷◌, ◌++◌}
use Rattle.std.proofs.Common.{length, refl, ap, sym, subst, ◌∙◌, arith, inl, inr}
use Rattle.std.specs.Prelude.{Option, Some, is_some, slice_get, slice_index_or}
use Rattle.std.specs.FinMap as finmap
use Rattle.std.proofs.lemmas.Bool.Decides.{nat_tests}
use Rattle.std.proofs.lemmas.List.{take_all, take-append-le, length_push}
use Rattle.std.proofs.lemmas.Option.{slice_get_within}
use Rattle.pc_types.specs.Files.{page_of}
use Rattle.pc_types.specs.declared.ids.HandleId.{HandleId}
use Rattle.pc_types.specs.declared.ids.SyncId.{SyncId}
use Rattle.pc_types.specs.declared.ids.PageIndex.{PageIndex}
use Rattle.maps.proofs.Maps.{get_inserted}
use Rattle.machine.specs.declared.event.Event.TheVariants as event
use Rattle.machine.specs.declared.event.Reply.{Reply}
use Rattle.machine.specs.declared.event.Reply.TheVariants as reply
use Rattle.machine.specs.State.{Page, no_file, file_at, page_at, page_count, tags_of}
use Rattle.machine.specs.Changes.{new_sync}
use Rattle.machine.proofs.steps.Cases.{happened}
use Rattle.runs.specs.Plain.{Plain, plain_file, named}
use Rattle.runs.specs.Quiet.{WritesNothing, writes}
use Rattle.runs.specs.Reached.{IsReached}
use Rattle.runs.specs.Reading.{HoldsFiles}
use Rattle.runs.specs.Seen.{files_seen}
use Rattle.runs.specs.Runs.{Steps, IsFirst, Run, last, plain_at, plain_move, plain_from, world_at}
use Rattle.runs.specs.Syncing.{Begin, IsSync, Lasts, failures_at, its_file}
use Rattle.runs.specs.World.{World, Move, Act, Call, Finish, WorldStep, on_device}
use Rattle.runs.proofs.moments.FilesHeld.{files_are_held}
use Rattle.runs.proofs.moments.FilesSeen.{files_are}
use Rattle.runs.proofs.moments.Moments.{coupled_at}
use Rattle.runs.proofs.moments.Reached.{last-snoc, run-snoc}
use Rattle.runs.proofs.syncs.SyncProgress.{size_at}
use Rattle.runs.proofs.syncs.EndsClean.{syncs_leave_clean}
use Rattle.runs.proofs.syncs.SyncRuns.{syncs_tell}
use Rattle.world.proofs.SyncStays.{is_over, over_leaves_files}

-- ---- a run with one more step

slice_last : (run : Steps) (x : Move × World) → slice_get (run ++ x ∷ []) (length run) ≡ Some x
slice_last [] x = refl
slice_last (y ∷ run) x = slice_last run x

slice_kept : (run : Steps) (x y : Move × World) (k : ℕ) → slice_get run k ≡ Some y
    → slice_get (run ++ x ∷ []) k ≡ Some y
slice_kept [] x y k e = absurd cc
slice_kept (z ∷ run) x y zero e = e
slice_kept (z ∷ run) x y (suc k) e = slice_kept run x y k e

slice_more : (run : Steps) (x y : Move × World) (k : ℕ) → slice_get (run ++ x ∷ []) k ≡ Some y
    → (slice_get run k ≡ Some y) ⊎ (y ≡ x)
slice_more [] x y zero e = inr (let a : x ≡ y = cc in sym a)
slice_more [] x y (suc k) e = absurd cc
slice_more (z ∷ run) x y zero e = inl e
slice_more (z ∷ run) x y (suc k) e = slice_more run x y k e

plain-snoc : (run : Steps) (plain : Plain) (x : Move × World)
    → plain_from plain (run ++ x ∷ []) ≡ plain_move (plain_from plain run) x.0
plain-snoc [] plain x = refl
plain-snoc (y ∷ run) plain x = plain-snoc run (plain_move plain y.0) x

module _ (run : Steps) (e : Move) (new : World) where
  abbrev longer : Steps
  longer = run ++ (e, new) ∷ []

  len_longer : length longer ≡ suc (length run)
  len_longer = omega (arith, length_push run (e, new))

  world_kept : (w : World) (k : ℕ) → k ≤ length run → world_at w longer k ≡ world_at w run k
  world_kept w k l = ap (last w) (take-append-le k run ((e, new) ∷ []) l)

  plain_kept : (w : World) (k : ℕ) → k ≤ length run → plain_at w longer k ≡ plain_at w run k
  plain_kept w k l = ap (plain_from (files_seen w)) (take-append-le k run ((e, new) ∷ []) l)

  world_now : (w : World) → world_at w longer (suc (length run)) ≡ new
  world_now w = ap (last w) (take_all (suc (length run)) longer (omega (arith, len_longer))) ∙ last-snoc run w new e

  plain_now : (w : World) → plain_at w longer (suc (length run)) ≡ plain_move (plain_at w run (length run)) e
  plain_now w = ap (plain_from (files_seen w)) (take_all (suc (length run)) longer (omega (arith, len_longer)))
      ∙ plain-snoc run (files_seen w) (e, new)
      ∙ ap (λ r. plain_move (plain_from (files_seen w) r) e) (sym (take_all (length run) run (omega arith)))

world_end : (w : World) (run : Steps) → world_at w run (length run) ≡ last w run
world_end w run = ap (last w) (take_all (length run) run (omega arith))

-- the number of a moment up to the end of the longer run
up_to : (k n : ℕ) → k ≤ suc n → (k ≤ n) ⊎ (k ≡ suc n)
up_to k n l = elim (eqb k (suc n)) as (λ b. eqb k (suc n) ≡ b → (k ≤ n) ⊎ (k ≡ suc n))
    [ true ↦ λ e. inr (eqb-true k (suc n) e) | false ↦ λ e. inl (grind (arith, nat_tests)) ] refl

-- ---- steps that change no plain file

-- a sync's steps, and what has its writes done
abbrev pub is_of_sync : Move → Bool
is_of_sync (Act (event.SyncStep n) r) = true
is_of_sync (Act (event.FlushBegin f) r) = true
is_of_sync (Call t fault effect) = true
is_of_sync (Finish t r) = true
is_of_sync _ = false

-- the step changes no plain file, and writes to none
record ChangesNothing (e : Move) : Type 0 where
  pub plain : (p : Plain) → plain_move p e ≡ p
  pub quiet : writes e ≡ false

changes_nothing : (e : Move) → is_of_sync e ≡ true → ChangesNothing e
changes_nothing (Act (event.SyncStep n) r) q = record { plain = λ p. refl; quiet = refl }
changes_nothing (Act (event.FlushBegin f) r) q = record { plain = λ p. refl; quiet = refl }
changes_nothing (Call t fault effect) q = record { plain = λ p. refl; quiet = refl }
changes_nothing (Finish t r) q = record { plain = λ p. refl; quiet = refl }
changes_nothing _ q = absurd cc

-- ---- a run in which sync n begins at `old`, and from there to `now` no step changes a plain file

pub record RangeRun (h : HandleId) (low high : PageIndex) (n : SyncId) (old now : World) : Type 0 where
  pub first : World
  pub run : Steps
  pub is_first : IsFirst first
  pub is_run : Run first run
  pub leads : last first run ≡ now
  pub start : ℕ
  pub begun : World
  pub begins : slice_get run start ≡ Some (Act (event.SyncBegin h low high) (reply.Sync n), begun)
  pub was : world_at first run start ≡ old
  pub plain : (k : ℕ) → start ≤ k → k ≤ length run → plain_at first run k ≡ plain_at first run start
  pub quiet : (k : ℕ) (x : Move × World) → start ≤ k → slice_get run k ≡ Some x → writes x.0 ≡ false

-- the sync's begin is the run's last step
run_begins : (h : HandleId) (low high : PageIndex) (n : SyncId) (old now : World) → IsReached old
    → WorldStep old (Act (event.SyncBegin h low high) (reply.Sync n)) now
    → (r : RangeRun h low high n old now) × (length r.run ≡ suc r.start)
run_begins h low high n old now r m = (
  record {
    first = r.first;
    run = r.run ++ (e, now) ∷ [];
    is_first = r.is_first;
    is_run = run-snoc r.run r.first now e r.is_run (subst (λ x. WorldStep x e now) (sym r.leads) m);
    leads = last-snoc r.run r.first now e;
    start = i;
    begun = now;
    begins = slice_last r.run (e, now);
    was = world_kept r.run e now r.first i (omega arith) ∙ world_end r.first r.run ∙ r.leads;
    plain = λ k a b. elim (up_to k i (let l = len_longer r.run e now in omega arith)) [
      | inl l ↦ ap (plain_at r.first (longer r.run e now)) (let same : k ≡ i = omega arith in same)
      | inr l ↦ ap (plain_at r.first (longer r.run e now)) l ∙ plain_now r.run e now r.first
          ∙ sym (plain_kept r.run e now r.first i (omega arith))
    ];
    quiet = λ k x a is. elim (slice_more r.run (e, now) x k is) [
      | inl y ↦ absurd (let l = slice_get_within r.run k x y in omega arith)
      | inr same ↦ ap (λ (y : Move × World). writes y.0) same
    ];
  },
  len_longer r.run e now,
)
  where
    e : Move
    e = Act (event.SyncBegin h low high) (reply.Sync n)

    i : ℕ
    i = length r.run

within : (h : HandleId) (low high : PageIndex) (n : SyncId) (old now : World) (r : RangeRun h low high n old now)
    → r.start < length r.run
within h low high n old now r = slice_get_within r.run r.start _ r.begins

abbrev run_goes : (h : HandleId) (low high : PageIndex) (n : SyncId) (old now new : World)
    → RangeRun h low high n old now → (e : Move) → is_of_sync e ≡ true → WorldStep now e new
    → RangeRun h low high n old new
run_goes h low high n old now new r e q m = record {
  first = r.first;
  run = r.run ++ (e, new) ∷ [];
  is_first = r.is_first;
  is_run = run-snoc r.run r.first new e r.is_run (subst (λ x. WorldStep x e new) (sym r.leads) m);
  leads = last-snoc r.run r.first new e;
  start = r.start;
  begun = r.begun;
  begins = slice_kept r.run (e, new) _ r.start r.begins;
  was = world_kept r.run e new r.first r.start (omega (arith, within h low high n old now r)) ∙ r.was;
  plain = λ k a b. elim (up_to k (length r.run) (let l = len_longer r.run e new in omega arith)) [
    | inl l ↦ plain_kept r.run e new r.first k l ∙ r.plain k a l
        ∙ sym (plain_kept r.run e new r.first r.start (omega (arith, within h low high n old now r)))
    | inr l ↦ ap (plain_at r.first (longer r.run e new)) l ∙ plain_now r.run e new r.first
        ∙ (changes_nothing e q).plain (plain_at r.first r.run (length r.run))
        ∙ r.plain (length r.run) (omega (arith, within h low high n old now r)) (omega arith)
        ∙ sym (plain_kept r.run e new r.first r.start (omega (arith, within h low high n old now r)))
  ];
  quiet = λ k x a is. elim (slice_more r.run (e, new) x k is) [
    | inl y ↦ r.quiet k x a y
    | inr same ↦ ap (λ (y : Move × World). writes y.0) same ∙ (changes_nothing e q).quiet
  ];
}

files_at : (first : World) (run : Steps) → IsFirst first → Run first run → (k : ℕ)
    → files_seen (world_at first run k) ≡ plain_at first run k
files_at first run is_first is_run k = files_are (world_at first run k) (plain_at first run k)
    (coupled_at first run is_first is_run k)

module _ (h : HandleId) (low high : PageIndex) (n : SyncId) (old now : World) (r : RangeRun h low high n old now) where
  reached : IsReached now
  reached = record { first = r.first; run = r.run; is_first = r.is_first; is_run = r.is_run; leads = r.leads }

  -- the plain files of each moment from the begin on are those of `old`
  plain_is : (k : ℕ) → r.start ≤ k → k ≤ length r.run → plain_at r.first r.run k ≡ files_seen old
  plain_is k a b = r.plain k a b ∙ sym (files_at r.first r.run r.is_first r.is_run r.start) ∙ ap files_seen r.was

  same_files : files_seen now ≡ files_seen old
  same_files = ap files_seen (sym (world_end r.first r.run ∙ r.leads))
      ∙ files_at r.first r.run r.is_first r.is_run (length r.run)
      ∙ plain_is (length r.run) (omega (arith, within h low high n old now r)) (omega arith)

-- ---- a sync in progress

abbrev begin_of : (h : HandleId) (low high : PageIndex) (n : SyncId) (old now : World)
    → RangeRun h low high n old now → Begin
begin_of h low high n old now r =
    record { step = r.start; handle = h; first = low; last = high; number = n }

-- sync n of handle h began at `old` and has been in progress since; nothing came but its steps, flushes, device calls
-- and ends
pub record SyncsRange (h : HandleId) (low high : PageIndex) (n : SyncId) (old now : World) : Type 0 where
  pub sync_run : RangeRun h low high n old now
  pub lasts : Lasts sync_run.first sync_run.run (begin_of h low high n old now sync_run) (length sync_run.run)
  pub was_reached : IsReached old
  pub is_reached : IsReached now
  pub files : files_seen now ≡ files_seen old

-- whether sync n is in progress
abbrev in_progress : SyncId → World → Bool
in_progress n w = is_some (finmap.get w.core.syncs n.0)

pub range_begins : (h : HandleId) (low high : PageIndex) (n : SyncId) (old now : World) → IsReached old
    → WorldStep old (Act (event.SyncBegin h low high) (reply.Sync n)) now → SyncsRange h low high n old now
range_begins h low high n old now r m =
    let x = run_begins h low high n old now r m in
    let y = x.0 in
    record {
      sync_run = y;
      lasts = λ k a b.
          let last_one : k ≡ length y.run = (let l = x.1 in omega arith) in
          ap (λ i. in_progress n (world_at y.first y.run i)) last_one
          ∙ ap (in_progress n) (world_end y.first y.run ∙ y.leads) ∙ begun;
      was_reached = r;
      is_reached = reached h low high n old now y;
      files = same_files h low high n old now y;
    }
  where
    begun : in_progress n now ≡ true
    begun =
        let a = happened old.core (event.SyncBegin h low high) (reply.Sync n) now.core m.1.0 refl (λ n o e. cc) in
        ap (λ s. is_some (finmap.get s.syncs n.0)) a.is
        ∙ elim (get_inserted old.core.syncs n.0 (new_sync old.core h.0 low.0 high.0) n.0)
        [ inl b ↦ ap is_some b.1 | inr b ↦ absurd (b.0 refl) ]

pub range_goes : (h : HandleId) (low high : PageIndex) (n : SyncId) (old now new : World)
    → SyncsRange h low high n old now → (e : Move)
    → is_of_sync e ≡ true → WorldStep now e new → is_some (finmap.get new.core.syncs n.0) ≡ true
    → SyncsRange h low high n old new
range_goes h low high n old now new s e q m still =
    let r = s.sync_run in record {
      sync_run = run_goes h low high n old now new r e q m;
      lasts = λ k a b. elim (up_to k (length r.run) (let l = len_longer r.run e new in omega arith)) [
        | inl l ↦ ap (in_progress n) (world_kept r.run e new r.first k l) ∙ s.lasts k a l
        | inr l ↦ ap (λ k. in_progress n (world_at r.first (longer r.run e new) k)) l
            ∙ ap (in_progress n) (world_now r.run e new r.first) ∙ still
      ];
      was_reached = s.was_reached;
      is_reached = reached h low high n old new (run_goes h low high n old now new r e q m);
      files = same_files h low high n old new (run_goes h low high n old now new r e q m);
    }

-- ---- the sync is over

module _ (h : HandleId) (low high : PageIndex) (n : SyncId) (old now new : World)
    (s : SyncsRange h low high n old now) (x : Reply)
    (over : is_over x ≡ true) (m : WorldStep now (Act (event.SyncStep n) x) new) where
  abbrev was : RangeRun h low high n old now
  was = s.sync_run

  abbrev e : Move
  e = Act (event.SyncStep n) x

  abbrev r : RangeRun h low high n old new
  r = run_goes h low high n old now new was e refl m

  abbrev a : Begin
  a = begin_of h low high n old new r

  abbrev j : ℕ
  j = length was.run

  abbrev f : ℕ
  f = named (files_seen old) h.0

  abbrev P : ℕ
  P = old.core.sizes.page

  before : r.start < j
  before = within h low high n old now was

  in_run : suc j ≤ length r.run
  in_run = omega (arith, len_longer was.run e new)

  is_sync : IsSync r.first r.run a j x
  is_sync = record {
    begins = (r.begun, r.begins);
    new = new;
    answers = slice_last was.run (e, new);
    before = before;
    lasts = λ k b c. ap (in_progress n) (world_kept was.run e new r.first k c) ∙ s.lasts k b c;
  }

  base : plain_at r.first r.run r.start ≡ files_seen old
  base = plain_is h low high n old new r r.start (omega arith) (omega (arith, before, in_run))

  size : r.first.core.sizes.page ≡ P
  size = sym (size_at r.first r.run r.is_first r.is_run r.start (omega (arith, before, in_run)))
      ∙ ap (λ (w : World). w.core.sizes.page) r.was

  world_now_is : world_at r.first r.run j ≡ now
  world_now_is = world_kept was.run e new r.first j (omega arith) ∙ world_end was.first was.run ∙ was.leads

  failures_then : (file_at old.core f).failures ≡ failures_at r.first r.run a r.start
  failures_then = λ i. (file_at (sym r.was i).core (named (sym base i) h.0)).failures

  failures_now : failures_at r.first r.run a j ≡ (file_at new.core f).failures
  failures_now = (λ i. (file_at (world_now_is i).core (named (base i) h.0)).failures)
      ∙ ap (λ fs. (slice_index_or fs f no_file).failures) (sym (over_leaves_files now new n x over m))

  files_same : files_seen new ≡ files_seen old
  files_same = same_files h low high n old new r

  nothing_written : WritesNothing r.run r.start j
  nothing_written k move v late _ is = r.quiet k (move, v) (omega arith) is

  same_named : its_file r.first r.run a ≡ f
  same_named = λ i. named (base i) h.0

-- the device has each page of the file from low to high, no write of the file failed, and the plain files are as they
-- were
pub record IsRangeSynced (low high : PageIndex) (old new : World) (f : ℕ) : Type 0 where
  pub pages : (p : ℕ) → low.0 ≤ p → p ≤ high.0
      → p < page_count old.core.sizes.page (length (plain_file (files_seen old) f))
      → on_device new f p ≡ page_of old.core.sizes.page (plain_file (files_seen old) f) p
  pub failures : (file_at new.core f).failures ≡ (file_at old.core f).failures
  pub files : files_seen new ≡ files_seen old

module _ (h : HandleId) (low high : PageIndex) (n : SyncId) (old now new : World)
    (s : SyncsRange h low high n old now) where
  -- the page is clean, and so the device has it as it is
  page_is : WorldStep now (Act (event.SyncStep n) reply.Clean) new → (p : ℕ) → (low.0 ≤ p) × (p ≤ high.0)
      → on_device new (named (files_seen old) h.0) p
      ≡ page_of old.core.sizes.page (plain_file (files_seen old) (named (files_seen old) h.0)) p
  page_is m p range =
      let r = r h low high n old now new s reply.Clean refl m in
      let a = a h low high n old now new s reply.Clean refl m in
      let j = length s.sync_run.run in
      let f = named (files_seen old) h.0 in
      let now_is = world_now s.sync_run.run (Act (event.SyncStep n) reply.Clean) new r.first in
      let tags = syncs_leave_clean r.first r.run r.is_first r.is_run a j p
      (is_sync h low high n old now new s reply.Clean refl m)
      (nothing_written h low high n old now new s reply.Clean refl m) range in
      let page : page_at new.core f p
      ≡ page_at (world_at r.first r.run j).core (its_file r.first r.run a) p =
      ap (λ fs. finmap.get (slice_index_or fs f no_file).pages p) (over_leaves_files now new n reply.Clean refl m)
      ∙ (λ i. page_at (sym (world_now_is h low high n old now new s reply.Clean refl m) i).core
      (sym (same_named h low high n old now new s reply.Clean refl m) i) p) in
      let held = subst (λ (v : World). HoldsFiles v (plain_at r.first r.run (suc j))) now_is
      (files_are_held r.first r.run r.is_first r.is_run (suc j)) in
      let plain = plain_is h low high n old new r (suc j)
      (let b = before h low high n old now new s reply.Clean refl m in omega arith)
      (in_run h low high n old now new s reply.Clean refl m) in
      let size : new.core.sizes.page ≡ old.core.sizes.page = ap (λ (v : World). v.core.sizes.page) (sym now_is)
      ∙ size_at r.first r.run r.is_first r.is_run (suc j) (in_run h low high n old now new s reply.Clean refl m)
      ∙ size h low high n old now new s reply.Clean refl m in
      held.clean f p (ap (λ (o : Option Page). (tags_of o).dirty) page ∙ tags.0)
      (ap (λ (o : Option Page). (tags_of o).writeback) page ∙ tags.1)
      ∙ (λ i. page_of (size i) (plain_file (plain i) f) p)

  pub range_clean : WorldStep now (Act (event.SyncStep n) reply.Clean) new
      → IsRangeSynced low high old new (named (files_seen old) h.0)
  range_clean m =
      let r = r h low high n old now new s reply.Clean refl m in
      let a = a h low high n old now new s reply.Clean refl m in
      let j = length s.sync_run.run in
      let sync = is_sync h low high n old now new s reply.Clean refl m in
      record {
        pages = λ p from to _. page_is m p (from, to);
        failures = sym (failures_now h low high n old now new s reply.Clean refl m)
            ∙ syncs_tell.clean r.first r.run r.is_first r.is_run a j sync
            ∙ sym (failures_then h low high n old now new s reply.Clean refl m);
        files = files_same h low high n old now new s reply.Clean refl m;
      }

  -- where the sync fails a write of the file failed, and the plain files are as they were
  pub range_failed : (c : ℕ) → WorldStep now (Act (event.SyncStep n) (reply.Failed c)) new
      → ((file_at new.core (named (files_seen old) h.0)).failures
      ≢ (file_at old.core (named (files_seen old) h.0)).failures) × (files_seen new ≡ files_seen old)
  range_failed c m =
      let r = r h low high n old now new s (reply.Failed c) refl m in
      let a = a h low high n old now new s (reply.Failed c) refl m in (
        λ same. syncs_tell.failed r.first r.run r.is_first r.is_run a (length s.sync_run.run) c
            (is_sync h low high n old now new s (reply.Failed c) refl m)
            (failures_now h low high n old now new s (reply.Failed c) refl m ∙ same
            ∙ failures_then h low high n old now new s (reply.Failed c) refl m),
        files_same h low high n old now new s (reply.Failed c) refl m,
      )
