-- Where nothing is written while a sync is in progress, it leaves its range clean.
use Rattle.std.proofs.Common.{◌≡◌, ℕ, suc, ◌<◌, ◌≤◌, Bool, true, false, not, eqb, eq-eqb, length, refl, ap, sym, subst}
use Rattle.std.proofs.Common.{◌∙◌, arith, inl, inr}
use Rattle.std.specs.Prelude.{◌&&◌, ◌||◌, Option, Some, None, is_some, option_map, unwrap_or, nat_lt}
use Rattle.std.specs.FinMap as finmap
use Rattle.std.proofs.Math.Bool.{or-true}
use Rattle.std.proofs.lemmas.Bool.Decides.{nat_tests}
use Rattle.std.proofs.lemmas.Option.{slice_get_within}
use Rattle.pc_types.specs.Kinds.{is_flush}
use Rattle.pc_types.specs.declared.kind.Kind.TheVariants.{Flush}
use Rattle.machine.specs.declared.event.Reply.TheVariants as reply
use Rattle.machine.specs.State.{Page, Sync, file_at, handle_file, page_at, in_range, bound_of, is_awaited}
use Rattle.machine.specs.Changes.{to_write, new_sync}
use Rattle.machine.proofs.steps.Picks.{pick_none}
use Rattle.maps.proofs.Found.{found_none}
use Rattle.runs.specs.Seen.{files_seen}
use Rattle.runs.specs.Quiet.{SyncsLeaveClean, WritesNothing}
use Rattle.runs.specs.Runs.{Steps, IsFirst, Run, world_at, plain_at}
use Rattle.runs.specs.Syncing.{Begin, InRange, IsSync, its_file}
use Rattle.runs.specs.World.{World}
use Rattle.runs.proofs.views.View.{View, Flight, put1_here, dirty, writeback, towrite}
use Rattle.runs.proofs.events.Coupled.{view}
use Rattle.runs.proofs.events.Lookups.{get-insert1}
use Rattle.runs.proofs.events.Tables.{request_is}
use Rattle.runs.proofs.moments.Moments.{climb, coupled_at}
use Rattle.runs.proofs.moments.RunSteps.{StepAt}
use Rattle.runs.proofs.syncs.Track.{Tracked}
use Rattle.runs.proofs.syncs.QuietTags.{TagsKept, move_tags}
use Rattle.runs.proofs.syncs.SyncProgress.{Ended, InProgress, Waiting, at, clean_step, evolves_at, file_is, good_at, moves_at}
use Rattle.runs.proofs.syncs.SyncProgress.{none_some, range_is, to_start, tracked_at, waiting_on}
use Rattle.runs.proofs.syncs.SyncRuns.{begins_i, core_j, moment_j, named_file, syncs_tell}

-- a DIRTY page of the range is TOWRITE as the sync begins
tagged : (y : Sync) (p : ℕ) → in_range y p ≡ true → (o : Option Page) → dirty (option_map (to_write y p) o) ≡ true
    → towrite (option_map (to_write y p) o) ≡ true
tagged y p within None d = absurd cc
tagged y p within (Some x) d = (λ i. x.tags.towrite || d i && within i) ∙ or-true x.tags.towrite

same_sync : (o : Option Sync) (y z : Sync) → o ≡ Some y → o ≡ Some z → y ≡ z
same_sync o y z a b = let k : Some y ≡ Some z = sym a ∙ b in cc

module _ (w : World) (run : Steps) (first : IsFirst w) (r : Run w run) (a : Begin) (j : ℕ)
    (c : IsSync w run a j reply.Clean) (quiet : WritesNothing run a.step j) where
  abbrev W : ℕ → World
  W k = world_at w run k

  abbrev V : ℕ → View
  V k = view (W k) (plain_at w run k)

  abbrev i : ℕ
  i = a.step

  abbrev f : ℕ
  f = its_file w run a

  abbrev n : ℕ
  n = a.number.0

  abbrev count : ℕ → ℕ
  count k = (file_at (W k).core f).failures

  short : j < length run
  short = slice_get_within run j _ c.answers

  -- no write of the file fails meanwhile
  more : (k m : ℕ) → k ≤ m → m ≤ j → count k ≤ count m
  more k m l h = climb (λ x. count k ≤ count x) k m l
      (λ x b e old. let s = at w run first r x (let z = short in omega arith) in
      let rise = (evolves_at w run first r x s).failures f in omega arith) (omega arith)

  all_same : (k : ℕ) → i ≤ k → k ≤ j → count k ≡ count i
  all_same k l h =
      let low = more i k l h in let high = more k j h (omega arith) in
      let same = syncs_tell.clean w run first r a j c in omega arith

  pub record Watched (k : ℕ) : Type 0 where
    pub waits : (y : Sync) → finmap.get (W k).core.syncs n ≡ Some y → (p : ℕ) → InRange a p
        → dirty (page_at (W k).core f p) ≡ true → Waiting w run first r a k y p
    pub flies : (y : Sync) → finmap.get (W k).core.syncs n ≡ Some y → (t : ℕ) (x : Flight) → (V k).request t ≡ Some x
        → x.kind ≡ Flush → x.dropped ≡ false → x.file ≡ f → InRange a x.page → (b : ℕ) → y.bound ≡ Some b → t < b

  -- ---- as it begins

  abbrev y0 : Sync
  y0 = new_sync (W i).core a.handle.0 a.first.0 a.last.0

  range_now : (p : ℕ) → InRange a p → in_range y0 p ≡ true
  range_now p within = let d = within.0 in let e = within.1 in grind (arith, nat_tests)

  watched_first : Watched (suc i)
  watched_first =
      let b = begins_i w run first r a c.begins in
      let named = named_file w run first r a c.begins in
      let is0 : finmap.get (W (suc i)).core.syncs n ≡ Some y0 = ap (λ x. finmap.get x.syncs n) b.0.rest
      ∙ get-insert1 (W i).core.syncs n y0 n ∙ put1_here (finmap.get (W i).core.syncs) n (Some y0) in
      record {
        waits = λ y is p within d.
            let page : page_at (W (suc i)).core f p
            ≡ option_map (to_write y0 p) (page_at (W i).core (handle_file (W i).core a.handle.0) p) =
            (λ m. page_at (W (suc i)).core (sym named m) p) ∙ b.0.pages p in
            subst (λ y. Waiting w run first r a (suc i) y p) (same_sync _ y0 y is0 is)
            (refl, ap towrite page ∙ tagged y0 p (range_now p within) _ (sym (ap dirty page) ∙ d), refl);
        flies = λ y is t x there kind live file within b0 bounded. absurd (none_some w run first r a y.bound b0
            (ap (λ (y : Sync). y.bound) (sym (same_sync _ y0 y is0 is))) bounded);
      }

  -- ---- in each step

  module _ (k : ℕ) (late : i < k) (before : k < j) (old : Watched k) where
    q : InProgress w run first r a k
    q = moment_j w run first r a j reply.Clean c k late (omega arith)

    within_run : k < length run
    within_run = let z = short in omega arith

    still : is_some (finmap.get (W (suc k)).core.syncs n) ≡ true
    still = c.lasts (suc k) (omega arith) (omega arith)

    abbrev s : StepAt w (files_seen w) run k
    s = at w run first r k within_run

    abbrev tr : Tracked (W k).core (W (suc k)).core n q.sync
    tr = tracked_at w run first r a k q within_run still

    kept : (p : ℕ) → TagsKept (page_at (W k).core f p) (page_at (W (suc k)).core f p)
    kept p = move_tags (W k) (plain_at w run k) (coupled_at w run first r k) f (W (suc k)) s.move
        (moves_at w run first r k s) (quiet k s.move s.new late before s.there)
        (all_same (suc k) (omega arith) (omega arith) ∙ sym (all_same k (omega arith) (omega arith))) p

    same : count (suc k) ≡ tr.now.failures
    same = all_same (suc k) (omega arith) (omega arith) ∙ sym q.since ∙ sym tr.failures

    waits_now : (p : ℕ) → InRange a p → dirty (page_at (W (suc k)).core f p) ≡ true
        → Waiting w run first r a (suc k) tr.now p
    waits_now p within d =
        let was = old.waits q.sync q.is p within ((kept p).was_dirty d) in
        waiting_on w run first r a k q s (omega arith) within_run tr same p within was ((kept p).stays d was.1)

    -- a serial below the bound of before is below the bound of now
    below : (t : ℕ) (x : Flight) → (V (suc k)).request t ≡ Some x → ((b : ℕ) → q.sync.bound ≡ Some b → t < b) → (b : ℕ)
        → tr.now.bound ≡ Some b → t < b
    below t x there was b e = elim tr.how [
      | inl y ↦ was b (sym y.bound ∙ e)
      | inr y ↦ elim y [
        | inl z ↦ absurd (none_some w run first r a tr.now.bound b z.is e)
        | inr z ↦ (let low = ((good_at w run first r i f (suc k)).requests t x there).serial in
            let same_bound : Some (W k).core.next ≡ Some b = sym z.is ∙ e in let is : (W k).core.next ≡ b = cc in
            let m = z.next in omega arith)
      ]
    ]

    flies_now : (t : ℕ) (x : Flight) → (V (suc k)).request t ≡ Some x → x.kind ≡ Flush → x.dropped ≡ false → x.file ≡ f
        → InRange a x.page → (b : ℕ) → tr.now.bound ≡ Some b → t < b
    flies_now t x there kind live file within =
        below t x there (elim ((evolves_at w run first r k s).from t x there kind live) [
          | inl was ↦ old.flies q.sync q.is t x was kind live file within
          | inr begins ↦ λ b bounded. absurd (
              let d : dirty (page_at (W k).core f x.page) ≡ true =
              (λ m. dirty (page_at (W k).core (sym file m) x.page)) ∙ begins.was_dirty in
              none_some w run first r a q.sync.bound b (old.waits q.sync q.is x.page within d).0 bounded)
        ])

    watched_next : Watched (suc k)
    watched_next = record {
      waits = λ y is p within d. subst (λ y. Waiting w run first r a (suc k) y p) (same_sync _ tr.now y tr.is is)
          (waits_now p within d);
      flies = λ y is t x there kind live file within b bounded. flies_now t x there kind live file within b
          (ap (λ (y : Sync). y.bound) (same_sync _ tr.now y tr.is is) ∙ bounded);
    }

  watched_last : Watched j
  watched_last = climb Watched (suc i) j (let b = c.before in omega arith)
      (λ k b e old. watched_next k (omega arith) e old) watched_first

  -- ---- as it answers

  last : InProgress w run first r a j
  last = moment_j w run first r a j reply.Clean c j c.before (omega arith)

  abbrev over : Ended w run first r a j last.sync
  over = clean_step w run first r a j last.sync (world_at w run (suc j)).core last.is
      (core_j w run first r a j reply.Clean c)

  not_dirty : (p : ℕ) → InRange a p → dirty (page_at (W j).core f p) ≡ true → ⊥
  not_dirty p within d =
      let waits = watched_last.waits last.sync last.is p within d in
      let o = to_start w run first r a j last p within waits in
      let b = pick_none (W j).core last.sync over.1.0 waits.0 p o.0 o.1 in
      let e = o.2 in cc

  under_bound : (t : ℕ) → ((b : ℕ) → last.sync.bound ≡ Some b → t < b) → t < (W j).core.next → (o : Option ℕ)
      → last.sync.bound ≡ o → nat_lt t (unwrap_or o (W j).core.next) ≡ true
  under_bound t old low None e = grind (arith, nat_tests)
  under_bound t old low (Some b) e = let l = old b e in grind (arith, nat_tests)

  not_flying : (p : ℕ) → InRange a p → writeback (page_at (W j).core f p) ≡ true → ⊥
  not_flying p within b =
      let h = (good_at w run first r i f j).flushes f p b in
      let x = request_is (W j).core.requests (W j).writing h.serial h.request h.is in
      let same = x.2 in
      let low = ((good_at w run first r i f j).requests h.serial h.request h.is).serial in
      let in_its_range : InRange a h.request.page = subst (InRange a) (sym h.page) within in
      let old = watched_last.flies last.sync last.is h.serial h.request h.is h.kind h.live h.file in_its_range in
      let bounded : nat_lt h.serial (bound_of (W j).core last.sync) ≡ true =
      under_bound h.serial old low last.sync.bound refl in
      let kind : is_flush x.0.kind ≡ true = ap (λ (v : Flight). is_flush v.kind) (sym same) ∙ ap is_flush h.kind in
      let live : not x.0.dropped ≡ true = ap (λ (v : Flight). not v.dropped) (sym same) ∙ ap not h.live in
      let file : eqb x.0.file (handle_file (W j).core last.sync.handle) ≡ true =
      eq-eqb x.0.file (handle_file (W j).core last.sync.handle)
      (ap (λ (v : Flight). v.file) (sym same) ∙ h.file ∙ sym (file_is w run first r a j last)) in
      let range : in_range last.sync x.0.page ≡ true = ap (in_range last.sync)
      (ap (λ (v : Flight). v.page) (sym same) ∙ h.page) ∙ range_is w run first r a j last p within in
      let awaited : is_awaited (W j).core last.sync (h.serial, x.0) ≡ true =
      (λ m. kind m && live m && file m && range m && bounded m) in
      let none = found_none (W j).core.requests (is_awaited (W j).core last.sync) over.1.1 h.serial x.0 x.1 in cc

  unset : (b : Bool) → (b ≡ true → ⊥) → b ≡ false
  unset true h = absurd (h refl)
  unset false h = refl

  pub leaves_clean : (p : ℕ) → InRange a p
      → (dirty (page_at (W j).core f p) ≡ false) × (writeback (page_at (W j).core f p) ≡ false)
  leaves_clean p within = (
    unset (dirty (page_at (W j).core f p)) (not_dirty p within),
    unset (writeback (page_at (W j).core f p)) (not_flying p within),
  )

pub syncs_leave_clean : SyncsLeaveClean
syncs_leave_clean w run first r a j p c quiet within = leaves_clean w run first r a j c quiet p within
