-- Syncs over every run: what Clean and Failed mean, in which order pages are started, and what becomes of DIRTY pages.
use Rattle.machine.specs.Changes.{is_left, sync_pick, to_write, new_sync, sync_stepped}
use Rattle.runs.specs.Syncing.{InRange, Begin, Begins, IsSync, its_file, CutOff, WasStarted, requested_page, cuts_off}
use Rattle.runs.specs.Syncing.{DirtyPagesStay, SyncsAreSynced, SyncsRise, SyncsTell}
use Rattle.maps.proofs.Found.{found}
use Rattle.std.specs.Prelude.{find, nat_le, ◌&&◌, ◌||◌, ◌⊎◌, Option, Some, None, is_some, option_map, unwrap_or}
use Rattle.std.proofs.Common.{cond, [], ◌≡◌, ℕ, suc, ◌+◌, ◌<◌, ◌≤◌, true, false, length, refl, ap, sym}
use Rattle.std.proofs.Common.{subst, ◌∙◌, arith, inl, inr}
use Rattle.machine.proofs.steps.Choices.{and_true, mapped_some, some_of}
use Rattle.machine.proofs.steps.Cases.{Happened, happened}
use Rattle.std.specs.FinMap as finmap
use Rattle.std.proofs.Math.Bool.{or-true}
use Rattle.std.proofs.lemmas.Bool.Decides.{nat_tests}
use Rattle.std.proofs.lemmas.Option.{slice_get_within}
use Rattle.pc_types.specs.Files.{page_of}
use Rattle.pc_types.specs.Kinds.{is_flush}
use Rattle.pc_types.specs.declared.ids.HandleId.{HandleId}
use Rattle.pc_types.specs.declared.ids.PageIndex.{PageIndex}
use Rattle.pc_types.specs.declared.ids.Serial.{Serial}
use Rattle.pc_types.specs.declared.ids.SyncId.{SyncId}
use Rattle.machine.specs.declared.event.Event.TheVariants as event
use Rattle.machine.specs.declared.event.Reply.{Reply}
use Rattle.machine.specs.declared.event.Reply.TheVariants as reply
use Rattle.machine.specs.State.{State, Page, Request, Sync, file_at, handle_file, is_open, page_at, in_range}
use Rattle.machine.specs.State.{first_awaited}
use Rattle.machine.specs.Step.{Step, SyncReply, SyncStepReply}
use Rattle.machine.proofs.changes.ChangeLaws.{BeginsSync, sync_begun_begins}
use Rattle.machine.proofs.steps.Passed.{may_begin}
use Rattle.machine.proofs.steps.Picks.{past, pick_past, pick_unbound}
use Rattle.runs.specs.Plain.{plain_file}
use Rattle.runs.specs.Seen.{files_seen}
use Rattle.runs.specs.World.{World, Move, Act, WorldStep}
use Rattle.runs.specs.Runs.{Steps, IsFirst, Run, EveryRun, world_at, core_at, plain_at}
use Rattle.runs.proofs.views.View.{Flight, put1_here, dirty, towrite}
use Rattle.runs.proofs.events.Lookups.{get-insert1}
use Rattle.runs.proofs.moments.Moments.{climb, coupled_at}
use Rattle.runs.proofs.moments.RunSteps.{StepAt}
use Rattle.runs.proofs.syncs.SyncProgress.{at, begun, begun_unbound, clean_step, done_on, done_synced}
use Rattle.runs.proofs.syncs.SyncProgress.{ended_pages, evolves_at, failed_step, file_is, InProgress, in_progress_on}
use Rattle.runs.proofs.syncs.SyncProgress.{moves_at, off_more, off_now, size_at, tracked_at}
use Rattle.runs.proofs.events.Tables.{request_is, in_flight, writes}

-- a page past the last one started is a higher one
after_started : (x p : ℕ) → past (Some x) p ≡ true → x < p
after_started x p h = grind (arith, nat_tests)

same_step : (m n : Move) (v u : World) → ◌≡◌ {A = Option (Move × World)} (Some (m, v)) (Some (n, u)) → m ≡ n
same_step m n v u k = let g : (m, v) ≡ (n, u) = cc in ap (λ (x : Move × World). x.0) g

pub begins_at : (s new : State) (h : HandleId) (first last : PageIndex) (m : SyncId)
    → ((k : ℕ) → is_open s k ≡ true → handle_file s k < length s.files)
    → Step s (event.SyncBegin h first last) (reply.Sync m) new
    → BeginsSync s (handle_file s h.0) m.0 (new_sync s h.0 first.0 last.0) new × (is_open s h.0 ≡ true)
begins_at s new h first last m valid step =
    let a = happened s (event.SyncBegin h first last) (reply.Sync m) new step refl (λ n o e. absurd cc) in
    let may = may_begin s h first last a.untested in (
      subst (BeginsSync s (handle_file s h.0) m.0 (new_sync s h.0 first.0 last.0)) (sym a.is)
          (sync_begun_begins s (handle_file s h.0) m.0 (new_sync s h.0 first.0 last.0) (valid h.0 may.opened)),
      may.opened,
    )

-- ---- where a sync begins

module _ (w : World) (run : Steps) (first : IsFirst w) (r : Run w run) (a : Begin) (there : Begins run a) where
  abbrev i : ℕ
  i = a.step

  pub in_run : i < length run
  in_run = slice_get_within run i _ there.1

  step_i : StepAt w (files_seen w) run i
  step_i = at w run first r i in_run

  act_i : WorldStep (world_at w run i) (Act (event.SyncBegin a.handle a.first a.last) (reply.Sync a.number))
      (world_at w run (suc i))
  act_i = subst (λ m. WorldStep (world_at w run i) m (world_at w run (suc i)))
      (same_step step_i.move (Act (event.SyncBegin a.handle a.first a.last) (reply.Sync a.number)) step_i.new there.0
      (sym step_i.there ∙ there.1)) (moves_at w run first r i step_i)

  pub begins_i : BeginsSync (world_at w run i).core (handle_file (world_at w run i).core a.handle.0) a.number.0
      (new_sync (world_at w run i).core a.handle.0 a.first.0 a.last.0) (world_at w run (suc i)).core
      × (is_open (world_at w run i).core a.handle.0 ≡ true)
  begins_i = begins_at (world_at w run i).core (world_at w run (suc i)).core a.handle a.first a.last a.number
      (coupled_at w run first r i).valid act_i.1.0

  pub named_file : handle_file (world_at w run i).core a.handle.0 ≡ its_file w run a
  named_file = ap (λ m. unwrap_or (finmap.get m a.handle.0) 0) (sym (coupled_at w run first r i).handles)

  pub first_moment : InProgress w run first r a (suc i)
  first_moment = begun w run first r a step_i in_run begins_i.0 named_file begins_i.1

  pub first_unbound : first_moment.sync.bound ≡ None
  unfolding first_moment
  first_unbound = begun_unbound w run first r a step_i in_run begins_i.0 named_file begins_i.1

  -- it is in progress at each moment up to j, where it lasts so long
  pub moment : (m : ℕ) → i < m → m ≤ length run
      → ((k : ℕ) → i < k → k ≤ m → is_some (finmap.get (world_at w run k).core.syncs a.number.0) ≡ true)
      → InProgress w run first r a m
  moment m late short lasts =
      in_progress_on w run first r a (suc i) m first_moment (omega arith) (omega arith) short
      (λ k d e. lasts k (omega arith) e)

-- ---- where it answers

module _ (w : World) (run : Steps) (first : IsFirst w) (r : Run w run) (a : Begin) (j : ℕ) (x : Reply)
    (c : IsSync w run a j x) where
  in_j : j < length run
  in_j = slice_get_within run j _ c.answers

  step_j : StepAt w (files_seen w) run j
  step_j = at w run first r j in_j

  act_j : WorldStep (world_at w run j) (Act (event.SyncStep a.number) x) (world_at w run (suc j))
  act_j = subst (λ m. WorldStep (world_at w run j) m (world_at w run (suc j)))
      (same_step step_j.move (Act (event.SyncStep a.number) x) step_j.new c.new (sym step_j.there ∙ c.answers))
      (moves_at w run first r j step_j)

  pub core_j : Step (world_at w run j).core (event.SyncStep a.number) x (world_at w run (suc j)).core
  core_j = act_j.1.0

  pub moment_j : (m : ℕ) → a.step < m → m ≤ j → InProgress w run first r a m
  moment_j m late l = moment w run first r a c.begins m late (let k = in_j in omega arith)
      (λ k d e. c.lasts k d (omega arith))

  pub last_moment : InProgress w run first r a j
  last_moment = moment_j j c.before (omega arith)

  -- the sync starts pages past e alone, or none any more
  abbrev Past : ℕ → Sync → Type 0
  Past e y = (is_some y.bound ≡ true) ⊎ ((p : ℕ) → past y.started p ≡ true → e < p)

  abbrev StartsPast : ℕ → ℕ → Type 0
  StartsPast e m = (y : Sync) → finmap.get (world_at w run m).core.syncs a.number.0 ≡ Some y → Past e y

  starts_past_next : (e m : ℕ) → a.step < m → m < j → StartsPast e m → StartsPast e (suc m)
  starts_past_next e m late b old z is =
      let q = moment_j m late (omega arith) in
      let tr = tracked_at w run first r a m q (let l = in_j in omega arith) (c.lasts (suc m) (omega arith) b) in
      let same : tr.now ≡ z = (let k : Some tr.now ≡ Some z = sym tr.is ∙ is in cc) in
      let o : Past e q.sync = old q.sync q.is in
      subst (Past e) same (elim tr.how [
        | inl x ↦ elim o [
          | inl some ↦ inl (ap is_some x.bound ∙ some)
          | inr more ↦ inr (λ p h. more p (ap (λ l. past l p) (sym x.started) ∙ h))
        ]
        | inr x1 ↦ elim x1 [
          | inl x ↦ elim o [
            | inl some ↦ absurd (let k = ap is_some x.was in cc)
            | inr more ↦ inr (λ p h. (let first_past =
                more x.page (pick_past (world_at w run m).core q.sync x.page x.pick) in
                let then_past = after_started x.page p (ap (λ l. past l p) (sym x.started) ∙ h) in omega arith))
          ]
          | inr x ↦ inl (ap is_some x.is)
        ]
      ])

pub syncs_are_synced : SyncsAreSynced
syncs_are_synced w run first r a j k c late short p within small =
    let q = last_moment w run first r a j reply.Clean c in
    let over = clean_step w run first r a j q.sync (world_at w run (suc j)).core q.is
    (core_j w run first r a j reply.Clean c) in
    let done_j = ended_pages w run first r a j q over p within in
    done_synced w run first r a.step (its_file w run a) k p (let b = c.before in omega arith) short
    (done_on w run first r a.step (its_file w run a) j k p (let b = c.before in omega arith) late short done_j)

pub syncs_tell : SyncsTell
syncs_tell = record {
  clean = λ w run first r a j c.
      let q = last_moment w run first r a j reply.Clean c in
      let over = clean_step w run first r a j q.sync (world_at w run (suc j)).core q.is
      (core_j w run first r a j reply.Clean c) in
      ap (λ g. (file_at (world_at w run j).core g).failures) (sym (file_is w run first r a j q)) ∙ over.0 ∙ q.since;
  failed = λ w run first r a j code c e.
      let q = last_moment w run first r a j (reply.Failed code) c in
      failed_step w run first r a j q.sync code (world_at w run (suc j)).core q.is
      (core_j w run first r a j (reply.Failed code) c)
      (ap (λ g. (file_at (world_at w run j).core g).failures) (file_is w run first r a j q) ∙ e ∙ sym q.since);
}

-- ---- a sync starts its writes in rising order

record StartsAt (s new : State) (y : Sync) (m t : ℕ) : Type 0 where
  pub started : ℕ
  pub none : y.bound ≡ None
  pub pick : sync_pick s y ≡ Some started
  pub sync : finmap.get new.syncs m ≡ Some (record y { started = Some started })
  pub page : option_map (λ (x : Request). x.page) (finmap.get new.requests t) ≡ Some started

job_step : (s new : State) (m : SyncId) (y : Sync) (t : Serial) → finmap.get s.syncs m.0 ≡ Some y
    → Step s (event.SyncStep m) (reply.Job t) new → StartsAt s new y m.0 t.0
job_step s new m y t is step =
    go (sync_pick s y) refl (first_awaited s y) (subst (λ o. SyncStepReply s o (reply.Job t)) is h.may)
  where
    h : Happened s (event.SyncStep m) (reply.Job t) new
    h = happened s (event.SyncStep m) (reply.Job t) new step refl (λ n o e. absurd cc)

    new_is : new ≡ sync_stepped s m.0 (Some y) (reply.Job t)
    new_is = h.is ∙ ap (λ o. sync_stepped s m.0 o (reply.Job t)) is

    go : (o : Option ℕ) → sync_pick s y ≡ o → (e : Option (ℕ × Request)) → SyncReply s y o e (reply.Job t)
        → StartsAt s new y m.0 t.0
    go (Some p) pick e given = record {
      started = p;
      none = pick_unbound s y p pick;
      pick = pick;
      sync = ap (λ x. finmap.get x.syncs m.0) new_is ∙ get-insert1 s.syncs m.0 _ m.0
          ∙ put1_here (finmap.get s.syncs) m.0 _ ∙ ap (λ o. Some (record y { started = o })) pick;
      page = ap (option_map (λ (x : Request). x.page))
          (ap (finmap.get new.requests) given ∙ ap (λ x. finmap.get x.requests s.next) new_is
          ∙ get-insert1 s.requests s.next _ s.next ∙ put1_here (finmap.get s.requests) s.next _)
          ∙ ap (λ o. Some (unwrap_or o 0)) pick;
    }
    go None pick (Some e) given = absurd given
    go None pick None given = absurd given

one_sync : (o : Option Sync) (a b : Sync) → o ≡ Some a → o ≡ Some b → b ≡ a
one_sync o a b d e = let k : Some b ≡ Some a = sym e ∙ d in cc

same_some : (a b : ℕ) → ◌≡◌ {A = Option ℕ} (Some a) (Some b) → a ≡ b
same_some a b e = cc

none_is_some : (o : Option ℕ) → o ≡ None → is_some o ≡ true → ⊥
none_is_some o a b = let k = ap is_some a in cc

one_more : (m : ℕ) → suc m ≡ m + 1
one_more m = omega arith

rising : EveryRun (λ w run. (a : Begin) (j k p q : ℕ) (t u : Serial) → IsSync w run a j (reply.Job t)
    → IsSync w run a k (reply.Job u) → j < k → requested_page (core_at w run (j + 1)) t.0 ≡ Some p
    → requested_page (core_at w run (k + 1)) u.0 ≡ Some q → p < q)
rising w run first r a j k p q t u cj ck later ep eq =
    let qj = last_moment w run first r a j (reply.Job t) cj in
    let qk = last_moment w run first r a k (reply.Job u) ck in
    let sj = job_step (world_at w run j).core (world_at w run (suc j)).core a.number qj.sync t qj.is
    (core_j w run first r a j (reply.Job t) cj) in
    let sk = job_step (world_at w run k).core (world_at w run (suc k)).core a.number qk.sync u qk.is
    (core_j w run first r a k (reply.Job u) ck) in
    let start : StartsPast w run first r a k (reply.Job u) ck sj.started (suc j) =
    (λ y is. inr (λ x b. after_started sj.started x
    (sym (ap (λ (z : Sync). past z.started x) (one_sync _ _ y sj.sync is)) ∙ b))) in
    let now : StartsPast w run first r a k (reply.Job u) ck sj.started k =
    climb (StartsPast w run first r a k (reply.Job u) ck sj.started) (suc j) k (omega arith)
    (λ m b l. starts_past_next w run first r a k (reply.Job u) ck sj.started m (let c = cj.before in omega arith) l)
    start in
    let same_p : sj.started ≡ p =
    same_some _ _ (sym sj.page ∙ (λ m. requested_page (world_at w run (one_more j m)).core t.0) ∙ ep) in
    let same_q : sk.started ≡ q =
    same_some _ _ (sym sk.page ∙ (λ m. requested_page (world_at w run (one_more k m)).core u.0) ∙ eq) in
    let rises : sj.started < sk.started =
    elim (now qk.sync qk.is) [
      | inl some ↦ absurd (none_is_some _ sk.none some)
      | inr more ↦ more sk.started (pick_past (world_at w run k).core qk.sync sk.started sk.pick)
    ] in
    subst (λ x. x < q) same_p (subst (λ x. sj.started < x) same_q rises)

-- the page that is started is of the sync's range
pick_within : (s : State) (y : Sync) (p : ℕ) → sync_pick s y ≡ Some p → in_range y p ≡ true
pick_within s y p pick =
    let e = mapped_some (λ (e : ℕ × Page). e.0)
    (find (is_left y) (finmap.entries (file_at s (handle_file s y.handle)).pages)) p
    (sym (ap (λ o. cond (is_some o) None
    (option_map (λ (e : ℕ × Page). e.0)
    (find (is_left y) (finmap.entries (file_at s (handle_file s y.handle)).pages)))) (pick_unbound s y p pick))
    ∙ pick) in
    let a = found (file_at s (handle_file s y.handle)).pages (is_left y) e.0 e.1 in
    ap (in_range y) (sym e.2) ∙ (and_true e.0.1.tags.towrite (in_range y e.0.0)
    (and_true (e.0.1.tags.towrite && in_range y e.0.0) _ a.0).0).1

in_bounds : (low high p : ℕ) → (nat_le low p && nat_le p high) ≡ true → (low ≤ p) × (p ≤ high)
in_bounds low high p e = grind (arith, nat_tests)

starting_within : EveryRun (λ w run. (a : Begin) (j p : ℕ) (t : Serial) → IsSync w run a j (reply.Job t)
    → requested_page (core_at w run (j + 1)) t.0 ≡ Some p → InRange a p)
starting_within w run first r a j p t c ep =
    let q = last_moment w run first r a j (reply.Job t) c in
    let s = job_step (world_at w run j).core (world_at w run (suc j)).core a.number q.sync t q.is
    (core_j w run first r a j (reply.Job t) c) in
    let same : s.started ≡ p =
    same_some _ _ (sym s.page ∙ (λ m. requested_page (world_at w run (one_more j m)).core t.0) ∙ ep) in
    let inside =
    in_bounds q.sync.first q.sync.last s.started (pick_within (world_at w run j).core q.sync s.started s.pick) in
    let low = q.low in
    let high = q.high in
    (let l = inside.0 in omega arith, let h = inside.1 in omega arith)

pub syncs_rise : SyncsRise
syncs_rise = record { rise = rising; within = starting_within }

-- ---- a page that was DIRTY as the sync began

module _ (w : World) (run : Steps) (first : IsFirst w) (r : Run w run) (i f : ℕ) where
  abbrev Kept : ℕ → ℕ → Type 0
  Kept k p = (towrite (page_at (world_at w run k).core f p) ≡ true)
      ⊎ (CutOff w run i k f p ⊎ WasStarted w run i k f p)

  still_started : (k p : ℕ) → WasStarted w run i k f p → WasStarted w run i (suc k) f p
  still_started k p s = let before : s.moment < suc k = (let a = s.before in omega arith) in search (s, before)

  not_in_flight : (o : Option Request) → is_some o ≡ false → o ≡ None
  not_in_flight None e = refl
  not_in_flight (Some x) e = absurd cc

  kept_next : (k p : ℕ) → i < k → k < length run → Kept k p → Kept (suc k) p
  kept_next k p a b old = elim old [
    | inr x ↦ inr (elim x [ inl o ↦ inl (off_more w run first r i f k p o) | inr s ↦ inr (still_started k p s) ])
    | inl tag ↦ (let s = at w run first r k b in
        elim (cuts_off (world_at w run k).core.sizes.page (plain_at w run k) s.move f p) as (λ c. cuts_off
        (world_at w run k).core.sizes.page (plain_at w run k) s.move f p ≡ c → Kept (suc k) p) [
          | true ↦ λ e. inr (inl (off_now w run first r i f k p s (omega arith) (omega arith) e))
          | false ↦ λ e. elim ((evolves_at w run first r k s).to_write f p e tag) [
            | inl t ↦ inl t
            | inr x ↦ (let v = world_at w run k in let new = world_at w run (suc k) in
                let y = request_is new.core.requests new.writing x.serial x.request x.is in let same = y.2 in
                let noted =
                some_of (finmap.get new.writing x.serial) ((coupled_at w run first r (suc k)).tables.writes x.serial
                ∙ ap writes y.1 ∙ ap (λ (g : Flight). is_flush g.kind) (sym same) ∙ ap is_flush x.kind) in
                inr (inr (record {
                  moment = k;
                  serial = x.serial;
                  block = y.0.block;
                  after = a;
                  before = omega arith;
                  was = not_in_flight (finmap.get v.core.requests x.serial)
                      (sym (in_flight v.core.requests v.writing x.serial) ∙ ap is_some x.fresh_serial);
                  is = sym (λ j. finmap.get (world_at w run (one_more k j)).core.requests x.serial) ∙ y.1
                      ∙ (λ j. Some (record {
                        kind = (ap (λ (g : Flight). g.kind) (sym same) ∙ x.kind) j;
                        file = (ap (λ (g : Flight). g.file) (sym same) ∙ x.file) j;
                        page = (ap (λ (g : Flight). g.page) (sym same) ∙ x.page) j;
                        block = y.0.block;
                        dropped = (ap (λ (g : Flight). g.dropped) (sym same) ∙ x.live) j;
                      }));
                  bytes = sym (λ j. finmap.get (world_at w run (one_more k j)).writing x.serial) ∙ noted.1
                      ∙ ap Some (ap (λ o. unwrap_or o []) (sym noted.1)
                      ∙ ap (λ (g : Flight). g.bytes) (sym same) ∙ x.bytes
                      ∙ ap (λ z. page_of z (plain_file (plain_at w run k) f) p) (size_at w run first r k (omega arith)));
                })))
          ]
        ] refl)
  ]

  kept_on : (k m p : ℕ) → i < k → k ≤ m → m ≤ length run → Kept k p → Kept m p
  kept_on k m p a l short old =
      climb (λ x. Kept x p) k m l (λ x b c. kept_next x p (omega arith) (omega arith)) old

pub dirty_pages_stay : DirtyPagesStay
dirty_pages_stay w run first r a k p there later short within is_dirty_now =
    let f = its_file w run a in
    let i = a.step in
    let b = begins_i w run first r a there in
    let y = new_sync (world_at w run i).core a.handle.0 a.first.0 a.last.0 in
    let named_f = named_file w run first r a there in
    let tag = tagged_now y p (range_now y a.first.0 a.last.0 p refl refl within) (page_at (world_at w run i).core f p)
    is_dirty_now in
    let begins : towrite (page_at (world_at w run (suc i)).core f p) ≡ true =
    (λ j. towrite (page_at (world_at w run (suc i)).core (sym named_f j) p)) ∙ ap towrite (b.0.pages p)
    ∙ (λ j. towrite (option_map (to_write y p) (page_at (world_at w run i).core (named_f j) p))) ∙ tag in
    kept_on w run first r i f (suc i) k p (omega arith) (omega arith) short (inl begins)
  where
    range_now : (y : Sync) (low high p : ℕ) → y.first ≡ low → y.last ≡ high → (low ≤ p) × (p ≤ high)
        → in_range y p ≡ true
    range_now y low high p a b within = let d = within.0 in let e = within.1 in grind (arith, nat_tests)

    tagged_now : (y : Sync) (p : ℕ) → in_range y p ≡ true → (o : Option Page) → dirty o ≡ true
        → towrite (option_map (to_write y p) o) ≡ true
    tagged_now y p within None e = absurd cc
    tagged_now y p within (Some x) e = (λ j. x.tags.towrite || e j && within j) ∙ or-true x.tags.towrite
