-- A sync in progress, at each moment of a run: where each page of its range stands that its file had as it began.
use Rattle.runs.proofs.views.View.{Flight, View, Good, Evolves, Holds, put1_here, dirty, writeback, towrite}
use Rattle.machine.proofs.steps.Answered.{is_quiet}
use Rattle.std.proofs.Common.{◌≡◌, ◌≢◌, ℕ, zero, suc, ◌<◌, ◌≤◌, Bool, true, false, not, eqb, eq-eqb, List, length}
use Rattle.std.proofs.Common.{refl, ap, sym, subst, ◌∙◌, arith, inl, inr}
use Rattle.std.specs.Prelude.{◌&&◌, ◌||◌, ◌⊎◌, Option, Some, None, is_some, option_map, unwrap_or, nat_lt}
use Rattle.std.specs.FinMap as finmap
use Rattle.std.proofs.Math.Bool.{or-true}
use Rattle.std.proofs.lemmas.Bool.Decides.{nat_tests}
use Rattle.pc_types.specs.Files.{page_of}
use Rattle.pc_types.specs.Kinds.{is_flush}
use Rattle.machine.specs.declared.event.Event.TheVariants as event
use Rattle.machine.specs.declared.event.Reply.{Reply}
use Rattle.machine.specs.declared.event.Reply.TheVariants as reply
use Rattle.machine.specs.State.{State, Page, Request, Sync, file_at, handle_file, is_open, page_at, in_range, bound_of}
use Rattle.machine.specs.State.{is_awaited, first_awaited}
use Rattle.machine.specs.Changes.{sync_pick, is_left, to_write, new_sync}
use Rattle.machine.specs.Step.{Step, SyncReply, SyncStepReply}
use Rattle.machine.proofs.steps.Cases.{happened}
use Rattle.machine.proofs.changes.ChangeLaws.{BeginsSync}
use Rattle.machine.proofs.steps.Choices.{neither, some_of}
use Rattle.maps.proofs.Found.{found_none}
use Rattle.machine.proofs.steps.Picks.{past, pick_lowest, pick_none}
use Rattle.runs.specs.Plain.{Plain, plain_file}
use Rattle.runs.specs.Seen.{files_seen}
use Rattle.runs.specs.World.{World, Move, WorldStep, DeviceHolds}
use Rattle.runs.specs.Runs.{Steps, IsFirst, Run, world_at, plain_at}
use Rattle.runs.specs.Syncing.{cuts_off, CutOff, IsOnDevice, Begin, InRange, its_file}
use Rattle.runs.proofs.events.Coupled.{view}
use Rattle.runs.proofs.events.Lookups.{get-insert1}
use Rattle.runs.proofs.views.Fresh.{IsFresh, IsUnder, fresh_next, under_next, waiting_next}
use Rattle.runs.proofs.moments.Moments.{climb, coupled_at}
use Rattle.runs.proofs.moments.RunSteps.{StepAt, step_at}
use Rattle.runs.proofs.events.Steps.{move_kept}
use Rattle.runs.proofs.events.Tables.{request_is}
use Rattle.runs.proofs.syncs.Track.{Tracked, move_tracked}

module _ (w : World) (run : Steps) (first : IsFirst w) (r : Run w run) where
  abbrev P : ℕ
  P = w.core.sizes.page

  abbrev W : ℕ → World
  W k = world_at w run k

  abbrev L : ℕ → Plain
  L k = plain_at w run k

  abbrev V : ℕ → View
  V k = view (W k) (L k)

  abbrev At : ℕ → Type 0
  At k = StepAt w (files_seen w) run k

  pub at : (k : ℕ) → k < length run → At k
  at k h = step_at run w (files_seen w) k r h

  pub moves_at : (k : ℕ) (s : At k) → WorldStep (W k) s.move (W (suc k))
  moves_at k s = subst (λ x. WorldStep (W k) s.move x) (sym s.next) s.moves

  -- what the step from k on cuts off
  abbrev gone_at : (k : ℕ) → At k → ℕ → ℕ → Bool
  gone_at k s = cuts_off (W k).core.sizes.page (L k) s.move

  pub evolves_at : (k : ℕ) (s : At k) → Evolves (gone_at k s) (V k) (V (suc k))
  evolves_at k s = subst (λ x. Evolves (gone_at k s) (V k) (view (W (suc k)) x)) (sym s.plain_next)
      (move_kept (W k) (L k) (coupled_at w run first r k) s.move (W (suc k)) (moves_at k s)).evolves

  -- the page size stays
  pub size_at : (k : ℕ) → k ≤ length run → (W k).core.sizes.page ≡ P
  size_at zero h = refl
  size_at (suc k) h = (evolves_at k (at k (omega arith))).same_size ∙ size_at k (omega arith)

  module _ (i f : ℕ) where
    -- bytes that page p had at some moment from i to k
    abbrev Seen : ℕ → ℕ → List ℕ → Type 0
    Seen k p bytes = (m : ℕ) × (i ≤ m) × (m ≤ k) × (bytes ≡ page_of P (plain_file (L m) f) p)

    seen_more : (k p : ℕ) (bytes : List ℕ) → Seen k p bytes → Seen (suc k) p bytes
    seen_more k p bytes h = (h.0, h.1, (let a = h.2 in omega arith), h.3)

    seen_now : (k p : ℕ) → i ≤ k → k ≤ length run → Seen (suc k) p ((V k).content f p)
    seen_now k p h l = (k, h, omega arith, ap (λ x. page_of x (plain_file (L k) f) p) (size_at k l))

    pub off_more : (k p : ℕ) → CutOff w run i k f p → CutOff w run i (suc k) f p
    off_more k p h =
        record { moment = h.moment; after = h.after; before = let a = h.before in omega arith; cuts = h.cuts }

    pub off_now : (k p : ℕ) (s : At k) → i ≤ k → k ≤ length run → gone_at k s f p ≡ true → CutOff w run i (suc k) f p
    off_now k p s h l e =
        record {
          moment = k;
          after = h;
          before = omega arith;
          cuts = ap (option_map (λ (step : Move × World). cuts_off P (L k) step.0 f p)) s.there
              ∙ ap Some (ap (λ x. cuts_off x (L k) s.move f p) (sym (size_at k l)) ∙ e);
        }

    -- ---- pages that are settled

    abbrev Fresh : ℕ → ℕ → Type 0
    Fresh k p = IsFresh (V k) (Seen k p) f p

    abbrev pub Done : ℕ → ℕ → Type 0
    Done k p = CutOff w run i k f p ⊎ Fresh k p

    pub good_at : (k : ℕ) → Good (V k)
    good_at k = (coupled_at w run first r k).good

    done_next : (k p : ℕ) → i ≤ k → k < length run → Done k p → Done (suc k) p
    done_next k p h l d = elim d [
      | inl o ↦ inl (off_more k p o)
      | inr x ↦ (let s = at k l in elim (gone_at k s f p) as (λ b. gone_at k s f p ≡ b → Done (suc k) p) [
        | true ↦ λ e. inl (off_now k p s h (omega arith) e)
        | false ↦ λ e. inr (fresh_next (V k) (V (suc k)) (good_at k) (gone_at k s) (evolves_at k s) f p e (Seen k p)
            (Seen (suc k) p) (seen_more k p) (seen_now k p h (omega arith)) x)
      ] refl)
    ]

    pub done_on : (k m p : ℕ) → i ≤ k → k ≤ m → m ≤ length run → Done k p → Done m p
    done_on k m p h l short d =
        climb (λ x. Done x p) k m l (λ x a b. done_next x p (omega arith) (omega arith)) d

    -- what the device holds, by the view
    holds_of : (m p : ℕ) (bytes : List ℕ) → Holds (V m) f p bytes
        → (dirty (page_at (W m).core f p) || writeback (page_at (W m).core f p)) ≡ true → DeviceHolds (W m) f p bytes
    holds_of m p bytes h unclean = elim h [
      | inl shows ↦ inl shows
      | inr part ↦ inr (record { some = part.0; part = part.1; unclean = unclean; whole = part.2 })
    ]

    -- a clean page is on the device as it is now, and any other as it was at some moment
    on_device_by : (m p : ℕ) → i ≤ m → m ≤ length run → Fresh m p → (b : Bool)
        → (dirty (page_at (W m).core f p) || writeback (page_at (W m).core f p)) ≡ b → IsOnDevice w run i m f p
    on_device_by m p h short x true unclean =
        let s = x.seen in
        record {
          moment = s.0;
          after = s.1;
          before = s.2;
          bytes = subst (DeviceHolds (W m) f p) s.3 (holds_of m p x.bytes x.on_device unclean);
        }
    on_device_by m p h short x false clean =
        let tags = neither (dirty (page_at (W m).core f p)) (writeback (page_at (W m).core f p)) clean in
        record {
          moment = m;
          after = h;
          before = omega arith;
          bytes = inl (((good_at m).pages f p).clean tags.0 tags.1
              ∙ ap (λ z. page_of z (plain_file (L m) f) p) (size_at m short));
        }

    pub done_synced : (m p : ℕ) → i ≤ m → m ≤ length run → Done m p → CutOff w run i m f p ⊎ IsOnDevice w run i m f p
    done_synced m p h short d = elim d [
      | inl o ↦ inl o
      | inr x ↦ inr (on_device_by m p h short x
          (dirty (page_at (W m).core f p) || writeback (page_at (W m).core f p)) refl)
    ]

  -- ---- a page while the sync is in progress

  module _ (a : Begin) where
    abbrev i : ℕ
    i = a.step

    abbrev f : ℕ
    f = its_file w run a

    -- a write of bytes that the page had is in flight, and is awaited
    abbrev Under : ℕ → Sync → ℕ → Type 0
    Under k y p = (t : ℕ) × IsUnder (V k) (Seen i f k p) f p t × ((b : ℕ) → y.bound ≡ Some b → t < b)

    -- the page is still to be started
    abbrev pub Waiting : ℕ → Sync → ℕ → Type 0
    Waiting k y p = (y.bound ≡ None) × (towrite (page_at (W k).core f p) ≡ true) × (past y.started p ≡ true)

    abbrev Open : ℕ → Sync → ℕ → Type 0
    Open k y p = CutOff w run i k f p ⊎ (Waiting k y p ⊎ (Under k y p ⊎ Fresh i f k p))

    pub record InProgress (k : ℕ) : Type 0 where
      pub sync : Sync
      pub is : finmap.get (W k).core.syncs a.number.0 ≡ Some sync
      pub handle : sync.handle ≡ a.handle.0
      pub low : sync.first ≡ a.first.0
      pub high : sync.last ≡ a.last.0
      pub file : finmap.get (W k).core.handles a.handle.0 ≡ Some f
      pub since : sync.failures ≡ (file_at (W i).core f).failures
      pub least : sync.failures ≤ (file_at (W k).core f).failures
      pub pages : (file_at (W k).core f).failures ≡ sync.failures → (p : ℕ) → InRange a p → Open k sync p

    pub none_some : {A : Type 0} (o : Option A) (x : A) → o ≡ None → o ≡ Some x → ⊥
    none_some o x a b = cc

    -- the file that the sync's handle names
    pub file_is : (k : ℕ) (q : InProgress k) → handle_file (W k).core q.sync.handle ≡ f
    file_is k q = ap (λ x. handle_file (W k).core x) q.handle ∙ ap (λ o. unwrap_or o 0) q.file

    pub range_is : (k : ℕ) (q : InProgress k) (p : ℕ) → InRange a p → in_range q.sync p ≡ true
    range_is k q p within = let b = q.low in let c = q.high in let d = within.0 in let e = within.1 in
        grind (arith, nat_tests)

    pub opened_at : (k : ℕ) (q : InProgress k) → is_open (W k).core q.sync.handle ≡ true
    opened_at k q = ap (λ x. is_open (W k).core x) q.handle ∙ ap is_some q.file

    -- a page that waits is left to be started
    pub to_start : (k : ℕ) (q : InProgress k) (p : ℕ) → InRange a p → Waiting k q.sync p
        → (x : Page) × (page_at (W k).core (handle_file (W k).core q.sync.handle) p ≡ Some x)
        × (is_left q.sync (p, x) ≡ true)
    to_start k q p within waits = go (page_at (W k).core f p) refl waits.1
      where
        go : (o : Option Page) → page_at (W k).core f p ≡ o → towrite o ≡ true
            → (x : Page) × (page_at (W k).core (handle_file (W k).core q.sync.handle) p ≡ Some x)
            × (is_left q.sync (p, x) ≡ true)
        go None e t = absurd cc
        go (Some x) e t =
            (x, ap (λ g. page_at (W k).core g p) (file_is k q) ∙ e, (λ j. t j && range_is k q p within j && waits.2 j))

    module _ (k : ℕ) (q : InProgress k) (s : At k) (from : i ≤ k) (short : k < length run)
        (tr : Tracked (W k).core (W (suc k)).core a.number.0 q.sync)
        (same : (file_at (W (suc k)).core f).failures ≡ tr.now.failures) where
      ev : Evolves (gone_at k s) (V k) (V (suc k))
      ev = evolves_at k s

      unfailed : (file_at (W k).core f).failures ≡ q.sync.failures
      unfailed = let a = q.least in let b = tr.failures in let c = ev.failures f in omega arith

      same_failures : (V (suc k)).failures f ≡ (V k).failures f
      same_failures = let a = unfailed in let b = tr.failures in omega arith

      -- what is under way stays awaited
      under_on : (p t : ℕ) → ((b : ℕ) → q.sync.bound ≡ Some b → t < b) → IsUnder (V (suc k)) (Seen i f (suc k) p) f p t
          → (b : ℕ) → tr.now.bound ≡ Some b → t < b
      under_on p t old u b e = elim tr.how [
        | inl x ↦ old b (sym x.bound ∙ e)
        | inr x ↦ elim x [
          | inl y ↦ absurd (none_some tr.now.bound b y.is e)
          | inr y ↦ (let low = ((good_at i f (suc k)).requests t u.request u.is).serial in
              let same_bound : Some (W k).core.next ≡ Some b = sym y.is ∙ e in let is : (W k).core.next ≡ b = cc in
              let n = y.next in omega arith)
        ]
      ]

      past_more : (e p : ℕ) → e ≤ p → e ≢ p → past (Some e) p ≡ true
      past_more e p l n = grind (arith, nat_tests)

      pub waiting_on : (p : ℕ) → InRange a p → Waiting k q.sync p → towrite (page_at (W (suc k)).core f p) ≡ true
          → Waiting (suc k) tr.now p
      waiting_on p within waits tag = elim tr.how [
        | inl x ↦ (x.bound ∙ waits.0, tag, ap (λ l. past l p) x.started ∙ waits.2)
        | inr x ↦ (let o = to_start k q p within waits in elim x [
          | inl z ↦ (let low = pick_lowest (W k).core q.sync z.page z.pick p o.0 o.1 o.2 in
              let apart : z.page ≢ p =
              (λ e. let c : towrite (page_at (W (suc k)).core f p) ≡ false =
              sym (λ j. towrite (page_at (W (suc k)).core (file_is k q j) (e j))) ∙ z.cleared in cc) in
              (z.is, tag, ap (λ l. past l p) z.started ∙ past_more z.page p low apart))
          | inr z ↦ absurd (let b = pick_none (W k).core q.sync z.pick z.was p o.0 o.1 in let d = o.2 in cc)
        ])
      ]

      page_on : (p : ℕ) → InRange a p → Open (suc k) tr.now p
      page_on p within = elim (q.pages unfailed p within) [
        | inl o ↦ inl (off_more i f k p o)
        | inr x ↦ elim (gone_at k s f p) as (λ b. gone_at k s f p ≡ b → Open (suc k) tr.now p) [
          | true ↦ λ e. inl (off_now i f k p s from (omega arith) e)
          | false ↦ λ e. inr (elim x [
            | inl waits ↦ elim (waiting_next (V k) (V (suc k)) (good_at i f k) (gone_at k s) ev f p e (Seen i f k p)
                (Seen i f (suc k) p) (seen_more i f k p) (seen_now i f k p from (omega arith)) waits.1) [
                  | inl tag ↦ inl (waiting_on p within waits tag)
                  | inr u ↦ inr (inl (
                    u.0,
                    u.1,
                    under_on p u.0
                        (λ b bounded. absurd (none_some q.sync.bound b waits.0 bounded)) u.1,
                  ))
                ]
            | inr y ↦ elim y [
              | inl u ↦ elim (under_next (V k) (V (suc k)) (good_at i f k) (gone_at k s) ev f p e (Seen i f k p)
                  (Seen i f (suc k) p) (seen_more i f k p) (seen_now i f k p from (omega arith)) u.0 u.1 same_failures) [
                    | inl v ↦ inr (inl (u.0, v, under_on p u.0 u.2 v))
                    | inr v ↦ inr (inr v)
                  ]
              | inr z ↦ inr (inr (fresh_next (V k) (V (suc k)) (good_at i f k) (gone_at k s) ev f p e (Seen i f k p)
                  (Seen i f (suc k) p) (seen_more i f k p) (seen_now i f k p from (omega arith)) z))
            ]
          ])
        ] refl
      ]

    pub tracked_at : (k : ℕ) (q : InProgress k) → (short : k < length run)
        → is_some (finmap.get (W (suc k)).core.syncs a.number.0) ≡ true
        → Tracked (W k).core (W (suc k)).core a.number.0 q.sync
    tracked_at k q short still = let s = at k short in
        move_tracked (W k) (W (suc k)) a.number.0 q.sync q.is (opened_at k q) still s.move (moves_at k s)

    in_progress_next : (k : ℕ) → InProgress k → i ≤ k → (short : k < length run)
        → is_some (finmap.get (W (suc k)).core.syncs a.number.0) ≡ true → InProgress (suc k)
    in_progress_next k q from short still =
        let s = at k short in
        let tr = tracked_at k q short still in
        record {
          sync = tr.now;
          is = tr.is;
          handle = tr.handle ∙ q.handle;
          low = tr.first ∙ q.low;
          high = tr.last ∙ q.high;
          file = (λ j. finmap.get (W (suc k)).core.handles (sym q.handle j)) ∙ tr.file
              ∙ (λ j. finmap.get (W k).core.handles (q.handle j)) ∙ q.file;
          since = tr.failures ∙ q.since;
          least = let a = q.least in let b = tr.failures in let c = (evolves_at k s).failures f in omega arith;
          pages = λ same p within. page_on k q s from short tr same p within;
        }

    pub in_progress_on : (k m : ℕ) → InProgress k → i ≤ k → k ≤ m → m ≤ length run
        → ((x : ℕ) → k < x → x ≤ m → is_some (finmap.get (W x).core.syncs a.number.0) ≡ true) → InProgress m
    in_progress_on k m q from l short lasts = climb InProgress k m l
        (λ x b c now. in_progress_next x now (omega arith) (omega arith) (lasts (suc x) (omega arith) (omega arith))) q

    -- ---- the sync answers

    -- its step's reply, by its next page and what it awaits
    pub answers_by : (k : ℕ) (y : Sync) (x : Reply) (new : State) → finmap.get (W k).core.syncs a.number.0 ≡ Some y
        → is_quiet x ≡ false → ((n o : ℕ) → x ≡ reply.Wrote n o → ⊥)
        → Step (W k).core (event.SyncStep a.number) x new
        → SyncReply (W k).core y (sync_pick (W k).core y) (first_awaited (W k).core y) x
    answers_by k y x new is loud wrote step =
        subst (λ o. SyncStepReply (W k).core o x) is
        (happened (W k).core (event.SyncStep a.number) x new step loud wrote).may

    abbrev failures_of : ℕ → Sync → ℕ
    failures_of k y = (file_at (W k).core (handle_file (W k).core y.handle)).failures

    abbrev pub Ended : ℕ → Sync → Type 0
    Ended k y = (failures_of k y ≡ y.failures) × ((sync_pick (W k).core y ≡ None) × (first_awaited (W k).core y ≡ None))

    pub clean_step : (k : ℕ) (y : Sync) (new : State) → finmap.get (W k).core.syncs a.number.0 ≡ Some y
        → Step (W k).core (event.SyncStep a.number) reply.Clean new → Ended k y
    clean_step k y new is step = go (sync_pick (W k).core y) refl (first_awaited (W k).core y) refl
        (answers_by k y reply.Clean new is refl (λ n o e. absurd cc) step)
      where
        go : (o : Option ℕ) → sync_pick (W k).core y ≡ o → (e : Option (ℕ × Request)) → first_awaited (W k).core y ≡ e
            → SyncReply (W k).core y o e reply.Clean → Ended k y
        go (Some p) b e c h = absurd h
        go None b (Some e) c h = absurd h
        go None b None c h = (h, (b, c))

    pub failed_step : (k : ℕ) (y : Sync) (c : ℕ) (new : State) → finmap.get (W k).core.syncs a.number.0 ≡ Some y
        → Step (W k).core (event.SyncStep a.number) (reply.Failed c) new → failures_of k y ≢ y.failures
    failed_step k y c new is step = go (sync_pick (W k).core y) (first_awaited (W k).core y)
        (answers_by k y (reply.Failed c) new is refl (λ n o e. absurd cc) step)
      where
        go : (o : Option ℕ) (e : Option (ℕ × Request)) → SyncReply (W k).core y o e (reply.Failed c)
            → failures_of k y ≢ y.failures
        go (Some p) e h = absurd h
        go None (Some e) h = absurd h
        go None None h = h.0

    pub ended_pages : (k : ℕ) (q : InProgress k) → Ended k q.sync → (p : ℕ) → InRange a p → Done i f k p
    ended_pages k q e p within =
        elim (q.pages (ap (λ g. (file_at (W k).core g).failures) (sym (file_is k q)) ∙ e.0) p within) [
          | inl o ↦ inl o
          | inr x ↦ elim x [
            | inl waits ↦ absurd (let o = to_start k q p within waits in
                let b = pick_none (W k).core q.sync e.1.0 waits.0 p o.0 o.1 in let d = o.2 in cc)
            | inr y ↦ elim y [ inl u ↦ absurd (no_under u) | inr z ↦ inr z ]
          ]
        ]
      where
        below : (t : ℕ) → ((b : ℕ) → q.sync.bound ≡ Some b → t < b) → t < (W k).core.next → (o : Option ℕ)
            → q.sync.bound ≡ o → nat_lt t (unwrap_or o (W k).core.next) ≡ true
        below t old low None e = grind (arith, nat_tests)
        below t old low (Some b) e = let l = old b e in grind (arith, nat_tests)

        no_under : Under k q.sync p → ⊥
        no_under u =
            let x = request_is (W k).core.requests (W k).writing u.0 u.1.request u.1.is in
            let same = x.2 in
            let low = ((good_at i f k).requests u.0 u.1.request u.1.is).serial in
            let bounded : nat_lt u.0 (bound_of (W k).core q.sync) ≡ true = below u.0 u.2 low q.sync.bound refl in
            let kind : is_flush x.0.kind ≡ true = ap (λ (v : Flight). is_flush v.kind)
            (sym same) ∙ ap is_flush u.1.kind in
            let live : not x.0.dropped ≡ true = ap (λ (v : Flight). not v.dropped)
            (sym same)
            ∙ ap not u.1.live in
            let file : eqb x.0.file (handle_file (W k).core q.sync.handle) ≡ true =
            eq-eqb x.0.file (handle_file (W k).core q.sync.handle)
            (ap (λ (v : Flight). v.file) (sym same) ∙ u.1.file ∙ sym (file_is k q)) in
            let range : in_range q.sync x.0.page ≡ true =
            ap (in_range q.sync) (ap (λ (v : Flight). v.page) (sym same) ∙ u.1.page)
            ∙ range_is k q p within in
            let awaited_now : is_awaited (W k).core q.sync (u.0, x.0) ≡ true =
            (λ j. kind j && live j && file j && range j && bounded j) in
            let none = found_none (W k).core.requests (is_awaited (W k).core q.sync) e.1.1 u.0 x.0 x.1 in cc

    -- ---- the sync begins

    module _ (s : At i) (short : i < length run)
        (begins : BeginsSync (W i).core (handle_file (W i).core a.handle.0) a.number.0
        (new_sync (W i).core a.handle.0 a.first.0 a.last.0) (W (suc i)).core)
        (named_file : handle_file (W i).core a.handle.0 ≡ f) (opened : is_open (W i).core a.handle.0 ≡ true) where
      abbrev sync_now : Sync
      sync_now = new_sync (W i).core a.handle.0 a.first.0 a.last.0

      first_page : (file_at (W (suc i)).core f).failures ≡ sync_now.failures → (p : ℕ) → InRange a p
          → Open (suc i) sync_now p
      first_page same p within = elim (gone_at i s f p) as (λ b. gone_at i s f p ≡ b → Open (suc i) sync_now p) [
        | true ↦ λ e. inl (off_now i f i p s (omega arith) (omega arith) e)
        | false ↦ λ e. inr (left_page e)
      ] refl
        where
          ev0 : Evolves (gone_at i s) (V i) (V (suc i))
          ev0 = evolves_at i s

          good0 : Good (V i)
          good0 = good_at i f i

          seen0 : Seen i f i p ((V i).content f p)
          seen0 = (i, omega arith, omega arith, ap (λ x. page_of x (plain_file (L i) f) p) (size_at i (omega arith)))

          same0 : (V (suc i)).failures f ≡ (V i).failures f
          same0 = same ∙ ap (λ g. (file_at (W i).core g).failures) named_file

          in_range_now : in_range sync_now p ≡ true
          in_range_now = let d = within.0 in let e = within.1 in grind (arith, nat_tests)

          tagged : (x : Page) → x.tags.dirty ≡ true → towrite (option_map (to_write sync_now p) (Some x)) ≡ true
          tagged x d = (λ j. x.tags.towrite || d j && in_range_now j) ∙ or-true x.tags.towrite

          clean_page : gone_at i s f p ≡ false → dirty (page_at (W i).core f p) ≡ false → (b : Bool)
              → writeback (page_at (W i).core f p) ≡ b → Waiting (suc i) sync_now p
              ⊎ (Under (suc i) sync_now p ⊎ Fresh i f (suc i) p)
          clean_page e d true b =
              let j = good0.flushes f p b in
              let under : IsUnder (V i) (Seen i f i p) f p j.serial =
              search (
                j,
                subst (Seen i f i p) (sym
                    (((good0.requests j.serial j.request j.is).flush j.live j.kind).clean
                    ((λ m. dirty (page_at (W i).core (j.file m) (j.page m))) ∙ d)
                    ∙ (λ m. (V i).content (j.file m) (j.page m)))) seen0,
              ) in
              elim (under_next (V i) (V (suc i)) good0 (gone_at i s) ev0 f p e (Seen i f i p) (Seen i f (suc i) p)
              (seen_more i f i p) (seen_now i f i p (omega arith) (omega arith)) j.serial under same0) [
                | inl v ↦ inr (inl (j.serial, v, λ b k. absurd cc))
                | inr v ↦ inr (inr v)
              ]
          clean_page e d false b =
              let fresh : IsFresh (V i) (Seen i f i p) f p = record {
                bytes = (V i).content f p;
                on_device = inl ((good0.pages f p).clean d b);
                seen = seen0;
                flushes =
                    λ t r is k live g q. absurd (let a = ((good0.requests t r is).flush live k).writeback in
                    let c : writeback (page_at (W i).core f p) ≡ true =
                    (λ m. writeback (page_at (W i).core (sym g m) (sym q m))) ∙ a in cc);
              } in
              inr (inr (fresh_next (V i) (V (suc i)) good0 (gone_at i s) ev0 f p e (Seen i f i p) (Seen i f (suc i) p)
              (seen_more i f i p) (seen_now i f i p (omega arith) (omega arith)) fresh))

          some_page : (o : Option Page) → page_at (W i).core f p ≡ o → dirty o ≡ true
              → towrite (page_at (W (suc i)).core f p) ≡ true
          some_page None is d = absurd cc
          some_page (Some x) is d = (λ m. towrite (page_at (W (suc i)).core (sym named_file m) p))
              ∙ ap towrite (begins.pages p) ∙ (λ m. towrite
              (option_map (to_write sync_now p) (page_at (W i).core (named_file m) p)))
              ∙ ap (λ o. towrite (option_map (to_write sync_now p) o)) is ∙ tagged x d

          left_page : gone_at i s f p ≡ false → Waiting (suc i) sync_now p
              ⊎ (Under (suc i) sync_now p ⊎ Fresh i f (suc i) p)
          left_page e = by_dirty (dirty (page_at (W i).core f p)) refl
            where
              by_dirty : (b : Bool) → dirty (page_at (W i).core f p) ≡ b → Waiting (suc i) sync_now p
                  ⊎ (Under (suc i) sync_now p ⊎ Fresh i f (suc i) p)
              by_dirty true d = inl (refl, some_page (page_at (W i).core f p) refl d, refl)
              by_dirty false d = clean_page e d (writeback (page_at (W i).core f p)) refl

      pub begun : InProgress (suc i)
      begun = record {
        sync = sync_now;
        is = ap (λ x. finmap.get x.syncs a.number.0) begins.rest
            ∙ get-insert1 (W i).core.syncs a.number.0 sync_now a.number.0
            ∙ put1_here (finmap.get (W i).core.syncs) a.number.0 (Some sync_now);
        handle = refl;
        low = refl;
        high = refl;
        file = ap (λ x. finmap.get x.handles a.handle.0) begins.rest
            ∙ (let x = some_of (finmap.get (W i).core.handles a.handle.0) opened in x.1
            ∙ ap Some (ap (λ o. unwrap_or o 0) (sym x.1) ∙ named_file));
        since = ap (λ g. (file_at (W i).core g).failures) named_file;
        least = let a = (evolves_at i s).failures f in let b : sync_now.failures ≡ (file_at (W i).core f).failures =
            ap (λ g. (file_at (W i).core g).failures) named_file in omega arith;
        pages = λ same p within. first_page same p within;
      }

      pub begun_unbound : begun.sync.bound ≡ None
      unfolding begun
      begun_unbound = refl
