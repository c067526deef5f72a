-- A sync that one call makes from its begin to its end.
use Rattle.std.proofs.Common.{◌≡◌, ◌≢◌, ℕ, ◌+◌, ◌-◌, ◌<◌, ◌≤◌, Bool, true, false, cond, [], ◌∷◌, length, refl, ap, sym}
use Rattle.std.proofs.Common.{subst, ◌∙◌, arith, inl, inr}
use Rattle.std.specs.Prelude.{◌⊎◌, Option, Some, None, is_some, unwrap_or, IfSome, slice_index_or, Result, Ok, Err, IfErr, IfOk}
use Rattle.std.specs.FinMap as finmap
use Rattle.atomic_table.specs.Seated.{TableId}
use Rattle.errboard.specs.Shown.{RecorderSeen}
use Rattle.pc_types.specs.Files.{page_of}
use Rattle.pc_types.specs.declared.ids.HandleId.{HandleId}
use Rattle.pc_types.specs.declared.ids.PageIndex.{PageIndex}
use Rattle.pc_types.specs.declared.ids.Serial.{Serial}
use Rattle.pc_types.specs.declared.ids.SyncId.{SyncId}
use Rattle.pc_types.specs.declared.limits.TheConstants.{LAST_PAGE, MAX_FILE_SIZE, SERIAL_END}
use Rattle.pc_types.specs.declared.refusal.Refusal.{Refusal}
use Rattle.pc_types.specs.declared.refusal.Refusal.TheVariants.{BadRange, Memory, TooManyInFlight}
use Rattle.machine.specs.declared.event.Event.{Event}
use Rattle.machine.specs.declared.event.Event.TheVariants as event
use Rattle.machine.specs.declared.event.Outcome.{Outcome}
use Rattle.machine.specs.declared.event.Reply.{Reply}
use Rattle.machine.specs.declared.event.Reply.TheVariants as reply
use Rattle.cachecore.specs.Replies.{sync_begun, sync_dropped}
use Rattle.blockdev.specs.Device.{max_calls}
use Rattle.machine.specs.Sound.{Sound}
use Rattle.machine.specs.State.{State, File, Request, Sync, no_file, file_at, first_awaited, handle_file, is_open}
use Rattle.machine.specs.State.{page_count, tags_at}
use Rattle.machine.specs.Tests.{is_full, refuse, start_tests, sync_tests}
use Rattle.machine.specs.Changes.{new_sync, sync_pick}
use Rattle.machine.specs.Step.{Step, SyncReply, SyncStepReply}
use Rattle.machine.proofs.steps.Cases.{answered, happened}
use Rattle.machine.proofs.steps.Choices.{quiet_if, quiet_none, quiet_some}
use Rattle.world.specs.declared.step.Step.{Step as WorldsStep}
use Rattle.world.specs.declared.step.Step.TheVariants as step
use Rattle.runs.specs.Plain.{named, plain_file}
use Rattle.runs.specs.Syncing.{dirty_between}
use Rattle.runs.specs.Reached.{IsReached}
use Rattle.runs.specs.Seen.{files_seen}
use Rattle.runs.proofs.moments.Reached.{reached_holds}
use Rattle.cachecore.proofs.CutPages.{count_below}
use Rattle.world.specs.Stepping.{CallReply, EndReply, WorldSeen, IsMade, MovesByCall, Steps, world_of}
use Rattle.runs.specs.World.{World, Move, Act, Call, Finish, WorldStep}
use Rattle.runs.proofs.views.View.{put1_here}
use Rattle.runs.proofs.events.Lookups.{get-insert1}
use Rattle.world.proofs.Stays.{handles_stay, keeps_handles}
use Rattle.world.proofs.InFlight.{begins_none, next_rises, next_stays}
use Rattle.world.proofs.RangeSync.{IsRangeSynced, SyncsRange, is_of_sync, range_begins, range_clean, range_goes}
use Rattle.world.proofs.SyncStays.{is_over, over_leaves_files, sync_stays, syncs_stay}
use Rattle.runs.proofs.syncs.Track.{move_tracked}
use Rattle.cachecore.specs.Replies.{is_job}
use Rattle.cachecore.proofs.SyncWaits.{never_waits}
use Rattle.filesvc.specs.Rests.{AtOnce, IsResting, IsService, IsServing}
use Rattle.orderly.specs.Orderly.{IsOrderly}
use Rattle.filesvc.specs.Seen.{SoloSeen}
use Rattle.filesvc.specs.Service.{AreOnDevice, IsOnDevice, IsSyncRefusal, IsTallied, Serves, ServesBut, Tells, files}
use Rattle.filesvc.specs.Syncs.{Drops, SyncTurn, clean_or, is_sync_end, service_of, sync_end_of}
use Rattle.filesvc.specs.Made.{Moves, Syncs, Writes, is_for_sync, is_sync_write}
use Rattle.filesvc.proofs.Laws.{moves_also, moves_refl, moves_trans, one_move, three, serves_refl}
use Rattle.orderly.proofs.Orderly.{none_under}
use Rattle.filesvc.proofs.RoomLaws.{held_same, no_serial}
use Rattle.filesvc.proofs.SyncsKept.{OnlySync, begin_refused, dropped_none, finish_none, only_left, over_none, step_none}
use Rattle.filesvc.proofs.Waiting.{begin_tags, finish_waits, step_takes, waiting}
use Rattle.filesvc.proofs.WorldLaws.{Made, call_by, one_call, at_once_serves, at_once_serving, goes_service, is_quiet, made_goes, made_rests, made_serials, service_sound, sync_begins}

-- ---- what the cache answers a sync

-- what each reply to a step of the sync tells
abbrev Answered : State → Option Sync → Reply → State → Type 0
Answered s o (reply.Job t) new = Unit {0}
Answered s o (reply.Wait p) new = Unit {0}
Answered s o (reply.Refused why) new = Unit {0}
Answered s o reply.Clean new = IfSome o (λ y. (file_at s (handle_file s y.handle)).failures ≡ y.failures)
Answered s o (reply.Failed c) new = IfSome o (λ y.
    let file = file_at s (handle_file s y.handle) in (file.failures ≢ y.failures) × (c ≡ file.last_code))
Answered s o _ new = ⊥

module _ (s new : State) where
  by_tests : (o : Option Sync) (r : Reply) → sync_tests s o ≡ Some r → new ≡ s → Answered s o r new
  by_tests None r e same = quiet_some (λ x. Answered s None x new) _ r e tt
  by_tests (Some y) r e same = by_start (sync_pick s y) e
    where
      by_start : (o : Option ℕ) → start_tests s (handle_file s y.handle) o ≡ Some r → Answered s (Some y) r new
      by_start None j = quiet_none (λ x. Answered s (Some y) x new) r j
      by_start (Some p) j = quiet_if (λ x. Answered s (Some y) x new) (tags_at s (handle_file s y.handle) p).writeback _ _ tt (quiet_if (λ x. Answered s (Some y) x new) (is_full s) _ _ tt (quiet_none (λ x. Answered s (Some y) x new))) r j

  by_reply : (y : Sync) (p : Option ℕ) (e : Option (ℕ × Request)) (r : Reply) → SyncReply s y p e r → Answered s (Some y) r new
  by_reply y (Some p) e (reply.Job t) h = tt
  by_reply y (Some p) e _ h = absurd h
  by_reply y None (Some e) (reply.Wait p) h = tt
  by_reply y None (Some e) _ h = absurd h
  by_reply y None None reply.Clean h = h
  by_reply y None None (reply.Failed c) h = h
  by_reply y None None _ h = absurd h

  by_sync : (o : Option Sync) (r : Reply) → SyncStepReply s o r → Answered s o r new
  by_sync None r h = absurd h
  by_sync (Some y) r h = by_reply y (sync_pick s y) (first_awaited s y) r h

  step_answered : (n : SyncId) (r : Reply) → Step s (event.SyncStep n) r new → Answered s (finmap.get s.syncs n.0) r new
  step_answered n r e = elim (answered (sync_tests s (finmap.get s.syncs n.0)) s (event.SyncStep n) r new e) [
    | inl a ↦ by_tests (finmap.get s.syncs n.0) r a.0 a.1
    | inr b ↦ by_sync (finmap.get s.syncs n.0) r b.1
  ]

-- ---- a sync in progress

-- the sync of these pages of the handle's file has been in progress since `old`
pub record InSync (h : HandleId) (first last : PageIndex) (n : SyncId) (old now : World) : Type 0 where
  pub syncing : SyncsRange h first last n old now
  pub sync : Sync
  pub is : finmap.get now.core.syncs n.0 ≡ Some sync
  pub handle : sync.handle ≡ h.0

goes_on : (h : HandleId) (first last : PageIndex) (n : SyncId) (old now new : World) → InSync h first last n old now → is_open now.core h.0 ≡ true → (e : Move) → is_of_sync e ≡ true → syncs_stay e ≡ true → WorldStep now e new → InSync h first last n old new
goes_on h first last n old now new s opened e q k m =
    let still = sync_stays now new e n k m (ap is_some s.is) in
    let tracked = move_tracked now new n.0 s.sync s.is (ap (λ x. is_open now.core x) s.handle ∙ opened) still e m in
    record { syncing = range_goes h first last n old now new s.syncing e q m still; sync = tracked.now; is = tracked.is; handle = tracked.handle ∙ s.handle }

-- the sync of these pages of the handle's file, with the failures of the file as `old` had them. Of every device
pub record SyncOf (h : HandleId) (first last : PageIndex) (n : SyncId) (old now : State) : Type 0 where
  pub sync : Sync
  pub is : finmap.get now.syncs n.0 ≡ Some sync
  pub handle : sync.handle ≡ h.0
  pub low : sync.first ≡ first.0
  pub high : sync.last ≡ last.0
  pub failures : sync.failures ≡ (file_at old (handle_file old h.0)).failures

of_goes : (h : HandleId) (first last : PageIndex) (n : SyncId) (old : State) (now new : World) → SyncOf h first last n old now.core
    → is_open now.core h.0 ≡ true → (e : Move) → syncs_stay e ≡ true → WorldStep now e new → SyncOf h first last n old new.core
of_goes h first last n old now new s opened e k m =
    let still = sync_stays now new e n k m (ap is_some s.is) in
    let t = move_tracked now new n.0 s.sync s.is (ap (λ x. is_open now.core x) s.handle ∙ opened) still e m in
    record { sync = t.now; is = t.is; handle = t.handle ∙ s.handle; low = t.first ∙ s.low; high = t.last ∙ s.high; failures = t.failures ∙ s.failures }

open_then : (h : HandleId) (w new : World) (e : Move) → keeps_handles e ≡ true → is_open w.core h.0 ≡ true
    → WorldStep w e new → is_open new.core h.0 ≡ true
open_then h w new e k o m = ap (λ y. is_some (finmap.get y h.0)) (handles_stay w new e k m).0 ∙ o

begun_sync : (h : HandleId) (first last : PageIndex) (n : SyncId) (w v : WorldSeen) → IsMade w (step.SyncBeginRange h first last) (reply.Sync n) v
    → finmap.get v.core.syncs n.0 ≡ Some (new_sync w.core h.0 first.0 last.0)
begun_sync h first last n w v m =
    ap (λ (s : State). finmap.get s.syncs n.0)
    (happened w.core (event.SyncBegin h first last) (reply.Sync n) v.core m.0.1.0 refl (λ n o e. cc)).is
    ∙ get-insert1 w.core.syncs n.0 _ n.0 ∙ put1_here (finmap.get w.core.syncs) n.0 _

-- ---- a step that wrote a page out

told : {A : Type 0} (o : Option A) (P : Type 0) → is_some o ≡ true → IfSome o (λ _. P) → P
told None P t p = absurd cc
told (Some x) P t p = p

called : (w v : WorldSeen) (t : ℕ) (q : Option Request) (o : Option Outcome) → CallReply w t q o reply.Done v → (v.core ≡ w.core) × IfSome w.device.contents (λ _. MovesByCall w t v)
called w v t (Some r) None c = (ap (λ x. x.core) c.1.noted, c.2)
called w v t (Some r) (Some o) c = absurd (let e = c.0 in cc)
called w v t None o c = absurd (let e = c.0 in cc)

called_once : (w v : WorldSeen) (t : ℕ) (q : Option Request) (o : Option Outcome) → CallReply w t q o reply.Done v
    → w.device.calls ≤ max_calls → v.device.calls ≤ w.device.calls + 1
called_once w v t (Some r) None c =
    let p = c.1.performs in one_call w.device v.device _ (call_by w.device v.device _ _ _ _ _ p.call)
called_once w v t (Some r) (Some o) c = absurd (let e = c.0 in cc)
called_once w v t None o c = absurd (let e = c.0 in cc)

ended : (w v : WorldSeen) (t : Serial) (o : Option Outcome) (r : Reply) → EndReply w (step.End t) o r v → (v ≡ w) ⊎ IsMade w (step.End t) r v
ended w v t (Some o) r e = inr e.0
ended w v t None r e = inl e.1

record Turned (n : SyncId) (w v : WorldSeen) : Type 0 where
  pub serial : Serial
  pub end : Reply
  pub asked : WorldSeen
  pub made : WorldSeen
  pub asks : IsMade w (step.SyncStep n) (reply.Job serial) asked
  pub core : made.core ≡ asked.core
  pub once : asked.device.calls ≤ max_calls → made.device.calls ≤ asked.device.calls + 1
  pub calls : IfSome asked.device.contents (λ _. MovesByCall asked serial.0 made)
  pub ends : (v ≡ made) ⊎ IsMade made (step.End serial) end v

turned : (n : SyncId) (w v : WorldSeen) → SyncTurn w n None v → Turned n w v
turned n w v (t, r, (asked, a, (made, c, (after, e, same)))) = elim a [
  | inl m ↦ (let x = called asked made t.0 _ _ c in record {
    serial = t;
    end = r;
    asked = asked;
    made = made;
    asks = m;
    core = x.0;
    once = called_once asked made t.0 _ _ c;
    calls = x.1;
    ends = subst (λ x. (x ≡ made) ⊎ IsMade made (step.End t) r x) (sym same) (ended made after t _ r e);
  })
  | inr x ↦ absurd (let k = x.0 in cc)
]

pub turn_next : (n : SyncId) (w v : WorldSeen) → SyncTurn w n None v → (w.core.next < SERIAL_END) × (v.core.next ≡ w.core.next + 1)
turn_next n w v turn =
    let x = turned n w v turn in
    let rises = next_rises (world_of w) (world_of x.asked) (event.SyncStep n) x.serial x.asks.0 in (
      rises.0,
      elim x.ends [
        | inl same ↦ ap (λ y. y.core.next) same
        | inr e ↦ next_stays (world_of x.made) (world_of v) (Finish x.serial.0 x.end) refl e.0
      ] ∙ ap (λ s. s.next) x.core ∙ rises.1,
    )

pub turn_goes : (h : HandleId) (first last : PageIndex) (n : SyncId) (old : World) (w v : WorldSeen) → is_some w.device.contents ≡ true → is_open w.core h.0 ≡ true → SyncTurn w n None v → InSync h first last n old (world_of w) → InSync h first last n old (world_of v)
turn_goes h first last n old w v tells opened turn s =
    let x = turned n w v turn in
    let a = goes_on h first last n old (world_of w) (world_of x.asked) s opened (Act (event.SyncStep n) (reply.Job x.serial)) refl refl x.asks.0 in
    let opened' = open_then h (world_of w) (world_of x.asked) (Act (event.SyncStep n) (reply.Job x.serial)) refl opened x.asks.0 in
    let m = told x.asked.device.contents _ (ap (λ d. is_some d.contents) x.asks.1 ∙ tells) x.calls in
    let c = goes_on h first last n old (world_of x.asked) (world_of x.made) a opened' (Call x.serial.0 m.0 m.1) refl refl m.2 in
    elim x.ends [
      | inl same ↦ subst (λ y. InSync h first last n old (world_of y)) (sym same) c
      | inr e ↦ goes_on h first last n old (world_of x.made) (world_of v) c (ap (λ s. is_open s h.0) x.core ∙ opened') (Finish x.serial.0 x.end) refl refl e.0
    ]

pub turn_of : (h : HandleId) (first last : PageIndex) (n : SyncId) (old : State) (w v : WorldSeen) → is_open w.core h.0 ≡ true
    → SyncTurn w n None v → SyncOf h first last n old w.core → SyncOf h first last n old v.core
turn_of h first last n old w v opened turn s =
    let x = turned n w v turn in
    let a = of_goes h first last n old (world_of w) (world_of x.asked) s opened (Act (event.SyncStep n) (reply.Job x.serial)) refl
    x.asks.0 in
    let o = open_then h (world_of w) (world_of x.asked) (Act (event.SyncStep n) (reply.Job x.serial)) refl opened x.asks.0 in
    let c : SyncOf h first last n old x.made.core = subst (SyncOf h first last n old) (sym x.core) a in
    elim x.ends [
      | inl same ↦ subst (λ (y : WorldSeen). SyncOf h first last n old y.core) (sym same) c
      | inr e ↦ of_goes h first last n old (world_of x.made) (world_of v) c (ap (λ y. is_open y h.0) x.core ∙ o)
          (Finish x.serial.0 x.end) refl e.0
    ]

-- each write of it is one device call at most, and one page less that is to be written
pub turn_costs : (h : HandleId) (first last : PageIndex) (n : SyncId) (old : State) (w v : WorldSeen) → w.device.calls ≤ max_calls
    → SyncTurn w n None v → SyncOf h first last n old w.core
    → v.device.calls + waiting first.0 last.0 v.core (handle_file w.core h.0) ≤ w.device.calls + waiting first.0 last.0 w.core (handle_file w.core h.0)
turn_costs h first last n old w v most turn s =
    let x = turned n w v turn in
    let f = handle_file w.core h.0 in
    let takes : waiting first.0 last.0 x.asked.core f + 1 ≤ waiting first.0 last.0 w.core f =
    subst (λ (k : ℕ × (ℕ × ℕ)). waiting k.1.0 k.1.1 x.asked.core (handle_file w.core k.0) + 1 ≤ waiting k.1.0 k.1.1 w.core (handle_file w.core k.0))
    (λ i. (s.handle i, (s.low i, s.high i)))
    (step_takes w.core x.asked.core n s.sync x.serial s.is x.asks.0.1.0) in
    let begun : x.asked.device.calls ≡ w.device.calls = ap (λ d. d.calls) x.asks.1 in
    let once = x.once (subst (λ k. k ≤ max_calls) (sym begun) most) in
    let made : waiting first.0 last.0 x.made.core f ≡ waiting first.0 last.0 x.asked.core f = ap (λ y. waiting first.0 last.0 y f) x.core in
    elim x.ends [
      | inl same ↦
          (let a : v.device.calls ≡ x.made.device.calls = ap (λ (y : WorldSeen). y.device.calls) same in
          let b : waiting first.0 last.0 v.core f ≡ waiting first.0 last.0 x.made.core f = ap (λ (y : WorldSeen). waiting first.0 last.0 y.core f) same in
          omega arith)
      | inr e ↦
          (let a : v.device.calls ≡ x.made.device.calls = ap (λ d. d.calls) e.1 in
          let b = finish_waits first.0 last.0 (world_of x.made) (world_of v) x.serial.0 x.end e.0 f in
          omega arith)
    ]

pub turned_costs : (h : HandleId) (first last : PageIndex) (n : SyncId) (old w v : WorldSeen) (f : ℕ) → w.core.handles ≡ old.core.handles
    → finmap.get old.core.handles h.0 ≡ Some f → w.device.calls ≤ max_calls → SyncTurn w n None v
    → SyncOf h first last n old.core w.core
    → w.device.calls + waiting first.0 last.0 w.core f ≤ old.device.calls + dirty_between (file_at old.core f) first.0 last.0
    → v.device.calls + waiting first.0 last.0 v.core f ≤ old.device.calls + dirty_between (file_at old.core f) first.0 last.0
turned_costs h first last n old w v f handles here most turn s before =
    let is : handle_file w.core h.0 ≡ f = ap (λ m. unwrap_or (finmap.get m h.0) 0) handles ∙ ap (λ o. unwrap_or o 0) here in
    let less : v.device.calls + waiting first.0 last.0 v.core f ≤ w.device.calls + waiting first.0 last.0 w.core f =
    subst (λ k. v.device.calls + waiting first.0 last.0 v.core k ≤ w.device.calls + waiting first.0 last.0 w.core k) is
    (turn_costs h first last n old.core w v most turn s) in
    omega arith

-- the sync of a handle begins
pub begun_of : (h : HandleId) (first last : PageIndex) (n : SyncId) (w v : WorldSeen) → IsMade w (step.SyncBeginRange h first last) (reply.Sync n) v
    → SyncOf h first last n w.core v.core
begun_of h first last n w v m = record { sync = _; is = begun_sync h first last n w v m; handle = refl; low = refl; high = refl; failures = refl }

pub begin_costs : (h : HandleId) (first last : PageIndex) (n : SyncId) (w v : WorldSeen) (f : ℕ) → Sound w.core
    → IsMade w (step.SyncBeginRange h first last) (reply.Sync n) v → finmap.get w.core.handles h.0 ≡ Some f
    → v.device.calls + waiting first.0 last.0 v.core f ≤ w.device.calls + dirty_between (file_at w.core f) first.0 last.0
begin_costs h first last n w v f ok m here =
    let is : handle_file w.core h.0 ≡ f = ap (λ o. unwrap_or o 0) here in
    let tags : waiting first.0 last.0 v.core f ≤ dirty_between (file_at w.core f) first.0 last.0 =
    subst (λ k. waiting first.0 last.0 v.core k ≤ dirty_between (file_at w.core k) first.0 last.0) is
    (begin_tags w.core v.core h first last n ok m.0.1.0) in
    let same : v.device.calls ≡ w.device.calls = ap (λ d. d.calls) m.1 in
    omega arith

-- the last step of a sync, and its drop, make no device call
pub ends_free : (now mid new : WorldSeen) (n : SyncId) (r : Reply) (o : Result (Option ℕ) Refusal)
    → Steps now (step.SyncStep n) r mid → IfOk o (λ _. new ≡ mid) → IfErr o (λ _. Drops mid n new)
    → new.device.calls ≡ now.device.calls
ends_free now mid new n r o m same d = after o same d ∙ before
  where
    before : mid.device.calls ≡ now.device.calls
    before = elim m [ inl x ↦ ap (λ d. d.calls) x.1 | inr x ↦ ap (λ (y : WorldSeen). y.device.calls) x.1 ]

    after : (o : Result (Option ℕ) Refusal) → IfOk o (λ _. new ≡ mid) → IfErr o (λ _. Drops mid n new)
        → new.device.calls ≡ mid.device.calls
    after (Ok x) same d = ap (λ (y : WorldSeen). y.device.calls) same
    after (Err why) same d = ap (λ x. x.calls) d.1.1

pub in_sync : (h : HandleId) (first last : PageIndex) (n : SyncId) (w v : WorldSeen) → IsReached (world_of w) → IsMade w (step.SyncBeginRange h first last) (reply.Sync n) v → InSync h first last n (world_of w) (world_of v)
in_sync h first last n w v r m =
    let s = range_begins h first last n (world_of w) (world_of v) r m.0 in
    record { syncing = s; sync = _; is = begun_sync h first last n w v m; handle = refl }

-- ---- how it ends

-- the file that an open handle has
named_is : (w : WorldSeen) (h f : ℕ) → finmap.get w.core.handles h ≡ Some f → named (files_seen (world_of w)) h ≡ f
named_is w h f e = ap (λ o. unwrap_or o 0) e

pub ends_clean : (old now new : SoloSeen) (h : HandleId) (first last : PageIndex) (n : SyncId) (f : ℕ)
    → finmap.get old.world.core.handles h.0 ≡ Some f → new.world.core.sizes ≡ old.world.core.sizes
    → InSync h first last n (world_of old.world) (world_of now.world)
    → IsMade now.world (step.SyncStep n) reply.Clean new.world → AreOnDevice new f first last
ends_clean old now new h first last n f here sizes s m =
    let x = subst (IsRangeSynced first last (world_of old.world) (world_of new.world)) (named_is old.world h.0 f here) (range_clean h first last n (world_of old.world) (world_of now.world) (world_of new.world) s.syncing m.0) in
    λ p from to small. x.pages p from to
    (subst (λ k. p < k) (λ i. page_count (sizes i).page (length (plain_file (x.files i) f))) small)
    ∙ (λ i. page_of (sym sizes i).page (plain_file (sym x.files i) f) p)

-- what it tells of failed writes, of every device
module _ (old now new : SoloSeen) (h : HandleId) (first last : PageIndex) (n : SyncId) (f : ℕ)
    (here : finmap.get old.world.core.handles h.0 ≡ Some f) (there : finmap.get now.world.core.handles h.0 ≡ Some f)
    (s : SyncOf h first last n old.world.core now.world.core) where
  its_file : handle_file now.world.core s.sync.handle ≡ f
  its_file = ap (handle_file now.world.core) s.handle ∙ ap (λ o. unwrap_or o 0) there

  then : s.sync.failures ≡ (file_at old.world.core f).failures
  then = s.failures ∙ ap (λ o. (file_at old.world.core (unwrap_or o 0)).failures) here

  -- the last step leaves the file
  last_file : (r : Reply) → is_over r ≡ true → IsMade now.world (step.SyncStep n) r new.world
      → file_at new.world.core f ≡ file_at now.world.core (handle_file now.world.core s.sync.handle)
  last_file r over m = ap (λ fs. slice_index_or fs f no_file)
      (over_leaves_files (world_of now.world) (world_of new.world) n r over m.0)
      ∙ ap (file_at now.world.core) (sym its_file)

  tallied : (r : Reply) → IsMade now.world (step.SyncStep n) r new.world
      → Answered now.world.core (Some s.sync) r new.world.core
  tallied r m = subst (λ o. Answered now.world.core o r new.world.core) s.is
      (step_answered now.world.core new.world.core n r m.0.1.0)

  pub tallied_clean : IsMade now.world (step.SyncStep n) reply.Clean new.world → IsTallied old f new None
  tallied_clean m = ap (λ (x : File). x.failures) (last_file reply.Clean refl m) ∙ tallied reply.Clean m ∙ then

  pub tallied_failed : (code : ℕ) → IsMade now.world (step.SyncStep n) (reply.Failed code) new.world
      → IsTallied old f new (Some code)
  tallied_failed code m =
      let a = tallied (reply.Failed code) m in
      let file = last_file (reply.Failed code) refl m in (
        λ same. a.0 (ap (λ (x : File). x.failures) (sym file) ∙ same ∙ sym then),
        a.1
            ∙ ap (λ (x : File). x.last_code) (sym file),
      )

-- ---- why it is refused

refused_start : (s : State) (f : ℕ) (o : Option ℕ) (why : Refusal) → start_tests s f o ≡ Some (reply.Refused why) → (why ≡ TooManyInFlight) × (is_full s ≡ true)
refused_start s f None why e = absurd cc
refused_start s f (Some p) why e = by (tags_at s f p).writeback (is_full s) refl e
  where
    by : (b c : Bool) → is_full s ≡ c → cond b (Some (reply.Wait (record { 0 = p }))) (cond c (refuse TooManyInFlight) None) ≡ Some (reply.Refused why) → (why ≡ TooManyInFlight) × (is_full s ≡ true)
    by true c k e = absurd cc
    by false true k e = (sym (let same : TooManyInFlight ≡ why = cc in same), k)
    by false false k e = absurd cc

refused_tests : (s : State) (o : Option Sync) (why : Refusal) → is_some o ≡ true → sync_tests s o ≡ Some (reply.Refused why) → (why ≡ TooManyInFlight) × (is_full s ≡ true)
refused_tests s None why there e = absurd cc
refused_tests s (Some y) why there e = refused_start s (handle_file s y.handle) (sync_pick s y) why e

refused_steps : (s : State) (why : Refusal) (o : Option Sync) → SyncStepReply s o (reply.Refused why) → ⊥
refused_steps s why None h = h
refused_steps s why (Some y) h = by (sync_pick s y) (first_awaited s y) h
  where
    by : (p : Option ℕ) (e : Option (ℕ × Request)) → SyncReply s y p e (reply.Refused why) → ⊥
    by (Some p) e h = h
    by None (Some e) h = h
    by None None h = h

-- the step of a sync that is there, with no request in flight, is refused memory or a serial
step_why : (w v : WorldSeen) (n : SyncId) (why : Refusal) → w.core.requests ≡ finmap.empty → is_some (finmap.get w.core.syncs n.0) ≡ true → IsMade w (step.SyncStep n) (reply.Refused why) v → (why ≡ TooManyInFlight) × (SERIAL_END ≤ w.core.next) × (v.core ≡ w.core)
step_why w v n why none there m = elim (answered (sync_tests w.core (finmap.get w.core.syncs n.0)) w.core (event.SyncStep n) (reply.Refused why) v.core m.0.1.0) [
  | inl a ↦ (let x = refused_tests w.core (finmap.get w.core.syncs n.0) why there a.0 in (x.0, no_serial w.core none x.1, a.1))
  | inr b ↦ absurd (refused_steps w.core why (finmap.get w.core.syncs n.0) b.1)
]

-- ---- the reply by which it is over

-- where no request is in flight a step that writes nothing is the last
pub step_ends : (w v : WorldSeen) (n : SyncId) (r : Reply) → IsOrderly w.core → IsResting w → is_job r ≡ false
    → Steps w (step.SyncStep n) r v → is_sync_end r ≡ true
step_ends w v n reply.Clean orderly rests j m = refl
step_ends w v n (reply.Failed c) orderly rests j m = refl
step_ends w v n (reply.Refused why) orderly rests j m = refl
step_ends w v n (reply.Job t) orderly rests j m = absurd cc
step_ends w v n (reply.Wait p) orderly rests j m =
    elim m [
      | inl m ↦ absurd
          (never_waits w.core rests.requests (none_under w.core orderly rests.requests) n p v.core m.0.1.0)
      | inr x ↦
          absurd (let k = x.0 in cc)
    ]
step_ends w v n r orderly rests j m =
    elim m [ inl m ↦ absurd (step_answered w.core v.core n r m.0.1.0) | inr x ↦ absurd (let k = x.0 in cc) ]

-- ---- what a step leaves of the service

-- a quiet event that begins no request
pub made_service : (name : ℕ) (s : SoloSeen) (w : WorldSeen) (table : TableId) (e : Event) (r : Reply) → Made s.world e r w → is_quiet e ≡ true → is_job r ≡ false → IsServing name s.world table s.errors → IsServing name w table s.errors × Serves s (record s { world = w })
made_service name s w table e r m q j i =
    let g = made_goes s w e r m q (service_sound name s.world table s.errors i) in
    (goes_service name s (record s { world = w }) table i g (made_rests s.world w e r m j i.rests) (made_serials s.world w e r m j i.serials), g.serves)

-- a sync's step, with the write that it began where it began one
pub stepped_service : (name : ℕ) (s : SoloSeen) (w : WorldSeen) (errors : RecorderSeen) (table : TableId) (n : SyncId) (r : Reply) → AtOnce s.world s.errors (step.SyncStep n) r w errors → IsServing name s.world table s.errors → IsServing name w table errors × Serves s (record s { world = w; errors = errors })
stepped_service name s w errors table n r a i = (at_once_serving name s w errors table (step.SyncStep n) (event.SyncStep n) r (sync_begins n) a i, at_once_serves name s w errors table (step.SyncStep n) (event.SyncStep n) r (sync_begins n) a i)

pub no_job : (r : Reply) → ((t : Serial) → r ≡ reply.Job t → ⊥) → is_job r ≡ false
no_job (reply.Job t) n = absurd (n t refl)
no_job _ n = refl

pub begun_no_job : (r : Result SyncId Refusal) → is_job (sync_begun r) ≡ false
begun_no_job (Ok n) = refl
begun_no_job (Err why) = refl

pub dropped_no_job : (r : Result Unit Refusal) → is_job (sync_dropped r) ≡ false
dropped_no_job (Ok _) = refl
dropped_no_job (Err why) = refl

-- ---- the call

module _ (old now mid new : SoloSeen) (h : HandleId) (first last : PageIndex) (n : SyncId) (f : ℕ) (here : finmap.get old.world.core.handles h.0 ≡ Some f) (serves : Serves old now) (then : Serves now mid) where
  there : finmap.get now.world.core.handles h.0 ≡ Some f
  there = ap (λ m. finmap.get m h.0) serves.keeps.handles ∙ here

  tallied_by : (r : Reply) → SyncOf h first last n old.world.core now.world.core
      → Steps now.world (step.SyncStep n) r mid.world → IfOk (sync_end_of r) (λ _. new ≡ mid)
      → IfOk (sync_end_of r) (IsTallied old f new)
  tallied_by reply.Clean s m same = elim m [
    | inl m ↦ subst (λ x. IsTallied old f x None) (sym same) (tallied_clean old now mid h first last n f here there s m)
    | inr x ↦ absurd (let k = x.0 in cc)
  ]
  tallied_by (reply.Failed code) s m same = elim m [
    | inl m ↦ subst (λ x. IsTallied old f x (Some code)) (sym same)
        (tallied_failed old now mid h first last n f here there s code m)
    | inr x ↦ absurd (let k = x.0 in cc)
  ]
  tallied_by _ s m same = tt

  pub call_tallied : (r : Reply) (o : Result (Option ℕ) Refusal) → SyncOf h first last n old.world.core now.world.core
      → Steps now.world (step.SyncStep n) r mid.world → o ≡ sync_end_of r → IfOk o (λ _. new ≡ mid)
      → IfOk o (IsTallied old f new)
  call_tallied r o s m e same =
      subst (λ o. IfOk o (IsTallied old f new)) (sym e) (tallied_by r s m (subst (λ o. IfOk o (λ _. new ≡ mid)) e same))

  synced_by : (r : Reply) → InSync h first last n (world_of old.world) (world_of now.world)
      → Steps now.world (step.SyncStep n) r mid.world → IfOk (sync_end_of r) (λ _. new ≡ mid) → sync_end_of r ≡ Ok None
      → AreOnDevice new f first last
  synced_by reply.Clean s m same clean = elim m [
    | inl m ↦ subst (λ x. AreOnDevice x f first last) (sym same)
        (ends_clean old now mid h first last n f here (then.keeps.sizes ∙ serves.keeps.sizes) s m)
    | inr x ↦ absurd (let k = x.0 in cc)
  ]
  synced_by (reply.Failed code) s m same clean = absurd cc
  synced_by (reply.Refused why) s m same clean = absurd cc
  synced_by _ s m same clean = absurd cc

  pub call_synced : (r : Reply) (o : Result (Option ℕ) Refusal)
      → InSync h first last n (world_of old.world) (world_of now.world) → Steps now.world (step.SyncStep n) r mid.world
      → o ≡ sync_end_of r → IfOk o (λ _. new ≡ mid) → o ≡ Ok None → AreOnDevice new f first last
  call_synced r o s m e same clean = synced_by r s m (subst (λ o. IfOk o (λ _. new ≡ mid)) e same) (sym e ∙ clean)

drop_begins_none : (n : SyncId) (r : Result Unit Refusal) → begins_none (Act (event.SyncDrop n) (sync_dropped r)) ≡ true
drop_begins_none n (Ok _) = refl
drop_begins_none n (Err why) = refl

module _ (now mid new : SoloSeen) (n : SyncId) (rests : IsResting now.world) (orderly : IsOrderly now.world.core)
    (only : OnlySync now.world.core n.0) where
  by_refusal : (r : Reply) → is_job r ≡ false → IsMade now.world (step.SyncStep n) r mid.world
      → IfErr (sync_end_of r) (λ _. Drops mid.world n new.world) → IfErr (sync_end_of r) (λ why. IsSyncRefusal why new)
  by_refusal reply.Clean j m d = tt
  by_refusal (reply.Failed code) j m d = tt
  by_refusal (reply.Refused why) j m d =
      let x = step_why now.world mid.world n why rests.requests only.there m in
      let stays : new.world.core.next ≡ now.world.core.next = next_stays (world_of mid.world) (world_of new.world) (Act (event.SyncDrop n) (sync_dropped d.0)) (drop_begins_none n d.0) d.1.0 ∙ ap (λ (c : State). c.next) x.2 in
      subst (λ z. IsSyncRefusal z new) (sym x.0) (subst (λ k. SERIAL_END ≤ k) (sym stays) x.1)
  by_refusal r j m d = absurd (let e = step_ends now.world mid.world n r orderly rests j (inl m) in cc)

  pub call_refused : (r : Reply) (o : Result (Option ℕ) Refusal) → is_job r ≡ false
      → IsMade now.world (step.SyncStep n) r mid.world → o ≡ sync_end_of r → IfErr o (λ _. Drops mid.world n new.world)
      → IfErr o (λ why. IsSyncRefusal why new)
  call_refused r o j m e d =
      subst (λ o. IfErr o (λ why. IsSyncRefusal why new)) (sym e)
      (by_refusal r j m (subst (λ o. IfErr o (λ _. Drops mid.world n new.world)) e d))

-- ---- a begin that is refused

pub begin_left : (old new : WorldSeen) (h : HandleId) (first last : PageIndex) (why : Refusal) → is_open old.core h.0 ≡ true → old.core.syncs ≡ finmap.empty
    → IsMade old (step.SyncBeginRange h first last) (reply.Refused why) new → (new ≡ old) × ((last.0 < first.0) × (why ≡ BadRange))
begin_left old new h first last why opened none m =
    let x = begin_refused old.core new.core h first last why opened none m.0.1.0 in
    (held_same old new (event.SyncBegin h first last) (reply.Refused why) m refl x.0, x.1)

-- ---- the steps that it is made of

-- its writes
pub turn_writes : (n : SyncId) (w v : WorldSeen) → SyncTurn w n None v → Moves is_sync_write w v
turn_writes n w v (t, r, plays) = record {
  steps = step.SyncStep n ∷ step.Call t ∷ step.End t ∷ [];
  replies = reply.Job t ∷ reply.Done ∷ r ∷ [];
  plays = plays;
  each = three is_sync_write (step.SyncStep n) (step.Call t) (step.End t) refl refl refl;
}

of_write : (s : WorldsStep) → is_sync_write s ≡ true → is_for_sync s ≡ true
of_write (step.SyncStep n) e = refl
of_write (step.Call t) e = refl
of_write (step.End t) e = refl
of_write _ e = absurd cc

module _ (h : HandleId) (first last : PageIndex) (n : SyncId) (old : WorldSeen) where
  pub writes_begin : (begun : WorldSeen) → Steps old (step.SyncBeginRange h first last) (reply.Sync n) begun → Writes h first last n old begun
  writes_begin begun m = record { begun = begun; begins = m; writes = moves_refl is_sync_write begun }

  pub writes_go : (w v : WorldSeen) → SyncTurn w n None v → Writes h first last n old w → Writes h first last n old v
  writes_go w v turn s = record {
    begun = s.begun;
    begins = s.begins;
    writes = moves_trans is_sync_write s.begun w v s.writes (turn_writes n w v turn);
  }

  pub writes_moves : (w : WorldSeen) → Writes h first last n old w → Moves is_for_sync old w
  writes_moves w s = moves_trans is_for_sync old s.begun w
      (one_move is_for_sync old s.begun (step.SyncBeginRange h first last) (reply.Sync n) refl s.begins)
      (moves_also is_sync_write is_for_sync of_write s.begun w s.writes)

  -- a sync that is over
  pub syncs_over : (w mid new : WorldSeen) → Writes h first last n old w → (r : Reply) (o : Result (Option ℕ) Refusal)
      → Steps w (step.SyncStep n) r mid → o ≡ sync_end_of r → IfOk o (λ _. new ≡ mid)
      → IfOk o (λ failed. Syncs h first last old (clean_or failed) new)
  syncs_over w mid new s r o m e same = subst (λ x. IfOk x (λ failed. Syncs h first last old (clean_or failed) new)) (sym e)
      (by r m (subst (λ x. IfOk x (λ _. new ≡ mid)) e same))
    where
      over : (r : Reply) → Steps w (step.SyncStep n) r mid → new ≡ mid → Syncs h first last old r new
      over r m same =
          record { sync = n; written = w; writes = s; ends = subst (λ x. Steps w (step.SyncStep n) r x) (sym same) m }

      by : (r : Reply) → Steps w (step.SyncStep n) r mid → IfOk (sync_end_of r) (λ _. new ≡ mid)
          → IfOk (sync_end_of r) (λ failed. Syncs h first last old (clean_or failed) new)
      by reply.Clean m same = over reply.Clean m same
      by (reply.Failed code) m same = over (reply.Failed code) m same
      by _ m same = tt

pub end_moves : (mid new : WorldSeen) (n : SyncId) (o : Result (Option ℕ) Refusal) → IfOk o (λ _. new ≡ mid)
    → IfErr o (λ _. Drops mid n new) → Moves is_for_sync mid new
end_moves mid new n (Ok x) same d = subst (Moves is_for_sync mid) (sym same) (moves_refl is_for_sync mid)
end_moves mid new n (Err why) same d = one_move is_for_sync mid new (step.SyncDrop n) (sync_dropped d.0) refl d.1

-- ---- no sync is left

pub turn_only : (n : SyncId) (w v : WorldSeen) → SyncTurn w n None v → OnlySync w.core n.0 → OnlySync v.core n.0
turn_only n w v turn s =
    let x = turned n w v turn in
    let there = sync_stays (world_of w) (world_of x.asked) (Act (event.SyncStep n) (reply.Job x.serial)) n refl x.asks.0 s.there in
    let others : (k : ℕ) → k ≢ n.0 → finmap.get x.made.core.syncs k ≡ None = (λ k apart. ap (λ (c : State). finmap.get c.syncs k) x.core ∙ step_none w.core x.asked.core (event.SyncStep n) (reply.Job x.serial) refl x.asks.0.1.0 k (s.others k apart)) in
    let still : is_some (finmap.get x.made.core.syncs n.0) ≡ true = ap (λ (c : State). is_some (finmap.get c.syncs n.0)) x.core ∙ there in
    elim x.ends [
      | inl same ↦ subst (λ (y : WorldSeen). OnlySync y.core n.0) (sym same) (record { there = still; others = others })
      | inr e ↦ record {
        there = sync_stays (world_of x.made) (world_of v) (Finish x.serial.0 x.end) n refl e.0 still;
        others = λ k apart. finish_none (world_of x.made) (world_of v) x.serial.0 x.end e.0 k (others k apart);
      }
    ]

module _ (now mid new : WorldSeen) (n : SyncId) (only : OnlySync now.core n.0) where
  others_left : (r : Reply) → Steps now (step.SyncStep n) r mid → (k : ℕ) → k ≢ n.0 → finmap.get mid.core.syncs k ≡ None
  others_left r m k apart = elim m [
    | inl m ↦ step_none now.core mid.core (event.SyncStep n) r refl m.0.1.0 k (only.others k apart)
    | inr x ↦ ap (λ (y : WorldSeen). finmap.get y.core.syncs k) x.1 ∙ only.others k apart
  ]

  over_left : (r : Reply) → is_over r ≡ true → Steps now (step.SyncStep n) r mid → new ≡ mid → new.core.syncs ≡ finmap.empty
  over_left r o m same = ap (λ (y : WorldSeen). y.core.syncs) same ∙ only_left mid.core n.0 (elim m [
    | inl m ↦ over_none now.core mid.core n r o m.0.1.0
    | inr x ↦ absurd (let y : is_over (reply.Refused Memory) ≡ true = ap is_over (sym x.0) ∙ o in cc)
  ]) (others_left r m)

  dropped_left : (r : Reply) → Steps now (step.SyncStep n) r mid → Drops mid n new → new.core.syncs ≡ finmap.empty
  dropped_left r m d = let x = dropped_none mid.core new.core n (sync_dropped d.0) d.1.0.1.0 in only_left new.core n.0 x.0 (λ k apart. x.1 k (others_left r m k apart))

  none_left : (r : Reply) → Steps now (step.SyncStep n) r mid → IfOk (sync_end_of r) (λ _. new ≡ mid) → IfErr (sync_end_of r) (λ _. Drops mid n new) → new.core.syncs ≡ finmap.empty
  none_left reply.Clean m same d = over_left reply.Clean refl m same
  none_left (reply.Failed code) m same d = over_left (reply.Failed code) refl m same
  none_left r m same d = dropped_left r m d

  pub call_ends : (r : Reply) (o : Result (Option ℕ) Refusal) → Steps now (step.SyncStep n) r mid → o ≡ sync_end_of r → IfOk o (λ _. new ≡ mid) → IfErr o (λ _. Drops mid n new) → new.core.syncs ≡ finmap.empty
  call_ends r o m e same d = none_left r m (subst (λ o. IfOk o (λ _. new ≡ mid)) e same) (subst (λ o. IfErr o (λ _. Drops mid n new)) e d)

-- ---- what a service is, by the name that its cache has

pub renamed : (name : ℕ) (w : WorldSeen) (table : TableId) (errors : RecorderSeen) → IsServing name w table errors → IsServing w.core.name w errors.board errors
renamed name w table errors i =
    record {
      named = refl;
      board = refl;
      lists = i.lists;
      rests = i.rests;
      reached = i.reached;
      sound = i.sound;
      orderly = i.orderly;
      counted = i.counted;
      bounded = i.bounded;
      few = i.few;
      page = i.page;
      frames = i.frames;
      dirty = i.dirty;
      serials = i.serials;
    }

pub renamed_service : (name : ℕ) (w : WorldSeen) (table : TableId) (errors : RecorderSeen) → IsService name w table errors → IsService w.core.name w errors.board errors
renamed_service name w table errors i = record { serving = renamed name w table errors i.serving; syncs = i.syncs }

pub service_on : (name : ℕ) (old w : WorldSeen) (table : TableId) (before errors : RecorderSeen) → IsService name old table before → Serves (service_of old before) (service_of w errors) → IsService w.core.name w errors.board errors → IsService name w table errors
service_on name old w table before errors i s j = record {
  serving = record {
    named = s.keeps.name ∙ i.serving.named;
    board = i.serving.board
        ∙ sym s.keeps.board;
    lists = j.serving.lists;
    rests = j.serving.rests;
    reached = j.serving.reached;
    sound =
        j.serving.sound;
    orderly = j.serving.orderly;
    counted = j.serving.counted;
    bounded = j.serving.bounded;
    few =
        j.serving.few;
    page = j.serving.page;
    frames = j.serving.frames;
    dirty = j.serving.dirty;
    serials =
        j.serving.serials;
  };
  syncs = j.syncs;
}

-- how a call's sync ends leaves the service
pub ends_serving : (mid new : WorldSeen) (errors : RecorderSeen) (n : SyncId) (o : Result (Option ℕ) Refusal) → IfOk o (λ _. new ≡ mid) → IfErr o (λ _. Drops mid n new) → IsServing mid.core.name mid errors.board errors → IsServing new.core.name new errors.board errors × Serves (service_of mid errors) (service_of new errors)
ends_serving mid new errors n (Ok x) same d i = subst (λ (w : WorldSeen). IsServing w.core.name w errors.board errors × Serves (service_of mid errors) (service_of w errors)) (sym same) (i, serves_refl (service_of mid errors))
ends_serving mid new errors n (Err why) same d i =
    let x = made_service mid.core.name (service_of mid errors) new errors.board (event.SyncDrop n) (sync_dropped d.0) d.1 refl (dropped_no_job d.0) i in
    (renamed mid.core.name new errors.board errors x.0, x.1)

pub goes_down : (e a b : ℕ) → a < e → b ≡ a + 1 → e - b < e - a
goes_down e a b l s = omega arith

-- ---- the whole call

pub same_service : (mid new : WorldSeen) (errors : RecorderSeen) (o : Result (Option ℕ) Refusal) → IfOk o (λ _. new ≡ mid) → IfOk o (λ _. service_of new errors ≡ service_of mid errors)
same_service mid new errors (Ok x) e = ap (λ w. service_of w errors) e
same_service mid new errors (Err why) e = tt

-- how many attempts were made is of no matter
pub refusal_counted : (new : SoloSeen) (n : ℕ) (why : Refusal) → IsSyncRefusal why new
    → IsSyncRefusal why (record new { attempts = n })
refusal_counted new n TooManyInFlight x = x
refusal_counted new n why x = absurd x

-- no file has a page past the last that a sync may name
pub whole_file : {p : ℕ → Bool} (name : ℕ) (old new : SoloSeen) (table : TableId) (f : ℕ) → IsServing name old.world table old.errors → ServesBut p old new → Tells old
    → AreOnDevice new f (record { 0 = 0 }) (record { 0 = LAST_PAGE }) → IsOnDevice new f
whole_file name old new table f i s tells on = λ p small. on p (omega arith) (named_page p small) small
  where
    most : length (plain_file (files old) f) ≤ MAX_FILE_SIZE
    most = let a = (reached_holds (world_of old.world) (i.reached tells)).sizes f in let b = i.bounded f in omega (arith, a, b)

    named_page : (p : ℕ) → p < page_count new.world.core.sizes.page (length (plain_file (files new) f)) → p ≤ LAST_PAGE
    named_page p small =
        let all = count_below old.world.core.sizes.page (length (plain_file (files old) f)) i.page most in
        let was : p < page_count old.world.core.sizes.page (length (plain_file (files old) f)) = subst (λ k. p < k)
        (λ j. page_count (s.keeps.sizes j).page (length (plain_file (s.files tells j) f))) small in
        omega (arith, all, was)
