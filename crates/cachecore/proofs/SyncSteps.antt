-- The steps of syncs, by what is known of the sync.
use Rattle.std.proofs.Common.{◌≡◌, ℕ, ◌<◌, ◌≤◌, Bool, true, false, cond, refl, ap, sym, subst, ◌∙◌, arith}
use Rattle.std.specs.Prelude.{◌≢◌, Option, Some, None, find, is_some, not, nat_lt, nat_le, option_map, unwrap_or}
use Rattle.std.specs.FinMap as finmap
use Rattle.std.proofs.lemmas.Bool.Decides.{nat_tests}
use Rattle.pc_types.specs.declared.ids.HandleId.{HandleId}
use Rattle.pc_types.specs.declared.ids.PageIndex.{PageIndex}
use Rattle.pc_types.specs.declared.ids.Serial.{Serial}
use Rattle.pc_types.specs.declared.ids.SyncId.{SyncId}
use Rattle.pc_types.specs.declared.limits.TheConstants.{MAX_SYNCS}
use Rattle.pc_types.specs.declared.refusal.Refusal.TheVariants.{BadHandle, BadRange, Stranger, TooManyInFlight}
use Rattle.machine.specs.declared.event.Event.TheVariants as event
use Rattle.machine.specs.declared.event.Reply.{Reply}
use Rattle.machine.specs.declared.event.Reply.TheVariants as reply
use Rattle.machine.specs.State.{State, Page, Request, Sync, bound_of, file_at, first_awaited, handle_file}
use Rattle.machine.specs.State.{is_open, page_at, tags_of}
use Rattle.machine.specs.Changes.{drop_sync, is_left, new_sync, put_sync, started, sync_begun, sync_pick, sync_stepped}
use Rattle.machine.specs.Tests.{is_full, refuse, start_tests, sync_tests}
use Rattle.machine.specs.Step.{IsLowest, Step, SyncReply, SyncStepReply}
use Rattle.machine.proofs.steps.Choices.{at_false, at_true}
use Rattle.pagestore.specs.Syncing.{left_of}
use Rattle.cachecore.proofs.StepLemmas.{by_change, by_test}

-- ---- a sync begins

module _ (s : State) (h : HandleId) (first last : PageIndex) where
  pub closed_step : is_open s h.0 ≡ false → Step s (event.SyncBegin h first last) (reply.Refused BadHandle) s
  closed_step gone = by_test s (event.SyncBegin h first last) (reply.Refused BadHandle) (at_true _ _ _ (ap not gone))

  module _ (there : is_open s h.0 ≡ true) where
    opened : not (is_open s h.0) ≡ false
    opened = ap not there

    pub range_step : last.0 < first.0 → Step s (event.SyncBegin h first last) (reply.Refused BadRange) s
    range_step less = by_test s (event.SyncBegin h first last) (reply.Refused BadRange)
        (at_false _ _ _ opened ∙ at_true _ _ _ (let e : nat_lt last.0 first.0 ≡ true = grind (arith, nat_tests) in e))

    module _ (order : first.0 ≤ last.0) where
      ordered : nat_lt last.0 first.0 ≡ false
      ordered = grind (arith, nat_tests)

      pub crowded_step : MAX_SYNCS ≤ finmap.len s.syncs
          → Step s (event.SyncBegin h first last) (reply.Refused TooManyInFlight) s
      crowded_step many = by_test s (event.SyncBegin h first last) (reply.Refused TooManyInFlight)
          (at_false _ _ _ opened ∙ at_false _ _ _ ordered ∙ at_true _ _ _ (full (finmap.len s.syncs) many))
        where
          full : (k : ℕ) → MAX_SYNCS ≤ k → nat_le MAX_SYNCS k ≡ true
          full k p = grind (arith, nat_tests)

      pub begun_step : finmap.len s.syncs < MAX_SYNCS → (m : SyncId)
          → IsLowest (λ k. is_some (finmap.get s.syncs k)) m.0 → (new : State)
          → new ≡ sync_begun s (handle_file s h.0) m.0 (new_sync s h.0 first.0 last.0)
          → Step s (event.SyncBegin h first last) (reply.Sync m) new
      begun_step room m lowest new is = by_change s (event.SyncBegin h first last) (reply.Sync m) new
          (at_false _ _ _ opened ∙ at_false _ _ _ ordered ∙ at_false _ _ _ (few (finmap.len s.syncs) room)) lowest is
        where
          few : (k : ℕ) → k < MAX_SYNCS → nat_le MAX_SYNCS k ≡ false
          few k p = grind (arith, nat_tests)

-- ---- what is left of its file

-- the machine's pick is the number of the page that is left
pub pick_is : (s : State) (y : Sync) (f : ℕ) → handle_file s y.handle ≡ f → (o : Option (ℕ × Page))
    → left_of (file_at s f) y ≡ o → sync_pick s y ≡ option_map (λ (e : ℕ × Page). e.0) o
pick_is s y f of o is =
    ap (λ g. cond (is_some y.bound) None
    (option_map (λ (e : ℕ × Page). e.0) (find (is_left y) (finmap.entries (file_at s g).pages)))) of
    ∙ go (is_some y.bound)
    ∙ ap (option_map (λ (e : ℕ × Page). e.0)) is
  where
    lowest : Option (ℕ × Page)
    lowest = find (is_left y) (finmap.entries (file_at s f).pages)

    go : (b : Bool) → cond b None (option_map (λ (e : ℕ × Page). e.0) lowest) ≡ option_map (λ (e : ℕ × Page). e.0)
        (cond b None lowest)
    go true = refl
    go false = refl

-- ---- a sync goes on

pub stranger_step : (s : State) (m : SyncId) → finmap.get s.syncs m.0 ≡ None
    → Step s (event.SyncStep m) (reply.Refused Stranger) s
stranger_step s m none = by_test s (event.SyncStep m) (reply.Refused Stranger) (ap (sync_tests s) none)

module _ (s : State) (m : SyncId) (y : Sync) (at : finmap.get s.syncs m.0 ≡ Some y) where
  abbrev f : ℕ
  f = handle_file s y.handle

  by_tests : (r : Reply) → start_tests s f (sync_pick s y) ≡ Some r → Step s (event.SyncStep m) r s
  by_tests r t = by_test s (event.SyncStep m) r (ap (sync_tests s) at ∙ t)

  by_reply : (r : Reply) (new : State) → start_tests s f (sync_pick s y) ≡ None
      → SyncReply s y (sync_pick s y) (first_awaited s y) r → new ≡ sync_stepped s m.0 (Some y) r
      → Step s (event.SyncStep m) r new
  by_reply r new t may is = by_change s (event.SyncStep m) r new (ap (sync_tests s) at ∙ t)
      (subst (λ o. SyncStepReply s o r) (sym at) may) (is ∙ ap (λ o. sync_stepped s m.0 o r) (sym at))

  -- ---- it has a page left

  module _ (p : PageIndex) (pick : sync_pick s y ≡ Some p.0) (page : Page) (cached : page_at s f p.0 ≡ Some page) where
    tests_are : start_tests s f (sync_pick s y) ≡ cond page.tags.writeback (Some (reply.Wait p))
        (cond (is_full s) (refuse TooManyInFlight) None)
    tests_are = ap (start_tests s f) pick
        ∙ ap (λ o. cond (tags_of o).writeback (Some (reply.Wait p)) (cond (is_full s) (refuse TooManyInFlight) None))
        cached

    pub held_step : page.tags.writeback ≡ true → Step s (event.SyncStep m) (reply.Wait p) s
    held_step held = by_tests (reply.Wait p) (tests_are ∙ at_true _ _ _ held)

    pub full_step : page.tags.writeback ≡ false → is_full s ≡ true
        → Step s (event.SyncStep m) (reply.Refused TooManyInFlight) s
    full_step clean full =
        by_tests (reply.Refused TooManyInFlight) (tests_are ∙ at_false _ _ _ clean ∙ at_true _ _ _ full)

    pub no_test : page.tags.writeback ≡ false → is_full s ≡ false → start_tests s f (Some p.0) ≡ None
    no_test clean room = ap (start_tests s f) (sym pick) ∙ tests_are ∙ at_false _ _ _ clean ∙ at_false _ _ _ room

    pub started_step : page.tags.writeback ≡ false → is_full s ≡ false → (t : Serial) → t.0 ≡ s.next → (new : State)
        → new ≡ put_sync (started s f p.0) m.0 (record y { started = Some p.0 })
        → Step s (event.SyncStep m) (reply.Job t) new
    started_step clean room t next new is =
        by_reply (reply.Job t) new (tests_are ∙ at_false _ _ _ clean ∙ at_false _ _ _ room)
        (subst (λ o. SyncReply s y o (first_awaited s y) (reply.Job t)) (sym pick) next)
        (is ∙ (λ i. put_sync (started s f (unwrap_or (sym pick i) 0)) m.0 (record y { started = sym pick i })))

  -- ---- it has no page left

  module _ (pick : sync_pick s y ≡ None) where
    none_left : start_tests s f (sync_pick s y) ≡ None
    none_left = ap (start_tests s f) pick

    pub wait_step : (p : PageIndex) → option_map (λ (e : ℕ × Request). e.1.page) (first_awaited s y) ≡ Some p.0
        → (new : State) → new ≡ put_sync s m.0 (record y { bound = Some (bound_of s y) })
        → Step s (event.SyncStep m) (reply.Wait p) new
    wait_step p first new is = go (first_awaited s y) refl first
      where
        go : (o : Option (ℕ × Request)) → first_awaited s y ≡ o
            → option_map (λ (e : ℕ × Request). e.1.page) o ≡ Some p.0 → Step s (event.SyncStep m) (reply.Wait p) new
        go None e h = absurd cc
        go (Some x) e h = by_reply (reply.Wait p) new none_left
            (subst (λ o. SyncReply s y o (first_awaited s y) (reply.Wait p)) (sym pick)
            (subst (λ o. SyncReply s y None o (reply.Wait p)) (sym e) (let same : x.1.page ≡ p.0 = cc in sym same)))
            is

    module _ (first : first_awaited s y ≡ None) where
      by_over : (r : Reply) (new : State) → SyncReply s y None None r → new ≡ sync_stepped s m.0 (Some y) r
          → Step s (event.SyncStep m) r new
      by_over r new may is =
          by_reply r new none_left (subst (λ o. SyncReply s y o (first_awaited s y) r) (sym pick)
          (subst (λ o. SyncReply s y None o r) (sym first) may)) is

      pub clean_step : (file_at s f).failures ≡ y.failures → (new : State) → new ≡ drop_sync s m.0
          → Step s (event.SyncStep m) reply.Clean new
      clean_step same new is = by_over reply.Clean new same is

      pub failed_step : (file_at s f).failures ≢ y.failures → (code : ℕ) → code ≡ (file_at s f).last_code
          → (new : State) → new ≡ drop_sync s m.0 → Step s (event.SyncStep m) (reply.Failed code) new
      failed_step more code last new is = by_over (reply.Failed code) new (more, last) is

-- ---- a sync is dropped

pub dropped_step : (s : State) (m : SyncId) → is_some (finmap.get s.syncs m.0) ≡ true → (new : State)
    → new ≡ drop_sync s m.0 → Step s (event.SyncDrop m) reply.Dropped new
dropped_step s m there new is = by_change s (event.SyncDrop m) reply.Dropped new (at_true _ _ _ there) tt is

pub not_dropped_step : (s : State) (m : SyncId) → is_some (finmap.get s.syncs m.0) ≡ false
    → Step s (event.SyncDrop m) (reply.Refused Stranger) s
not_dropped_step s m gone = by_test s (event.SyncDrop m) (reply.Refused Stranger) (at_false _ _ _ gone)
