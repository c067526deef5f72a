-- A read, a change of a file or a step of a sync that is told to wait can: a request is in flight then.
use Rattle.std.proofs.Common.{◌≡◌, ◌∙◌, ◌+◌, ℕ, Bool, true, false, cond, not, eqb, length, refl, sym, ap, subst, inl, inr}
use Rattle.std.specs.Prelude.{◌&&◌, List, Option, Some, None, nat_lt, count_by, slice_index_or}
use Rattle.std.specs.FinMap as finmap
use Rattle.std.proofs.lemmas.Bool.{true_from_ne_false}
use Rattle.cachecore.specs.Wants.{is_busy}
use Rattle.cachecore.proofs.SyncWaits.{never_waits}
use Rattle.pc_types.specs.declared.limits.TheConstants.{MAX_FILE_SIZE, MAX_TOUCHED}
use Rattle.pc_types.specs.declared.ids.HandleId.{HandleId}
use Rattle.pc_types.specs.declared.ids.PageIndex.{PageIndex}
use Rattle.pc_types.specs.declared.ids.SyncId.{SyncId}
use Rattle.machine.specs.Changes.{boundary, sync_stepped}
use Rattle.machine.specs.State.{State, Sync, dirty_total, fills, file_at, free_blocks, free_frames, handle_file, is_cached, is_filling, is_open, no_file, tags_at, tags_of, touched, touched_count, without_block}
use Rattle.machine.specs.Step.{MayReply, Step}
use Rattle.machine.specs.Tests.{first_of, read_count, read_stop, room_tests, stopped, tests, truncate_stop, write_stop, write_tests}
use Rattle.machine.specs.declared.event.Event.{Event}
use Rattle.machine.specs.declared.event.Event.TheVariants as event
use Rattle.machine.specs.declared.event.Reply.{Reply}
use Rattle.machine.specs.declared.event.Reply.TheVariants as reply
use Rattle.machine.proofs.steps.Cases.{answered}
use Rattle.machine.proofs.steps.Choices.{quiet_if, quiet_none, quiet_some}
use Rattle.orderly.proofs.Orderly.{none_under}
use Rattle.orderly.specs.Orderly.{IsOrderly}
use Rattle.shared.specs.Changes.{event_of}
use Rattle.shared.specs.declared.writes.Change.{Change}
use Rattle.shared.specs.declared.writes.Change.TheVariants as change
use Rattle.shared.proofs.CutRequests.{any_busy, no_requests}

-- a request is in flight where the reply is to wait
abbrev OnWait : State → Reply → Type 0
OnWait s (reply.Wait p) = is_busy s ≡ true
OnWait s r = Unit {0}

stopped_waits : (s : State) (f : ℕ) (x : Option ℕ) (r : Reply) → stopped s f x ≡ Some r → OnWait s r
stopped_waits s f None r e = absurd cc
stopped_waits s f (Some p) r e = go (is_filling s f p) refl e
  where
    go : (b : Bool) → is_filling s f p ≡ b
        → Some (cond b (reply.Wait (record { 0 = p })) (reply.Miss (record { 0 = p }))) ≡ Some r → OnWait s r
    go true is h = quiet_some (OnWait s) (reply.Wait (record { 0 = p })) r h (any_busy (fills f p) s is)
    go false is h = quiet_some (OnWait s) (reply.Miss (record { 0 = p })) r h tt

first_waits : (s : State) (f : ℕ) (x : Option ℕ) (rest : Option Reply) → ((r : Reply) → rest ≡ Some r → OnWait s r)
    → (r : Reply) → first_of (stopped s f x) rest ≡ Some r → OnWait s r
first_waits s f None rest h r e = h r e
first_waits s f (Some p) rest h r e = stopped_waits s f (Some p) r e

module _ (s : State) where
  room_waits : (f o n : ℕ) (r : Reply) → room_tests s f o n ≡ Some r → OnWait s r
  room_waits f o n =
      let pages = touched s.sizes.page o n in
      let dirtied = count_by (λ p. not (tags_at s f p).dirty) pages in
      quiet_if (OnWait s) (nat_lt 0 dirtied && nat_lt s.sizes.dirty_limit (dirty_total s + dirtied)) _ _ tt
      (quiet_if (OnWait s) (nat_lt (free_frames s) (count_by (λ p. not (is_cached s f p)) pages)) _ _ tt
      (quiet_if (OnWait s) (nat_lt (length (free_blocks s)) (length (without_block s f pages))) _ None tt
      (quiet_none (OnWait s))))

  write_waits : (h o n : ℕ) (r : Reply) → write_tests s h o n ≡ Some r → OnWait s r
  write_waits h o n =
      let f = handle_file s h in
      quiet_if (OnWait s) (not (is_open s h)) _ _ tt
      (quiet_if (OnWait s) (eqb n 0) _ _ tt
      (quiet_if (OnWait s) (nat_lt MAX_TOUCHED (touched_count s.sizes.page o n)) _ _ tt
      (quiet_if (OnWait s) (nat_lt MAX_FILE_SIZE (o + n)) _ _ tt
      (first_waits s f (write_stop s f o n) (room_tests s f o n) (room_waits f o n)))))

  read_waits : (h : HandleId) (o n : ℕ) (r : Reply) → tests s (event.Read h o n) ≡ Some r → OnWait s r
  read_waits h o n =
      let f = handle_file s h.0 in
      let count = read_count s f o n in
      quiet_if (OnWait s) (not (is_open s h.0)) _ _ tt
      (quiet_if (OnWait s) (eqb count 0) _ _ tt
      (quiet_if (OnWait s) (nat_lt MAX_TOUCHED (touched_count s.sizes.page o count)) _ _ tt
      (stopped_waits s f (read_stop s f o count))))

  cut_waits : (h : HandleId) (z : ℕ) (r : Reply) → tests s (event.Truncate h z) ≡ Some r → OnWait s r
  cut_waits h z =
      let f = handle_file s h.0 in
      quiet_if (OnWait s) (not (is_open s h.0)) _ _ tt
      (quiet_if (OnWait s) (nat_lt MAX_FILE_SIZE z) _ _ tt
      (stopped_waits s f (truncate_stop s f (boundary s f z))))

  change_waits : (c : Change) (h : HandleId) (b : List ℕ) (r : Reply) → tests s (event_of c h b) ≡ Some r → OnWait s r
  change_waits (change.Write o) h b = write_waits h.0 o (length b)
  change_waits change.Append h b = write_waits h.0 (file_at s (handle_file s h.0)).size (length b)
  change_waits (change.Truncate z) h b = cut_waits h z

  -- by a test, if at all
  by_test : (e : Event) (p : PageIndex) (new : State) → ((r : Reply) → tests s e ≡ Some r → OnWait s r)
      → (MayReply s e (reply.Wait p) → ⊥) → Step s e (reply.Wait p) new → is_busy new ≡ true
  by_test e p new waits never step = elim (answered (tests s e) s e (reply.Wait p) new step) [
    | inl a ↦ subst (λ t. is_busy t ≡ true) (sym a.1) (waits (reply.Wait p) a.0)
    | inr a ↦ absurd (never a.1)
  ]

  pub read_busy : (h : HandleId) (o n : ℕ) (p : PageIndex) (new : State) → Step s (event.Read h o n) (reply.Wait p) new → is_busy new ≡ true
  read_busy h o n p new = by_test (event.Read h o n) p new (read_waits h o n) (λ may. may)

  pub change_busy : (c : Change) (h : HandleId) (b : List ℕ) (p : PageIndex) (new : State) → Step s (event_of c h b) (reply.Wait p) new
      → is_busy new ≡ true
  change_busy (change.Write o) h b p new = by_test (event.Write h o b) p new (write_waits h.0 o (length b)) (λ may. may)
  change_busy change.Append h b p new =
      by_test (event.Append h b) p new (write_waits h.0 (file_at s (handle_file s h.0)).size (length b)) (λ may. may)
  change_busy (change.Truncate z) h b p new = by_test (event.Truncate h z) p new (cut_waits h z) (λ may. may)

  -- a sync waits for a write in flight: of the page that it comes to, or one that it awaits
  pub step_busy : (m : SyncId) (p : PageIndex) (new : State) → IsOrderly new → Step s (event.SyncStep m) (reply.Wait p) new → is_busy new ≡ true
  step_busy m p new orderly step = true_from_ne_false (is_busy new) never
    where
      -- the step leaves the requests and the files
      stays : (o : Option Sync) → ((sync_stepped s m.0 o (reply.Wait p)).requests ≡ s.requests) × ((sync_stepped s m.0 o (reply.Wait p)).files ≡ s.files)
      stays None = (refl, refl)
      stays (Some y) = (refl, refl)

      kept : (new.requests ≡ s.requests) × (new.files ≡ s.files)
      kept = elim (answered (tests s (event.SyncStep m)) s (event.SyncStep m) (reply.Wait p) new step) [
        | inl a ↦ (ap (λ (x : State). x.requests) a.1, ap (λ (x : State). x.files) a.1)
        | inr a ↦ (let k = stays (finmap.get s.syncs m.0) in
            (ap (λ (x : State). x.requests) a.2 ∙ k.0, ap (λ (x : State). x.files) a.2 ∙ k.1))
      ]

      never : is_busy new ≡ false → ⊥
      never rests =
          let none = no_requests new rests in
          never_waits s (sym kept.0 ∙ none)
          (λ f q w. none_under new orderly none f q
          (ap (λ fs. (tags_of (finmap.get (slice_index_or fs f no_file).pages q)).writeback) kept.1 ∙ w)) m p new step
