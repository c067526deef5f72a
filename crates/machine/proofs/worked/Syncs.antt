-- Worked examples of syncs.
use Rattle.std.proofs.Common.{◌≡◌, ℕ, [], ◌∷◌, refl, Some, None, replicate, false}
use Rattle.pc_types.specs.declared.refusal.Refusal.TheVariants.{Stranger}
use Rattle.pc_types.specs.declared.kind.Kind.TheVariants.{Flush}
use Rattle.machine.specs.declared.event.Event.TheVariants as event
use Rattle.machine.specs.declared.event.Reply.TheVariants as reply
use Rattle.machine.specs.State.{State, Request, Sync}
use Rattle.machine.specs.Tests.{tests, refuse}
use Rattle.machine.specs.Step.{Step}
use Rattle.machine.specs.Changes.{to_write}
use Rattle.machine.proofs.worked.States.{Parts, opened, state_of, page, sync, serial, D, W, DT, DWT, handle_0, page_get}
use Rattle.machine.proofs.worked.States.{page_entries, request_entries, request_len, sync_get, happens, only}

abbrev write_of : ℕ → Request
write_of p = record { kind = Flush; file = 0; page = p; block = p; dropped = false }

abbrev whole : Sync
whole = record { handle = 0; first = 0; last = 9; started = None; failures = 0; bound = None }

-- pages 0 and 2 were dirty as the sync began, and page 1 became dirty since
abbrev begun : Parts
begun = record opened {
  size = 33;
  pages = (0, record { bytes = 170 ∷ replicate 15 0; tags = DT })
      ∷ (1, record { bytes = 204 ∷ replicate 15 0; tags = D }) ∷ (2, record { bytes = 187 ∷ replicate 15 0; tags = DT })
      ∷ [];
  spots = ((0, 0), record { block = 0; valid = 0 }) ∷ ((0, 1), record { block = 2; valid = 0 })
      ∷ ((0, 2), record { block = 1; valid = 0 }) ∷ [];
  syncs = (0, record { handle = 0; first = 0; last = 9; started = None; failures = 0; bound = None }) ∷ [];
}

-- a sync tags what is DIRTY, and nothing else
tags_dirty : (to_write whole 0 (record { bytes = []; tags = D })).tags ≡ DT
tags_dirty = refl

leaves_clean : (to_write whole 0 (record { bytes = []; tags = W })).tags ≡ W
leaves_clean = refl

-- nor what is outside its range
leaves_outside : (to_write (record whole { first = 2; last = 5 }) 0 (record { bytes = []; tags = D })).tags ≡ D
leaves_outside = refl

step_passes : tests (state_of begun) (event.SyncStep (sync 0)) ≡ None
step_passes = simp (sync_get begun tt, handle_0 begun, page_entries begun tt, page_get begun tt, request_len begun tt)
    refl

-- the sync is not over
not_clean_yet : (new : State) → Step (state_of begun) (event.SyncStep (sync 0)) reply.Clean new → ⊥
not_clean_yet new step =
    absurd (let h = happens (state_of begun) new (event.SyncStep (sync 0)) reply.Clean step_passes step in
    simp (sync_get begun tt, handle_0 begun, page_entries begun tt) at h)

-- pages 0 and 2 are started; page 1 was not tagged, so the sync waits for the two writes, the lowest serial first
abbrev both_started : Parts
both_started = record begun {
  pages = (0, record { bytes = 170 ∷ replicate 15 0; tags = W })
      ∷ (1, record { bytes = 204 ∷ replicate 15 0; tags = D }) ∷ (2, record { bytes = 187 ∷ replicate 15 0; tags = W })
      ∷ [];
  requests = (0, write_of 0) ∷ (1, write_of 2) ∷ [];
  syncs = (0, record { handle = 0; first = 0; last = 9; started = Some 2; failures = 0; bound = None }) ∷ [];
  next = 2;
}

started_passes : tests (state_of both_started) (event.SyncStep (sync 0)) ≡ None
started_passes =
    simp (sync_get both_started tt, handle_0 both_started, page_entries both_started tt) refl

no_third_write : (t : ℕ) (new : State) → Step (state_of both_started) (event.SyncStep (sync 0)) (reply.Job (serial t))
    new → ⊥
no_third_write t new step =
    absurd (let h = happens (state_of both_started) new (event.SyncStep (sync 0)) (reply.Job (serial t)) started_passes
    step in simp (
      sync_get both_started tt,
      handle_0 both_started,
      page_entries both_started tt,
      request_entries both_started tt,
    ) at h)

waits_for_page_0 : (p : ℕ) (new : State) → Step (state_of both_started) (event.SyncStep (sync 0)) (reply.Wait (page p))
    new → p ≡ 0
waits_for_page_0 p new step =
    (let h = happens (state_of both_started) new (event.SyncStep (sync 0)) (reply.Wait (page p)) started_passes step in
    let k = simp (
      sync_get both_started tt,
      handle_0 both_started,
      page_entries both_started tt,
      request_entries both_started tt,
    ) at h in k)

-- ---- a page with an old write in flight

-- page 0 was changed while its write was in flight, and then the sync tagged it
abbrev old_write : Parts
old_write = record opened {
  size = 1;
  pages = (0, record { bytes = 187 ∷ replicate 15 0; tags = DWT }) ∷ [];
  spots = ((0, 0), record { block = 0; valid = 0 }) ∷ [];
  requests = (0, write_of 0) ∷ [];
  syncs = (0, record { handle = 0; first = 0; last = 9; started = None; failures = 0; bound = None }) ∷ [];
  next = 1;
}

-- the sync waits for the old write, and then starts the page
waits_for_old_write : tests (state_of old_write) (event.SyncStep (sync 0)) ≡ Some (reply.Wait (page 0))
waits_for_old_write = simp (sync_get old_write tt, handle_0 old_write, page_entries old_write tt, page_get old_write tt)
    refl

not_clean_over_old_write : (new : State) → Step (state_of old_write) (event.SyncStep (sync 0)) reply.Clean new → ⊥
not_clean_over_old_write new step =
    absurd (let e = only (state_of old_write) new (event.SyncStep (sync 0)) reply.Clean _ waits_for_old_write step in
    cc)

abbrev old_write_ended : Parts
old_write_ended =
    record old_write { pages = (0, record { bytes = 187 ∷ replicate 15 0; tags = DT }) ∷ []; requests = [] }

then_it_passes : tests (state_of old_write_ended) (event.SyncStep (sync 0)) ≡ None
then_it_passes =
    simp (
      sync_get old_write_ended tt,
      handle_0 old_write_ended,
      page_entries old_write_ended tt,
      page_get old_write_ended tt,
      request_len old_write_ended tt,
    ) refl

-- the page is not passed over
not_passed_over : (new : State) → Step (state_of old_write_ended) (event.SyncStep (sync 0)) reply.Clean new → ⊥
not_passed_over new step =
    absurd (let h = happens (state_of old_write_ended) new (event.SyncStep (sync 0)) reply.Clean then_it_passes step in
    simp (
      sync_get old_write_ended tt,
      handle_0 old_write_ended,
      page_entries old_write_ended tt,
    ) at h)

-- ---- a page that a flusher started after the sync had tagged it

abbrev flusher_was_first : Parts
flusher_was_first = record old_write { pages = (0, record { bytes = 170 ∷ replicate 15 0; tags = W }) ∷ [] }

-- the sync waits for the flusher's write
flusher_passes : tests (state_of flusher_was_first) (event.SyncStep (sync 0)) ≡ None
flusher_passes =
    simp (
      sync_get flusher_was_first tt,
      handle_0 flusher_was_first,
      page_entries flusher_was_first tt,
    ) refl

not_clean_over_flusher : (new : State) → Step (state_of flusher_was_first) (event.SyncStep (sync 0)) reply.Clean new → ⊥
not_clean_over_flusher new step =
    absurd (let h = happens (state_of flusher_was_first) new (event.SyncStep (sync 0)) reply.Clean flusher_passes
    step in simp (
      sync_get flusher_was_first tt,
      handle_0 flusher_was_first,
      page_entries flusher_was_first tt,
      request_entries flusher_was_first tt,
    ) at h)

-- ---- failures

-- a write has failed since the sync began: the sync fails with its code, and is not clean
abbrev one_failed : Parts
one_failed = record opened {
  size = 1;
  failures = 1;
  last_code = 5;
  pages = (0, record { bytes = 170 ∷ replicate 15 0; tags = D }) ∷ [];
  spots = ((0, 0), record { block = 0; valid = 0 }) ∷ [];
  syncs = (0, record { handle = 0; first = 0; last = 9; started = Some 0; failures = 0; bound = Some 1 }) ∷ [];
  next = 1;
}

failed_passes : tests (state_of one_failed) (event.SyncStep (sync 0)) ≡ None
failed_passes = simp (sync_get one_failed tt) refl

not_clean_after_failure : (new : State) → Step (state_of one_failed) (event.SyncStep (sync 0)) reply.Clean new → ⊥
not_clean_after_failure new step =
    absurd (let h = happens (state_of one_failed) new (event.SyncStep (sync 0)) reply.Clean failed_passes step in
    let k = simp (sync_get one_failed tt, handle_0 one_failed, request_entries one_failed tt) at h in
    let clash : 1 ≡ 0 = k in cc)

fails_with_code : (c : ℕ) (new : State) → Step (state_of one_failed) (event.SyncStep (sync 0)) (reply.Failed c) new
    → c ≡ 5
fails_with_code c new step =
    (let h = happens (state_of one_failed) new (event.SyncStep (sync 0)) (reply.Failed c) failed_passes step in
    let k = simp (sync_get one_failed tt, handle_0 one_failed, request_entries one_failed tt) at h in k.1)

-- a failure from before the sync began does not count
abbrev failed_before : Parts
failed_before =
    record one_failed {
      pages = [];
      spots = [];
      size = 0;
      syncs = (0, record { handle = 0; first = 0; last = 9; started = None; failures = 1; bound = Some 1 }) ∷ [];
    }

not_failed_by_old_failure : (c : ℕ) (new : State)
    → Step (state_of failed_before) (event.SyncStep (sync 0)) (reply.Failed c) new → ⊥
not_failed_by_old_failure c new step =
    absurd (let passes : tests (state_of failed_before) (event.SyncStep (sync 0)) ≡ None =
    simp (sync_get failed_before tt) refl in
    let h = happens (state_of failed_before) new (event.SyncStep (sync 0)) (reply.Failed c) passes step in
    let k = simp (sync_get failed_before tt, handle_0 failed_before, request_entries failed_before tt) at h in k.0 refl)

-- a sync that is over is unknown
unknown : tests (state_of opened) (event.SyncStep (sync 0)) ≡ refuse Stranger
unknown = simp (sync_get opened tt) refl
