-- Worked examples of syncs of a range of pages.
use Rattle.std.proofs.Common.{◌≡◌, ℕ, [], ◌∷◌, refl, Some, None, replicate, false}
use Rattle.pc_types.specs.declared.refusal.Refusal.TheVariants.{BadRange}
use Rattle.pc_types.specs.declared.kind.Kind.TheVariants.{Flush}
use Rattle.machine.specs.declared.event.Event.TheVariants as event
use Rattle.machine.specs.declared.event.Reply.TheVariants as reply
use Rattle.machine.specs.State.{State, Sync, awaited}
use Rattle.machine.specs.Changes.{sync_pick}
use Rattle.machine.specs.Tests.{tests, refuse}
use Rattle.machine.specs.Step.{Step}
use Rattle.machine.proofs.worked.States.{Parts, opened, state_of, handle, page, sync, W, DT, handle_0, page_entries}
use Rattle.machine.proofs.worked.States.{request_entries, sync_get, sync_len, happens}

-- pages 2 to 5
abbrev range : Sync
range = record { handle = 0; first = 2; last = 5; started = None; failures = 0; bound = None }

-- a range ends where it begins, or later
backward : tests (state_of opened) (event.SyncBegin (handle 0) (page 5) (page 4)) ≡ refuse BadRange
backward = simp (handle_0 opened) refl

one_page_passes : tests (state_of opened) (event.SyncBegin (handle 0) (page 5) (page 5)) ≡ None
one_page_passes = simp (handle_0 opened, sync_len opened tt) refl

-- pages 0 and 2 are TOWRITE: page 0 for another sync
abbrev begun : Parts
begun = record opened {
  size = 33;
  pages = (0, record { bytes = 170 ∷ replicate 15 0; tags = DT })
      ∷ (2, record { bytes = 187 ∷ replicate 15 0; tags = DT }) ∷ [];
  spots = ((0, 0), record { block = 0; valid = 0 }) ∷ ((0, 2), record { block = 1; valid = 0 }) ∷ [];
  syncs = (0, range) ∷ [];
}

starts_page_2 : sync_pick (state_of begun) range ≡ Some 2
starts_page_2 = simp (handle_0 begun, page_entries begun tt) refl

-- page 0 is out of the range, and its write in flight is not awaited
abbrev other_write : Parts
other_write = record begun {
  pages = (0, record { bytes = 170 ∷ replicate 15 0; tags = W })
      ∷ (2, record { bytes = 187 ∷ replicate 15 0; tags = W }) ∷ [];
  requests = (0, record { kind = Flush; file = 0; page = 0; block = 0; dropped = false })
      ∷ (1, record { kind = Flush; file = 0; page = 2; block = 1; dropped = false }) ∷ [];
  syncs = (0, record range { started = Some 2 }) ∷ [];
  next = 2;
}

awaits_page_2 : awaited (state_of other_write) (record range { started = Some 2 }) ≡ 1 ∷ []
awaits_page_2 = simp (handle_0 other_write, request_entries other_write tt) refl

passes : tests (state_of other_write) (event.SyncStep (sync 0)) ≡ None
passes = simp (sync_get other_write tt, handle_0 other_write, page_entries other_write tt) refl

waits_for_page_2 : (p : ℕ) (new : State) → Step (state_of other_write) (event.SyncStep (sync 0)) (reply.Wait (page p))
    new → p ≡ 2
waits_for_page_2 p new step =
    (let h = happens (state_of other_write) new (event.SyncStep (sync 0)) (reply.Wait (page p)) passes step in
    simp (sync_get other_write tt, handle_0 other_write, page_entries other_write tt, request_entries other_write tt) at
    h)

-- once the write of page 2 has ended the sync is over, though that of page 0 is in flight
abbrev ended : Parts
ended = record other_write {
  requests = (0, record { kind = Flush; file = 0; page = 0; block = 0; dropped = false })
      ∷ [];
  syncs = (0, record range { started = Some 2; bound = Some 2 }) ∷ [];
}

ended_passes : tests (state_of ended) (event.SyncStep (sync 0)) ≡ None
ended_passes = simp (sync_get ended tt) refl

no_wait : (p : ℕ) (new : State) → Step (state_of ended) (event.SyncStep (sync 0)) (reply.Wait (page p)) new → ⊥
no_wait p new step =
    absurd (let h = happens (state_of ended) new (event.SyncStep (sync 0)) (reply.Wait (page p)) ended_passes step in
    simp (sync_get ended tt, handle_0 ended, request_entries ended tt) at h)
