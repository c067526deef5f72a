-- Worked examples of handles.
use Rattle.std.proofs.Common.{◌≡◌, ℕ, zero, suc, ◌<◌, [], ◌∷◌, refl, arith, None, true, false}
use Rattle.pc_types.specs.declared.refusal.Refusal.TheVariants.{BadHandle, Busy, NoSuchFile}
use Rattle.machine.specs.declared.event.Event.TheVariants as event
use Rattle.machine.specs.declared.event.Reply.TheVariants as reply
use Rattle.machine.specs.State.{State, is_open}
use Rattle.machine.specs.Tests.{tests, refuse}
use Rattle.machine.specs.Step.{Step}
use Rattle.machine.proofs.worked.States.{Parts, opened, state_of, handle, file, sync, handle_0, handle_get, handle_len}
use Rattle.machine.proofs.worked.States.{sync_get, sync_entries, happens}

open_passes : tests (state_of opened) (event.Open (file 0)) ≡ None
open_passes = simp (handle_len opened) refl

no_file_1 : tests (state_of opened) (event.Open (file 1)) ≡ refuse NoSuchFile
no_file_1 = refl

-- the second handle is 1, and no other
second_handle : (h : ℕ) (new : State) → Step (state_of opened) (event.Open (file 0)) (reply.Handle (handle h)) new
    → h ≡ 1
second_handle h new step =
    (let e = happens (state_of opened) new (event.Open (file 0)) (reply.Handle (handle h)) open_passes step in
    by_size h e.0 e.1)
  where
    closed_0 : is_open (state_of opened) 0 ≡ false → ⊥
    closed_0 e = (let clash : true ≡ false = simp (handle_get opened) at e in cc)

    open_1 : is_open (state_of opened) 1 ≡ true → ⊥
    open_1 e = (let clash : false ≡ true = simp (handle_get opened) at e in cc)

    by_size : (h : ℕ) → is_open (state_of opened) h ≡ false → ((k : ℕ) → k < h → is_open (state_of opened) k ≡ true)
        → h ≡ 1
    by_size zero e below = absurd (closed_0 e)
    by_size (suc zero) e below = refl
    by_size (suc (suc h)) e below = absurd (open_1 (below 1 (omega arith)))

-- a sync in progress keeps its handle open
abbrev in_sync : Parts
in_sync =
    record opened {
      syncs = (0, record { handle = 0; first = 0; last = 9; started = None; failures = 0; bound = None })
          ∷ [];
    }

busy : tests (state_of in_sync) (event.Close (handle 0)) ≡ refuse Busy
busy = simp (handle_0 in_sync, sync_entries in_sync tt) refl

drop_passes : tests (state_of in_sync) (event.SyncDrop (sync 0)) ≡ None
drop_passes = simp (sync_get in_sync tt) refl

close_passes : tests (state_of opened) (event.Close (handle 0)) ≡ None
close_passes = simp (handle_0 opened, sync_entries opened tt) refl

-- handle 1 was not given out
not_open : tests (state_of opened) (event.Size (handle 1)) ≡ refuse BadHandle
not_open = simp (handle_get opened) refl
