-- A sync's step is told to wait only where a request is in flight.
use Rattle.std.proofs.Common.{◌≡◌, ℕ, true, false, cond, refl, ap, ◌∙◌, inl, inr}
use Rattle.std.specs.Prelude.{Option, Some, None, find}
use Rattle.std.specs.Ordering.{nat_cmp}
use Rattle.std.specs.FinMap as finmap
use Rattle.pc_types.specs.declared.ids.PageIndex.{PageIndex}
use Rattle.pc_types.specs.declared.ids.SyncId.{SyncId}
use Rattle.pc_types.specs.declared.refusal.Refusal.TheVariants.{TooManyInFlight}
use Rattle.maps.proofs.MapLaws.{no_entries}
use Rattle.machine.specs.declared.event.Event.TheVariants as event
use Rattle.machine.specs.declared.event.Reply.TheVariants as reply
use Rattle.machine.specs.State.{State, Request, Sync, first_awaited, handle_file, is_awaited, tags_at}
use Rattle.machine.specs.Changes.{sync_pick}
use Rattle.machine.specs.Tests.{is_full, refuse, start_tests, sync_tests}
use Rattle.machine.specs.Step.{Step, SyncReply, SyncStepReply}
use Rattle.machine.proofs.steps.Cases.{answered}

-- where none is, and so no page is under WRITEBACK
module _ (s : State) (none : s.requests ≡ finmap.empty)
    (clear : (f p : ℕ) → (tags_at s f p).writeback ≡ true → ⊥) where
  no_start : (f : ℕ) (p : PageIndex) (o : Option ℕ) → start_tests s f o ≡ Some (reply.Wait p) → ⊥
  no_start f p None e = cc
  no_start f p (Some q) e =
      elim (tags_at s f q).writeback as (λ b. (tags_at s f q).writeback ≡ b
      → cond b (Some (reply.Wait (record { 0 = q }))) (cond (is_full s) (refuse TooManyInFlight) None)
      ≡ Some (reply.Wait p) → ⊥) [
        | true ↦ λ tag j. clear f q tag
        | false ↦ λ tag j. elim (is_full s) as (λ b. cond b (refuse TooManyInFlight) None ≡ Some (reply.Wait p) → ⊥)
            [ true ↦ λ k. cc | false ↦ λ k. cc ] j
      ] refl e

  no_test : (p : PageIndex) (o : Option Sync) → sync_tests s o ≡ Some (reply.Wait p) → ⊥
  no_test p None e = cc
  no_test p (Some y) e = no_start (handle_file s y.handle) p (sync_pick s y) e

  none_awaited : (y : Sync) → first_awaited s y ≡ None
  none_awaited y = ap (λ m. find (is_awaited s y) (finmap.entries m)) none
      ∙ ap (find (is_awaited s y)) (no_entries nat_cmp)

  no_reply : (y : Sync) (p : PageIndex) (pick : Option ℕ) (e : Option (ℕ × Request)) → e ≡ None
      → SyncReply s y pick e (reply.Wait p) → ⊥
  no_reply y p (Some q) e k h = h
  no_reply y p None None k h = h
  no_reply y p None (Some x) k h = cc

  no_wait : (p : PageIndex) (o : Option Sync) → SyncStepReply s o (reply.Wait p) → ⊥
  no_wait p None h = h
  no_wait p (Some y) h = no_reply y p (sync_pick s y) (first_awaited s y) (none_awaited y) h

  pub never_waits : (m : SyncId) (p : PageIndex) (new : State) → Step s (event.SyncStep m) (reply.Wait p) new → ⊥
  never_waits m p new step =
      elim (answered (sync_tests s (finmap.get s.syncs m.0)) s (event.SyncStep m) (reply.Wait p) new step) [
        | inl a ↦ no_test p (finmap.get s.syncs m.0) a.0
        | inr b ↦ no_wait p (finmap.get s.syncs m.0) b.1
      ]
