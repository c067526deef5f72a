-- Each event has a reply that is not want of memory: the first test that holds, or what happens where none does.
use Rattle.pc_types.specs.declared.ids.HandleId.{HandleId}
use Rattle.pc_types.specs.declared.ids.PageIndex.{PageIndex}
use Rattle.std.proofs.Common.{◌≡◌, ◌≢◌, ℕ, suc, ◌+◌, Bool, true, false, cond, eqb, eqb-true, eq-eqb, List, [], ◌∷◌}
use Rattle.std.proofs.Common.{length, get_or, refl, ap, ◌∙◌, inl, inr, ◌||◌, Option, Some, None, is_some, option_map}
use Rattle.std.proofs.Common.{find}
use Rattle.std.specs.List.{list_any}
use Rattle.std.specs.FinMap as map
use Rattle.pc_types.specs.declared.refusal.Refusal.TheVariants.{Memory, BadHandle}
use Rattle.machine.specs.declared.event.Outcome.{Outcome}
use Rattle.machine.specs.declared.event.Outcome.TheVariants as outcome
use Rattle.machine.specs.declared.event.Event.{Event}
use Rattle.machine.specs.declared.event.Event.TheVariants as event
use Rattle.machine.specs.declared.event.Reply.{Reply}
use Rattle.machine.specs.declared.event.Reply.TheVariants as reply
use Rattle.machine.specs.State.{State, File, Page, Request, Sync, no_file, file_at, handle_file, is_open, is_written}
use Rattle.machine.specs.State.{is_idle, bytes_at, first_awaited}
use Rattle.machine.specs.Changes.{sync_pick, changed}
use Rattle.machine.specs.Tests.{tests, read_count, has_idle, sync_tests, refuse}
use Rattle.machine.specs.Step.{AnswersOr, MayReply, EndReply, SyncReply, SyncStepReply}
use Rattle.machine.specs.Laws.{NoEventIsStuck}
use Rattle.machine.proofs.steps.Answered.{is_told, tells}
use Rattle.machine.proofs.steps.Choices.{if_some}
use Rattle.maps.proofs.Found.{found}
use Rattle.machine.proofs.steps.Lowest.{lowest_free}
use Rattle.machine.proofs.steps.Passed.{may_end}

abbrev is_memory : Reply → Bool
is_memory (reply.Refused Memory) = true
is_memory _ = false

abbrev Fine : Reply → Type 0
Fine r = is_memory r ≡ false

fine_reply : (r : Reply) → Fine r → r ≢ reply.Refused Memory
fine_reply r e k = let a = ap is_memory k in cc

-- ---- what happens where no test holds

any_at : {A : Type 0} (test : A → Bool) (xs : List A) (d : A) → list_any test xs ≡ true
    → (i : ℕ) × (test (get_or xs i d) ≡ true)
any_at test [] d e = absurd cc
any_at test (x ∷ xs) d e =
    elim (test x) as (λ b. test x ≡ b → (b || list_any test xs) ≡ true → (i : ℕ) × (test (get_or (x ∷ xs) i d) ≡ true)) [
      | true ↦ λ t k. (0, t)
      | false ↦ λ t k. let r = any_at test xs d k in (suc r.0, r.1)
    ] refl e

any_found : {A : Type 0} (test : A → Bool) (xs : List A) → list_any test xs ≡ true → (x : A) × (find test xs ≡ Some x)
any_found {A} test [] e = absurd cc
any_found {A} test (x ∷ xs) e =
    elim (test x) as (λ b. (b || list_any test xs) ≡ true → (y : A) × (cond b (Some x) (find test xs) ≡ Some y)) [
      | true ↦ λ k. (x, refl)
      | false ↦ λ k. any_found test xs k
    ] e

module _ (s : State) where
  -- a fine reply that may come
  abbrev FineReply : (Reply → Type 0) → Type 0
  FineReply May = (r : Reply) × Fine r × May r

  fill_begins : (h : HandleId)
      (p : PageIndex) (b : Bool) → is_written s (handle_file s h.0) p.0 ≡ b
      → FineReply (MayReply s (event.FillBegin h p))
  fill_begins h p true e = (reply.Job (record { 0 = s.next }), refl, (e, refl))
  fill_begins h p false e = (reply.Filled, refl, e)

  -- a call that fits its kind: a fault, or what was read, or written
  ends : (x : Request) (o : Outcome) (b : Bool) → x.dropped ≡ b → FineReply (EndReply (Some x) o)
  ends x o true e = (reply.Dropped, refl, e)
  ends x (outcome.Fault c) false e = (reply.Failed c, refl, (e, refl))
  ends x (outcome.Read b) false e = (reply.Filled, refl, e)
  ends x outcome.Written false e = (reply.Written, refl, e)

  ends_of : (o : Option Request) (of : Outcome) → is_some o ≡ true → FineReply (EndReply o of)
  ends_of None of e = absurd cc
  ends_of (Some x) of e = ends x of x.dropped refl

  sync_steps : (y : Sync) (pick : Option ℕ) (e : Option (ℕ × Request)) → FineReply (SyncReply s y pick e)
  sync_steps y (Some p) e = (reply.Job (record { 0 = s.next }), refl, refl)
  sync_steps y None (Some e) = (reply.Wait (record { 0 = e.1.page }), refl, refl)
  sync_steps y None None = go (eqb (file_at s (handle_file s y.handle)).failures y.failures) refl
    where
      go : (b : Bool) → eqb (file_at s (handle_file s y.handle)).failures y.failures ≡ b
          → FineReply (SyncReply s y None None)
      go true e = (reply.Clean, refl, eqb-true _ _ e)
      go false e =
          (reply.Failed (file_at s (handle_file s y.handle)).last_code, refl, ((λ k. let a = eq-eqb _ _ k in cc), refl))

  sync_steps_of : (o : Option Sync) → sync_tests s o ≡ None → FineReply (SyncStepReply s o)
  sync_steps_of None e = absurd cc
  sync_steps_of (Some y) e = sync_steps y (sync_pick s y) (first_awaited s y)

  evicts : has_idle s ≡ true → FineReply (MayReply s event.Evict)
  evicts e =
      let file = any_at (λ (file : File). list_any (λ e. is_idle e.1) (map.entries file.pages)) s.files no_file e in
      let x = any_found (λ (e : ℕ × Page). is_idle e.1) (map.entries (file_at s file.0).pages) file.1 in
      let a = found (file_at s file.0).pages (λ e. is_idle e.1) x.0 x.1 in
      (reply.Evicted (record { 0 = file.0 }) (record { 0 = x.0.0 }), refl, ap (option_map is_idle) a.1 ∙ ap Some a.0)

  happens : (e : Event) → tests s e ≡ None → FineReply (MayReply s e)
  happens event.Create t = (reply.File (record { 0 = length s.files }), refl, refl)
  happens (event.Open f) t = let low = lowest_free s.handles in (reply.Handle (record { 0 = low.0 }), refl, low.1)
  happens (event.Close h) t = (reply.Closed, refl, tt)
  happens (event.Size h) t =
      absurd (elim (is_open s h.0) as (λ b. cond b (Some (reply.Size (file_at s (handle_file s h.0)).size))
      (refuse BadHandle) ≡ None → ⊥) [ true ↦ λ k. cc | false ↦ λ k. cc ] t)
  happens (event.Read h o n) t =
      (reply.Bytes (bytes_at s (handle_file s h.0) o (read_count s (handle_file s h.0) o n)), refl, refl)
  happens (event.Write h o b) t = (reply.Wrote (length b) (o + length b), refl, (refl, refl))
  happens (event.Append h b) t =
      (reply.Wrote (length b) ((file_at s (handle_file s h.0)).size + length b), refl, (refl, refl))
  happens (event.Truncate h z) t = (reply.Done, refl, tt)
  happens (event.FillBegin h p) t = fill_begins h p (is_written s (handle_file s h.0) p.0) refl
  happens (event.FlushBegin f) t = (reply.Job (record { 0 = s.next }), refl, refl)
  happens (event.End kind end) t = ends_of (map.get s.requests end.serial.0) end.outcome
      (ap is_some (may_end s kind end t).1.is)
  happens event.Evict t = evicts (if_some (has_idle s) _ t)
  happens event.Age t = (reply.Aged 0, refl, tt)
  happens (event.SyncBegin h first end) t = let low = lowest_free s.syncs in
      (reply.Sync (record { 0 = low.0 }), refl, low.1)
  happens (event.SyncStep m) t = sync_steps_of (map.get s.syncs m.0) t
  happens (event.SyncDrop m) t = (reply.Dropped, refl, tt)

pub no_event_is_stuck : NoEventIsStuck
no_event_is_stuck s e = go (tests s e) refl
  where
    go : (o : Option Reply) → tests s e ≡ o → (r : Reply) × (new : State) × (r ≢ reply.Refused Memory)
        × AnswersOr o s e r new
    go None t = let x = happens s e t in (x.0, changed s e x.0, fine_reply x.0 x.1, (x.2, refl))
    go (Some r) t = (
      r,
      s,
      (λ k. elim (tells s e r t) [ inl a ↦ (let b = ap is_told k in cc) | inr a ↦ (let b = a.3 in cc) ]),
      (refl, refl),
    )
