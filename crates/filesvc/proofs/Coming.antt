-- Files and handles that come and go: no such answer begins a request, and an open handle is closed.
use Rattle.std.proofs.Common.{◌≡◌, Bool, true, false, cond, eqb, map, refl, ap, ◌∙◌, inl, inr}
use Rattle.std.specs.Prelude.{Result, Ok, Err, IfErr, Some, None, not}
use Rattle.std.specs.List.{list_any}
use Rattle.std.specs.FinMap as finmap
use Rattle.std.specs.Ordering.{nat_cmp}
use Rattle.pc_types.specs.declared.ids.FileId.{FileId}
use Rattle.pc_types.specs.declared.ids.HandleId.{HandleId}
use Rattle.pc_types.specs.declared.refusal.Refusal.{Refusal}
use Rattle.pc_types.specs.declared.refusal.Refusal.TheVariants.{BadHandle, Busy}
use Rattle.machine.specs.declared.event.Event.TheVariants as event
use Rattle.machine.specs.declared.event.Reply.TheVariants as reply
use Rattle.cachecore.specs.Replies.{closed, created, opened}
use Rattle.machine.specs.State.{State, Sync, is_open}
use Rattle.machine.specs.Step.{Step}
use Rattle.machine.specs.Tests.{tests, refuse}
use Rattle.machine.proofs.steps.Cases.{answered}
use Rattle.maps.proofs.MapLaws.{no_entries}
use Rattle.runs.proofs.moments.KeptRequests.{is_job}

pub created_quiet : (r : Result FileId Refusal) → is_job (created r) ≡ false
created_quiet (Ok f) = refl
created_quiet (Err r) = refl

pub opened_quiet : (r : Result HandleId Refusal) → is_job (opened r) ≡ false
opened_quiet (Ok h) = refl
opened_quiet (Err r) = refl

pub closed_quiet : (r : Result Unit Refusal) → is_job (closed r) ≡ false
closed_quiet (Ok _) = refl
closed_quiet (Err r) = refl

-- an open handle is closed where no sync is in progress
pub close_ok : (s new : State) (h : HandleId) (r : Result Unit Refusal) → is_open s h.0 ≡ true → s.syncs ≡ finmap.empty → Step s (event.Close h) (closed r) new → IfErr r (λ _. ⊥)
close_ok s new h (Ok _) opened none e = tt
close_ok s new h (Err why) opened none e = absurd (elim (answered (tests s (event.Close h)) s (event.Close h) (reply.Refused why) new e) [
  | inl a ↦ by (is_open s h.0) (list_any (λ (sync : Sync). eqb sync.handle h.0) (finmap.values s.syncs)) opened (ap (λ m. list_any (λ (sync : Sync). eqb sync.handle h.0) (finmap.values m)) none ∙ ap (λ es. list_any (λ (sync : Sync). eqb sync.handle h.0) (map (λ e. e.1) es)) (no_entries nat_cmp)) a.0
  | inr b ↦ b.1
])
  where
    by : (b c : Bool) → b ≡ true → c ≡ false → cond (not b) (refuse BadHandle) (cond c (refuse Busy) None) ≡ Some (reply.Refused why) → ⊥
    by true true o k e = absurd cc
    by true false o k e = absurd cc
    by false c o k e = absurd cc
