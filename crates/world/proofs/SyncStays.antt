-- A sync's steps: which leave it in progress, and what its end leaves.
use Rattle.std.proofs.Common.{◌≡◌, ℕ, Bool, true, false, not, refl, ap, sym, ◌∙◌, inl, inr}
use Rattle.std.specs.Prelude.{is_some}
use Rattle.std.specs.FinMap as finmap
use Rattle.pc_types.specs.declared.ids.SyncId.{SyncId}
use Rattle.maps.proofs.Maps.{get_inserted}
use Rattle.machine.specs.declared.event.Event.{Event}
use Rattle.machine.specs.declared.event.Event.TheVariants as event
use Rattle.machine.specs.declared.event.Reply.{Reply}
use Rattle.machine.specs.declared.event.Reply.TheVariants as reply
use Rattle.machine.specs.State.{State, Sync}
use Rattle.machine.specs.Step.{Step}
use Rattle.machine.proofs.steps.Cases.{Cases, IsVerdict, by_cases}
use Rattle.machine.proofs.steps.Ends.{own_end}
use Rattle.runs.specs.World.{World, Move, Act, Call, Finish, WorldStep}
use Rattle.world.proofs.InFlight.{call_core, finish_step}

-- ---- steps that leave every sync in progress

abbrev pub is_over : Reply → Bool
is_over reply.Clean = true
is_over (reply.Failed c) = true
is_over _ = false

abbrev pub syncs_stay : Move → Bool
syncs_stay (Act (event.SyncStep m) r) = not (is_over r)
syncs_stay (Act (event.FlushBegin f) r) = true
syncs_stay (Call t fault effect) = true
syncs_stay (Finish t r) = true
syncs_stay _ = false

-- whether the event ends a sync
abbrev pub ends_sync : Event → Reply → Bool
ends_sync (event.SyncStep m) r = is_over r
ends_sync (event.SyncDrop m) r = true
ends_sync _ r = false

-- a sync that is in progress stays so, where the event ends none
record Still (s : State) (m : ℕ) (e : Event) (r : Reply) (new : State) : Type 0 where
  pub at : ends_sync e r ≡ false → is_some (finmap.get s.syncs m) ≡ true → is_some (finmap.get new.syncs m) ≡ true

module _ (s : State) (m : ℕ) where
  same : (e : Event) (r : Reply) (new : State) → new.syncs ≡ s.syncs → Still s m e r new
  same e r new is = record { at = λ k was. ap (λ x. is_some (finmap.get x m)) is ∙ was }

  put : (e : Event) (r : Reply) (new : State) (k : ℕ) (y : Sync) → new.syncs ≡ finmap.insert s.syncs k y
      → Still s m e r new
  put e r new k y is = record {
    at = λ n was. ap (λ x. is_some (finmap.get x m)) is
        ∙ elim (get_inserted s.syncs k y m) [ inl a ↦ ap is_some a.1 | inr a ↦ ap is_some a.1 ∙ was ];
  }

  verdict : (y : Sync) (r : Reply) → IsVerdict s y r → is_over r ≡ true
  verdict y reply.Clean v = refl
  verdict y (reply.Failed c) v = refl
  verdict y _ v = absurd v

  still_cases : Cases s (Still s m)
  still_cases = record {
    same = λ e r step q. same e r s refl;
    writes_none = λ e h o is step. same e _ s refl;
    creates = λ f room is. same _ _ _ refl;
    opens = λ f h known room low. same _ _ _ refl;
    closes = λ h is none. same _ _ _ refl;
    writes = λ e h o b is may. same e _ _ refl;
    shrinks = λ h z may less. same _ _ _ refl;
    grows = λ h z may more. same _ _ _ refl;
    makes_zeros = λ h p may un. same _ _ _ refl;
    evicts = λ f p page is idle. same _ _ _ refl;
    fills = λ h p t may is room serial. same _ _ _ refl;
    flushes = λ f p page t may serial. same _ _ _ refl;
    drops = λ kind end x may d. same _ _ _ refl;
    fill_fails = λ end x c may d is. same _ _ _ refl;
    fill_ends = λ end x b may d is. same _ _ _ refl;
    flush_fails = λ end x c may d is. same _ _ _ refl;
    flush_ends = λ end x may d is. same _ _ _ refl;
    begins = λ h first last k may low. put _ _ _ k.0 _ refl;
    starts = λ k y p page t is may serial. put _ _ _ k.0 _ refl;
    waits = λ k y e p is pick first at. put _ _ _ k.0 _ refl;
    over = λ k y r is pick first v. record { at = λ n was. absurd (let a = sym n ∙ verdict y r v in cc) };
    sync_drops = λ k y is. record { at = λ n was. absurd cc };
  }

still : (s new : State) (m : ℕ) (e : Event) (r : Reply) → Step s e r new → ends_sync e r ≡ false
    → is_some (finmap.get s.syncs m) ≡ true → is_some (finmap.get new.syncs m) ≡ true
still s new m e r step n was = (by_cases s (Still s m) (still_cases s m) e r new step).at n was

not_over : (b : Bool) → not b ≡ true → b ≡ false
not_over true e = absurd cc
not_over false e = refl

pub sync_stays : (w new : World) (move : Move) (m : SyncId) → syncs_stay move ≡ true → WorldStep w move new
    → is_some (finmap.get w.core.syncs m.0) ≡ true → is_some (finmap.get new.core.syncs m.0) ≡ true
sync_stays w new (Act (event.SyncStep k) r) m q h was =
    still w.core new.core m.0 (event.SyncStep k) r h.1.0 (not_over (is_over r) q) was
sync_stays w new (Act (event.FlushBegin f) r) m q h was =
    still w.core new.core m.0 (event.FlushBegin f) r h.1.0 refl was
sync_stays w new (Call t fault effect) m q h was =
    ap (λ (s : State). is_some (finmap.get s.syncs m.0)) (call_core w new t fault effect h) ∙ was
sync_stays w new (Finish t r) m q h was =
    let e = finish_step w new t r h in
    still w.core new.core m.0 (event.End e.x.kind (own_end w.core t e.x e.call)) r e.step refl was
sync_stays w new _ m q h was = absurd cc

-- ---- a sync that ends leaves the files

is_sync_step : Event → Bool
is_sync_step (event.SyncStep m) = true
is_sync_step _ = false

-- a step of a sync that is over leaves the files
record Leaves (s : State) (e : Event) (r : Reply) (new : State) : Type 0 where
  pub files : is_sync_step e ≡ true → is_over r ≡ true → new.files ≡ s.files

module _ (s : State) where
  no_step : (e : Event) (r : Reply) (new : State) → is_sync_step e ≡ false → Leaves s e r new
  no_step e r new n = record { files = λ k. absurd (let a = sym n ∙ k in cc) }

  no_verdict : (e : Event) (r : Reply) (new : State) → is_over r ≡ false → Leaves s e r new
  no_verdict e r new n = record { files = λ _ k. absurd (let a = sym n ∙ k in cc) }

  leaves_cases : Cases s (Leaves s)
  unfolding is_sync_step
  leaves_cases = record {
    same = λ e r step q. record { files = λ _ _. refl };
    writes_none = λ e h o is step. record { files = λ _ _. refl };
    creates = λ f room is. no_step _ _ _ refl;
    opens = λ f h known room low. no_step _ _ _ refl;
    closes = λ h is none. no_step _ _ _ refl;
    writes = λ e h o b is may. no_verdict e _ _ refl;
    shrinks = λ h z may less. no_step _ _ _ refl;
    grows = λ h z may more. no_step _ _ _ refl;
    makes_zeros = λ h p may un. no_step _ _ _ refl;
    evicts = λ f p page is idle. no_step _ _ _ refl;
    fills = λ h p t may is room serial. no_step _ _ _ refl;
    flushes = λ f p page t may serial. no_step _ _ _ refl;
    drops = λ kind end x may d. no_step _ _ _ refl;
    fill_fails = λ end x c may d is. no_step _ _ _ refl;
    fill_ends = λ end x b may d is. no_step _ _ _ refl;
    flush_fails = λ end x c may d is. no_step _ _ _ refl;
    flush_ends = λ end x may d is. no_step _ _ _ refl;
    begins = λ h first last m may low. no_step _ _ _ refl;
    starts = λ m y p page t is may serial. no_verdict _ _ _ refl;
    waits = λ m y e p is pick first at. no_verdict _ _ _ refl;
    over = λ m y r is pick first v. record { files = λ _ _. refl };
    sync_drops = λ m y is. no_step _ _ _ refl;
  }

pub over_leaves_files : (w new : World) (m : SyncId) (r : Reply) → is_over r ≡ true
    → WorldStep w (Act (event.SyncStep m) r) new → new.core.files ≡ w.core.files
unfolding is_sync_step
over_leaves_files w new m r over h =
    (by_cases w.core (Leaves w.core) (leaves_cases w.core) (event.SyncStep m) r new.core h.1.0).files refl over
