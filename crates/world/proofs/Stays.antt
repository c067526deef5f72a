-- What steps leave as it is: sizes and name, handles and how many files there are. Of any world.
use Rattle.std.proofs.Common.{◌≡◌, ℕ, true, false, length, refl, ap, inl, inr}
use Rattle.std.specs.Prelude.{Bool, slice_set}
use Rattle.std.proofs.lemmas.List.{length-set}
use Rattle.machine.specs.declared.event.Event.{Event}
use Rattle.machine.specs.declared.event.Event.TheVariants as event
use Rattle.machine.specs.declared.event.Reply.{Reply}
use Rattle.machine.specs.State.{State, File}
use Rattle.machine.proofs.steps.Cases.{Cases, by_cases}
use Rattle.machine.proofs.steps.Ends.{own_end}
use Rattle.machine.proofs.steps.Steady.{steady}
use Rattle.runs.specs.World.{World, Move, Act, Call, Finish, WorldStep}
use Rattle.runs.proofs.moments.Histories.{core_step}
use Rattle.world.proofs.InFlight.{call_core, finish_step}

-- ---- sizes and name

pub stays : (w new : World) (move : Move) → WorldStep w move new
    → (new.core.sizes ≡ w.core.sizes) × (new.core.name ≡ w.core.name)
stays w new move m = elim (core_step w new move m) [
  | inl same ↦ (ap (λ s. s.sizes) same, ap (λ s. s.name) same)
  | inr a ↦ (let b = steady w.core a.0 a.1 new.core a.2 in (b.sizes, b.name))
]

-- ---- handles, and how many files there are

abbrev pub changes_handles : Event → Bool
changes_handles event.Create = true
changes_handles (event.Open f) = true
changes_handles (event.Close h) = true
changes_handles _ = false

abbrev pub keeps_handles : Move → Bool
keeps_handles (Act event.Create r) = false
keeps_handles (Act (event.Open f) r) = false
keeps_handles (Act (event.Close h) r) = false
keeps_handles _ = true

record SameHandles (s : State) (e : Event) (r : Reply) (new : State) : Type 0 where
  pub handles : changes_handles e ≡ false → new.handles ≡ s.handles
  pub count : changes_handles e ≡ false → length new.files ≡ length s.files

module _ (s : State) where
  kept : (e : Event) (r : Reply) (new : State) → new.handles ≡ s.handles → length new.files ≡ length s.files
      → SameHandles s e r new
  kept e r new h l = record { handles = λ _. h; count = λ _. l }

  one_set : (f : ℕ) (file : File) → length (slice_set s.files f file) ≡ length s.files
  one_set f file = length-set s.files f file

  handle_cases : Cases s (SameHandles s)
  handle_cases = record {
    same = λ e r step q. kept e r s refl refl;
    writes_none = λ e h o is step. kept e _ s refl refl;
    creates = λ f room is. record { handles = λ k. absurd cc; count = λ k. absurd cc };
    opens = λ f h known room low. record { handles = λ k. absurd cc; count = λ k. absurd cc };
    closes = λ h is none. record { handles = λ k. absurd cc; count = λ k. absurd cc };
    writes = λ e h o b is may. kept e _ _ refl (one_set _ _);
    shrinks = λ h z may less. kept _ _ _ refl (one_set _ _);
    grows = λ h z may more. kept _ _ _ refl (one_set _ _);
    makes_zeros = λ h p may un. kept _ _ _ refl (one_set _ _);
    evicts = λ f p page is idle. kept _ _ _ refl (one_set _ _);
    fills = λ h p t may is room serial. kept _ _ _ refl refl;
    flushes = λ f p page t may serial. kept _ _ _ refl (one_set _ _);
    drops = λ kind end x may d. kept _ _ _ refl refl;
    fill_fails = λ end x c may d is. kept _ _ _ refl refl;
    fill_ends = λ end x b may d is. kept _ _ _ refl (one_set _ _);
    flush_fails = λ end x c may d is. kept _ _ _ refl (one_set _ _);
    flush_ends = λ end x may d is. kept _ _ _ refl (one_set _ _);
    begins = λ h first last m may low. kept _ _ _ refl (one_set _ _);
    starts = λ m y p page t is may serial. kept _ _ _ refl (one_set _ _);
    waits = λ m y e p is pick first at. kept _ _ _ refl refl;
    over = λ m y r is pick first v. kept _ r _ refl refl;
    sync_drops = λ m y is. kept _ _ _ refl refl;
  }

keeps_event : (e : Event) (r : Reply) → keeps_handles (Act e r) ≡ true → changes_handles e ≡ false
keeps_event event.Create r k = absurd cc
keeps_event (event.Open f) r k = absurd cc
keeps_event (event.Close h) r k = absurd cc
keeps_event _ r k = refl

pub handles_stay : (w new : World) (move : Move) → keeps_handles move ≡ true → WorldStep w move new
    → (new.core.handles ≡ w.core.handles) × (length new.core.files ≡ length w.core.files)
handles_stay w new (Act e r) k m =
    let a = by_cases w.core (SameHandles w.core) (handle_cases w.core) e r new.core m.1.0 in
    (a.handles (keeps_event e r k), a.count (keeps_event e r k))
handles_stay w new (Call t fault effect) k m =
    let same = call_core w new t fault effect m in
    (ap (λ (s : State). s.handles) same, ap (λ (s : State). length s.files) same)
handles_stay w new (Finish t r) k m =
    let e = finish_step w new t r m in
    let a = by_cases w.core (SameHandles w.core) (handle_cases w.core)
    (event.End e.x.kind (own_end w.core t e.x e.call)) r new.core e.step in
    (a.handles refl, a.count refl)
