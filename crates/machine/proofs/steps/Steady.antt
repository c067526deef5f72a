-- What no event changes: the sizes and the name of a cache.
use Rattle.std.proofs.Common.{◌≡◌, refl}
use Rattle.machine.specs.declared.event.Event.{Event}
use Rattle.machine.specs.declared.event.Reply.{Reply}
use Rattle.machine.specs.State.{State}
use Rattle.machine.specs.Step.{Step}
use Rattle.machine.proofs.steps.Cases.{Cases, by_cases}

pub record Steady (s : State) (e : Event) (r : Reply) (new : State) : Type 0 where
  pub sizes : new.sizes ≡ s.sizes
  pub name : new.name ≡ s.name

stays : (s : State) (e : Event) (r : Reply) (new : State) → new.sizes ≡ s.sizes → new.name ≡ s.name → Steady s e r new
stays s e r new sizes name = record { sizes = sizes; name = name }

cases : (s : State) → Cases s (Steady s)
cases s = record {
  same = λ e r step q. stays s e r s refl refl;
  writes_none = λ e h o is step. stays s e _ s refl refl;
  creates = λ f room is. stays s _ _ _ refl refl;
  opens = λ f h known room low. stays s _ _ _ refl refl;
  closes = λ h is none. stays s _ _ _ refl refl;
  writes = λ e h o b is may. stays s e _ _ refl refl;
  shrinks = λ h z may less. stays s _ _ _ refl refl;
  grows = λ h z may more. stays s _ _ _ refl refl;
  makes_zeros = λ h p may un. stays s _ _ _ refl refl;
  evicts = λ f p page is idle. stays s _ _ _ refl refl;
  fills = λ h p t may is room serial. stays s _ _ _ refl refl;
  flushes = λ f p page t may serial. stays s _ _ _ refl refl;
  drops = λ kind end x may d. stays s _ _ _ refl refl;
  fill_fails = λ end x c may d is. stays s _ _ _ refl refl;
  fill_ends = λ end x b may d is. stays s _ _ _ refl refl;
  flush_fails = λ end x c may d is. stays s _ _ _ refl refl;
  flush_ends = λ end x may d is. stays s _ _ _ refl refl;
  begins = λ h first last m may low. stays s _ _ _ refl refl;
  starts = λ m y p page t is may serial. stays s _ _ _ refl refl;
  waits = λ m y e p is pick first at. stays s _ _ _ refl refl;
  over = λ m y r is pick first v. stays s _ _ _ refl refl;
  sync_drops = λ m y is. stays s _ _ _ refl refl;
}

pub steady : (s : State) (e : Event) (r : Reply) (new : State) → Step s e r new → Steady s e r new
steady s e r new step = by_cases s (Steady s) (cases s) e r new step
