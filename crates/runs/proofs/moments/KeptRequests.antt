-- What each step makes of the requests in flight: it keeps them all, or one begins, or one ends.
use Rattle.std.proofs.Common.{◌≡◌, ℕ, ◌+◌, Bool, true, false, cond, not, eqb, refl, ap, sym, subst, ◌∙◌, inl, inr}
use Rattle.std.specs.Prelude.{◌&&◌, Option, Some, None, option_map, nat_le}
use Rattle.std.specs.FinMap as map
use Rattle.pc_types.specs.Limits.{Sizes}
use Rattle.pc_types.specs.declared.ids.Serial.{Serial}
use Rattle.machine.specs.declared.event.End.{End}
use Rattle.machine.specs.declared.event.Event.{Event}
use Rattle.machine.specs.declared.event.Event.TheVariants as event
use Rattle.machine.specs.declared.event.Reply.{Reply}
use Rattle.machine.specs.declared.event.Reply.TheVariants as reply
use Rattle.machine.specs.State.{State, Request, Sync, page_count}
use Rattle.machine.specs.Changes.{cut_request, shrunk}
use Rattle.machine.specs.Tests.{is_full}
use Rattle.machine.specs.Step.{Step}
use Rattle.machine.proofs.steps.Answered.{is_quiet, IsWrite}
use Rattle.machine.proofs.steps.Cases.{Cases, IsVerdict, by_cases}
use Rattle.maps.proofs.Maps.{get-each_value}
use Rattle.maps.proofs.MapLaws.{len-each_value}

abbrev pub is_job : Reply → Bool
is_job (reply.Job t) = true
is_job _ = false

-- whether the event ends a request
abbrev pub is_end : Event → Reply → Bool
is_end (event.End kind end) r = not (is_quiet r)
is_end _ r = false

-- all of a request but whether it is dropped
abbrev pub undropped : Request → Request
undropped x = record x { dropped = false }

-- the requests in flight are as before, but for those that were dropped
pub record Kept (s new : State) : Type 0 where
  pub next : new.next ≡ s.next
  pub name : new.name ≡ s.name
  pub sizes : new.sizes ≡ s.sizes
  pub len : map.len new.requests ≡ map.len s.requests
  pub at : (t : ℕ) → option_map undropped (map.get new.requests t) ≡ option_map undropped (map.get s.requests t)

-- request t begins: that of one page, with the next serial
pub record Begun (s new : State) (t : ℕ) : Type 0 where
  pub x : Request
  pub serial : t ≡ s.next
  pub live : x.dropped ≡ false
  pub room : is_full s ≡ false
  pub next : new.next ≡ s.next + 1
  pub name : new.name ≡ s.name
  pub sizes : new.sizes ≡ s.sizes
  pub requests : new.requests ≡ map.insert s.requests s.next x

-- request t ends
pub record Over (s new : State) (t : ℕ) : Type 0 where
  pub x : Request
  pub is : map.get s.requests t ≡ Some x
  pub next : new.next ≡ s.next
  pub name : new.name ≡ s.name
  pub sizes : new.sizes ≡ s.sizes
  pub requests : new.requests ≡ map.remove s.requests t

pub record OfRequests (s : State) (e : Event) (r : Reply) (new : State) : Type 0 where
  pub kept : is_job r ≡ false → is_end e r ≡ false → Kept s new
  pub begun : (t : Serial) → r ≡ reply.Job t → Begun s new t.0
  pub over : is_end e r ≡ true → (kind : _) (end : End) → e ≡ event.End kind end → Over s new end.serial.0

-- a request stood before
pub stood : (s new : State) → Kept s new → (t : ℕ) (x : Request) → map.get new.requests t ≡ Some x
    → (y : Request) × (map.get s.requests t ≡ Some y) × (undropped x ≡ undropped y)
stood s new k t x e = go (map.get s.requests t) refl (sym (k.at t) ∙ ap (option_map undropped) e)
  where
    go : (o : Option Request) → map.get s.requests t ≡ o → option_map undropped o ≡ Some (undropped x)
        → (y : Request) × (map.get s.requests t ≡ Some y) × (undropped x ≡ undropped y)
    go None is h = absurd cc
    go (Some y) is h = (y, is, (let i : undropped y ≡ undropped x = cc in sym i))

-- what is said of the requests, but for themselves
abbrev rest : State → ℕ × ℕ × Sizes
rest s = (s.next, s.name, s.sizes)

same_kept : (s new : State) → rest new ≡ rest s → new.requests ≡ s.requests → Kept s new
same_kept s new same requests = record {
  next = ap (λ x. x.0) same;
  name = ap (λ x. x.1) same;
  sizes = ap (λ x. x.2) same;
  len = ap map.len requests;
  at = λ t. ap (λ m. option_map undropped (map.get m t)) requests;
}

cut_undropped : (b : Bool) (x : Request) → undropped (cond b (record x { dropped = true }) x) ≡ undropped x
cut_undropped true x = refl
cut_undropped false x = refl

shrunk_kept : (s : State) (f z : ℕ) → Kept s (shrunk s f z)
shrunk_kept s f z = record {
  next = refl;
  name = refl;
  sizes = refl;
  len = len-each_value (λ _. cut_request f n) s.requests;
  at = λ t. ap (option_map undropped) (get-each_value (λ _. cut_request f n) s.requests t) ∙ go (map.get s.requests t);
}
  where
    n : ℕ
    n = page_count s.sizes.page z

    go : (o : Option Request) → option_map undropped (option_map (cut_request f n) o) ≡ option_map undropped o
    go None = refl
    go (Some x) = ap Some (cut_undropped (eqb x.file f && nat_le n x.page) x)

-- the requests stay
stays : (s new : State) (e : Event) (r : Reply) → is_job r ≡ false → is_end e r ≡ false → Kept s new
    → OfRequests s e r new
stays s new e r quiet goes k = record {
  kept = λ _ _. k;
  begun = λ t j. absurd (let i = sym quiet ∙ ap is_job j in cc);
  over = λ i kind end is. absurd (let j = sym goes ∙ i in cc);
}

begins : (s new : State) (e : Event) (t : Serial) (x : Request) → is_end e (reply.Job t) ≡ false → x.dropped ≡ false
    → t.0 ≡ s.next → is_full s ≡ false → rest new ≡ (s.next + 1, s.name, s.sizes)
    → new.requests ≡ map.insert s.requests s.next x → OfRequests s e (reply.Job t) new
begins s new e t x goes live serial room same requests = record {
  kept = λ j _. absurd cc;
  begun = λ u j. subst (λ (k : Serial). Begun s new k.0) (same_serial t u j)
      (record {
        x = x;
        serial = serial;
        live = live;
        room = room;
        next = ap (λ y. y.0) same;
        name = ap (λ y. y.1) same;
        sizes = ap (λ y. y.2) same;
        requests = requests;
      });
  over = λ i kind end is. absurd (let j = sym goes ∙ i in cc);
}
  where
    same_serial : (t u : Serial) → reply.Job t ≡ reply.Job u → t ≡ u
    same_serial t u e = cc

ends : (s new : State) (kind : _) (end : End) (r : Reply) (x : Request) → is_job r ≡ false → is_quiet r ≡ false
    → map.get s.requests end.serial.0 ≡ Some x → rest new ≡ rest s
    → new.requests ≡ map.remove s.requests end.serial.0 → OfRequests s (event.End kind end) r new
ends s new kind end r x quiet loud there same requests = record {
  kept = λ _ i. absurd (let j = sym i ∙ ap not loud in cc);
  begun = λ t j. absurd (let i = sym quiet ∙ ap is_job j in cc);
  over = λ i of e is. subst (λ (k : End). Over s new k.serial.0) (same_end kind of end e is)
      (record {
        x = x;
        is = there;
        next = ap (λ y. y.0) same;
        name = ap (λ y. y.1) same;
        sizes = ap (λ y. y.2) same;
        requests = requests;
      });
}
  where
    same_end : (a b : _) (x y : End) → event.End a x ≡ event.End b y → x ≡ y
    same_end a b x y e = cc

quiet_job : (r : Reply) → is_quiet r ≡ true → is_job r ≡ false
quiet_job (reply.Job t) e = absurd cc
quiet_job _ e = refl

quiet_end : (e : Event) (r : Reply) → is_quiet r ≡ true → is_end e r ≡ false
quiet_end (event.End kind end) r q = ap not q
quiet_end _ r q = refl

write_end : (s : State) (e : Event) (h : _) (o : ℕ) (b : _) (r : Reply) → IsWrite s e h o b → is_end e r ≡ false
write_end s e h o b r is = elim is [
  | inl a ↦ ap (λ k. is_end k r) a
  | inr a ↦ ap (λ k. is_end k r) a.0
]

verdict_job : (s : State) (y : Sync) (r : Reply) → IsVerdict s y r → is_job r ≡ false
verdict_job s y (reply.Job t) h = absurd h
verdict_job s y _ h = refl

cases : (s : State) → Cases s (OfRequests s)
cases s = record {
  same = λ e r step q. stays s s e r (quiet_job r q) (quiet_end e r q) (same_kept s s refl refl);
  writes_none = λ e h o is step. stays s s e _ refl (write_end s e h o _ _ is) (same_kept s s refl refl);
  creates = λ f room is. stays s _ _ _ refl refl (same_kept s _ refl refl);
  opens = λ f h known room low. stays s _ _ _ refl refl (same_kept s _ refl refl);
  closes = λ h is none. stays s _ _ _ refl refl (same_kept s _ refl refl);
  writes = λ e h o b is may. stays s _ e _ refl (write_end s e h o b _ is) (same_kept s _ refl refl);
  shrinks = λ h z may less. stays s _ _ _ refl refl (shrunk_kept s _ z);
  grows = λ h z may more. stays s _ _ _ refl refl (same_kept s _ refl refl);
  makes_zeros = λ h p may un. stays s _ _ _ refl refl (same_kept s _ refl refl);
  evicts = λ f p page is idle. stays s _ _ _ refl refl (same_kept s _ refl refl);
  fills = λ h p t may is room serial. begins s _ _ t _ refl refl serial room refl refl;
  flushes = λ f p page t may serial. begins s _ _ t _ refl refl serial may.room refl refl;
  drops = λ kind end x may d. ends s _ kind end _ x refl refl may.is refl refl;
  fill_fails = λ end x c may d is. ends s _ _ end _ x refl refl may.is refl refl;
  fill_ends = λ end x b may d is. ends s _ _ end _ x refl refl may.is refl refl;
  flush_fails = λ end x c may d is. ends s _ _ end _ x refl refl may.is refl refl;
  flush_ends = λ end x may d is. ends s _ _ end _ x refl refl may.is refl refl;
  begins = λ h first last m may low. stays s _ _ _ refl refl (same_kept s _ refl refl);
  starts = λ m y p page t is may serial. begins s _ _ t _ refl refl serial may.room refl refl;
  waits = λ m y e p is pick first at. stays s _ _ _ refl refl (same_kept s _ refl refl);
  over = λ m y r is pick first v. stays s _ _ r (verdict_job s y r v) refl (same_kept s _ refl refl);
  sync_drops = λ m y is. stays s _ _ _ refl refl (same_kept s _ refl refl);
}

-- what a step makes of the requests in flight
pub of_requests : (s new : State) (e : Event) (r : Reply) → Step s e r new → OfRequests s e r new
of_requests s new e r step = by_cases s (OfRequests s) (cases s) e r new step
