-- The requests in flight and the next serial, step by step: what begins none leaves both, and one that begins alone
-- ends alone.
-- Of any world.
use Rattle.std.proofs.Common.{◌≡◌, ◌≢◌, ℕ, ◌+◌, ◌<◌, Bool, true, false, cond, not, refl, ap, sym, ◌∙◌, arith, inl}
use Rattle.std.proofs.Common.{inr}
use Rattle.std.specs.Prelude.{◌⊎◌, ◌||◌, Option, Some, None, nat_le}
use Rattle.std.specs.Ordering.{nat_cmp}
use Rattle.std.specs.FinMap as finmap
use Rattle.std.specs.FinMap.{FinMap, get-empty, len-empty}
use Rattle.std.proofs.lemmas.Bool.Decides.{nat_tests}
use Rattle.pc_types.specs.Kinds.{is_flush}
use Rattle.pc_types.specs.declared.ids.Serial.{Serial}
use Rattle.pc_types.specs.declared.limits.TheConstants.{MAX_IN_FLIGHT, SERIAL_END}
use Rattle.pc_types.specs.declared.refusal.Refusal.TheVariants.{Stranger}
use Rattle.maps.proofs.MapLaws.{same_nat_map}
use Rattle.maps.proofs.Maps.{get_inserted, get_left}
use Rattle.machine.specs.declared.event.Event.{Event}
use Rattle.machine.specs.declared.event.Event.TheVariants as event
use Rattle.machine.specs.declared.event.Outcome.{Outcome}
use Rattle.machine.specs.declared.event.Outcome.TheVariants as outcome
use Rattle.machine.specs.declared.event.Reply.{Reply}
use Rattle.machine.specs.declared.event.Reply.TheVariants as reply
use Rattle.machine.specs.State.{State, Request}
use Rattle.machine.specs.Changes.{ended, flush_failed, request_ended}
use Rattle.machine.specs.Tests.{is_full}
use Rattle.machine.specs.Step.{Step}
use Rattle.machine.proofs.steps.Ends.{end_loud, of_end, own_end}
use Rattle.runs.specs.World.{World, Move, Act, Call, Finish, Ends, IsAct, WorldStep}
use Rattle.runs.proofs.moments.Histories.{calls}
use Rattle.runs.proofs.moments.KeptRequests.{Kept, is_end, is_job, of_requests}

-- ---- steps that begin no request and end none

abbrev pub requests_stay : Move → Bool
requests_stay (Act e r) = not (is_job r)
requests_stay (Call t fault effect) = false
requests_stay (Finish t r) = false

no_job : (r : Reply) → not (is_job r) ≡ true → is_job r ≡ false
no_job (reply.Job t) e = absurd cc
no_job _ e = refl

-- an end that comes as an event ends none
act_ends_none : (e : Event) (r : Reply) → IsAct e r → is_end e r ≡ false
act_ends_none (event.End kind end) r h =
    (let a : is_end (event.End kind end) r ≡ is_end (event.End kind end) (reply.Refused Stranger) =
    ap (is_end (event.End kind end)) h in a)
act_ends_none _ r h = refl

-- an event that does not answer with a job keeps the requests, but for those that it drops
pub event_kept : (w new : World) (e : Event) (r : Reply) → is_job r ≡ false → WorldStep w (Act e r) new
    → Kept w.core new.core
event_kept w new e r j m = (of_requests w.core new.core e r m.1.0).kept j (act_ends_none e r m.0)

-- an event changes the core, and what is noted of the writes in flight
pub only_core : (w new : World) (e : Event) (r : Reply) → WorldStep w (Act e r) new
    → new ≡ record w { core = new.core; writing = new.writing }
only_core w new e r m =
    m.1.1 ∙ (λ i. record w { core = new.core; writing = sym (ap (λ (x : World). x.writing) m.1.1) i })

pub quiet_requests : (w new : World) (move : Move) → requests_stay move ≡ true → WorldStep w move new
    → w.core.requests ≡ finmap.empty → new.core.requests ≡ finmap.empty
quiet_requests w new (Act e r) q m none = finmap.empty_of_len new.core.requests
    ((event_kept w new e r (no_job r q) m).len ∙ ap finmap.len none ∙ len-empty nat_cmp Request)
quiet_requests w new (Call t fault effect) q m none = absurd cc
quiet_requests w new (Finish t r) q m none = absurd cc

-- ---- a request begins

pub record Begins (w new : World) (t : ℕ) : Type 0 where
  pub request : Request
  pub serial : t ≡ w.core.next
  pub requests : new.core.requests ≡ finmap.insert w.core.requests t request
  pub outcomes : new.outcomes ≡ w.outcomes
  pub next : new.core.next ≡ w.core.next + 1
  pub room : w.core.next < SERIAL_END

second_false : (a b : Bool) → (a || b) ≡ false → b ≡ false
second_false true b e = absurd cc
second_false false b e = e

has_serial : (s : State) → is_full s ≡ false → s.next < SERIAL_END
has_serial s e = let a = second_false (nat_le MAX_IN_FLIGHT (finmap.len s.requests)) (nat_le SERIAL_END s.next) e in
    grind (arith, nat_tests)

pub begins : (w new : World) (e : Event) (t : Serial) → WorldStep w (Act e (reply.Job t)) new → Begins w new t.0
begins w new e t m =
    let b = (of_requests w.core new.core e (reply.Job t) m.1.0).begun t refl in
    record {
      request = b.x;
      serial = b.serial;
      requests = b.requests ∙ ap (λ u. finmap.insert w.core.requests u b.x) (sym b.serial);
      outcomes = ap (λ x. x.outcomes) (only_core w new e (reply.Job t) m);
      next = b.next;
      room = has_serial w.core b.room;
    }

-- ---- a request ends

-- the end of a request, as a step of the cache
pub record EndStep (w new : World) (t : ℕ) (r : Reply) : Type 0 where
  pub x : Request
  pub call : Outcome
  pub step : Step w.core (event.End x.kind (own_end w.core t x call)) r new.core
  pub outcomes : new.outcomes ≡ finmap.remove w.outcomes t

end_step : (w new : World) (t : ℕ) (r : Reply) (q : Option Request) (o : Option Outcome) → Ends w t q o r new
    → EndStep w new t r
end_step w new t r (Some x) (Some call) h =
    record { x = x; call = call; step = h.0; outcomes = ap (λ (v : World). v.outcomes) h.1 }
end_step w new t r (Some x) None h = absurd h
end_step w new t r None o h = absurd h

pub finish_step : (w new : World) (t : ℕ) (r : Reply) → WorldStep w (Finish t r) new → EndStep w new t r
finish_step w new t r m = end_step w new t r (finmap.get w.core.requests t) (finmap.get w.outcomes t) m

ended_syncs : (s : State) (t : ℕ) (x : Request) (o : Outcome) (r : Reply)
    → (request_ended s t (Some x) o r).syncs ≡ s.syncs
ended_syncs s t x o reply.Dropped = refl
ended_syncs s t x (outcome.Fault c) (reply.Failed d) = go (is_flush x.kind)
  where
    go : (b : Bool) → (cond b (flush_failed (ended s t) x c) (ended s t)).syncs ≡ s.syncs
    go true = refl
    go false = refl
ended_syncs s t x (outcome.Read b) reply.Filled = refl
ended_syncs s t x outcome.Written reply.Written = refl
ended_syncs s t x o _ = refl

-- what its end leaves, where it is not refused
pub record Finishes (w new : World) (t : ℕ) : Type 0 where
  pub requests : new.core.requests ≡ finmap.remove w.core.requests t
  pub outcomes : new.outcomes ≡ finmap.remove w.outcomes t
  pub next : new.core.next ≡ w.core.next
  pub syncs : new.core.syncs ≡ w.core.syncs

-- an end is refused and leaves the cache, or it goes through
pub ends_or_stays : (w new : World) (t : ℕ) (r : Reply) → WorldStep w (Finish t r) new
    → ((r ≡ reply.Refused Stranger) × (new.core ≡ w.core)) ⊎ Finishes w new t
ends_or_stays w new t r m =
    let e = finish_step w new t r m in
    let end = own_end w.core t e.x e.call in
    elim (of_end w.core e.x.kind end r new.core e.step) [
      | inl same ↦ inl (same.1, same.2)
      | inr a ↦ (let over = (of_requests w.core new.core (event.End e.x.kind end) r e.step).over
          (ap not (end_loud (Some a.x) e.call r a.reply)) e.x.kind end refl in
          inr (record {
            requests = over.requests;
            outcomes = e.outcomes;
            next = over.next;
            syncs = ap (λ (s : State). s.syncs) a.is ∙ ended_syncs w.core t a.x e.call r;
          }))
    ]

pub finishes : (w new : World) (t : ℕ) (r : Reply) → r ≢ reply.Refused Stranger → WorldStep w (Finish t r) new
    → Finishes w new t
finishes w new t r answered m =
    elim (ends_or_stays w new t r m) [ inl same ↦ absurd (answered same.0) | inr f ↦ f ]

-- ---- the next serial

abbrev pub begins_none : Move → Bool
begins_none (Act e r) = not (is_job r)
begins_none (Call t fault effect) = true
begins_none (Finish t r) = true

pub call_core : (w new : World) (t : ℕ) (fault : Option ℕ) (effect : Bool) → WorldStep w (Call t fault effect) new
    → new.core ≡ w.core
call_core w new t fault effect m =
    calls w new t (finmap.get w.core.requests t) (finmap.get w.outcomes t) fault effect m

pub next_stays : (w new : World) (move : Move) → begins_none move ≡ true → WorldStep w move new
    → new.core.next ≡ w.core.next
next_stays w new (Act e r) q m = (event_kept w new e r (no_job r q) m).next
next_stays w new (Call t fault effect) q m = ap (λ (s : State). s.next) (call_core w new t fault effect m)
next_stays w new (Finish t r) q m = elim (ends_or_stays w new t r m) [
  | inl same ↦ ap (λ (s : State). s.next) same.1
  | inr f ↦ f.next
]

pub next_rises : (w new : World) (e : Event) (t : Serial) → WorldStep w (Act e (reply.Job t)) new
    → (w.core.next < SERIAL_END) × (new.core.next ≡ w.core.next + 1)
next_rises w new e t m = let b = begins w new e t m in (b.room, b.next)

-- ---- one request from its begin to its end

-- no request is in flight
pub record NoneInFlight (w : World) : Type 0 where
  pub requests : w.core.requests ≡ finmap.empty
  pub outcomes : w.outcomes ≡ finmap.empty

-- request t is in flight, and no other
pub record OneInFlight (w : World) (t : ℕ) : Type 0 where
  pub request : Request
  pub requests : w.core.requests ≡ finmap.insert finmap.empty t request
  pub others : (u : ℕ) → u ≢ t → finmap.get w.outcomes u ≡ None

here : {X : Type 0} (m : FinMap nat_cmp X) (t : ℕ) (x : X) → finmap.get (finmap.insert m t x) t ≡ Some x
here m t x = elim (get_inserted m t x t) [ inl a ↦ a.1 | inr a ↦ absurd (a.0 refl) ]

elsewhere : {X : Type 0} (m : FinMap nat_cmp X) (t : ℕ) (x : X) (u : ℕ) → u ≢ t
    → finmap.get (finmap.insert m t x) u ≡ finmap.get m u
elsewhere m t x u apart = elim (get_inserted m t x u) [ inl a ↦ absurd (apart a.0) | inr a ↦ a.1 ]

pub one_is : (w : World) (t : ℕ) (o : OneInFlight w t) → finmap.get w.core.requests t ≡ Some o.request
one_is w t o = ap (λ m. finmap.get m t) o.requests ∙ here finmap.empty t o.request

pub none_stays : (w new : World) (e : Event) (r : Reply) → is_job r ≡ false → NoneInFlight w → WorldStep w (Act e r) new
    → NoneInFlight new
none_stays w new e r j none m = record {
  requests = quiet_requests w new (Act e r) (ap not j) m none.requests;
  outcomes = ap (λ (x : World). x.outcomes) (only_core w new e r m) ∙ none.outcomes;
}

-- the cache stays, and an outcome of the request is noted
pub one_noted : (w new : World) (t : ℕ) (o : Outcome) → OneInFlight w t → new.core ≡ w.core
    → new.outcomes ≡ finmap.insert w.outcomes t o → OneInFlight new t × (finmap.get new.outcomes t ≡ Some o)
one_noted w new t o one same noted = (
  record {
    request = one.request;
    requests = ap (λ (s : State). s.requests) same ∙ one.requests;
    others = λ u apart. ap (λ m. finmap.get m u) noted ∙ elsewhere w.outcomes t o u apart ∙ one.others u apart;
  },
  ap (λ m. finmap.get m t) noted ∙ here w.outcomes t o,
)

pub one_ends : (w new : World) (t : ℕ) (r : Reply) → r ≢ reply.Refused Stranger → OneInFlight w t
    → WorldStep w (Finish t r) new → NoneInFlight new
one_ends w new t r answered one m =
    let x = finishes w new t r answered m in record {
      requests = x.requests ∙ ap (λ m. finmap.remove m t) one.requests
          ∙ removed (finmap.insert finmap.empty t one.request)
          (λ u apart. elsewhere finmap.empty t one.request u apart ∙ get-empty nat_cmp u);
      outcomes = x.outcomes ∙ removed w.outcomes one.others;
    }
  where
    gone : {X : Type 0} (m : FinMap nat_cmp X) → ((u : ℕ) → u ≢ t → finmap.get m u ≡ None) → (u : ℕ) (o : Option X)
        → finmap.get (finmap.remove m t) u ≡ o → o ≡ None
    gone m none u None e = refl
    gone m none u (Some x) e = let a = get_left m t u x e in sym a.1 ∙ none u a.0

    removed : {X : Type 0} (m : FinMap nat_cmp X) → ((u : ℕ) → u ≢ t → finmap.get m u ≡ None)
        → finmap.remove m t ≡ finmap.empty
    removed m none = same_nat_map _ _
        (λ u. gone m none u (finmap.get (finmap.remove m t) u) refl ∙ sym (get-empty nat_cmp u))
