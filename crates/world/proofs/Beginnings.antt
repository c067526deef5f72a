-- Which events begin a request, and of which kind it is.
use Rattle.std.proofs.Common.{◌≡◌, false, cond, eq-eqb, refl, ap, sym, ◌∙◌}
use Rattle.std.specs.Prelude.{Option, Some, None}
use Rattle.std.specs.FinMap as finmap
use Rattle.pc_types.specs.declared.ids.Serial.{Serial}
use Rattle.pc_types.specs.declared.ids.SyncId.{SyncId}
use Rattle.pc_types.specs.declared.kind.Kind.{Kind}
use Rattle.pc_types.specs.declared.kind.Kind.TheVariants.{Fill, Flush}
use Rattle.machine.specs.declared.event.Event.{Event}
use Rattle.machine.specs.declared.event.Event.TheVariants as event
use Rattle.machine.specs.declared.event.Outcome.{Outcome}
use Rattle.machine.specs.declared.event.Outcome.TheVariants as outcome
use Rattle.machine.specs.declared.event.Reply.{Reply}
use Rattle.machine.specs.declared.event.Reply.TheVariants as reply
use Rattle.machine.specs.State.{State, Request, Sync}
use Rattle.machine.specs.Changes.{sync_stepped}
use Rattle.machine.specs.Step.{Step, MayReply, EndReply, SyncStepReply}
use Rattle.machine.proofs.steps.Cases.{Happened, happened}
use Rattle.maps.proofs.Maps.{get-insert_nat}
use Rattle.runs.proofs.moments.KeptRequests.{is_job, of_requests}

-- the kind of the request that the event may begin
abbrev pub begun_kind : Event → Option Kind
begun_kind (event.FillBegin h p) = Some Fill
begun_kind (event.FlushBegin f) = Some Flush
begun_kind (event.SyncStep m) = Some Flush
begun_kind _ = None

end_begins_none : (o : Option Request) (call : Outcome) (t : Serial) → EndReply o call (reply.Job t) → ⊥
end_begins_none None call t h = h
end_begins_none (Some x) (outcome.Fault c) t h = h
end_begins_none (Some x) (outcome.Read b) t h = h
end_begins_none (Some x) outcome.Written t h = h

begins_none : (s : State) (e : Event) (t : Serial) → begun_kind e ≡ None → MayReply s e (reply.Job t) → ⊥
begins_none s (event.FillBegin h p) t n m = cc
begins_none s (event.FlushBegin f) t n m = cc
begins_none s (event.SyncStep k) t n m = cc
begins_none s (event.End kind end) t n m =
    end_begins_none (finmap.get s.requests end.serial.0) end.outcome t m
begins_none s _ t n m = m

begins : (s new : State) (e : Event) (t : Serial) → Step s e (reply.Job t) new → Happened s e (reply.Job t) new
begins s new e t step = happened s e (reply.Job t) new step refl (λ n o k. cc)

-- any other event answers with no job
pub no_job : (s new : State) (e : Event) (r : Reply) → begun_kind e ≡ None → Step s e r new → is_job r ≡ false
no_job s new e (reply.Job t) n step = absurd (begins_none s e t n (begins s new e t step).may)
no_job s new e _ n step = refl

-- the request that begins is of that kind
module _ (s new : State) (t : Serial) (serial : t.0 ≡ s.next) where
  abbrev IsBegun : Kind → Type 0
  IsBegun kind = (x : Request) × (finmap.get new.requests t.0 ≡ Some x) × (x.kind ≡ kind)

  here : (x : Request) → new.requests ≡ finmap.insert s.requests s.next x → finmap.get new.requests t.0 ≡ Some x
  here x is = ap (λ m. finmap.get m t.0) is ∙ get-insert_nat s.requests s.next x t.0
      ∙ ap (λ b. cond b (Some x) (finmap.get s.requests t.0)) (eq-eqb t.0 s.next serial)

  sync_begins : (m : SyncId) (o : Option Sync) → SyncStepReply s o (reply.Job t)
      → new ≡ sync_stepped s m.0 o (reply.Job t) → IsBegun Flush
  sync_begins m None h is = absurd h
  sync_begins m (Some y) h is = (_, here _ (ap (λ (n : State). n.requests) is), refl)

  pub of_kind : (e : Event) (kind : Kind) → begun_kind e ≡ Some kind → Happened s e (reply.Job t) new → IsBegun kind
  of_kind (event.FillBegin h p) Fill k a = (_, here _ (ap (λ (n : State). n.requests) a.is), refl)
  of_kind (event.FlushBegin f) Flush k a = (_, here _ (ap (λ (n : State). n.requests) a.is), refl)
  of_kind (event.SyncStep m) Flush k a = sync_begins m (finmap.get s.syncs m.0) a.may a.is
  of_kind _ kind k a = absurd cc

pub kind_is : (s new : State) (e : Event) (t : Serial) (kind : Kind) → begun_kind e ≡ Some kind
    → Step s e (reply.Job t) new → (x : Request) → finmap.get new.requests t.0 ≡ Some x → x.kind ≡ kind
kind_is s new e t kind k step x is =
    let a = of_kind s new t ((of_requests s new e (reply.Job t) step).begun t refl).serial e kind k
    (begins s new e t step) in
    let same : a.0 ≡ x = (let both : Some a.0 ≡ Some x = sym a.1 ∙ is in cc) in
    sym (ap (λ (y : Request). y.kind) same) ∙ a.2
