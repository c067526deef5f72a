-- The end of a request: it is refused, or it goes through, and then its request was in flight.
use Rattle.std.proofs.Common.{◌≡◌, ℕ, true, false, cond, eqb, eq-eqb, refl, ap, sym, subst, ◌∙◌, inl, inr}
use Rattle.std.specs.Prelude.{◌&&◌, ◌⊎◌, Option, Some, None}
use Rattle.std.specs.FinMap as map
use Rattle.pc_types.specs.declared.kind.Kind.{Kind}
use Rattle.pc_types.specs.declared.kind.Kind.TheVariants.{Fill, Flush}
use Rattle.pc_types.specs.declared.refusal.Refusal.TheVariants.{Stranger}
use Rattle.pc_types.specs.Kinds.{same_kind}
use Rattle.machine.specs.declared.event.End.{End}
use Rattle.machine.specs.declared.event.Event.TheVariants as event
use Rattle.machine.specs.declared.event.Outcome.{Outcome}
use Rattle.machine.specs.declared.event.Outcome.TheVariants as outcome
use Rattle.machine.specs.declared.event.Reply.{Reply}
use Rattle.machine.specs.declared.event.Reply.TheVariants as reply
use Rattle.machine.specs.State.{State, Request}
use Rattle.machine.specs.Changes.{request_ended}
use Rattle.machine.specs.Tests.{tests, is_of, fits, refuse}
use Rattle.machine.specs.Step.{Step, AnswersOr, EndReply}
use Rattle.machine.proofs.steps.Choices.{quiet_unless}
use Rattle.machine.proofs.steps.Passed.{MayEnd, may_end}
use Rattle.machine.proofs.steps.Answered.{is_quiet}
use Rattle.machine.proofs.steps.Cases.{answered}

-- an end that goes through has one of four replies
pub end_loud : (o : Option Request) (call : Outcome) (r : Reply) → EndReply o call r → is_quiet r ≡ false
end_loud (Some x) _ reply.Dropped h = refl
end_loud (Some x) (outcome.Fault c) (reply.Failed d) h = refl
end_loud (Some x) (outcome.Read b) reply.Filled h = refl
end_loud (Some x) outcome.Written reply.Written h = refl
end_loud _ _ _ h = absurd h

-- the end of request t, which the cache itself hands in
abbrev pub own_end : State → ℕ → Request → Outcome → End
own_end s t x call = record { cache = s.name; kind = x.kind; serial = record { 0 = t }; block = record { 0 = x.block }; outcome = call }

same_self : (k : Kind) → same_kind k k ≡ true
same_self Fill = refl
same_self Flush = refl

-- no test of it holds, where the outcome fits
pub own_end_passes : (s : State) (t : ℕ) (x : Request) (call : Outcome) → map.get s.requests t ≡ Some x
    → fits x.kind call ≡ true → tests s (event.End x.kind (own_end s t x call)) ≡ None
own_end_passes s t x call is fit =
    λ i. cond (eq-eqb s.name s.name refl i
    && (ap (is_of x.kind (own_end s t x call)) is ∙ (λ j. same_self x.kind j && same_self x.kind j
    && eq-eqb x.block x.block refl j && fit j)) i)
    None (refuse Stranger)

-- the end of request x went through
pub record Ended (s : State) (kind : Kind) (end : End) (r : Reply) (new : State) : Type 0 where
  pub x : Request
  pub untested : tests s (event.End kind end) ≡ None
  pub may : MayEnd s kind end x
  pub reply : EndReply (Some x) end.outcome r
  pub is : new ≡ request_ended s end.serial.0 (Some x) end.outcome r

pub of_end : (s : State) (kind : Kind) (end : End) (r : Reply) (new : State) → Step s (event.End kind end) r new
    → ((tests s (event.End kind end) ≡ Some r) × (r ≡ reply.Refused Stranger) × (new ≡ s)) ⊎ Ended s kind end r new
of_end s kind end r new h = elim (answered (tests s (event.End kind end)) s (event.End kind end) r new h) [
  | inl a ↦ inl (
    a.0,
    quiet_unless (λ y. y ≡ reply.Refused Stranger)
        (eqb end.cache s.name && is_of kind end (map.get s.requests end.serial.0)) (reply.Refused Stranger) refl r a.0,
    a.1,
  )
  | inr a ↦ (let b = may_end s kind end a.0 in
      inr (record {
        x = b.0;
        untested = a.0;
        may = b.1;
        reply = subst (λ o. EndReply o end.outcome r) b.1.is a.1;
        is = a.2 ∙ ap (λ o. request_ended s end.serial.0 o end.outcome r) b.1.is;
      }))
]

-- the same request may be ended by the cache's own end, whatever was handed in, with the same outcome
pub own_step : (s : State) (kind : Kind) (end : End) (r : Reply) (new : State) (e : Ended s kind end r new)
    → Step s (event.End e.x.kind (own_end s end.serial.0 e.x end.outcome)) r new
own_step s kind end r new e =
    let fit : fits e.x.kind end.outcome ≡ true = ap (λ k. fits k end.outcome) e.may.kind_is ∙ e.may.fitting in
    let call = event.End e.x.kind (own_end s end.serial.0 e.x end.outcome) in
    subst (λ o. AnswersOr o s call r new) (sym (own_end_passes s end.serial.0 e.x end.outcome e.may.is fit)) (
      subst (λ o. EndReply o end.outcome r) (sym e.may.is) e.reply,
      e.is ∙ ap (λ o. request_ended s end.serial.0 o end.outcome r) (sym e.may.is),
    )
