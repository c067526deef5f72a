-- The end of a request is a step of the machine.
use Rattle.std.proofs.Common.{◌≡◌, Bool, true, false, cond, eqb, eqb-true, eq-eqb, refl, ap, sym, subst, ◌∙◌}
use Rattle.std.specs.Prelude.{◌&&◌, Option, Some, None, Ok, Err}
use Rattle.std.specs.FinMap as finmap
use Rattle.pc_types.specs.Kinds.{same_kind}
use Rattle.pc_types.specs.declared.refusal.Refusal.TheVariants.{Stranger}
use Rattle.pc_types.specs.declared.kind.Kind.{Kind}
use Rattle.pc_types.specs.declared.kind.Kind.TheVariants.{Fill, Flush}
use Rattle.blockdev.specs.Device as device
use Rattle.blockdev.specs.Jobs.{FinishedTask}
use Rattle.machine.specs.declared.event.Event.TheVariants as event
use Rattle.machine.specs.declared.event.Outcome.{Outcome}
use Rattle.machine.specs.declared.event.Outcome.TheVariants as outcome
use Rattle.machine.specs.declared.event.Reply.{Reply}
use Rattle.machine.specs.declared.event.Reply.TheVariants as reply
use Rattle.machine.specs.State.{State, Request}
use Rattle.machine.specs.Changes as changes
use Rattle.machine.specs.Changes.{ended}
use Rattle.machine.specs.Tests.{fits, is_of, refuse, tests}
use Rattle.machine.specs.Step.{EndReply, Step}
use Rattle.machine.proofs.steps.Choices.{and_true}
use Rattle.writeback.specs.Flights.{of_call}
use Rattle.cachecore.specs.Ending.{request_ended}
use Rattle.cachecore.specs.Replies.{end_of, outcome_of}
use Rattle.cachecore.proofs.StepLemmas.{by_change, by_test}

kind_is : (a b : Kind) → same_kind a b ≡ true → b ≡ a
kind_is Fill Fill e = refl
kind_is Fill Flush e = absurd cc
kind_is Flush Fill e = absurd cc
kind_is Flush Flush e = refl

-- ---- which request a job ends

-- it is of this cache, and a request of this kind
pub record Ends (s : State) (kind : Kind) (f : FinishedTask) (x : Request) : Type 0 where
  pub cache : f.cache ≡ s.name
  pub job : f.kind ≡ kind
  pub found : finmap.get s.requests f.serial ≡ Some x
  pub kind_is : x.kind ≡ kind
  pub block : f.block ≡ x.block

module _ (s : State) (kind : Kind) (f : FinishedTask) where
  abbrev ours : Bool
  ours = eqb f.cache s.name && same_kind kind f.kind

  ends_by : (b : Bool) → ours ≡ b → (o : Option Request) → finmap.get s.requests f.serial ≡ o → (x : Request)
      → cond b (of_call kind f.block o) None ≡ Some x → Ends s kind f x
  ends_by false e o found x is = absurd cc
  ends_by true e None found x is = absurd cc
  ends_by true e (Some y) found x is = go (same_kind kind y.kind && eqb f.block y.block) refl is
    where
      go : (b : Bool) → (same_kind kind y.kind && eqb f.block y.block) ≡ b → cond b (Some y) None ≡ Some x → Ends s kind f x
      go false k h = absurd cc
      go true k h =
          let parts = and_true (eqb f.cache s.name) (same_kind kind f.kind) e in
          let call = and_true (same_kind kind y.kind) (eqb f.block y.block) k in
          let same : y ≡ x = cc in
          record {
            cache = eqb-true f.cache s.name parts.0;
            job = kind_is kind f.kind parts.1;
            found = found ∙ ap Some same;
            kind_is = ap (λ (r : Request). r.kind) (sym same) ∙ kind_is kind y.kind call.0;
            block = eqb-true f.block y.block call.1 ∙ ap (λ (r : Request). r.block) same;
          }

  -- of the request that the code found
  pub known : (x : Request) → Some x ≡ request_ended s.name s.requests kind f → Ends s kind f x
  known x told = ends_by ours refl (finmap.get s.requests f.serial) refl x (sym told)

  -- ---- where there is none

  -- what is of the machine's test is of the code's
  ends_none : (b : Bool) (o : Option Request) → cond b (of_call kind f.block o) None ≡ None → (a : Bool)
      → (a && is_of kind (end_of f) o) ≡ true → b ≡ (a && same_kind kind f.kind) → ⊥
  ends_none b None is a t same = go a t
    where
      go : (a : Bool) → (a && false) ≡ true → ⊥
      go true e = cc
      go false e = cc
  ends_none b (Some x) is a t same =
      let kinds = same_kind kind f.kind && same_kind kind x.kind in
      let w = and_true a (kinds && eqb f.block x.block && fits kind (end_of f).outcome) t in
      let v = and_true (kinds && eqb f.block x.block) (fits kind (end_of f).outcome) w.1 in
      let z = and_true kinds (eqb f.block x.block) v.0 in
      let u = and_true (same_kind kind f.kind) (same_kind kind x.kind) z.0 in
      let on : b ≡ true = same ∙ (λ i. w.0 i && u.0 i) in
      let clash : Some x ≡ None = sym (λ i. cond (on i) (cond (u.1 i && z.1 i) (Some x) None) None) ∙ is in
      cc

  pub stranger_step : None ≡ request_ended s.name s.requests kind f → Step s (event.End kind (end_of f)) (reply.Refused Stranger) s
  stranger_step none = by_test s (event.End kind (end_of f)) (reply.Refused Stranger) (go passes refl)
    where
      passes : Bool
      passes = eqb f.cache s.name && is_of kind (end_of f) (finmap.get s.requests f.serial)

      go : (b : Bool) → passes ≡ b → cond b None (refuse Stranger) ≡ Some (reply.Refused Stranger)
      go false e = refl
      go true e = absurd (ends_none ours (finmap.get s.requests f.serial) (sym none) (eqb f.cache s.name) e refl)

-- ---- where there is one

module _ (s : State) (kind : Kind) (f : FinishedTask) (x : Request) (e : Ends s kind f x) where
  no_test : tests s (event.End kind (end_of f)) ≡ None
  no_test =
      (λ i. cond (eq-eqb f.cache s.name e.cache i
      && is_of kind (record (end_of f) {
        kind = e.job i;
        block = record { 0 = e.block i };
        outcome = outcome_of (e.job i) f.outcome f.bytes;
      }) (e.found i)) None (refuse Stranger))
      ∙ (λ i. cond (same_kind kind kind && same_kind kind (e.kind_is i) && eq-eqb x.block x.block refl i
      && fits kind (outcome_of kind f.outcome f.bytes)) None (refuse Stranger))
      ∙ passes kind f.outcome
    where
      passes : (k : Kind) (o : device.Outcome)
          → cond (same_kind k k && same_kind k k && true && fits k (outcome_of k o f.bytes)) None (refuse Stranger) ≡ None
      passes Fill (Ok u) = refl
      passes Fill (Err c) = refl
      passes Flush (Ok u) = refl
      passes Flush (Err c) = refl

  -- by how the call went
  pub end_step : (o : Outcome) → outcome_of kind f.outcome f.bytes ≡ o → (r : Reply) (new : State)
      → EndReply (Some x) o r → new ≡ changes.request_ended s f.serial (Some x) o r
      → Step s (event.End kind (end_of f)) r new
  end_step o went r new may is =
      let same : (end_of f).outcome ≡ o = ap (λ k. outcome_of k f.outcome f.bytes) e.job ∙ went in
      by_change s (event.End kind (end_of f)) r new no_test
      (subst (λ q. EndReply q (end_of f).outcome r) (sym e.found) (subst (λ q. EndReply (Some x) q r) (sym same) may))
      (is ∙ (λ i. changes.request_ended s f.serial (sym e.found i) (sym same i) r))

  -- one that is dropped
  pub dropped_step : x.dropped ≡ true → (new : State) → new ≡ ended s f.serial
      → Step s (event.End kind (end_of f)) reply.Dropped new
  dropped_step dropped new is = go (outcome_of kind f.outcome f.bytes) refl
    where
      go : (o : Outcome) → outcome_of kind f.outcome f.bytes ≡ o → Step s (event.End kind (end_of f)) reply.Dropped new
      go (outcome.Fault c) went = end_step (outcome.Fault c) went reply.Dropped new dropped is
      go (outcome.Read b) went = end_step (outcome.Read b) went reply.Dropped new dropped is
      go outcome.Written went = end_step outcome.Written went reply.Dropped new dropped is
