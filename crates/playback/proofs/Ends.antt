-- The end of a request whose device call is made just before it.
use Rattle.std.proofs.Common.{◌≡◌, ◌≢◌, ℕ, Bool, true, false, cond, not, eqb, eqb-true, eq-eqb, List, [], refl, ap, sym}
use Rattle.std.proofs.Common.{subst, ◌∙◌, inl, inr}
use Rattle.std.specs.Prelude.{◌⊎◌, ◌&&◌, Option, Some, None, is_some, option_map, Result, Ok, Err, OnOk}
use Rattle.std.specs.Prelude.{OnErr}
use Rattle.std.specs.Ordering.{nat_cmp}
use Rattle.std.specs.FinMap as finmap
use Rattle.std.specs.FinMap.{get-empty}
use Rattle.blockdev.specs.declared.fault.FaultEffect.{FaultEffect}
use Rattle.blockdev.specs.Device as device
use Rattle.blockdev.specs.Device.{Told, with_block}
use Rattle.blockdev.specs.Jobs.{Transfers}
use Rattle.pc_types.specs.declared.ids.BlockNo.{BlockNo}
use Rattle.pc_types.specs.declared.kind.Kind.{Kind}
use Rattle.pc_types.specs.declared.kind.Kind.TheVariants.{Fill, Flush}
use Rattle.pc_types.specs.declared.refusal.Refusal.{Refusal}
use Rattle.pc_types.specs.declared.refusal.Refusal.TheVariants.{Stranger}
use Rattle.machine.specs.declared.event.End.{End}
use Rattle.machine.specs.declared.event.Event.{Event}
use Rattle.machine.specs.declared.event.Event.TheVariants as event
use Rattle.machine.specs.declared.event.Outcome.{Outcome}
use Rattle.machine.specs.declared.event.Reply.{Reply}
use Rattle.machine.specs.declared.event.Reply.TheVariants as reply
use Rattle.machine.specs.State.{State, Request}
use Rattle.machine.specs.Step.{AnswersOr}
use Rattle.machine.specs.Tests.{is_of, refuse, tests}
use Rattle.machine.proofs.steps.Choices.{mapped_some}
use Rattle.machine.proofs.steps.Steady.{steady}
use Rattle.maps.proofs.MapLaws.{same_nat_map}
use Rattle.maps.proofs.Maps.{get-insert_nat, get-remove_nat}
use Rattle.runs.specs.World.{World, Calls, Ends, Finish, WorldStep, device_after, outcome_of}
use Rattle.cachecore.specs.Replies.{answered}
use Rattle.trail.specs.Entries.{end_with, outcome_with}
use Rattle.trail.specs.Honest.{Fate, IsTold, end_made}
use Rattle.trail.proofs.TrailMoves.{called}
use Rattle.world.specs.declared.step.Step.TheVariants as step
use Rattle.world.specs.Stepping.{WorldSeen, CallReply, EndReply, Fails, IsCalled as IsMadeCall, MovesByCall, Steps}
use Rattle.world.specs.Stepping.{failing, world_of}
use Rattle.std.specs.Bool.{OnTrue}
use Rattle.cachecore.specs.Replies.{outcome_of as call_of}
use Rattle.world.specs.Answers.{CameTo, end_says}
use Rattle.world.specs.declared.answers.EndAnswer.{EndAnswer}
use Rattle.world.specs.declared.answers.EndAnswer.TheVariants as answer
use Rattle.world.specs.declared.answers.EndTold.{EndTold}
use Rattle.playback.specs.Playing.{Finishes, IsAgreed, IsCalled, IsReady, RefusesEnd, entry}

-- ---- the device call

kept_some : (f : List (List ℕ) → List (List ℕ)) (o : Option (List (List ℕ))) → is_some (option_map f o) ≡ is_some o
kept_some f None = refl
kept_some f (Some x) = refl

told_still : (k : Kind) (old new : Told) (block : ℕ) (before after : List ℕ) (r : device.Outcome)
    → Transfers k old block before r after new → is_some old.contents ≡ true → is_some new.contents ≡ true
told_still Fill old new block before after r h s = ap is_some h.contents ∙ s
told_still Flush old new block before after (Ok u) h s =
    ap is_some h.0.written ∙ kept_some _ old.contents ∙ s
told_still Flush old new block before after (Err c) h s = elim h.0.whole [
  | inl same ↦ ap is_some same ∙ s
  | inr changed ↦ ap is_some changed ∙ kept_some _ old.contents ∙ s
]

if_some : {A : Type 0} (o : Option A) (Q : Type 0) → is_some o ≡ true → Rattle.std.specs.Prelude.IfSome o (λ _. Q) → Q
if_some None Q s h = absurd cc
if_some (Some x) Q s h = h

by_reply : (old new : WorldSeen) (t : ℕ) (q : Option Request) (o : Option Outcome) → is_some old.device.contents ≡ true
    → CallReply old t q o reply.Done new → IsCalled old t new
by_reply old new t (Some x) None s h =
    let c = h.1 in (
      if_some old.device.contents (MovesByCall old t new) s h.2,
      told_still c.job.kind old.device new.device c.job.block c.job.bytes c.done.bytes c.done.outcome c.performs.call s,
    )
by_reply old new t (Some x) (Some y) s h = absurd (let e = h.0 in cc)
by_reply old new t None o s h = absurd (let e = h.0 in cc)

pub by_call : (old new : WorldSeen) (t : ℕ) (r : Result (Unit {0}) Refusal) → is_some old.device.contents ≡ true
    → Steps old (step.Call (record { 0 = t })) (answered (λ _. reply.Done) r) new → OnOk r (IsCalled old t new)
by_call old new t (Ok u) s h = by_reply old new t (finmap.get old.core.requests t) (finmap.get old.outcomes t) s h
by_call old new t (Err why) s h = tt

pub by_fail : (old new : WorldSeen) (t code : ℕ) (effect : FaultEffect) (r : Result (Unit {0}) Refusal)
    → is_some old.device.contents ≡ true → Fails old t code effect r new → OnOk r (IsCalled old t new)
by_fail old new t code effect (Ok u) s h =
    by_reply (failing old code effect) new t (finmap.get old.core.requests t) (finmap.get old.outcomes t) s h
by_fail old new t code effect (Err why) s h = tt

-- ---- the end

no_outcome : (name : ℕ) (w : WorldSeen) → IsReady name w → (t : ℕ) → finmap.get w.outcomes t ≡ None
no_outcome name w ready t = ap (λ m. finmap.get m t) ready.outcomes ∙ get-empty {X = Outcome} nat_cmp t

record IsCall (w new : World) (t : ℕ) (fate : Fate) : Type 0 where
  pub x : Request
  pub is : finmap.get w.core.requests t ≡ Some x
  pub new_is : new ≡ called w t x fate

call_is : (w new : World) (t : ℕ) (fate : Fate) (q : Option Request) (o : Option Outcome)
    → finmap.get w.core.requests t ≡ q → Calls w t q o fate.fault fate.lasts new → IsCall w new t fate
call_is w new t fate (Some x) None is h = record { x = x; is = is; new_is = h }
call_is w new t fate (Some x) (Some y) is h = absurd h
call_is w new t fate None o is h = absurd h

-- what is noted and then forgotten leaves nothing
forgotten : (m : finmap.FinMap nat_cmp Outcome) (t : ℕ) (o : Outcome) → finmap.get m t ≡ None
    → finmap.remove (finmap.insert m t o) t ≡ m
forgotten m t o none = same_nat_map _ _ (λ u. get-remove_nat (finmap.insert m t o) t u
    ∙ ap (cond (eqb u t) None) (get-insert_nat m t o u) ∙ go u (eqb u t) refl)
  where
    go : (u : ℕ) (k : Bool) → eqb u t ≡ k → cond k None (cond k (Some o) (finmap.get m u)) ≡ finmap.get m u
    go u true e = sym (ap (finmap.get m) (eqb-true u t e) ∙ none)
    go u false e = refl

here : (m : finmap.FinMap nat_cmp Outcome) (t : ℕ) (o : Outcome) → finmap.get (finmap.insert m t o) t ≡ Some o
here m t o = get-insert_nat m t o t ∙ ap (λ b. cond b (Some o) (finmap.get m t)) (eq-eqb t t refl)

module _ (name : ℕ) (old mid new : WorldSeen) (ready : IsReady name old) (t : ℕ) (made : IsCalled old t mid)
    (k : Kind) (block : BlockNo) (o : Outcome) (r : Reply)
    (kind : option_map (λ (x : Request). x.kind) (finmap.get mid.core.requests t) ≡ Some k)
    (at : option_map (λ (x : Request). x.block) (finmap.get mid.core.requests t) ≡ Some block.0)
    (call : finmap.get mid.outcomes t ≡ Some o)
    (ended : EndReply mid (step.End (record { 0 = t })) (finmap.get mid.outcomes t) r new) where
  abbrev w : World
  w = world_of old

  abbrev fate : Fate
  fate = record { fault = made.0.0; lasts = made.0.1 }

  c : IsCall w (world_of mid) t fate
  c = call_is w (world_of mid) t fate (finmap.get w.core.requests t) (finmap.get w.outcomes t) refl made.0.2

  abbrev noted : Outcome
  noted = outcome_of w c.x fate.fault

  end_is_made : (q : Option Outcome) → q ≡ Some o → EndReply mid (step.End (record { 0 = t })) q r new
      → WorldStep (world_of mid) (Finish t r) (world_of new) × (new.device ≡ mid.device)
  end_is_made (Some p) e h = (h.0.0, h.0.1)
  end_is_made None e h = absurd cc

  finishes : WorldStep (world_of mid) (Finish t r) (world_of new) × (new.device ≡ mid.device)
  finishes = end_is_made (finmap.get mid.outcomes t) call ended

  ends : Ends (called w t c.x fate) t (Some c.x) (Some noted) r (world_of new)
  ends = subst (λ (z : Option Request × Option Outcome). Ends (called w t c.x fate) t z.0 z.1 r (world_of new))
      (λ i. (c.is i, here w.outcomes t noted i))
      (subst (λ v. WorldStep v (Finish t r) (world_of new)) c.new_is finishes.0)

  outcome : o ≡ noted
  outcome =
      let e : Some o ≡ Some noted = sym call ∙ ap (λ (v : World). finmap.get v.outcomes t) c.new_is
      ∙ here w.outcomes t noted in cc

  kind_is : c.x.kind ≡ k
  kind_is =
      let e : Some c.x.kind ≡ Some k = ap (option_map (λ (x : Request). x.kind)) (sym c.is)
      ∙ ap (λ (v : World). option_map (λ (x : Request). x.kind) (finmap.get v.core.requests t)) (sym c.new_is) ∙ kind in
      cc

  block_is : c.x.block ≡ block.0
  block_is =
      let e : Some c.x.block ≡ Some block.0 = ap (option_map (λ (x : Request). x.block)) (sym c.is)
      ∙ ap (λ (v : World). option_map (λ (x : Request). x.block) (finmap.get v.core.requests t)) (sym c.new_is) ∙ at in
      cc

  abbrev end : End
  end = record { cache = name; kind = k; serial = record { 0 = t }; block = block; outcome = o }

  same_event : event.End c.x.kind (record {
    cache = w.core.name;
    kind = c.x.kind;
    serial = record { 0 = t };
    block = record { 0 = c.x.block };
    outcome = noted;
  }) ≡ event.End k end
  same_event = λ i. event.End (kind_is i) (record {
    cache = ready.name i;
    kind = kind_is i;
    serial = record { 0 = t };
    block = record { 0 = block_is i };
    outcome = sym outcome i;
  })

  steps : Rattle.machine.specs.Step.Step old.core (event.End k end) r new.core
  steps = subst (λ e. Rattle.machine.specs.Step.Step old.core e r new.core) same_event ends.0

  new_is : world_of new ≡ record w {
    core = new.core;
    device = device_after w t c.x fate.fault fate.lasts;
    writing = finmap.remove w.writing t;
  }
  new_is = ends.1 ∙ (λ i. record w {
    core = new.core;
    device = device_after w t c.x fate.fault fate.lasts;
    outcomes = forgotten w.outcomes t noted (no_outcome name old ready t) i;
    writing = finmap.remove w.writing t;
  })

  pub ended_told : (made_it : end_made (event.End k end) r ≡ Some end)
      → IsAgreed name old (entry (event.End k end) r) new
  ended_told made_it = (
    (
      fate,
      subst (λ q. IsTold (λ _. fate) w (entry (event.End k end) r) q (world_of new)) (sym made_it)
          (c.x, c.is, (outcome, steps, new_is)),
    ),
    record {
      name = (steady old.core (event.End k end) r new.core steps).name ∙ ready.name;
      outcomes = ap (λ (v : World). v.outcomes) new_is ∙ ready.outcomes;
      contents = ap (λ (d : Told). is_some d.contents) finishes.1 ∙ made.1;
    },
  )

said : (k : Kind) (end : End) (a : EndAnswer) → end_made (event.End k end) (end_says a) ≡ Some end
said k end answer.Dropped = refl
said k end (answer.FillFailed code) = refl
said k end (answer.FlushFailed file code) = refl
said k end answer.Filled = refl
said k end answer.Written = refl

pub finishes_so : (mid new : WorldSeen) (k : Kind) (end : End) (bytes : List ℕ) (told : Reply) (x : EndTold) (b : Bool)
    → EndReply mid (step.End end.serial) (finmap.get mid.outcomes end.serial.0) (end_says x.answer) new
    → CameTo mid end.serial.0 x → OnTrue b (x.kind ≡ k) → OnTrue b (x.block ≡ end.block)
    → OnTrue b (call_of x.kind x.outcome x.buffer ≡ outcome_with end.outcome bytes)
    → OnTrue b (end_says x.answer ≡ told) → OnTrue b (Finishes mid k end bytes told new)
finishes_so mid new k end bytes told x false ended came kind at call said_so = tt
finishes_so mid new k end bytes told x true ended came kind at call said_so = λ name old ready made cache own.
    let o = call_of x.kind x.outcome x.buffer in
    let its : End = record { cache = name; kind = x.kind; serial = end.serial; block = x.block; outcome = o } in
    let a = ended_told name old mid new ready end.serial.0 made x.kind x.block o (end_says x.answer) came.0 came.1 came.2 ended
    (said x.kind its x.answer) in
    subst (λ e. IsAgreed name old e new)
    (λ i. entry (event.End (kind i) (record {
      cache = sym cache i;
      kind = (kind ∙ sym own) i;
      serial = end.serial;
      block = at i;
      outcome = call i;
    })) (said_so i)) a

pub lifted : {A B : Type 0} (b : Bool) → (A → B) → OnTrue b A → OnTrue b B
lifted false f a = tt
lifted true f a = f a

-- ---- an end that is refused

tested : (s : State) (a b : Bool) → a ≡ false ⊎ b ≡ false → cond (a && b) None (refuse Stranger) ≡ refuse Stranger
tested s true true (inl e) = absurd cc
tested s true true (inr e) = absurd cc
tested s true false e = refl
tested s false b e = refl

-- it is of another cache
pub other_cache : (name : ℕ) (old : WorldSeen) → IsReady name old → (end : End) → end.cache ≢ name
    → RefusesEnd old end old
other_cache name old ready end n = (
  λ kind bytes. tested old.core (eqb end.cache old.core.name) _
      (inl (Rattle.std.proofs.lemmas.Bool.ne_eqb end.cache old.core.name (λ e. n (e ∙ ready.name)))),
  refl,
)

-- or no such request is in flight
no_request : (name : ℕ) (old new : WorldSeen) (t : ℕ) (q : Option Request) (o : Option Outcome) (why : Refusal)
    → o ≡ None → CallReply old t q o (reply.Refused why) new → (q ≡ None) × (new ≡ old)
no_request name old new t None o why e h = (refl, h.1)
no_request name old new t (Some x) None why e h = absurd (let i = h.0 in cc)
no_request name old new t (Some x) (Some y) why e h = absurd cc

pub not_called : (name : ℕ) (old new : WorldSeen) → IsReady name old → (end : End) (r : Result (Unit {0}) Refusal)
    → Rattle.std.specs.Prelude.is_ok r ≡ false
    → Steps old (step.Call end.serial) (answered (λ _. reply.Done) r) new → RefusesEnd old end new
not_called name old new ready end (Ok u) e h = absurd cc
not_called name old new ready end (Err why) e h =
    let t = end.serial.0 in
    let a = no_request name old new t (finmap.get old.core.requests t) (finmap.get old.outcomes t) why
    (no_outcome name old ready t) h in (
      λ kind bytes. tested old.core (eqb end.cache old.core.name) (is_of kind (end_with end bytes) (finmap.get old.core.requests t))
          (inr (ap (is_of kind (end_with end bytes)) a.0)),
      a.1,
    )

pub refused_told : (name : ℕ) (old new : WorldSeen) → IsReady name old → (end : End) → RefusesEnd old end new
    → (kind : Kind) (bytes : List ℕ)
    → IsAgreed name old (entry (event.End kind (end_with end bytes)) (reply.Refused Stranger)) new
refused_told name old new ready end h kind bytes =
    let e = event.End kind (end_with end bytes) in
    subst (λ v. IsAgreed name old (entry e (reply.Refused Stranger)) v) (sym h.1) (
      (
        record { fault = None; lasts = false },
        (
          subst (λ o. AnswersOr o old.core e (reply.Refused Stranger) old.core) (sym (h.0 kind bytes)) (refl, refl),
          refl,
        ),
      ),
      ready,
    )
