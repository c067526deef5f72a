-- Steps that are made one after the other, and the run that they are: what `play` leaves is what a run of its steps leads to,
-- without those that were refused and changed nothing.
use Rattle.std.proofs.Common.{◌≡◌, ℕ, ◌++◌, List, [], ◌∷◌, Bool, true, false, refl, ap, sym, subst, ◌∙◌, inl, inr, map}
use Rattle.std.specs.Prelude.{◌||◌, Option, Some, None, is_some, IfSome, Ok, Err}
use Rattle.std.specs.List.{list_any}
use Rattle.std.specs.FinMap as finmap
use Rattle.pc_types.specs.declared.ids.Serial.{Serial}
use Rattle.pc_types.specs.declared.kind.Kind.{Kind}
use Rattle.pc_types.specs.declared.kind.Kind.TheVariants.{Fill, Flush}
use Rattle.pc_types.specs.declared.refusal.Refusal.TheVariants.{Memory, Stranger}
use Rattle.blockdev.specs.Device.{Told, Outcome, with_block}
use Rattle.blockdev.specs.Jobs.{Transfers}
use Rattle.machine.specs.declared.event.Event.{Event}
use Rattle.machine.specs.declared.event.Event.TheVariants as event
use Rattle.machine.specs.declared.event.Outcome.{Outcome as Noted}
use Rattle.machine.specs.declared.event.Reply.{Reply}
use Rattle.machine.specs.declared.event.Reply.TheVariants as reply
use Rattle.machine.specs.State.{State, Request, Sync, first_awaited}
use Rattle.machine.specs.Changes.{changed, sync_pick}
use Rattle.machine.specs.Step.{Step as MachineStep, MayReply, SyncReply, SyncStepReply}
use Rattle.machine.specs.Tests.{tests}
use Rattle.machine.proofs.steps.Cases.{answered}
use Rattle.machine.proofs.steps.Ends.{end_loud}
use Rattle.runs.specs.World.{Move, World, WorldStep, Acts}
use Rattle.runs.specs.Runs.{Run, last}
use Rattle.world.proofs.StepKinds.{comes_to, is_made}
use Rattle.world.specs.declared.step.Step.{Step}
use Rattle.world.specs.declared.step.Step.TheVariants as step
use Rattle.world.specs.Stepping.{WorldSeen, world_of, move_of, CallReply, EndReply, Steps, Plays}

-- ---- the run of the steps that were made

-- what one step leaves in a run
abbrev pub Leaves : Bool → Step → Reply → List Move → Type 0
Leaves true s r moves = (fault : Option ℕ) × (effect : Bool) × (moves ≡ move_of s r fault effect ∷ [])
Leaves false s r moves = moves ≡ []

-- the moves are those of the steps that were made, with their replies
abbrev pub Follow : List Step → List Reply → List Move → Type 0
Follow [] [] moves = moves ≡ []
Follow (s ∷ ss) (r ∷ rs) moves =
    (first : List Move) × (rest : List Move) × (moves ≡ first ++ rest) × Leaves (is_made s r) s r first
    × Follow ss rs rest
Follow _ _ moves = ⊥

-- a run of these steps leads from w to v
abbrev pub LeadsTo : World → List Step → List Reply → World → Type 0
LeadsTo w ss rs v =
    (run : List (Move × World)) × Run w run × Follow ss rs (map (λ x. x.0) run) × (last w run ≡ v)

abbrev pub is_call : Step → Bool
is_call (step.Call t) = true
is_call _ = false

-- the device tells its contents where one of the steps is a device call
abbrev pub TellsForCalls : List Step → Told → Type 0
TellsForCalls ss d = list_any is_call ss ≡ true → is_some d.contents ≡ true

-- one more step after those that were made
pub plays-snoc : (ss : List Step) (rs : List Reply) (a b c : WorldSeen) (s : Step) (r : Reply) → Plays a ss rs b
    → Steps b s r c → Plays a (ss ++ s ∷ []) (rs ++ r ∷ []) c
plays-snoc [] [] a b c s r p q = (c, subst (λ x. Steps x s r c) p q, refl)
plays-snoc [] (r' ∷ rs) a b c s r p q = absurd p
plays-snoc (s' ∷ ss) [] a b c s r p q = absurd p
plays-snoc (s' ∷ ss) (r' ∷ rs) a b c s r p q = (p.0, p.1, plays-snoc ss rs p.0 b c s r p.2 q)

-- ---- a step that was not made

-- an event that is refused memory leaves the state
no_memory : (s : State) (e : Event) → MayReply s e (reply.Refused Memory) → changed s e (reply.Refused Memory) ≡ s
no_memory s event.Create m = refl
no_memory s (event.Open f) m = refl
no_memory s (event.Write h o b) m = refl
no_memory s (event.Append h b) m = refl
no_memory s (event.FillBegin h p) m = refl
no_memory s (event.End kind end) m =
    absurd (let k : true ≡ false = end_loud (finmap.get s.requests end.serial.0) end.outcome (reply.Refused Memory) m in
    cc)
no_memory s (event.SyncStep n) m = absurd (no_start (finmap.get s.syncs n.0) m)
  where
    goes_on : (y : Sync) (pick : Option ℕ) (e : Option (ℕ × Request)) → SyncReply s y pick e (reply.Refused Memory) → ⊥
    goes_on y (Some p) e h = h
    goes_on y None (Some e) h = h
    goes_on y None None h = h

    no_start : (o : Option Sync) → SyncStepReply s o (reply.Refused Memory) → ⊥
    no_start None h = h
    no_start (Some y) h = goes_on y (sync_pick s y) (first_awaited s y) h
no_memory s _ m = absurd m

left_alone : (s new : State) (e : Event) → MachineStep s e (reply.Refused Memory) new → new ≡ s
left_alone s new e h = elim (answered (tests s e) s e (reply.Refused Memory) new h) [
  | inl a ↦ a.1
  | inr a ↦ a.2 ∙ no_memory s e a.1
]

same_world : (old new : WorldSeen) (e : Event) → Acts (world_of old) e (reply.Refused Memory) (world_of new)
    → world_of new ≡ world_of old
same_world old new e a = a.1 ∙ (λ i. record (world_of old) { core = left_alone old.core new.core e a.0 i })

uncalled : (old new : WorldSeen) (t : ℕ) (q : Option Request) (o : Option Noted)
    → CallReply old t q o (reply.Refused Stranger) new → new ≡ old
uncalled old new t (Some r) None h = absurd (let e = h.0 in cc)
uncalled old new t (Some r) (Some o) h = h.1
uncalled old new t None o h = h.1

unended : (old new : WorldSeen) (t : Serial) (o : Option Noted)
    → EndReply old (step.End t) o (reply.Refused Stranger) new → new ≡ old
unended old new t (Some o) h = absurd (h.1 refl)
unended old new t None h = h.1

-- what was refused changed nothing
unmade : (s : Step) (r : Reply) (old new : WorldSeen) → is_made s r ≡ false → Steps old s r new
    → world_of new ≡ world_of old
unmade (step.Read h o n) (reply.Refused Memory) old new e (inl m) = same_world old new (event.Read h o n) m.0.1
unmade (step.Read h o n) (reply.Refused Memory) old new e (inr m) = ap world_of m.1
unmade (step.FillBegin h p) (reply.Refused Memory) old new e (inl m) = same_world old new (event.FillBegin h p) m.0.1
unmade (step.FillBegin h p) (reply.Refused Memory) old new e (inr m) = ap world_of m.1
unmade (step.FlushBegin f) (reply.Refused Memory) old new e (inl m) = same_world old new (event.FlushBegin f) m.0.1
unmade (step.FlushBegin f) (reply.Refused Memory) old new e (inr m) = ap world_of m.1
unmade (step.SyncStep n) (reply.Refused Memory) old new e (inl m) = same_world old new (event.SyncStep n) m.0.1
unmade (step.SyncStep n) (reply.Refused Memory) old new e (inr m) = ap world_of m.1
unmade (step.Call t) (reply.Refused Stranger) old new e m =
    ap world_of (uncalled old new t.0 (finmap.get old.core.requests t.0) (finmap.get old.outcomes t.0) m)
unmade (step.End t) (reply.Refused Stranger) old new e m =
    ap world_of (unended old new t (finmap.get old.outcomes t.0) m)
unmade (step.Read h o n) r old new e m = absurd (let k : is_made (step.Read h o n) r ≡ false = e in cc)
unmade (step.FillBegin h p) r old new e m = absurd (let k : is_made (step.FillBegin h p) r ≡ false = e in cc)
unmade (step.FlushBegin f) r old new e m = absurd (let k : is_made (step.FlushBegin f) r ≡ false = e in cc)
unmade (step.SyncStep n) r old new e m = absurd (let k : is_made (step.SyncStep n) r ≡ false = e in cc)
unmade (step.Call t) r old new e m = absurd (let k : is_made (step.Call t) r ≡ false = e in cc)
unmade (step.End t) r old new e m = absurd (let k : is_made (step.End t) r ≡ false = e in cc)
unmade s r old new e m = absurd cc

-- ---- a step that was made

-- a step of the world of the definitions
abbrev IsMove : Step → Reply → WorldSeen → WorldSeen → Type 0
IsMove s r old new =
    (fault : Option ℕ) × (effect : Bool) × WorldStep (world_of old) (move_of s r fault effect) (world_of new)

told_so : {A : Type 0} (o : Option A) (Q : Type 0) → is_some o ≡ true → IfSome o (λ _. Q) → Q
told_so None Q e h = absurd cc
told_so (Some x) Q e h = h

made : (s : Step) (r : Reply) (old new : WorldSeen) → is_made s r ≡ true
    → (is_call s ≡ true → is_some old.device.contents ≡ true) → Steps old s r new → IsMove s r old new
made s r old new e t m = elim (comes_to s r old new m) [
  | inl a ↦ (None, true, a.0)
  | inr b ↦ elim b [
    | inl c ↦ absurd (let k = c.1 in cc)
    | inr d ↦ subst (λ x. IsMove x r old new) (sym d.is)
        (told_so old.device.contents _ (t (ap is_call d.is)) d.moves)
  ]
]

-- ---- a device that tells its contents goes on to tell them

tells_with : (o : Option (List (List ℕ))) (b : ℕ) (bytes : List ℕ) → is_some o ≡ true
    → is_some (with_block o b bytes) ≡ true
tells_with None b bytes e = absurd cc
tells_with (Some x) b bytes e = refl

moved : (k : Kind) (old new : Told) (b : ℕ) (before after : List ℕ) (o : Outcome) → Transfers k old b before o after new
    → is_some old.contents ≡ true → is_some new.contents ≡ true
moved Fill old new b before after o h e = ap is_some h.contents ∙ e
moved Flush old new b before after (Ok u) h e = ap is_some h.0.written ∙ tells_with old.contents b before e
moved Flush old new b before after (Err c) h e =
    elim h.0.whole [ inl x ↦ ap is_some x ∙ e | inr x ↦ ap is_some x ∙ tells_with old.contents b before e ]

still_tells : (s : Step) (r : Reply) (old new : WorldSeen) → Steps old s r new → is_some old.device.contents ≡ true
    → is_some new.device.contents ≡ true
still_tells s r old new m e = elim (comes_to s r old new m) [
  | inl a ↦ ap (λ (v : Told). is_some v.contents) a.1 ∙ e
  | inr b ↦ elim b [
    | inl c ↦ ap (λ (v : WorldSeen). is_some v.device.contents) c.0 ∙ e
    | inr d ↦ (let h = d.called in moved h.job.kind old.device new.device h.job.block h.job.bytes h.done.bytes
        h.done.outcome h.performs.call e)
  ]
]

-- ---- the run

or_later : (a b : Bool) → b ≡ true → (a || b) ≡ true
or_later true b e = refl
or_later false b e = e

pub plays_lead : (ss : List Step) (rs : List Reply) (a b : WorldSeen) → Plays a ss rs b → TellsForCalls ss a.device
    → LeadsTo (world_of a) ss rs (world_of b)
plays_lead [] [] a b p t = ([], tt, refl, sym (ap world_of p))
plays_lead [] (r ∷ rs) a b p t = absurd p
plays_lead (s ∷ ss) [] a b p t = absurd p
plays_lead (s ∷ ss) (r ∷ rs) a b p t =
    by_made (is_made s r) refl (plays_lead ss rs p.0 b p.2
    (λ e. still_tells s r a p.0 p.1 (t (or_later (is_call s) (list_any is_call ss) e))))
  where
    by_made : (m : Bool) → is_made s r ≡ m → LeadsTo (world_of p.0) ss rs (world_of b)
        → LeadsTo (world_of a) (s ∷ ss) (r ∷ rs) (world_of b)
    by_made true e rest =
        let x = made s r a p.0 e (λ k. t (ap (λ c. c || list_any is_call ss) k)) p.1 in (
          (move_of s r x.0 x.1, world_of p.0) ∷ rest.0,
          (x.2, rest.1),
          (
            move_of s r x.0 x.1 ∷ [],
            map (λ (y : Move × World). y.0) rest.0,
            refl,
            subst (λ m. Leaves m s r (move_of s r x.0 x.1 ∷ [])) (sym e) (x.0, x.1, refl),
            rest.2,
          ),
          rest.3,
        )
    by_made false e rest = subst (λ w. LeadsTo w (s ∷ ss) (r ∷ rs) (world_of b)) (unmade s r a p.0 e p.1) (
      rest.0,
      rest.1,
      (
        [],
        map (λ (y : Move × World). y.0) rest.0,
        refl,
        subst (λ m. Leaves m s r []) (sym e) refl,
        rest.2,
      ),
      rest.3,
    )
