-- An event that is no end, as a step of the world.
use Rattle.std.proofs.Common.{◌≡◌, ◌≢◌, ℕ, Bool, true, false, List, refl, ap, sym, subst, ◌∙◌, inl, inr}
use Rattle.std.specs.Prelude.{◌⊎◌, Some, None, is_some}
use Rattle.std.specs.FinMap as finmap
use Rattle.pc_types.specs.declared.ids.HandleId.{HandleId}
use Rattle.pc_types.specs.declared.refusal.Refusal.TheVariants.{Memory}
use Rattle.machine.specs.declared.event.Event.{Event}
use Rattle.machine.specs.declared.event.Event.TheVariants as event
use Rattle.machine.specs.declared.event.Reply.{Reply}
use Rattle.machine.specs.declared.event.Reply.TheVariants as reply
use Rattle.machine.proofs.steps.Steady.{steady}
use Rattle.runs.specs.World.{World, Act, WorldStep}
use Rattle.trail.specs.Entries.{event_with, reply_with}
use Rattle.trail.specs.Honest.{Fate, IsTold, end_made}
use Rattle.world.specs.declared.step.Step.{Step}
use Rattle.world.specs.declared.step.Step.TheVariants as step
use Rattle.world.specs.Stepping.{WorldSeen, IsMade, IsNotMade, Steps, move_of, world_of}
use Rattle.playback.specs.Playing.{IsActed, IsAgreed, IsReady, IsStepOf, entry, is_ending, is_plain, wants_no_memory}

unwanted : (old new : WorldSeen) (s : Step) (r : Reply) → wants_no_memory r ≡ true
    → IsMade old s r new ⊎ IsNotMade old Memory r new → IsMade old s r new
unwanted old new s r w (inl m) = m
unwanted old new s r w (inr m) = absurd (let e : false ≡ true = sym (ap wants_no_memory m.0) ∙ w in cc)

made : (old new : WorldSeen) (s : Step) (r : Reply) → is_plain s ≡ true → wants_no_memory r ≡ true → Steps old s r new
    → IsMade old s r new
made old new (step.Read h o n) r p w m = unwanted old new (step.Read h o n) r w m
made old new (step.FillBegin h q) r p w m = unwanted old new (step.FillBegin h q) r w m
made old new (step.FlushBegin f) r p w m = unwanted old new (step.FlushBegin f) r w m
made old new (step.SyncStep n) r p w m = unwanted old new (step.SyncStep n) r w m
made old new (step.Call t) r p w m = absurd cc
made old new (step.End t) r p w m = absurd cc
made old new step.Create r p w m = m
made old new (step.Open f) r p w m = m
made old new (step.Close h) r p w m = m
made old new (step.Size h) r p w m = m
made old new (step.Write h o b) r p w m = m
made old new (step.Append h b) r p w m = m
made old new (step.Truncate h z) r p w m = m
made old new step.Evict r p w m = m
made old new step.Age r p w m = m
made old new (step.SyncBegin h) r p w m = m
made old new (step.SyncBeginRange h first last) r p w m = m
made old new (step.SyncDrop n) r p w m = m

-- a step that makes the event has made it
acted : (old new : WorldSeen) (e : Event) (s : Step) (r : Reply)
    → (is_plain s ≡ true) × ((x : Reply) → move_of s x None true ≡ Act e x) → Steps old s r new → IsActed old e r new
acted old new e s r of h w =
    let m = made old new s r of.0 w h in
    (subst (λ v. WorldStep (world_of old) v (world_of new)) (of.1 r) m.0, m.1)

abbrev pub bare : Event → Bool
bare (event.Write h o b) = false
bare (event.Append h b) = false
bare (event.End kind end) = false
bare e = true

pub acted_by : (old new : WorldSeen) (e : Event) (bytes : List ℕ) (s : Step) (r : Reply) → bare e ≡ true
    → IsStepOf e s → Steps old s r new → IsActed old (event_with e bytes) r new
acted_by old new event.Create b s r n of h = acted old new event.Create s r of h
acted_by old new (event.Open f) b s r n of h = acted old new (event.Open f) s r of h
acted_by old new (event.Close x) b s r n of h = acted old new (event.Close x) s r of h
acted_by old new (event.Size x) b s r n of h = acted old new (event.Size x) s r of h
acted_by old new (event.Read x o c) b s r n of h = acted old new (event.Read x o c) s r of h
acted_by old new (event.Write x o c) b s r n of h = absurd cc
acted_by old new (event.Append x c) b s r n of h = absurd cc
acted_by old new (event.Truncate x z) b s r n of h = acted old new (event.Truncate x z) s r of h
acted_by old new (event.FillBegin x p) b s r n of h = acted old new (event.FillBegin x p) s r of h
acted_by old new (event.FlushBegin f) b s r n of h = acted old new (event.FlushBegin f) s r of h
acted_by old new (event.End kind end) b s r n of h = absurd cc
acted_by old new event.Evict b s r n of h = acted old new event.Evict s r of h
acted_by old new event.Age b s r n of h = acted old new event.Age s r of h
acted_by old new (event.SyncBegin x first last) b s r n of h = acted old new (event.SyncBegin x first last) s r of h
acted_by old new (event.SyncStep m) b s r n of h = acted old new (event.SyncStep m) s r of h
acted_by old new (event.SyncDrop m) b s r n of h = acted old new (event.SyncDrop m) s r of h

-- ---- it agrees

-- which fate a request has that does not end is of no matter
no_fate : Fate
no_fate = record { fault = None; lasts = false }

makes_none : (e : Event) (r : Reply) → is_ending e ≡ false → end_made e r ≡ None
makes_none (event.End kind end) r n = absurd cc
makes_none e (reply.Refused why) n = refl
makes_none e r n = refl

pub ending_with : (e : Event) (bytes : List ℕ) → is_ending (event_with e bytes) ≡ is_ending e
ending_with (event.Write h o b) bytes = refl
ending_with (event.Append h b) bytes = refl
ending_with (event.End kind end) bytes = refl
ending_with event.Create bytes = refl
ending_with (event.Open f) bytes = refl
ending_with (event.Close h) bytes = refl
ending_with (event.Size h) bytes = refl
ending_with (event.Read h o n) bytes = refl
ending_with (event.Truncate h z) bytes = refl
ending_with (event.FillBegin h p) bytes = refl
ending_with (event.FlushBegin f) bytes = refl
ending_with event.Evict bytes = refl
ending_with event.Age bytes = refl
ending_with (event.SyncBegin h first last) bytes = refl
ending_with (event.SyncStep m) bytes = refl
ending_with (event.SyncDrop m) bytes = refl

pub memory_with : (r : Reply) (bytes : List ℕ) → wants_no_memory (reply_with r bytes) ≡ wants_no_memory r
memory_with (reply.Bytes b) bytes = refl
memory_with r bytes = refl

-- an event that is answered as its entry tells
pub agreed : (old new : WorldSeen) (e : Event) (bytes : List ℕ) (r told : Reply) → is_ending e ≡ false
    → wants_no_memory r ≡ true → r ≡ told → IsActed old (event_with e bytes) r new → (name : ℕ) → IsReady name old
    → IsAgreed name old (entry (event_with e bytes) told) new
agreed old new e bytes r told n w same h name ready =
    let is = event_with e bytes in
    let m = h w in
    let acts = m.0.1 in
    let none : end_made is told ≡ None = makes_none is told (ending_with e bytes ∙ n) in (
      (
        no_fate,
        subst (λ o. IsTold (λ _. no_fate) (world_of old) (entry is told) o (world_of new)) (sym none)
            (subst (λ x. IsTold (λ _. no_fate) (world_of old) (entry is x) None (world_of new)) same acts),
      ),
      record {
        name = (steady old.core is r new.core acts.0).name ∙ ready.name;
        outcomes = ap (λ (v : World). v.outcomes) acts.1 ∙ ready.outcomes;
        contents = ap (λ d. is_some d.contents) m.1 ∙ ready.contents;
      },
    )

-- ---- events that carry bytes

pub acted_write : (old new : WorldSeen) (e : Event) (h : HandleId) (o : ℕ) (b bytes : List ℕ) (r w : Reply)
    → e ≡ event.Write h o b → r ≡ w → IsMade old (step.Write h o bytes) w new
    → IsActed old (event_with e bytes) r new
acted_write old new e h o b bytes r w is same m =
    subst (λ x. IsActed old (event_with x bytes) r new) (sym is)
    (λ _. (subst (λ x. WorldStep (world_of old) (Act (event.Write h o bytes) x) (world_of new)) (sym same) m.0, m.1))

pub acted_append : (old new : WorldSeen) (e : Event) (h : HandleId) (b bytes : List ℕ) (r w : Reply)
    → e ≡ event.Append h b → r ≡ w → IsMade old (step.Append h bytes) w new → IsActed old (event_with e bytes) r new
acted_append old new e h b bytes r w is same m =
    subst (λ x. IsActed old (event_with x bytes) r new) (sym is)
    (λ _. (subst (λ x. WorldStep (world_of old) (Act (event.Append h bytes) x) (world_of new)) (sym same) m.0, m.1))
