-- A history that goes on by an entry; and one fate for each serial: a serial that has ended never comes back.
use Rattle.std.proofs.Common.{◌≡◌, ◌≢◌, ℕ, ◌<◌, true, false, cond, eqb, eq-eqb, List, [], ◌∷◌, ◌++◌}
use Rattle.std.proofs.Common.{refl, ap, sym, subst, ◌∙◌, arith, inl, inr}
use Rattle.std.specs.Prelude.{Option, Some, None, is_some}
use Rattle.std.specs.FinMap as finmap
use Rattle.std.proofs.lemmas.Bool.{ne_eqb}
use Rattle.pc_types.specs.Limits.{Sizes}
use Rattle.machine.specs.declared.event.End.{End}
use Rattle.machine.specs.declared.event.Event.{Event}
use Rattle.machine.specs.declared.event.Reply.{Reply}
use Rattle.machine.specs.declared.event.Reply.TheVariants as reply
use Rattle.machine.specs.Sound.{Sound}
use Rattle.machine.specs.Catalogs.{Catalog, IsCatalog}
use Rattle.machine.specs.State.{State, Request}
use Rattle.machine.specs.Step.{Step}
use Rattle.machine.proofs.sound.Steps.{histories_are_sound, steps_stay_sound}
use Rattle.machine.proofs.steps.Choices.{some_of}
use Rattle.maps.proofs.Maps.{get_left, get_inserted}
use Rattle.runs.specs.World.{World}
use Rattle.runs.proofs.moments.KeptRequests.{Begun, Kept, Over, of_requests, stood}
use Rattle.trail.specs.declared.entry.Entry.{Entry}
use Rattle.trail.specs.Honest.{EndTells, Fate, GoesHonestly, IsTold, MayBegin, end_made, world_over}
use Rattle.trail.proofs.TrailMoves.{no_end, over_of}
use Rattle.tied.specs.Tied.{IsHonest, IsToldOnce, GoesTo, LeadsHonestly}

pub goes_on : (w : World) (es : List Entry) (e : Entry) (mid new : World) → GoesTo w es mid
    → IsToldOnce mid e (end_made e.event e.reply) new → GoesTo w (es ++ e ∷ []) new
goes_on w [] e mid new is s = (new, subst (λ x. IsToldOnce x e (end_made e.event e.reply) new) is s, refl)
goes_on w (x ∷ es) e mid new g s = (g.0, g.1, goes_on g.0 es e mid new g.2 s)

-- ---- the fate of each serial: that of its end

-- a call without a fault
abbrev well : Fate
well = record { fault = None; lasts = false }

abbrev fates_with : (w : World) (e : Entry) (o : Option End) (new : World) → IsToldOnce w e o new → (ℕ → Fate) → ℕ → Fate
fates_with w e None new told rest = rest
fates_with w e (Some end) new told rest = λ t. cond (eqb t end.serial.0) told.0 (rest t)

abbrev fates_of : (w : World) (es : List Entry) (new : World) → GoesTo w es new → ℕ → Fate
fates_of w [] new g = λ t. well
fates_of w (e ∷ es) new g = fates_with w e (end_made e.event e.reply) g.0 g.1 (fates_of g.0 es new g.2)

-- ---- what may still end: a serial that is in flight, or not given yet

abbrev MayEnd : State → ℕ → Type 0
MayEnd s t = t < s.next → is_some (finmap.get s.requests t) ≡ true

-- what may end after a step might before it
abbrev Passes : State → State → Type 0
Passes s new = (t : ℕ) → MayEnd new t → MayEnd s t

pub kept_some : (s new : State) → Kept s new → (t : ℕ) → is_some (finmap.get new.requests t) ≡ true
    → is_some (finmap.get s.requests t) ≡ true
kept_some s new k t h =
    let x = some_of (finmap.get new.requests t) h in
    ap is_some (stood s new k t x.0 x.1).1

passes_kept : (s new : State) → Kept s new → Passes s new
passes_kept s new k t may low = kept_some s new k t (may (let a = k.next in omega arith))

passes_begun : (s new : State) (t : ℕ) → Begun s new t → Passes s new
passes_begun s new t b u may low =
    let h = may (let a = b.next in omega arith) in
    elim (get_inserted s.requests s.next b.x u) [
      | inl a ↦ absurd (let c = a.0 in omega arith)
      | inr a ↦ ap is_some (sym a.1 ∙ ap (λ m. finmap.get m u) (sym b.requests)) ∙ h
    ]

passes_act : (s new : State) (e : Event) (r : Reply) → end_made e r ≡ None → Step s e r new → Passes s new
passes_act s new e (reply.Job t) none h = passes_begun s new t.0 ((of_requests s new e (reply.Job t) h).begun t refl)
passes_act s new e r none h = passes_kept s new ((of_requests s new e r h).kept refl (no_end e r none))

-- the request that ends may not end again
record Ends (s new : State) (t : ℕ) : Type 0 where
  pub here : MayEnd s t
  pub passes : Passes s new
  pub gone : (u : ℕ) → MayEnd new u → u ≢ t

ends_over : (s new : State) (t : ℕ) → Sound s → Over s new t → Ends s new t
ends_over s new t ok o = record {
  here = λ low. ap is_some o.is;
  passes = λ u may low.
      let x = left u (may (let a = o.next in omega arith)) in ap is_some x.2;
  gone = λ u may same.
      let low = ok.serial t o.x o.is in
      let x = left u (may (let a = o.next in omega (arith, low, same, a))) in x.1 same;
}
  where
    left : (u : ℕ) → is_some (finmap.get new.requests u) ≡ true
        → (x : Request) × (u ≢ t) × (finmap.get s.requests u ≡ Some x)
    left u h =
        let x = some_of (finmap.get new.requests u) h in
        let a = get_left s.requests t u x.0 (ap (λ m. finmap.get m u) (sym o.requests) ∙ x.1) in
        (x.0, a.0, a.1)

-- ---- all entries, with these fates

-- the fates are as the ends say, of what may end
abbrev Agree : (ℕ → Fate) → World → (ℕ → Fate) → Type 0
Agree fates w told = (t : ℕ) → MayEnd w.core t → fates t ≡ told t

abbrev All : List Entry → Type 0
All es = (w new : World) (g : GoesTo w es new) (fates : ℕ → Fate) → Sound w.core → Agree fates w (fates_of w es new g)
    → LeadsHonestly fates w es new

one : (e : Entry) (es : List Entry) → All es → (o : Option End) (w mid new : World) → end_made e.event e.reply ≡ o
    → (told : IsToldOnce w e o mid) (g : GoesTo mid es new) (fates : ℕ → Fate) → Sound w.core
    → Agree fates w (fates_with w e o mid told (fates_of mid es new g))
    → IsTold fates w e o mid × LeadsHonestly fates mid es new
one e es all None w mid new made told g fates ok agree =
    let step = told.0 in (
      told,
      all mid new g fates (steps_stay_sound w.core mid.core e.event e.reply step ok)
          (λ t may. agree t (passes_act w.core mid.core e.event e.reply made step t may)),
    )
one e es all (Some end) w mid new made told g fates ok agree =
    let t = end.serial.0 in
    let step = told.3.1 in
    let ends = ends_over w.core mid.core t ok (over_of w.core mid.core e.event e.reply end made step) in
    let rest = fates_of mid es new g in
    let same : fates t ≡ told.0 = agree t ends.here ∙ ap (λ b. cond b told.0 (rest t)) (eq-eqb t t refl) in (
      (told.1, told.2, subst (λ fate. EndTells fate w e end told.1 mid) (sym same) told.3),
      all mid new g fates (steps_stay_sound w.core mid.core e.event e.reply step ok)
          (λ u may. agree u (ends.passes u may) ∙ ap (λ b. cond b told.0 (rest u)) (ne_eqb u t (ends.gone u may))),
    )

leads_all : (es : List Entry) → All es
leads_all [] w new g fates ok agree = g
leads_all (e ∷ es) w new g fates ok agree =
    let a = one e es (leads_all es) (end_made e.event e.reply) w g.0 new refl g.1 g.2 fates ok agree in (g.0, a.0, a.1)

-- the fates of a history that goes on from a cache with these files
pub leads_honestly : (files : Catalog) (sizes : Sizes) (name : ℕ) (blocks : List (List ℕ)) (es : List Entry) (new : World)
    → IsCatalog sizes files → GoesTo (world_over files sizes name blocks) es new
    → (fates : ℕ → Fate) × LeadsHonestly fates (world_over files sizes name blocks) es new
leads_honestly files sizes name blocks es new ok g =
    let w = world_over files sizes name blocks in
    let fates = fates_of w es new g in
    (fates, leads_all es w new g fates (histories_are_sound files sizes name [] w.core ok refl) (λ t may. refl))

goes_honestly : (fates : ℕ → Fate) (w : World) (es : List Entry) (new : World) → LeadsHonestly fates w es new
    → GoesHonestly fates w es
goes_honestly fates w [] new h = tt
goes_honestly fates w (e ∷ es) new h = (h.0, h.1, goes_honestly fates h.0 es new h.2)

pub honest_of : (files : Catalog) (sizes : Sizes) (name : ℕ) (blocks : List (List ℕ)) (es : List Entry) (new : World)
    → MayBegin files sizes name blocks → GoesTo (world_over files sizes name blocks) es new
    → IsHonest files sizes name blocks es new
honest_of files sizes name blocks es new first g =
    let a = leads_honestly files sizes name blocks es new first.0 g in
    record {
      honest = record {
        device = blocks;
        first = first;
        fates = a.0;
        goes = goes_honestly a.0 (world_over files sizes name blocks) es new a.1;
      };
      device = refl;
      leads = a.1;
    }
