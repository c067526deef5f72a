-- A history, entry by entry: where it has led to, it leads on.
use Rattle.std.proofs.Common.{◌≡◌, ◌≢◌, ℕ, zero, suc, ◌+◌, ◌<◌, ◌≤◌, ◌++◌, Bool, true, false, cond, eqb, eqb-true, eq-eqb, List}
use Rattle.std.proofs.Common.{[], ◌∷◌, length, take, get_or, refl, ap, sym, subst, ◌∙◌, arith, inl, inr}
use Rattle.std.proofs.lemmas.Bool.{false≢true, ne_eqb}
use Rattle.std.proofs.lemmas.List.{take_all}
use Rattle.std.proofs.lemmas.List.Elements.{filter_more}
use Rattle.std.specs.Prelude.{◌⊎◌, filter, Option, Some, None, option_map, slice_get}
use Rattle.std.specs.FinMap as finmap
use Rattle.std.specs.FinMap.{get-empty}
use Rattle.std.specs.Ordering.{nat_cmp}
use Rattle.machine.specs.Catalogs.{no_catalog}
use Rattle.machine.proofs.changes.Adopted.{no_catalog_is}
use Rattle.machine.specs.declared.event.End.{End}
use Rattle.machine.specs.declared.event.Event.{Event}
use Rattle.machine.specs.declared.event.Reply.{Reply}
use Rattle.machine.specs.declared.event.Reply.TheVariants as reply
use Rattle.machine.specs.State.{State, Request}
use Rattle.machine.specs.Step.{Step}
use Rattle.maps.proofs.Maps.{get-insert_nat, get-remove_nat, get_left}
use Rattle.pc_types.specs.Limits.{Sizes}
use Rattle.runs.specs.Runs.{IsBlank}
use Rattle.runs.specs.World.{World}
use Rattle.runs.proofs.moments.KeptRequests.{Kept, Begun, Over, is_job, of_requests, stood}
use Rattle.trail.specs.declared.entry.Entry.{Entry}
use Rattle.trail.specs.Honest.{Fate, GoesHonestly, Honest, IsTold, end_made, world_over}
use Rattle.trail.proofs.TrailMoves.{no_end, over_of}
use Rattle.std.specs.Bool.{OnTrue}
use Rattle.std.specs.Prelude.{IfNone, is_some}
use Rattle.blockdev.specs.Device.{Told}
use Rattle.world.specs.Stepping.{WorldSeen, first_world, world_of}
use Rattle.playback.specs.declared.play.Playback.{Playback}
use Rattle.playback.specs.declared.play.Playback.TheVariants.{Agrees, Odd}
use Rattle.playback.specs.Playing.{IsHonestOver, IsPlayed, IsReady, LeadsTo, Plays, Stands, Went, blocks_of, played}
use Rattle.playback.specs.Playing.{wants_no_memory}

-- ---- the requests after an entry

-- what is not in flight and was given out stays so, and what is in flight was given out
record Given (s new : State) : Type 0 where
  pub gone : (t : ℕ) → t < s.next → finmap.get s.requests t ≡ None
      → (t < new.next) × (finmap.get new.requests t ≡ None)
  pub given : ((t : ℕ) (x : Request) → finmap.get s.requests t ≡ Some x → t < s.next)
      → (t : ℕ) (x : Request) → finmap.get new.requests t ≡ Some x → t < new.next

none_kept : (o : Option Request) (p : Option Request) (f : Request → Request) → option_map f o ≡ option_map f p
    → p ≡ None → o ≡ None
none_kept None p f e n = refl
none_kept (Some x) None f e n = absurd cc
none_kept (Some x) (Some y) f e n = absurd cc

of_kept : (s new : State) → Kept s new → Given s new
of_kept s new k = record {
  gone = λ t l n. (
    subst (λ m. t < m) (sym k.next) l,
    none_kept (finmap.get new.requests t) (finmap.get s.requests t) _ (k.at t) n,
  );
  given = λ g t x is. let a = stood s new k t x is in subst (λ m. t < m) (sym k.next) (g t a.0 a.1);
}

of_begun : (s new : State) (t : ℕ) → Begun s new t → Given s new
of_begun s new t b = record {
  gone = λ u l n. (
    (let e = b.next in omega (arith, l)),
    at u ∙ ap (λ c. cond c (Some b.x) (finmap.get s.requests u))
        (ne_eqb u s.next (λ e. let k : u ≡ s.next = e in omega (arith, l))) ∙ n,
  );
  given = λ g u x is.
      elim (eqb u s.next) as (λ c. eqb u s.next ≡ c → cond c (Some b.x) (finmap.get s.requests u) ≡ Some x
      → u < new.next) [
        | true ↦ λ e _. (let a = eqb-true u s.next e in let n = b.next in omega arith)
        | false ↦ λ _ h. (let a = g u x h in let n = b.next in omega (arith, a))
      ] refl (sym (at u) ∙ is);
}
  where
    at : (u : ℕ) → finmap.get new.requests u ≡ cond (eqb u s.next) (Some b.x) (finmap.get s.requests u)
    at u = ap (λ m. finmap.get m u) b.requests ∙ get-insert_nat s.requests s.next b.x u

of_over : (s new : State) (t : ℕ) → Over s new t → Given s new
of_over s new t o = record {
  gone = λ u l n. (
    subst (λ m. u < m) (sym o.next) l,
    ap (λ m. finmap.get m u) o.requests ∙ get-remove_nat s.requests t u
        ∙ both (eqb u t) (finmap.get s.requests u) n,
  );
  given = λ g u x is.
      subst (λ m. u < m) (sym o.next)
      (g u x (get_left s.requests t u x (sym (ap (λ m. finmap.get m u) o.requests) ∙ is)).1);
}
  where
    both : (b : Bool) (o : Option Request) → o ≡ None → cond b None o ≡ None
    both true o e = refl
    both false o e = e

job_is : (r : Reply) → is_job r ≡ true → (t : Rattle.pc_types.specs.declared.ids.Serial.Serial) × (r ≡ reply.Job t)
job_is (reply.Job t) e = (t, refl)
job_is _ e = absurd cc

of_event : (s new : State) (e : Event) (r : Reply) → end_made e r ≡ None → Step s e r new → Given s new
of_event s new e r none h =
    elim (is_job r) as (λ b. is_job r ≡ b → Given s new) [
      | true ↦ λ j. (let a = job_is r j in of_begun s new a.0.0 ((of_requests s new e r h).begun a.0 a.1))
      | false ↦ λ j. of_kept s new ((of_requests s new e r h).kept j (no_end e r none))
    ] refl

-- ---- one entry more

leads-snoc : (fates : ℕ → Fate) (first mid new : World) (es : List Entry) (e : Entry) → LeadsTo fates first es mid
    → IsTold fates mid e (end_made e.event e.reply) new → LeadsTo fates first (es ++ e ∷ []) new
leads-snoc fates first mid new [] e l h =
    (new, subst (λ v. IsTold fates v e (end_made e.event e.reply) new) l h, refl)
leads-snoc fates first mid new (x ∷ es) e l h = (l.0, l.1, leads-snoc fates l.0 mid new es e l.2 h)

module _ (first w new : World) (es : List Entry) (went : Went first es w) (e : Entry) (fate : Fate) where
  -- by an event
  by_none : end_made e.event e.reply ≡ None → IsTold (λ _. fate) w e None new → Went first (es ++ e ∷ []) new
  by_none none h =
      let g = of_event w.core new.core e.event e.reply none h.0 in record {
        fates = went.fates;
        leads = λ other same.
            leads-snoc other first w new es e
            (went.leads other (λ t l n. let a = g.gone t l n in same t a.0 a.1))
            (subst (λ o. IsTold other w e o new) (sym none) h);
        given = g.given went.given;
      }

  -- by an end
  by_end : (end : End) → end_made e.event e.reply ≡ Some end → IsTold (λ _. fate) w e (Some end) new
      → Went first (es ++ e ∷ []) new
  by_end end some h =
      let t = end.serial.0 in
      let over = over_of w.core new.core e.event e.reply end some h.2.1 in
      let g = of_over w.core new.core t over in
      let fates : ℕ → Fate = λ u. cond (eqb u t) fate (went.fates u) in
      let own : fates t ≡ fate = ap (λ b. cond b fate (went.fates t)) (eq-eqb t t refl) in
      let left : finmap.get new.core.requests t ≡ None =
      ap (λ m. finmap.get m t) over.requests ∙ get-remove_nat w.core.requests t t
      ∙ ap (λ b. cond b None (finmap.get w.core.requests t)) (eq-eqb t t refl) in
      record {
        fates = fates;
        leads = λ other same.
            let its : other t ≡ fate =
            same t (subst (λ m. t < m) (sym over.next) (went.given t h.0 h.1)) left ∙ own in
            leads-snoc other first w new es e
            (went.leads other (λ u l n.
            let a = g.gone u l n in
            same u a.0 a.1 ∙ ap (λ b. cond b fate (went.fates u))
            (ne_eqb u t (λ s. let k : None ≡ Some h.0 = sym n ∙ ap (finmap.get w.core.requests) s ∙ h.1 in cc))))
            (subst (λ o. IsTold other w e o new) (sym some)
            (h.0, h.1, subst (λ f. Rattle.trail.specs.Honest.EndTells f w e end h.0 new) (sym its) h.2));
        given = g.given went.given;
      }

  pub goes_on : IsTold (λ _. fate) w e (end_made e.event e.reply) new → Went first (es ++ e ∷ []) new
  goes_on h = by_made (end_made e.event e.reply) refl h
    where
      by_made : (o : Option End) → end_made e.event e.reply ≡ o → IsTold (λ _. fate) w e o new
          → Went first (es ++ e ∷ []) new
      by_made None is k = by_none is k
      by_made (Some end) is k = by_end end is k

-- ---- at the beginning, and at the end

pub begins : (w : World) → IsBlank w → Went w [] w
begins w first = record {
  fates = λ _. record { fault = None; lasts = false };
  leads = λ other same. refl;
  given = λ t x is. absurd (let a = get-empty {X = Request} nat_cmp t in
      let j : None ≡ Some x = sym a ∙ sym (ap (λ (s : State). finmap.get s.requests t) first.core) ∙ is in cc);
}

goes : (fates : ℕ → Fate) (es : List Entry) (w last : World) → LeadsTo fates w es last → GoesHonestly fates w es
goes fates [] w last l = tt
goes fates (e ∷ es) w last l = (l.0, l.1, goes fates es l.0 last l.2)

-- a first world is a cache without files over its own device
first_is : (w : World) → IsBlank w → w ≡ world_over no_catalog w.core.sizes w.core.name w.device
first_is w first = λ i. record {
  core = first.core i;
  device = w.device;
  outcomes = first.outcomes i;
  writing = first.writing i;
}

pub honest_over : (first last : World) → IsBlank first → (es : List Entry) → Went first es last
    → IsHonestOver first.core.sizes first.core.name es first.device last.device
honest_over first last is es went =
    let leads = subst (λ v. LeadsTo went.fates v es last) (first_is first is) (went.leads went.fates (λ t l n. refl)) in
    record {
      honest = record {
        device = first.device;
        first = (no_catalog_is first.core.sizes, subst IsBlank (first_is first is) is);
        fates = went.fates;
        goes = goes went.fates es _ last leads;
      };
      from = refl;
      last = last;
      leads = leads;
      left = refl;
    }

-- ---- the history by its places

at_place : (es : List Entry) (k : ℕ) (e : Entry) → slice_get es k ≡ Some e → (k < length es) × (get_or es k e ≡ e)
at_place [] k e h = absurd cc
at_place (x ∷ es) zero e h = (omega arith, (let i : x ≡ e = cc in i))
at_place (x ∷ es) (suc k) e h =
    let a = at_place es k e h in (omega (arith, a.0), a.1)

one_more : (es : List Entry) (k : ℕ) (e : Entry) → slice_get es k ≡ Some e
    → played (take (k + 1) es) ≡ played (take k es) ++ cond (wants_no_memory e.reply) (e ∷ []) []
one_more es k e is =
    let a = at_place es k e is in
    filter_more (λ (x : Entry). wants_no_memory x.reply) es k e a.0
    ∙ ap (λ (x : Entry). played (take k es) ++ cond (wants_no_memory x.reply) (x ∷ []) []) a.1

nil_right : (es : List Entry) → es ++ [] ≡ es
nil_right [] = refl
nil_right (x ∷ es) = ap (λ ys. x ∷ ys) (nil_right es)

-- what a world between two entries is known by
abbrev pub Far : ℕ → World → List Entry → ℕ → WorldSeen → Type 0
Far name first es k w = Went first (played (take k es)) (world_of w) × IsReady name w

pub next : (name : ℕ) (first : World) (es : List Entry) (k : ℕ) (e : Entry) (old new : WorldSeen) (b : Bool) → b ≡ true
    → slice_get es k ≡ Some e → OnTrue b (IsPlayed name old e new) → Far name first es k old
    → Far name first es (k + 1) new
next name first es k e old new false sure is h far = absurd cc
next name first es k e old new true sure is h far =
    elim (wants_no_memory e.reply) as (λ c. wants_no_memory e.reply ≡ c → Far name first es (k + 1) new) [
      | true ↦ λ w. (let a = h.0 w in (
        subst (λ x. Went first x (world_of new))
            (sym (one_more es k e is ∙ ap (λ c. played (take k es) ++ cond c (e ∷ []) []) w))
            (goes_on first (world_of old) (world_of new) (played (take k es)) far.0 e a.0.0 a.0.1),
        a.1,
      ))
      | false ↦ λ w. (
        subst (λ x. Went first x (world_of new))
            (sym (one_more es k e is ∙ ap (λ c. played (take k es) ++ cond c (e ∷ []) []) w
            ∙ nil_right (played (take k es))))
            (subst (λ v. Went first (played (take k es)) (world_of v)) (sym (h.1 w)) far.0),
        subst (IsReady name) (sym (h.1 w)) far.1,
      )
    ] refl

pub far_first : (name : ℕ) (w : WorldSeen) (es : List Entry) → IsBlank (world_of w) → IsReady name w
    → Far name (world_of w) es 0 w
far_first name w es first ready = (begins (world_of w) first, ready)

pub far_all : (name : ℕ) (first : World) (es : List Entry) (k : ℕ) (w : WorldSeen) → Far name first es k w
    → length es ≤ k → Went first (played es) (world_of w)
far_all name first es k w far past =
    subst (λ x. Went first (played x) (world_of w)) (take_all k es past) far.0

pub far_told : (name : ℕ) (first : World) (es : List Entry) (k : ℕ) (w : WorldSeen) → Far name first es k w
    → is_some w.device.contents ≡ true
far_told name first es k w far = far.1.contents

pub far_odd : (name : ℕ) (first : World) (es : List Entry) (k : ℕ) (w : WorldSeen) → Far name first es k w
    → k < length es → Stands first es k
far_odd name first es k w far l = (l, world_of w, far.0)

-- ---- what is told of the whole

pub all_agree : (name : ℕ) (old new : WorldSeen) (left : Told) (es : List Entry) → IsReady name old
    → IsBlank (world_of old) → Went (world_of old) (played es) (world_of new) → is_some new.device.contents ≡ true
    → left ≡ new.device → Plays old.core.sizes name es old.device (Agrees left)
all_agree name old new left es ready first went told same = (
  subst (λ n. IsHonestOver old.core.sizes n (played es) (blocks_of old.device) (blocks_of left)) ready.name
      (subst (λ d. IsHonestOver old.core.sizes old.core.name (played es) (blocks_of old.device) (blocks_of d)) (sym same)
      (honest_over (world_of old) (world_of new) first (played es) went)),
  ap (λ (d : Told). is_some d.contents) same ∙ told,
)

pub one_odd : (name : ℕ) (old : WorldSeen) (es : List Entry) (place : ℕ) → IsReady name old
    → IsBlank (world_of old) → Stands (world_of old) es place → Plays old.core.sizes name es old.device (Odd place)
one_odd name old es place ready first h = (
  h.0,
  subst (λ n. Honest no_catalog old.core.sizes n (played (take place es))) ready.name
      (honest_over (world_of old) h.1 first (played (take place es)) h.2).honest,
)

pub ready_first : (g : Sizes) (name : ℕ) (d : Told) (w : WorldSeen) → w ≡ first_world g name d
    → is_some d.contents ≡ true → IsReady name w
ready_first g name d w is s = subst (IsReady name) (sym is) (record { name = refl; outcomes = refl; contents = s })

pub plays_first : (g : Sizes) (name : ℕ) (d : Told) (w : WorldSeen) (es : List Entry) (p : Playback)
    → w ≡ first_world g name d → Plays w.core.sizes name es w.device p → Plays g name es d p
plays_first g name d w es p is h = subst (λ (v : WorldSeen). Plays v.core.sizes name es v.device p) is h

pub if_none : (o : Option ℕ) (P : Type 0) → o ≡ None → IfNone o P → P
if_none None P e h = h
if_none (Some x) P e h = absurd cc
