-- A request that is carried out and ended in the call that begins it: the three steps, over the jobs that would have been in flight.
use Rattle.std.proofs.Common.{◌≡◌, ℕ, Bool, true, false, cond, eqb, eqb-true, eq-eqb, List, refl, ap, sym, subst, ◌∙◌}
use Rattle.std.specs.Prelude.{Option, Some, None}
use Rattle.std.specs.FinMap as finmap
use Rattle.std.specs.Ordering.{nat_cmp}
use Rattle.blockdev.specs.Device as device
use Rattle.blockdev.specs.Device.{Told}
use Rattle.blockdev.specs.Jobs.{Transfers}
use Rattle.blockdev.specs.Watching.{Watch}
use Rattle.pc_types.specs.declared.ids.Serial.{Serial}
use Rattle.pc_types.specs.declared.kind.Kind.{Kind}
use Rattle.pc_types.specs.declared.kind.Kind.TheVariants.{Fill, Flush}
use Rattle.machine.specs.declared.event.Event.{Event}
use Rattle.machine.specs.declared.event.Reply.{Reply}
use Rattle.machine.specs.declared.event.Reply.TheVariants as reply
use Rattle.maps.proofs.MapLaws.{same_nat_map}
use Rattle.maps.proofs.Maps.{get-insert_nat, get-remove_nat}
use Rattle.runs.specs.World.{IsAct}
use Rattle.runs.proofs.moments.KeptRequests as kept
use Rattle.runs.proofs.moments.KeptRequests.{is_end}
use Rattle.cachecore.specs.AtOnce.{IsCarriedOut, MakesAtOnce}
use Rattle.cachecore.specs.Core.{Core}
use Rattle.cachecore.specs.Replies.{is_job}
use Rattle.cachecore.specs.declared.at_once.AtOnce.{AtOnce}
use Rattle.cachecore.specs.declared.at_once.AtOnce.TheVariants.{Answered, Ended}
use Rattle.world.specs.AtOnce.{StepsAtOnce}
use Rattle.world.specs.Flights.{IsSpare, IsWorld, Jobs, seen_of}
use Rattle.world.specs.Stepping.{CallReply, EndReply, IsMade, WorldSeen}
use Rattle.world.specs.declared.jobs.Flight.TheVariants.{Asked, Made}
use Rattle.world.specs.declared.step.Step.{Step}
use Rattle.world.specs.declared.step.Step.TheVariants as step
use Rattle.world.proofs.Beginnings.{begun_kind, kind_is}
use Rattle.world.proofs.CallReplies.{call_keeps, call_made, end_keeps, end_made}
use Rattle.world.proofs.EventReplies.{IsActed, job_acted, quiet_acted}
use Rattle.world.proofs.WorldSteps.{job_apart, job_world, quiet_world}

module _ {X : Type 0} (m : finmap.FinMap nat_cmp X) (k : ℕ) where
  put_here : (x : X) → finmap.get (finmap.insert m k x) k ≡ Some x
  put_here x = get-insert_nat m k x k ∙ ap (λ b. cond b (Some x) (finmap.get m k)) (eq-eqb k k refl)

  -- what is put twice at a key where nothing was, and taken away
  put_and_taken : (x y : X) → finmap.get m k ≡ None → m ≡ finmap.remove (finmap.insert (finmap.insert m k x) k y) k
  put_and_taken x y none = same_nat_map _ _ (λ q. go q (eqb q k) refl)
    where
      twice : finmap.FinMap nat_cmp X
      twice = finmap.insert (finmap.insert m k x) k y

      go : (q : ℕ) (b : Bool) → eqb q k ≡ b → finmap.get m q ≡ finmap.get (finmap.remove twice k) q
      go q true e = ap (finmap.get m) (eqb-true q k e) ∙ none
          ∙ sym (get-remove_nat twice k q ∙ ap (λ b. cond b None (finmap.get twice q)) e)
      go q false e = sym (get-remove_nat twice k q ∙ ap (λ b. cond b None (finmap.get twice q)) e
          ∙ get-insert_nat (finmap.insert m k x) k y q ∙ ap (λ b. cond b (Some y) (finmap.get (finmap.insert m k x) q)) e
          ∙ get-insert_nat m k x q ∙ ap (λ b. cond b (Some x) (finmap.get m q)) e)

module _ (core : Core) (jobs : Jobs) (dev : Watch) (w : IsWorld core.state jobs dev) (old : WorldSeen)
    (is_old : seen_of core.state jobs dev ≡ old) (e : Event) (f : ℕ) (r : Reply) (after : Core) (to : Watch)
    (h : IsCarriedOut core e dev f r after to) (act : IsAct e (reply.Job (record { 0 = h.job.serial }))) where
  abbrev pub t : ℕ
  t = h.job.serial

  abbrev asked : Jobs
  asked = finmap.insert jobs t (Asked h.job)

  abbrev made : Jobs
  made = finmap.insert asked t (Made h.done)

  abbrev pub mid : WorldSeen
  mid = seen_of h.begun asked dev

  pub begins : IsActed old e (reply.Job (record { 0 = t })) mid
  begins = job_acted core.state jobs dev w old is_old e h.begun h.job asked (record { 0 = t }) act h.begins h.its h.fits refl refl

  asked_world : IsWorld h.begun asked dev
  asked_world = job_world core.state jobs dev w e h.begun h.job h.begins h.its h.fits

  asked_there : Some (Asked h.job) ≡ finmap.get asked t
  asked_there = sym (put_here jobs t (Asked h.job))

  pub called : CallReply mid t (finmap.get mid.core.requests t) (finmap.get mid.outcomes t) reply.Done (seen_of h.begun made to)
  called = call_made h.begun asked dev asked_world t mid refl h.job asked_there h.done to h.makes made refl

  made_world : IsWorld h.begun made to
  made_world = call_keeps h.begun asked dev asked_world t mid refl h.job asked_there h.done to h.makes made refl

  made_there : Some (Made h.done) ≡ finmap.get made t
  made_there = sym (put_here asked t (Made h.done))

  kind : h.job.kind ≡ h.done.kind
  kind = sym h.makes.performs.kind

  gone : jobs ≡ finmap.remove made t
  gone = put_and_taken jobs t (Asked h.job) (Made h.done) (job_apart core.state jobs dev w e h.begun h.job h.begins h.its h.fits)

  pub ended : EndReply (seen_of h.begun made to) (step.End (record { 0 = t })) (finmap.get (seen_of h.begun made to).outcomes t) r
      (seen_of after.state jobs to)
  ended = end_made h.begun made to made_world t h.done made_there h.job.kind kind (seen_of h.begun made to) refl after.state r
      h.ends jobs gone

  pub after_world : IsWorld after.state jobs to
  after_world = end_keeps h.begun made to made_world t h.done made_there h.job.kind kind after.state r h.ends jobs gone

-- ---- as the core's call says it

same_job : (r : Reply) → is_job r ≡ false → kept.is_job r ≡ false
same_job (reply.Job t) e = absurd cc
same_job _ e = refl

size_stays : (k : Kind) (old new : Told) (b : ℕ) (before after : List ℕ) (r : device.Outcome)
    → Transfers k old b before r after new → new.size ≡ old.size
size_stays Fill old new b before after r h = h.call.size
size_stays Flush old new b before after r h = h.0.call.size

module _ (core : Core) (jobs : Jobs) (dev : Watch) (w : IsWorld core.state jobs dev) (old : WorldSeen)
    (is_old : seen_of core.state jobs dev ≡ old) (e : Event) (s : Step) (kind : Kind) (kind_of : begun_kind e ≡ Some kind)
    (act : (r : Reply) → IsAct e r) (goes : (r : Reply) → is_end e r ≡ false)
    (made_of : (r : Reply) (new : WorldSeen) → IsActed old e r new → IsMade old s r new) (after : Core) (to : Watch) where
  pub at_once_world : (a : AtOnce) → MakesAtOnce core e dev a after to → IsWorld after.state jobs to
  at_once_world (Answered r) h = subst (IsWorld after.state jobs) (sym h.3)
      (quiet_world core.state jobs dev w e r after.state (same_job r h.1) (goes r) h.0)
  at_once_world (Ended f r) h = after_world core jobs dev w old is_old e f.0 r after to h (act _)

  pub at_once_spare : (a : AtOnce) → MakesAtOnce core e dev a after to → (spare : Option (List ℕ)) → IsSpare core.state spare
      → IsWorld after.state jobs to × IsSpare after.state spare
  at_once_spare a h None k = (at_once_world a h, k)
  at_once_spare a h (Some buffer) k = (
    at_once_world a h,
    k ∙ sym w.block_size ∙ sym (same a h) ∙ (at_once_world a h).block_size,
  )
    where
      same : (a : AtOnce) → MakesAtOnce core e dev a after to → to.device.size ≡ dev.device.size
      same (Answered r) h = ap (λ (x : Watch). x.device.size) h.3
      same (Ended f r) h = size_stays h.job.kind dev.device to.device h.job.block h.job.bytes h.done.bytes h.done.outcome
          h.makes.performs.call

  pub at_once_steps : (a : AtOnce) → MakesAtOnce core e dev a after to
      → StepsAtOnce old s kind a (seen_of after.state jobs to)
  at_once_steps (Answered r) h = (
    λ t is. (let job : is_job r ≡ true = ap is_job is in let clash : true ≡ false = sym job ∙ h.1 in cc),
    made_of r (seen_of after.state jobs to)
        (subst (λ d. IsActed old e r (seen_of after.state jobs d)) (sym h.3)
        (quiet_acted core.state jobs dev w old is_old e r after.state (act r) (same_job r h.1) (goes r) h.0)),
  )
  at_once_steps (Ended f r) h =
      let t : Serial = record { 0 = h.job.serial } in
      let one = mid core jobs dev w old is_old e f.0 r after to h (act _) in (
        t,
        one,
        made_of (reply.Job t) one (begins core jobs dev w old is_old e f.0 r after to h (act _)),
        h.its.0,
        h.its.1,
        kind_is core.state h.begun e t kind kind_of h.begins h.its.0 h.its.1,
        h.file,
        h.within,
        (
          _,
          called core jobs dev w old is_old e f.0 r after to h (act _),
          (_, ended core jobs dev w old is_old e f.0 r after to h (act _), refl),
        ),
      )
