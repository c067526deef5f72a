-- What a device call and an end answer, by the job that is in the table.
use Rattle.std.proofs.Common.{◌≡◌, ◌≢◌, ℕ, Bool, true, false, cond, eqb, eqb-true, eq-eqb, refl, ap, sym, subst, ◌∙◌}
use Rattle.std.specs.Prelude.{List, Option, Some, None, option_and_then, option_map, Result, Ok, Err}
use Rattle.std.specs.FinMap as finmap
use Rattle.pc_types.specs.declared.refusal.Refusal.{Refusal}
use Rattle.pc_types.specs.declared.refusal.Refusal.TheVariants.{Stranger}
use Rattle.pc_types.specs.declared.kind.Kind.{Kind}
use Rattle.pc_types.specs.declared.kind.Kind.TheVariants.{Fill, Flush}
use Rattle.blockdev.specs.declared.fault.FaultEffect.{FaultEffect}
use Rattle.blockdev.specs.Device as device
use Rattle.blockdev.specs.Jobs.{Task, FinishedTask}
use Rattle.maps.proofs.Filtered.{get-filter_map_values}
use Rattle.maps.proofs.MapLaws.{same_nat_map}
use Rattle.maps.proofs.Maps.{get-remove_nat}
use Rattle.machine.specs.declared.event.Event.TheVariants as event
use Rattle.machine.specs.declared.event.Outcome.{Outcome}
use Rattle.machine.specs.declared.event.Reply.{Reply}
use Rattle.machine.specs.declared.event.Reply.TheVariants as reply
use Rattle.machine.specs.State.{State, Request}
use Rattle.machine.specs.Step.{Step}
use Rattle.machine.proofs.steps.Answered.{is_quiet}
use Rattle.cachecore.specs.declared.answers.RefusedEnd.{RefusedEnd}
use Rattle.cachecore.specs.Replies.{answered, end_of, outcome_of}
use Rattle.runs.specs.World.{WorldStep, Finish}
use Rattle.world.specs.Ends.{ended}
use Rattle.world.specs.Stepping.{WorldSeen, world_of, CallReply, EndReply, Fails, IsCalled, Steps, failing}
use Rattle.world.specs.declared.step.Step.{Step as Asking}
use Rattle.world.specs.declared.step.Step.TheVariants as step
use Rattle.world.specs.declared.jobs.Flight.{Flight}
use Rattle.world.specs.declared.jobs.Flight.TheVariants.{Asked, Made}
use Rattle.world.specs.Flights.{Jobs, is_asked, outcome_in, seen_of, IsWorld}
use Rattle.world.proofs.DeviceCalls.{calls_move}
use Rattle.world.proofs.EndsAndCalls.{call_world, end_answers, end_steps, end_world, is_called, none_of_job, put_back}
use Rattle.world.proofs.EndsAndCalls.{put_over, request_of}
use Rattle.blockdev.specs.Watching.{Watch, Makes}

-- a job that was taken out is not there
pub taken_apart : (jobs new : Jobs) (t u : ℕ) → new ≡ finmap.remove jobs t → u ≡ t → finmap.get new u ≡ None
taken_apart jobs new t u is e = ap (λ m. finmap.get m u) is ∙ get-remove_nat jobs t u
    ∙ ap (λ b. cond b None (finmap.get jobs u)) (eq-eqb u t e)

-- it is put back as it was, or otherwise
pub put_again : (jobs mid new : Jobs) (t u : ℕ) (x : Flight) → mid ≡ finmap.remove jobs t → new ≡ finmap.insert mid u x
    → u ≡ t → Some x ≡ finmap.get jobs t → new ≡ jobs
put_again jobs mid new t u x m n e is = n ∙ (λ i. finmap.insert (m i) (e i) x) ∙ put_back jobs t x (sym is)

pub put_otherwise : (jobs mid new : Jobs) (t u : ℕ) (x : Flight) → mid ≡ finmap.remove jobs t
    → new ≡ finmap.insert mid u x → u ≡ t → new ≡ finmap.insert jobs t x
put_otherwise jobs mid new t u x m n e = n ∙ (λ i. finmap.insert (m i) (e i) x) ∙ put_over jobs t x

-- nothing was there, and nothing is taken
pub none_taken : (jobs new : Jobs) (t : ℕ) → new ≡ finmap.remove jobs t → None ≡ finmap.get jobs t → new ≡ jobs
none_taken jobs new t m is = m ∙ same_nat_map _ _ (λ u. get-remove_nat jobs t u ∙ go u (eqb u t) refl)
  where
    go : (u : ℕ) (k : Bool) → eqb u t ≡ k → cond k None (finmap.get jobs u) ≡ finmap.get jobs u
    go u true e = is ∙ ap (finmap.get jobs) (sym (eqb-true u t e))
    go u false e = refl

module _ (core : State) (jobs : Jobs) (dev : Watch) (w : IsWorld core jobs dev) (t : ℕ) (old : WorldSeen)
    (is_old : seen_of core jobs dev ≡ old) where
  out : (o : Option Outcome) → option_and_then outcome_in (finmap.get jobs t) ≡ o → finmap.get old.outcomes t ≡ o
  out o e = sym (ap (λ (v : WorldSeen). finmap.get v.outcomes t) is_old)
      ∙ get-filter_map_values outcome_in jobs t ∙ e

  -- the call is made
  pub call_made : (job : Task) → Some (Asked job) ≡ finmap.get jobs t → (done : FinishedTask) (after : Watch)
      → Makes dev job done after → (table : Jobs) → table ≡ finmap.insert jobs t (Made done)
      → CallReply old t (finmap.get old.core.requests t) (finmap.get old.outcomes t) reply.Done
      (seen_of core table after)
  call_made job is done after p table e =
      let c : IsCalled old t (seen_of core table after) = subst (λ h. IsCalled h t (seen_of core table after)) is_old
      (subst (λ m. IsCalled (seen_of core jobs dev) t (seen_of core m after)) (sym e)
      (is_called core jobs dev w t job (sym is) done after p)) in
      let none = out None (ap (option_and_then outcome_in) (sym is)) in
      let there : finmap.get old.core.requests t ≡ Some c.asked.0 = ap (finmap.get old.core.requests) (sym c.serial)
      ∙ c.asked.1 in
      subst (λ q. CallReply old t q (finmap.get old.outcomes t) reply.Done (seen_of core table after)) (sym there)
      (subst (λ o. CallReply old t (Some c.asked.0) o reply.Done (seen_of core table after)) (sym none)
      (refl, c, calls_move old t (seen_of core table after) c none))

  pub call_keeps : (job : Task) → Some (Asked job) ≡ finmap.get jobs t → (done : FinishedTask) (after : Watch)
      → Makes dev job done after → (table : Jobs) → table ≡ finmap.insert jobs t (Made done)
      → IsWorld core table after
  call_keeps job is done after p table e =
      subst (λ m. IsWorld core m after) (sym e) (call_world core jobs dev w t job (sym is) done after p)

  again : (new : WorldSeen) (q : Option Request) (o : Outcome) → new ≡ old
      → CallReply old t q (Some o) (reply.Refused Stranger) new
  again new (Some r) o e = (refl, e)
  again new None o e = (refl, e)

  -- it was made already
  pub call_again : (f : FinishedTask) → Some (Made f) ≡ finmap.get jobs t → (table : Jobs) → table ≡ jobs
      → CallReply old t (finmap.get old.core.requests t) (finmap.get old.outcomes t) (reply.Refused Stranger)
      (seen_of core table dev)
  call_again f is table e =
      subst (λ o. CallReply old t (finmap.get old.core.requests t) o (reply.Refused Stranger) (seen_of core table dev))
      (sym (out (Some (outcome_of f.kind f.outcome f.bytes)) (ap (option_and_then outcome_in) (sym is))))
      (again (seen_of core table dev) (finmap.get old.core.requests t) (outcome_of f.kind f.outcome f.bytes)
      (ap (λ m. seen_of core m dev) e ∙ is_old))

  -- the request is not in flight
  gone : None ≡ finmap.get jobs t → finmap.get old.core.requests t ≡ None
  gone is = sym (ap (λ (v : WorldSeen). finmap.get v.core.requests t) is_old)
      ∙ (none_of_job core t (finmap.get core.requests t) (finmap.get jobs t) (w.each_job t) (sym is))

  pub call_none : None ≡ finmap.get jobs t → (table : Jobs) → table ≡ jobs
      → CallReply old t (finmap.get old.core.requests t) (finmap.get old.outcomes t) (reply.Refused Stranger)
      (seen_of core table dev)
  call_none is table e =
      subst (λ q. CallReply old t q (finmap.get old.outcomes t) (reply.Refused Stranger) (seen_of core table dev))
      (sym (gone is)) (refl, ap (λ m. seen_of core m dev) e ∙ is_old)

  -- ---- an end where no call was made

  pub end_refused : (s : Asking) → option_and_then outcome_in (finmap.get jobs t) ≡ None → (table : Jobs) → table ≡ jobs
      → EndReply old s (finmap.get old.outcomes t) (reply.Refused Stranger) (seen_of core table dev)
  end_refused s none table e = subst (λ o. EndReply old s o (reply.Refused Stranger) (seen_of core table dev))
      (sym (out None none)) (refl, ap (λ m. seen_of core m dev) e ∙ is_old)

  -- ---- a call that is to fail

  -- no call is to be made
  pub uncalled : false ≡ is_asked (finmap.get jobs t)
      → CallReply old t (finmap.get old.core.requests t) (finmap.get old.outcomes t) (reply.Refused Stranger) old
  uncalled none =
      subst (CallReply old t (finmap.get old.core.requests t) (finmap.get old.outcomes t) (reply.Refused Stranger))
      is_old (go (finmap.get jobs t) refl none)
    where
      go : (o : Option Flight) → finmap.get jobs t ≡ o → false ≡ is_asked o
          → CallReply old t (finmap.get old.core.requests t) (finmap.get old.outcomes t) (reply.Refused Stranger)
          (seen_of core jobs dev)
      go (Some (Asked job)) is n = absurd cc
      go (Some (Made f)) is n = call_again f (sym is) jobs refl
      go None is n = call_none (sym is) jobs refl

  -- the call is made, over a device that was told to fail
  pub fail_made : (code : ℕ) (effect : FaultEffect) (new : WorldSeen) (result : Result Unit Refusal)
      → true ≡ is_asked (finmap.get jobs t)
      → Steps (failing old code effect) (step.Call (record { 0 = t })) (answered (λ _. reply.Done) result) new
      → Fails old t code effect result new
  fail_made code effect new (Ok u) some h = h
  fail_made code effect new (Err why) some h = absurd (go (finmap.get jobs t) refl some)
    where
      go : (o : Option Flight) → finmap.get jobs t ≡ o → true ≡ is_asked o → ⊥
      go (Some (Asked job)) is s =
          let q = request_of core t (finmap.get core.requests t) (finmap.get jobs t) (Asked job) (w.each_job t) is in
          let there = sym (ap (λ (v : WorldSeen). finmap.get v.core.requests t) is_old) ∙ q.1 in
          let none = out None (ap (option_and_then outcome_in) is) in
          let e = (subst (λ o. CallReply (failing old code effect) t (Some q.0) o (reply.Refused why) new) none
          (subst (λ x. CallReply (failing old code effect) t x (finmap.get old.outcomes t) (reply.Refused why) new) there
          h)).0 in cc
      go (Some (Made f)) is s = absurd cc
      go None is s = absurd cc

-- the same table keeps what always holds
pub same_table : (core : State) (jobs : Jobs) (dev : Watch) → IsWorld core jobs dev → (table : Jobs) → table ≡ jobs
    → IsWorld core table dev
same_table core jobs dev w table e = subst (λ m. IsWorld core m dev) (sym e) w

-- ---- an end where the call was made

module _ (core : State) (jobs : Jobs) (dev : Watch) (w : IsWorld core jobs dev) (t : ℕ) (f : FinishedTask)
    (is : Some (Made f) ≡ finmap.get jobs t) (k : Kind) (same : k ≡ f.kind) where
  of_kind : (new : State) (r : Reply) → Step core (event.End k (end_of f)) r new
      → Step core (event.End f.kind (end_of f)) r new
  of_kind new r h = subst (λ q. Step core (event.End q (end_of f)) r new) same h

  refuses : (q : Kind) (e : RefusedEnd) → is_quiet (ended q (Err e)) ≡ true
  refuses Fill e = refl
  refuses Flush e = refl

  -- it is not refused
  pub end_never : (new : State) (e : RefusedEnd) → Step core (event.End k (end_of f)) (ended k (Err e)) new → ⊥
  end_never new e h =
      let a = end_answers core jobs dev w t f (sym is) new (ended k (Err e)) (of_kind new (ended k (Err e)) h) in
      let b = refuses k e in
      cc

  pub end_keeps : (new : State) (r : Reply) → Step core (event.End k (end_of f)) r new → (table : Jobs)
      → table ≡ finmap.remove jobs t → IsWorld new table dev
  end_keeps new r h table e =
      subst (λ m. IsWorld new m dev) (sym e) (end_world core jobs dev w t f (sym is) new r (of_kind new r h))

  loud_answer : (r : Reply) → is_quiet r ≡ false → r ≢ reply.Refused Stranger
  loud_answer r loud e = let a : true ≡ false = sym (ap is_quiet e) ∙ loud in cc

  -- its request is of this kind and this block, and this is what the call came to
  pub came_to : (old : WorldSeen) → seen_of core jobs dev ≡ old → (block : ℕ) → block ≡ f.block
      → (o : device.Outcome) → o ≡ f.outcome → (bytes : List ℕ) → bytes ≡ f.bytes
      → (option_map (λ (x : Request). x.kind) (finmap.get old.core.requests t) ≡ Some k)
      × (option_map (λ (x : Request). x.block) (finmap.get old.core.requests t) ≡ Some block)
      × (finmap.get old.outcomes t ≡ Some (outcome_of k o bytes))
  came_to old is_old block its o outcome bytes buffer =
      let q = request_of core t (finmap.get core.requests t) (finmap.get jobs t) (Made f) (w.each_job t) (sym is) in (
        ap (λ (v : WorldSeen). option_map (λ (x : Request). x.kind) (finmap.get v.core.requests t)) (sym is_old)
            ∙ ap (option_map (λ (x : Request). x.kind)) q.1 ∙ ap Some (sym q.2.kind) ∙ ap Some (sym same),
        ap (λ (v : WorldSeen). option_map (λ (x : Request). x.block) (finmap.get v.core.requests t)) (sym is_old)
            ∙ ap (option_map (λ (x : Request). x.block)) q.1 ∙ ap Some (sym q.2.block) ∙ ap Some (sym its),
        out core jobs dev w t old is_old (Some (outcome_of f.kind f.outcome f.bytes))
            (ap (option_and_then outcome_in) (sym is))
            ∙ (λ i. Some (outcome_of (sym same i) (sym outcome i) (sym buffer i))),
      )

  pub end_made : (old : WorldSeen) → seen_of core jobs dev ≡ old → (new : State) (r : Reply)
      → Step core (event.End k (end_of f)) r new → (table : Jobs) → table ≡ finmap.remove jobs t
      → EndReply old (step.End (record { 0 = t })) (finmap.get old.outcomes t) r (seen_of new table dev)
  end_made old is_old new r h table e =
      let moves : WorldStep (world_of (seen_of core jobs dev)) (Finish t r) (world_of (seen_of new table dev)) =
      subst (λ m. WorldStep (world_of (seen_of core jobs dev)) (Finish t r) (world_of (seen_of new m dev))) (sym e)
      (end_steps core jobs dev w t f (sym is) new r (of_kind new r h)) in
      subst (λ o. EndReply old (step.End (record { 0 = t })) o r (seen_of new table dev))
      (sym (out core jobs dev w t old is_old (Some (outcome_of f.kind f.outcome f.bytes))
      (ap (option_and_then outcome_in) (sym is)))) (
        (
          subst (λ v. WorldStep (world_of v) (Finish t r) (world_of (seen_of new table dev))) is_old moves,
          ap (λ (v : WorldSeen). v.device) is_old,
          ap (λ (v : WorldSeen). v.unflushed) is_old,
        ),
        loud_answer r (end_answers core jobs dev w t f (sym is) new r (of_kind new r h)),
      )
