-- The end and the device call of a request whose job is in the table.
use Rattle.std.proofs.Common.{◌≡◌, ℕ, ◌+◌, ◌-◌, ◌<◌, ◌≤◌, Bool, true, false, cond, not, eqb, eqb-true, List, []}
use Rattle.std.proofs.Common.{refl}
use Rattle.std.proofs.Common.{ap, sym, subst, ◌∙◌}
use Rattle.std.specs.Prelude.{Option, Some, None, is_some, Ok, Err, ◌||◌, option_and_then, unwrap_or}
use Rattle.std.specs.FinMap as finmap
use Rattle.std.specs.Ordering.{nat_cmp}
use Rattle.std.specs.Cmp.{nat_cmp_total}
use Rattle.std.specs.FinMap.{len-insert, len-remove}
use Rattle.pc_types.specs.Limits.{Sizes}
use Rattle.pc_types.specs.Kinds.{is_flush}
use Rattle.pc_types.specs.declared.limits.TheConstants.{MIN_PAGE_SIZE}
use Rattle.pc_types.specs.declared.kind.Kind.{Kind}
use Rattle.pc_types.specs.declared.kind.Kind.TheVariants.{Fill, Flush}
use Rattle.blockdev.specs.Device.{Calls}
use Rattle.blockdev.specs.Device as device
use Rattle.blockdev.specs.Jobs.{Task, FinishedTask, Transfers}
use Rattle.maps.specs.Maps.{filter_map_values}
use Rattle.maps.proofs.Filtered.{get-filter_map_values, filter_map_values-insert, filter_map_values-remove}
use Rattle.maps.proofs.Filtered.{filter_map_values-same}
use Rattle.maps.proofs.MapLaws.{same_nat_map}
use Rattle.maps.proofs.Maps.{get-insert_nat, get-remove_nat}
use Rattle.machine.specs.declared.event.Event.{Event}
use Rattle.machine.specs.declared.event.Event.TheVariants as event
use Rattle.machine.specs.declared.event.Outcome.{Outcome}
use Rattle.machine.specs.declared.event.Reply.{Reply}
use Rattle.machine.specs.State.{State, Request}
use Rattle.machine.specs.Tests.{fits}
use Rattle.machine.specs.Step.{Step, AnswersOr}
use Rattle.machine.proofs.steps.Answered.{is_quiet}
use Rattle.machine.proofs.steps.Ends.{end_loud, own_end, own_end_passes}
use Rattle.cachecore.specs.Replies.{end_of, outcome_of}
use Rattle.runs.specs.World.{WorldStep, Finish, Ends}
use Rattle.runs.proofs.moments.KeptRequests.{Over, of_requests}
use Rattle.world.specs.Stepping.{world_of, IsCalled}
use Rattle.world.specs.declared.jobs.Flight.{Flight}
use Rattle.world.specs.declared.jobs.Flight.TheVariants.{Asked, Made}
use Rattle.world.specs.Flights.{Jobs, outcome_in, written_by, task_of, seen_of, HasJob, IsJob, IsWorld}
use Rattle.blockdev.specs.Watching.{Watch, Makes}
use Rattle.world.proofs.WorldSteps.{fits_still}

-- a job's request
pub request_of : (core : State) (t : ℕ) (q : Option Request) (o : Option Flight) (f : Flight) → HasJob core t q o
    → o ≡ Some f → (x : Request) × (q ≡ Some x) × IsJob core t x f
request_of core t (Some x) (Some g) f h e = (x, refl, subst (IsJob core t x) (let i : g ≡ f = cc in i) h)
request_of core t None (Some g) f h e = absurd h
request_of core t q None f h e = absurd cc

-- no job, no request
pub none_of_job : (core : State) (t : ℕ) (q : Option Request) (o : Option Flight) → HasJob core t q o → o ≡ None
    → q ≡ None
none_of_job core t None None h e = refl
none_of_job core t (Some x) None h e = absurd h
none_of_job core t q (Some f) h e = absurd cc

-- a device call goes as one of its kind may
outcome_fits : (kind : Kind) (o : device.Outcome) (bytes : List ℕ) → fits kind (outcome_of kind o bytes) ≡ true
outcome_fits Fill (Ok u) bytes = refl
outcome_fits Fill (Err code) bytes = refl
outcome_fits Flush (Ok u) bytes = refl
outcome_fits Flush (Err code) bytes = refl

module _ (core : State) (jobs : Jobs) (dev : Watch) (w : IsWorld core jobs dev) (t : ℕ) where
  -- ---- an end

  module _ (f : FinishedTask) (is : finmap.get jobs t ≡ Some (Made f)) (new : State) (r : Reply)
      (step : Step core (event.End f.kind (end_of f)) r new) where
    request : (x : Request) × (finmap.get core.requests t ≡ Some x) × IsJob core t x (Made f)
    request = request_of core t (finmap.get core.requests t) (finmap.get jobs t) (Made f) (w.each_job t) is

    abbrev x : Request
    x = request.0

    abbrev call : Outcome
    call = outcome_of f.kind f.outcome f.bytes

    abbrev own : Event
    own = event.End x.kind (own_end core t x call)

    -- the cache itself would hand in the same end
    own_step : Step core own r new
    own_step = subst (λ e. Step core e r new)
        (λ i. event.End (request.2.kind i) (record {
          cache = request.2.fits.cache i;
          kind = request.2.kind i;
          serial = record { 0 = request.2.serial i };
          block = record { 0 = request.2.block i };
          outcome = call;
        })) step

    passes : fits x.kind call ≡ true
    passes = ap (λ k. fits k call) (sym request.2.kind) ∙ outcome_fits f.kind f.outcome f.bytes

    pub end_answers : is_quiet r ≡ false
    end_answers = end_loud (finmap.get core.requests t) call r
        (subst (λ o. AnswersOr o core own r new) (own_end_passes core t x call request.1 passes) own_step).0

    over : Over core new t
    over = (of_requests core new own r own_step).over (ap not end_answers) x.kind (own_end core t x call) refl

    kept_job : (u : ℕ) (q : Option Request) (o : Option Flight) → HasJob core u q o → HasJob new u q o
    kept_job u (Some y) (Some g) h = record {
      given = subst (λ n. u < n) (sym over.next) h.given;
      fits = fits_still core new over.name over.sizes (task_of g) h.fits;
      serial = h.serial;
      kind = h.kind;
      block = h.block;
    }
    kept_job u None None h = h
    kept_job u (Some y) None h = h
    kept_job u None (Some g) h = h

    one_less : {A : Type 0} (m : finmap.FinMap nat_cmp A) (v : A) → finmap.get m t ≡ Some v
        → finmap.len (finmap.remove m t) ≡ finmap.len m - 1
    one_less m v e = len-remove nat_cmp_total m t
        ∙ ap (λ b. cond b (finmap.len m - 1) (finmap.len m)) (ap is_some e)

    pub end_world : IsWorld new (finmap.remove jobs t) dev
    end_world = record {
      page_size = subst (λ (g : Sizes). MIN_PAGE_SIZE ≤ g.page) (sym over.sizes) w.page_size;
      each_job = λ u.
          subst (λ q. HasJob new u q (finmap.get (finmap.remove jobs t) u))
          (sym (ap (λ m. finmap.get m u) over.requests ∙ get-remove_nat core.requests t u))
          (subst (HasJob new u (cond (eqb u t) None (finmap.get core.requests u))) (sym (get-remove_nat jobs t u))
          (either u (eqb u t)));
      count = one_less jobs (Made f) is ∙ ap (λ n. n - 1) w.count
          ∙ sym (ap finmap.len over.requests ∙ one_less core.requests x request.1);
      block_size = w.block_size ∙ sym (ap (λ (g : Sizes). g.page) over.sizes);
      block_count = w.block_count ∙ sym (ap (λ (g : Sizes). g.blocks) over.sizes);
    }
      where
        either : (u : ℕ) (b : Bool)
            → HasJob new u (cond b None (finmap.get core.requests u)) (cond b None (finmap.get jobs u))
        either u true = tt
        either u false = kept_job u (finmap.get core.requests u) (finmap.get jobs u) (w.each_job u)

    pub end_steps : WorldStep (world_of (seen_of core jobs dev)) (Finish t r)
        (world_of (seen_of new (finmap.remove jobs t) dev))
    end_steps =
        let old = world_of (seen_of core jobs dev) in
        let next = world_of (seen_of new (finmap.remove jobs t) dev) in
        let out : finmap.get (filter_map_values outcome_in jobs) t ≡ Some call =
        get-filter_map_values outcome_in jobs t ∙ ap (option_and_then outcome_in) is in
        subst (λ q. Ends old t q (finmap.get old.outcomes t) r next) (sym request.1)
        (subst (λ o. Ends old t (Some x) o r next) (sym out) (
          own_step,
          λ i. record old {
            core = new;
            outcomes = filter_map_values-remove outcome_in jobs t i;
            writing = filter_map_values-remove written_by jobs t i;
          },
        ))

  -- ---- a device call

  module _ (job : Task) (is : finmap.get jobs t ≡ Some (Asked job)) where
    asked : (x : Request) × (finmap.get core.requests t ≡ Some x) × IsJob core t x (Asked job)
    asked = request_of core t (finmap.get core.requests t) (finmap.get jobs t) (Asked job) (w.each_job t) is

    module _ (done : FinishedTask) (after : Watch) (p : Makes dev job done after) where
      abbrev table : Jobs
      table = finmap.insert jobs t (Made done)

      calls : (k : Kind) → Transfers k dev.device job.block job.bytes done.outcome done.bytes after.device
          → Calls dev.device done.outcome after.device
      calls Fill h = h.call
      calls Flush h = h.0.call

      -- a flush leaves its buffer as it was
      same_bytes : (k : Kind) → Transfers k dev.device job.block job.bytes done.outcome done.bytes after.device
          → cond (is_flush k) (Some done.bytes) None ≡ cond (is_flush k) (Some job.bytes) None
      same_bytes Fill h = refl
      same_bytes Flush h = ap Some h.1

      still_written : written_by (Made done) ≡ written_by (Asked job)
      still_written = ap (λ k. cond (is_flush k) (Some done.bytes) None) p.performs.kind ∙ same_bytes job.kind p.performs.call

      made_job : IsJob core t asked.0 (Made done)
      made_job = record {
        given = asked.2.given;
        fits = record {
          cache = p.performs.cache ∙ asked.2.fits.cache;
          block = subst (λ k. k < core.sizes.blocks) (sym p.performs.block) asked.2.fits.block;
          size = p.performs.length ∙ asked.2.fits.size;
        };
        serial = p.performs.serial ∙ asked.2.serial;
        kind = p.performs.kind ∙ asked.2.kind;
        block = p.performs.block ∙ asked.2.block;
      }

      pub call_world : IsWorld core table after
      call_world = record {
        page_size = w.page_size;
        each_job = λ u. subst (HasJob core u (finmap.get core.requests u)) (sym (get-insert_nat jobs t (Made done) u))
            (either u (eqb u t) refl);
        count = len-insert nat_cmp_total jobs t (Made done)
            ∙ ap (λ b. cond b (finmap.len jobs) (finmap.len jobs + 1)) (ap is_some is) ∙ w.count;
        block_size = (calls job.kind p.performs.call).size ∙ w.block_size;
        block_count = (calls job.kind p.performs.call).count ∙ w.block_count;
      }
        where
          either : (u : ℕ) (b : Bool) → eqb u t ≡ b
              → HasJob core u (finmap.get core.requests u) (cond b (Some (Made done)) (finmap.get jobs u))
          either u true e =
              subst (λ v. HasJob core v (finmap.get core.requests v) (Some (Made done))) (sym (eqb-true u t e))
              (subst (λ q. HasJob core t q (Some (Made done))) (sym asked.1) made_job)
          either u false e = w.each_job u

      pub call_noted : seen_of core table after ≡ record (seen_of core jobs dev) {
        device = after.device;
        unflushed = is_flush job.kind || dev.unflushed;
        outcomes = finmap.insert (filter_map_values outcome_in jobs) t (outcome_of job.kind done.outcome done.bytes);
      }
      call_noted = λ i. record {
        core = core;
        device = after.device;
        unflushed = p.unflushed i;
        outcomes = filter_map_values-insert outcome_in jobs t (Made done) (outcome_of job.kind done.outcome done.bytes)
            (ap (λ k. Some (outcome_of k done.outcome done.bytes)) p.performs.kind) i;
        writing = filter_map_values-same written_by jobs t (Made done)
            (still_written ∙ sym (ap (option_and_then written_by) is)) i;
      }

      -- a flush has the bytes that it writes
      job_bytes : job.bytes
          ≡ cond (is_flush asked.0.kind) (unwrap_or (finmap.get (filter_map_values written_by jobs) t) []) job.bytes
      job_bytes =
          go (is_flush job.kind)
          ∙ ap (λ k. cond (is_flush k) (unwrap_or (written_by (Asked job)) []) job.bytes) asked.2.kind
          ∙ ap (λ o. cond (is_flush asked.0.kind) (unwrap_or o []) job.bytes)
          (sym (get-filter_map_values written_by jobs t ∙ ap (option_and_then written_by) is))
        where
          go : (b : Bool) → job.bytes ≡ cond b (unwrap_or (cond b (Some job.bytes) None) []) job.bytes
          go true = refl
          go false = refl

      pub is_called : IsCalled (seen_of core jobs dev) t (seen_of core table after)
      is_called = record {
        job = job;
        done = done;
        serial = asked.2.serial;
        asked = (
          asked.0,
          ap (finmap.get core.requests) asked.2.serial ∙ asked.1,
          λ i. record {
            cache = asked.2.fits.cache i;
            serial = job.serial;
            kind = asked.2.kind i;
            block = asked.2.block i;
            bytes = job_bytes i;
          },
        );
        performs = p.performs;
        noted = call_noted;
      }

-- what is taken out and put back otherwise
pub put_over : (jobs : Jobs) (t : ℕ) (x : Flight) → finmap.insert (finmap.remove jobs t) t x ≡ finmap.insert jobs t x
put_over jobs t x = same_nat_map _ _ (λ u. get-insert_nat (finmap.remove jobs t) t x u
    ∙ ap (cond (eqb u t) (Some x)) (get-remove_nat jobs t u) ∙ go u (eqb u t) ∙ sym (get-insert_nat jobs t x u))
  where
    go : (u : ℕ) (k : Bool) → cond k (Some x) (cond k None (finmap.get jobs u)) ≡ cond k (Some x) (finmap.get jobs u)
    go u true = refl
    go u false = refl

-- and as it was
pub put_back : (jobs : Jobs) (t : ℕ) (x : Flight) → finmap.get jobs t ≡ Some x
    → finmap.insert (finmap.remove jobs t) t x ≡ jobs
put_back jobs t x is = same_nat_map _ _ (λ u. get-insert_nat (finmap.remove jobs t) t x u
    ∙ ap (cond (eqb u t) (Some x)) (get-remove_nat jobs t u) ∙ go u (eqb u t) refl)
  where
    go : (u : ℕ) (k : Bool) → eqb u t ≡ k → cond k (Some x) (cond k None (finmap.get jobs u)) ≡ finmap.get jobs u
    go u true h = sym (ap (finmap.get jobs) (eqb-true u t h) ∙ is)
    go u false h = refl
