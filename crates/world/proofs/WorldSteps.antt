-- What the core does is what the world does: its parts stay tied, and the step is one of the definitions.
use Rattle.std.proofs.Common.{◌≡◌, ℕ, ◌+◌, ◌<◌, ◌≤◌, Bool, true, false, cond, eqb, eqb-true, List, refl, ap, sym, subst}
use Rattle.std.proofs.Common.{◌∙◌, arith}
use Rattle.std.specs.Prelude.{Option, Some, None, option_map, is_some}
use Rattle.std.specs.FinMap as finmap
use Rattle.std.specs.Ordering.{nat_cmp}
use Rattle.std.specs.Cmp.{nat_cmp_total}
use Rattle.std.specs.FinMap.{len-insert}
use Rattle.pc_types.specs.Limits.{Sizes}
use Rattle.pc_types.specs.Kinds.{is_flush}
use Rattle.pc_types.specs.declared.kind.Kind.TheVariants.{Fill, Flush}
use Rattle.pc_types.specs.declared.limits.TheConstants.{MIN_PAGE_SIZE}
use Rattle.blockdev.specs.Jobs.{Task, IsJobFor}
use Rattle.maps.specs.Maps.{filter_map_values, put_some}
use Rattle.maps.proofs.Filtered.{filter_map_values-put}
use Rattle.maps.proofs.Maps.{get-insert_nat}
use Rattle.machine.specs.declared.event.Event.{Event}
use Rattle.machine.specs.declared.event.Reply.{Reply}
use Rattle.machine.specs.declared.event.Reply.TheVariants as reply
use Rattle.machine.specs.State.{State, Request, page_bytes}
use Rattle.machine.specs.Step.{Step}
use Rattle.cachecore.specs.Replies.{IsJobOf}
use Rattle.runs.specs.World.{Acts, noted, to_write}
use Rattle.runs.proofs.moments.KeptRequests.{Begun, Kept, is_end, is_job, of_requests, undropped}
use Rattle.world.specs.Stepping.{world_of}
use Rattle.world.specs.declared.jobs.Flight.{Flight}
use Rattle.world.specs.declared.jobs.Flight.TheVariants.{Asked}
use Rattle.world.specs.Flights.{Jobs, task_of, outcome_in, written_by, seen_of, HasJob, IsJob, IsWorld}
use Rattle.blockdev.specs.Watching.{Watch}

-- a reply that is no job notes nothing
noted_none : (writing : finmap.FinMap nat_cmp (List ℕ)) (r : Reply) (s : State) → is_job r ≡ false
    → noted writing r s ≡ writing
noted_none writing (reply.Job t) s e = absurd cc
noted_none writing _ s e = refl

-- what a job's device call needs, after a step
pub fits_still : (s new : State) → new.name ≡ s.name → new.sizes ≡ s.sizes → (job : Task)
    → IsJobFor s.name s.sizes.blocks s.sizes.page job → IsJobFor new.name new.sizes.blocks new.sizes.page job
fits_still s new name sizes job h = record {
  cache = h.cache ∙ sym name;
  block = subst (λ (g : Sizes). job.block < g.blocks) (sym sizes) h.block;
  size = h.size ∙ sym (ap (λ (g : Sizes). g.page) sizes);
}

-- the bytes of a job that begins: those of its page, where it writes
abbrev pub IsBegunJob : State → Task → Type 0
IsBegunJob new job = IsJobOf new job (λ x. cond (is_flush x.kind) (page_bytes new x.file x.page) job.bytes)

pub fill_job : (new : State) (job : Task) (kind : (x : Request) → finmap.get new.requests job.serial ≡ Some x
    → x.kind ≡ Fill)
    → IsJobOf new job (λ x. job.bytes) → IsBegunJob new job
fill_job new job kind of = (
  of.0,
  of.1,
  of.2
      ∙ (λ i. record {
        cache = new.name;
        serial = job.serial;
        kind = of.0.kind;
        block = of.0.block;
        bytes = cond (is_flush (sym (kind of.0 of.1) i)) (page_bytes new of.0.file of.0.page) job.bytes;
      }),
)

pub flush_job : (new : State) (job : Task)
    → ((x : Request) → finmap.get new.requests job.serial ≡ Some x → x.kind ≡ Flush)
    → IsJobOf new job (λ x. page_bytes new x.file x.page) → IsBegunJob new job
flush_job new job kind of = (
  of.0,
  of.1,
  of.2
      ∙ (λ i. record {
        cache = new.name;
        serial = job.serial;
        kind = of.0.kind;
        block = of.0.block;
        bytes = cond (is_flush (sym (kind of.0 of.1) i)) (page_bytes new of.0.file of.0.page) job.bytes;
      }),
)

module _ (core : State) (jobs : Jobs) (dev : Watch) (w : IsWorld core jobs dev) where
  page_still : (new : State) → new.sizes ≡ core.sizes → MIN_PAGE_SIZE ≤ new.sizes.page
  page_still new same = subst (λ (g : Sizes). MIN_PAGE_SIZE ≤ g.page) (sym same) w.page_size

  -- ---- events that keep the requests

  same_job : (new : State) → Kept core new → (t : ℕ) (x y : Request) (f : Flight) → undropped x ≡ undropped y
      → IsJob core t y f → IsJob new t x f
  same_job new k t x y f e j = record {
    given = subst (λ n. t < n) (sym k.next) j.given;
    fits = fits_still core new k.name k.sizes (task_of f) j.fits;
    serial = j.serial;
    kind = j.kind ∙ sym (ap (λ (z : Request). z.kind) e);
    block = j.block ∙ sym (ap (λ (z : Request). z.block) e);
  }

  kept_job : (new : State) → Kept core new → (t : ℕ) (q p : Option Request) (o : Option Flight)
      → option_map undropped q ≡ option_map undropped p → HasJob core t p o → HasJob new t q o
  kept_job new k t (Some x) (Some y) (Some f) e h =
      same_job new k t x y f (let i : undropped x ≡ undropped y = cc in i) h
  kept_job new k t (Some x) (Some y) None e h = absurd h
  kept_job new k t (Some x) None o e h = absurd cc
  kept_job new k t None (Some y) o e h = absurd cc
  kept_job new k t None None None e h = tt
  kept_job new k t None None (Some f) e h = absurd h

  kept_world : (new : State) → Kept core new → IsWorld new jobs dev
  kept_world new k = record {
    page_size = page_still new k.sizes;
    each_job = λ t. kept_job new k t (finmap.get new.requests t) (finmap.get core.requests t) (finmap.get jobs t)
        (k.at t) (w.each_job t);
    count = w.count ∙ sym k.len;
    block_size = w.block_size ∙ sym (ap (λ (g : Sizes). g.page) k.sizes);
    block_count = w.block_count ∙ sym (ap (λ (g : Sizes). g.blocks) k.sizes);
  }

  module _ (e : Event) (r : Reply) (new : State) (quiet : is_job r ≡ false) (goes : is_end e r ≡ false)
      (step : Step core e r new) where
    pub quiet_world : IsWorld new jobs dev
    quiet_world = kept_world new ((of_requests core new e r step).kept quiet goes)

    pub quiet_acts : Acts (world_of (seen_of core jobs dev)) e r (world_of (seen_of new jobs dev))
    quiet_acts = (
      step,
      λ i. record (world_of (seen_of new jobs dev)) {
        writing = sym (noted_none (filter_map_values written_by jobs) r new quiet) i;
      },
    )

  -- ---- a request begins

  next_free : (finmap.get core.requests core.next ≡ None) × (finmap.get jobs core.next ≡ None)
  next_free = go (finmap.get core.requests core.next) (finmap.get jobs core.next) (w.each_job core.next)
    where
      go : (q : Option Request) (o : Option Flight) → HasJob core core.next q o → (q ≡ None) × (o ≡ None)
      go None None h = (refl, refl)
      go None (Some f) h = absurd h
      go (Some x) None h = absurd h
      go (Some x) (Some f) h = absurd (let a = h.given in omega arith)

  one_more : {A : Type 0} (m : finmap.FinMap nat_cmp A) (t : ℕ) (v : A) → finmap.get m t ≡ None
      → finmap.len (finmap.insert m t v) ≡ finmap.len m + 1
  one_more m t v e = len-insert nat_cmp_total m t v ∙ ap (λ b. cond b (finmap.len m) (finmap.len m + 1)) (ap is_some e)

  module _ (e : Event) (new : State) (job : Task) (step : Step core e (reply.Job (record { 0 = job.serial })) new)
      (of : IsBegunJob new job) (fits : IsJobFor core.name core.sizes.blocks core.sizes.page job) where
    begun : Begun core new job.serial
    begun = (of_requests core new e (reply.Job (record { 0 = job.serial })) step).begun (record { 0 = job.serial }) refl

    pub job_apart : finmap.get jobs job.serial ≡ None
    job_apart = ap (finmap.get jobs) begun.serial ∙ next_free.1

    requests : new.requests ≡ finmap.insert core.requests job.serial begun.x
    requests = begun.requests ∙ ap (λ t. finmap.insert core.requests t begun.x) (sym begun.serial)

    its_job : IsJob new job.serial of.0 (Asked job)
    its_job = record {
      given = (let a = begun.serial in let b = begun.next in omega arith);
      fits = fits_still core new begun.name begun.sizes job fits;
      serial = refl;
      kind = ap (λ (x : Task). x.kind) of.2;
      block = ap (λ (x : Task). x.block) of.2;
    }

    old_job : (t : ℕ) (q : Option Request) (o : Option Flight) → HasJob core t q o → HasJob new t q o
    old_job t (Some x) (Some f) h = record {
      given = (let a = h.given in let b = begun.next in omega arith);
      fits = fits_still core new begun.name begun.sizes (task_of f) h.fits;
      serial = h.serial;
      kind = h.kind;
      block = h.block;
    }
    old_job t None None h = h
    old_job t (Some x) None h = h
    old_job t None (Some f) h = h

    pub job_world : IsWorld new (finmap.insert jobs job.serial (Asked job)) dev
    job_world = record {
      page_size = page_still new begun.sizes;
      each_job = λ t. subst (HasJob new t (finmap.get new.requests t))
          (sym (get-insert_nat jobs job.serial (Asked job) t))
          (either t (eqb t job.serial) refl);
      count = one_more jobs job.serial (Asked job) job_apart ∙ ap (λ n. n + 1) w.count
          ∙ sym (ap finmap.len requests ∙ one_more core.requests job.serial begun.x
          (ap (finmap.get core.requests) begun.serial ∙ next_free.0));
      block_size = w.block_size ∙ sym (ap (λ (g : Sizes). g.page) begun.sizes);
      block_count = w.block_count ∙ sym (ap (λ (g : Sizes). g.blocks) begun.sizes);
    }
      where
        either : (t : ℕ) (b : Bool) → eqb t job.serial ≡ b
            → HasJob new t (finmap.get new.requests t) (cond b (Some (Asked job)) (finmap.get jobs t))
        either t true e =
            subst (λ u. HasJob new u (finmap.get new.requests u) (Some (Asked job))) (sym (eqb-true t job.serial e))
            (subst (λ q. HasJob new job.serial q (Some (Asked job))) (sym of.1) its_job)
        either t false e =
            subst (λ q. HasJob new t q (finmap.get jobs t))
            (sym (ap (λ m. finmap.get m t) requests ∙ get-insert_nat core.requests job.serial begun.x t
            ∙ ap (λ b. cond b (Some begun.x) (finmap.get core.requests t)) e))
            (old_job t (finmap.get core.requests t) (finmap.get jobs t) (w.each_job t))

    -- the bytes that the machine notes are those of the job
    wrote : written_by (Asked job) ≡ to_write new (finmap.get new.requests job.serial)
    wrote =
        ap (λ k. cond (is_flush k) (Some job.bytes) None) (ap (λ (x : Task). x.kind) of.2)
        ∙ go (is_flush of.0.kind) (ap (λ (x : Task). x.bytes) of.2) ∙ ap (to_write new) (sym of.1)
      where
        page : List ℕ
        page = page_bytes new of.0.file of.0.page

        go : (b : Bool) → job.bytes ≡ cond b page job.bytes
            → cond b (Some job.bytes) None ≡ cond b (Some page) None
        go true e = ap Some e
        go false e = refl

    pub job_acts : Acts (world_of (seen_of core jobs dev)) e (reply.Job (record { 0 = job.serial }))
        (world_of (seen_of new (finmap.insert jobs job.serial (Asked job)) dev))
    job_acts = (
      step,
      λ i. record (world_of (seen_of new jobs dev)) {
        outcomes = filter_map_values-put outcome_in jobs job.serial (Asked job) job_apart i;
        writing = (filter_map_values-put written_by jobs job.serial (Asked job) job_apart
            ∙ ap (λ o. put_some job.serial o (filter_map_values written_by jobs)) wrote) i;
      },
    )
