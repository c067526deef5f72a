-- An event that keeps the requests, and one that begins one, as a step of the world that is made.
use Rattle.std.proofs.Common.{◌≡◌, ℕ, false, refl, sym, subst}
use Rattle.std.specs.Prelude.{None}
use Rattle.std.specs.FinMap as finmap
use Rattle.pc_types.specs.declared.ids.Serial.{Serial}
use Rattle.blockdev.specs.Jobs.{Task, IsJobFor}
use Rattle.machine.specs.declared.event.Event.{Event}
use Rattle.machine.specs.declared.event.Reply.{Reply}
use Rattle.machine.specs.declared.event.Reply.TheVariants as reply
use Rattle.machine.specs.State.{State}
use Rattle.machine.specs.Step.{Step}
use Rattle.runs.specs.World.{Acts, IsAct}
use Rattle.runs.proofs.moments.KeptRequests.{is_end, is_job}
use Rattle.world.specs.Stepping.{WorldSeen, world_of}
use Rattle.world.specs.declared.jobs.Flight.TheVariants.{Asked}
use Rattle.world.specs.Flights.{Jobs, seen_of, IsWorld}
use Rattle.world.proofs.Beginnings.{begun_kind, no_job}
use Rattle.world.proofs.WorldSteps.{IsBegunJob, job_acts, quiet_acts, quiet_world}
use Rattle.blockdev.specs.Watching.{Watch}

-- the event is made, and the device is left alone
abbrev pub IsActed : WorldSeen → Event → Reply → WorldSeen → Type 0
IsActed old e r new =
    (IsAct e r × Acts (world_of old) e r (world_of new)) × (new.device ≡ old.device)
    × (new.unflushed ≡ old.unflushed)

-- an event that begins no request
pub other_world : (core : State) (jobs : Jobs) (dev : Watch) → IsWorld core jobs dev → (e : Event) (r : Reply)
    → (new : State) → begun_kind e ≡ None → is_end e r ≡ false → Step core e r new → IsWorld new jobs dev
other_world core jobs dev w e r new n goes step =
    quiet_world core jobs dev w e r new (no_job core new e r n step) goes step

module _ (core : State) (jobs : Jobs) (dev : Watch) (w : IsWorld core jobs dev) (old : WorldSeen)
    (is_old : seen_of core jobs dev ≡ old) (e : Event) (r : Reply) (new : State) (act : IsAct e r) where
  acted : (table : Jobs) → Acts (world_of (seen_of core jobs dev)) e r (world_of (seen_of new table dev))
      → IsActed old e r (seen_of new table dev)
  acted table a = subst (λ v. IsActed v e r (seen_of new table dev)) is_old ((act, a), refl, refl)

  pub quiet_acted : is_job r ≡ false → is_end e r ≡ false → Step core e r new → IsActed old e r (seen_of new jobs dev)
  quiet_acted quiet goes step = acted jobs (quiet_acts core jobs dev w e r new quiet goes step)

  pub other_acted : begun_kind e ≡ None → is_end e r ≡ false → Step core e r new
      → IsActed old e r (seen_of new jobs dev)
  other_acted n goes step = quiet_acted (no_job core new e r n step) goes step

-- an event that begins a request, by its job
module _ (core : State) (jobs : Jobs) (dev : Watch) (w : IsWorld core jobs dev) (old : WorldSeen)
    (is_old : seen_of core jobs dev ≡ old) (e : Event) (new : State) (job : Task) (table : Jobs) (t : Serial)
    (act : IsAct e (reply.Job t)) where
  pub job_acted : Step core e (reply.Job (record { 0 = job.serial })) new → IsBegunJob new job
      → IsJobFor core.name core.sizes.blocks core.sizes.page job → table ≡ finmap.insert jobs job.serial (Asked job)
      → t.0 ≡ job.serial → IsActed old e (reply.Job t) (seen_of new table dev)
  job_acted step of fits is same =
      subst (λ v. IsActed v e (reply.Job t) (seen_of new table dev)) is_old (
        (
          act,
          subst (λ (n : ℕ). Acts (world_of (seen_of core jobs dev)) e (reply.Job (record { 0 = n }))
              (world_of (seen_of new table dev))) (sym same)
              (subst (λ m. Acts (world_of (seen_of core jobs dev)) e (reply.Job (record { 0 = job.serial }))
              (world_of (seen_of new m dev))) (sym is) (job_acts core jobs dev w e new job step of fits)),
        ),
        refl,
        refl,
      )
