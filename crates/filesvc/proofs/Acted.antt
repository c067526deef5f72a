-- What one event of the cache leaves of a service.
use Rattle.std.proofs.Common.{◌≡◌, ℕ, ◌≤◌, true, false, not, ap, sym, subst, ◌∙◌, arith}
use Rattle.std.specs.Prelude.{is_some}
use Rattle.atomic_table.specs.Seated.{TableId}
use Rattle.blockdev.specs.Device.{Told, max_calls}
use Rattle.errboard.specs.Shown.{RecorderSeen}
use Rattle.pc_types.specs.Limits.{Sizes}
use Rattle.pc_types.specs.declared.limits.TheConstants.{MIN_DIRTY_LIMIT, MIN_FRAMES, MIN_PAGE_SIZE}
use Rattle.machine.specs.declared.event.Event.{Event}
use Rattle.machine.specs.declared.event.Reply.{Reply}
use Rattle.filesvc.proofs.SyncsKept.{begins_sync, act_none, none_empty}
use Rattle.runs.specs.Plain.{plain_after}
use Rattle.runs.specs.Seen.{files_seen}
use Rattle.world.specs.Stepping.{WorldSeen, world_of}
use Rattle.runs.specs.World.{Act, WorldStep}
use Rattle.world.proofs.InFlight.{NoneInFlight, next_stays, none_stays}
use Rattle.runs.proofs.moments.KeptRequests.{is_job}
use Rattle.runs.proofs.moments.Reached.{files_step, reached_step}
use Rattle.world.proofs.Stays.{stays}
use Rattle.filesvc.proofs.FailedWrites.{core_sound}
use Rattle.orderly.proofs.FileSizes.{bounded_stays, few_stays}
use Rattle.orderly.proofs.Orderly.{orderly_stays}
use Rattle.filesvc.specs.Rests.{IsResting, IsService, IsServing}

resting : (w : WorldSeen) → IsResting w → NoneInFlight (world_of w)
resting w r = record { requests = r.requests; outcomes = r.outcomes }

module _ (name : ℕ) (w new : WorldSeen) (table : TableId) (errors : RecorderSeen) (s : IsService name w table errors) (e : Event) (r : Reply) (m : WorldStep (world_of w) (Act e r) (world_of new)) (d : new.device ≡ w.device) where
  tells : is_some new.device.contents ≡ true → is_some w.device.contents ≡ true
  tells t = ap (λ x. is_some x.contents) (sym d) ∙ t

  serving_acted : is_job r ≡ false → IsServing name new table errors
  serving_acted j = record {
    named = (stays (world_of w) (world_of new) (Act e r) m).1 ∙ s.serving.named;
    board = s.serving.board;
    lists = s.serving.lists;
    rests = (let a = none_stays (world_of w) (world_of new) e r j (resting w s.serving.rests) m in record { requests = a.requests; outcomes = a.outcomes });
    reached = λ t. reached_step (world_of w) (world_of new) (Act e r) (s.serving.reached (tells t)) m;
    sound = core_sound (world_of w) (world_of new) (Act e r) m s.serving.sound;
    orderly = orderly_stays (world_of w) (world_of new) (Act e r) m s.serving.sound s.serving.orderly;
    counted = subst (λ (x : Told). x.calls ≤ max_calls) (sym d) s.serving.counted;
    bounded = bounded_stays (world_of w) (world_of new) (Act e r) m s.serving.bounded;
    page = subst (λ (z : Sizes). MIN_PAGE_SIZE ≤ z.page) (sym (stays (world_of w) (world_of new) (Act e r) m).0) s.serving.page;
    frames = subst (λ (z : Sizes). MIN_FRAMES ≤ z.frames) (sym (stays (world_of w) (world_of new) (Act e r) m).0) s.serving.frames;
    dirty = subst (λ (z : Sizes). MIN_DIRTY_LIMIT ≤ z.dirty_limit) (sym (stays (world_of w) (world_of new) (Act e r) m).0) s.serving.dirty;
    few = few_stays (world_of w) (world_of new) (Act e r) m s.serving.few;
    serials = (let a = next_stays (world_of w) (world_of new) (Act e r) (ap not j) m in let b : new.device.calls ≡ w.device.calls = ap (λ (x : Told). x.calls) d in let c = s.serving.serials in omega arith);
  }

  pub service_acted : begins_sync e ≡ false → is_job r ≡ false → IsService name new table errors
  service_acted q j = record { serving = serving_acted j; syncs = none_empty w.core new.core (act_none (world_of w) (world_of new) e r q m) s.syncs }

  pub files_acted : is_some w.device.contents ≡ true → files_seen (world_of new) ≡ plain_after (files_seen (world_of w)) e r
  files_acted t = files_step (world_of w) (world_of new) (Act e r) (s.serving.reached t) m
