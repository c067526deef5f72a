-- A flush of the device leaves the service as it was, and how an fsync ends by how its pages are saved.
use Rattle.std.proofs.Common.{◌≡◌, ℕ, ◌+◌, ◌<◌, ◌≤◌, Bool, true, false, length, refl, ap, sym, subst, ◌∙◌, inl, inr}
use Rattle.std.specs.Option.{option_or}
use Rattle.std.specs.Prelude.{◌⊎◌, Option, Some, None, is_some, unwrap_or, Result, Ok, Err}
use Rattle.blockdev.specs.Device.{Outcome, Told, max_calls}
use Rattle.errboard.specs.Shown.{RecorderSeen}
use Rattle.pc_types.specs.Files.{page_of}
use Rattle.pc_types.specs.declared.ids.HandleId.{HandleId}
use Rattle.pc_types.specs.declared.ids.PageIndex.{PageIndex}
use Rattle.pc_types.specs.declared.limits.TheConstants.{MAX_FILES, MAX_FILE_SIZE, MIN_DIRTY_LIMIT, MIN_FRAMES, MIN_PAGE_SIZE}
use Rattle.pc_types.specs.declared.refusal.Refusal.{Refusal}
use Rattle.pc_types.specs.declared.refusal.Refusal.TheVariants.{BadRange, Io}
use Rattle.machine.specs.Sound.{Sound}
use Rattle.machine.specs.State.{State, file_at, page_count}
use Rattle.runs.specs.Plain.{plain_file}
use Rattle.runs.specs.Reached.{IsReached}
use Rattle.runs.specs.Seen.{files_seen}
use Rattle.runs.specs.World.{World, on_device}
use Rattle.world.specs.Flushing.{IsFlushedOnce}
use Rattle.world.specs.Stepping.{WorldSeen, world_of}
use Rattle.filesvc.specs.Made.{Moves, is_for_sync}
use Rattle.filesvc.specs.Rests.{IsService}
use Rattle.orderly.specs.Orderly.{IsOrderly}
use Rattle.filesvc.specs.Saving.{Ends, IsSaveRefusal, IsUnflushed, SaveEnds, answer_of}
use Rattle.filesvc.specs.Seen.{HandleSeen, SoloSeen}
use Rattle.filesvc.specs.Service.{AreOnDevice, IsPolled, IsSyncRefusal, IsTallied, Reports, Serves, errors_of}
use Rattle.filesvc.specs.Service.{is_reported, is_untold, untold_since}
use Rattle.filesvc.specs.Syncs.{service_of}
use Rattle.orderly.proofs.FileSteps.{within}
use Rattle.filesvc.proofs.Laws.{keeps_refl, serves_counted, since_same}

-- ---- a flush

-- what a flush leaves
pub record Unmoved (w v : WorldSeen) : Type 0 where
  pub core : v.core ≡ w.core
  pub world : world_of v ≡ world_of w
  pub outcomes : v.outcomes ≡ w.outcomes
  pub contents : v.device.contents ≡ w.device.contents
  pub calls : v.device.calls ≡ w.device.calls

pub unmoved : (w v : WorldSeen) (r : Outcome) → IsFlushedOnce w r v → Unmoved w v
unmoved w v r f = by w.unflushed refl
  where
    by : (b : Bool) → w.unflushed ≡ b → Unmoved w v
    by true e =
        let x = f.written e in record {
          core = ap (λ (y : WorldSeen). y.core) x.rest;
          world = x.same;
          outcomes = ap (λ (y : WorldSeen). y.outcomes) x.rest;
          contents = ap (λ (d : Told). d.contents) x.flushes.same;
          calls = ap (λ (d : Told). d.calls) x.flushes.same;
        }
    by false e =
        let x = (f.unwritten e).1 in record {
          core = ap (λ (y : WorldSeen). y.core) x;
          world = ap world_of x;
          outcomes = ap (λ (y : WorldSeen). y.outcomes) x;
          contents = ap (λ (y : WorldSeen). y.device.contents) x;
          calls = ap (λ (y : WorldSeen). y.device.calls) x;
        }

module _ (w v : WorldSeen) (u : Unmoved w v) (errors : RecorderSeen) where
  pub flush_service : IsService w.core.name w errors.board errors → IsService v.core.name v errors.board errors
  flush_service i = record {
    serving = record {
      named = refl;
      board = refl;
      lists = i.serving.lists;
      rests = record {
        requests = ap (λ (s : State). s.requests) u.core ∙ i.serving.rests.requests;
        outcomes = u.outcomes ∙ i.serving.rests.outcomes;
      };
      reached = λ t. subst IsReached (sym u.world) (i.serving.reached (sym (ap is_some u.contents) ∙ t));
      sound = subst Sound (sym u.core) i.serving.sound;
      orderly = subst IsOrderly (sym u.core) i.serving.orderly;
      counted = subst (λ n. n ≤ max_calls) (sym u.calls) i.serving.counted;
      bounded = subst (λ (s : State). (f : ℕ) → (file_at s f).size ≤ MAX_FILE_SIZE) (sym u.core) i.serving.bounded;
      few = subst (λ (s : State). length s.files ≤ MAX_FILES) (sym u.core) i.serving.few;
      page = subst (λ (s : State). MIN_PAGE_SIZE ≤ s.sizes.page) (sym u.core) i.serving.page;
      frames = subst (λ (s : State). MIN_FRAMES ≤ s.sizes.frames) (sym u.core) i.serving.frames;
      dirty = subst (λ (s : State). MIN_DIRTY_LIMIT ≤ s.sizes.dirty_limit) (sym u.core) i.serving.dirty;
      serials = subst (λ (s : State). s.next ≤ v.device.calls) (sym u.core)
          (subst (λ n. w.core.next ≤ n) (sym u.calls) i.serving.serials);
    };
    syncs = ap (λ (s : State). s.syncs) u.core ∙ i.syncs;
  }

  pub flush_serves : w.device.faults ≤ v.device.faults → Serves (service_of w errors) (service_of v errors)
  flush_serves faults = record {
    keeps = record {
      name = ap (λ (s : State). s.name) u.core;
      sizes = ap (λ (s : State). s.sizes) u.core;
      handles = ap (λ (s : State). s.handles) u.core;
      count = ap (λ (s : State). length s.files) u.core;
      board = refl;
      opening = refl;
      recorded = (keeps_refl (service_of w errors)).recorded;
      noted = λ f. ap (λ (s : State). length (errors_of (service_of w errors) f) + (file_at s f).failures) (sym u.core);
      coded = λ i f. i f ∙ ap (λ (s : State). (file_at s f).last_code) (sym u.core);
      untold = λ f _. since_same _ _ _ (ap (λ (s : State). (file_at s f).failures) u.core);
      tells = ap is_some u.contents;
      faults = faults;
    };
    lengths = λ f. ap (λ (s : State). (file_at s f).size) u.core;
    files = λ _. ap files_seen u.world;
  }

  pub flush_synced : (f : ℕ) (first last : PageIndex) → AreOnDevice (service_of w errors) f first last
      → AreOnDevice (service_of v errors) f first last
  flush_synced f first last s = subst (λ (x : World). (p : ℕ) → first.0 ≤ p → p ≤ last.0
      → p < page_count x.core.sizes.page (length (plain_file (files_seen x) f))
      → on_device x f p ≡ page_of x.core.sizes.page (plain_file (files_seen x) f) p) (sym u.world) s

  pub flush_tallied : (old : SoloSeen) (f : ℕ) → IsTallied old f (service_of w errors) None
      → IsTallied old f (service_of v errors) None
  flush_tallied old f s = ap (λ (s : State). (file_at s f).failures) u.core ∙ s

-- ---- a sync that is refused

module _ (h : HandleId) (first last : PageIndex) (old new : WorldSeen) (b : SoloSeen) where
  pub save_refused : (why : Refusal) → Moves is_for_sync old new → (last.0 < first.0 → why ≡ BadRange)
      → (first.0 ≤ last.0 → IsSyncRefusal why b) → SaveEnds h first last old (Err why) new
  save_refused (Io code) m turned refused = absurd (elim (within last.0 first.0) [
    | inl x ↦ (let e = turned x in absurd cc)
    | inr x ↦ refused x
  ])
  save_refused why m turned refused = m

pub save_why : (b : SoloSeen) (why : Refusal) → IsSyncRefusal why b → IsSaveRefusal why b
save_why b (Io code) x = tt
save_why b why x = x

pub saved_refusal : (b : SoloSeen) (why : Refusal) → is_reported (Err why) ≡ false → IsSaveRefusal why b
    → IsSyncRefusal why b
saved_refusal b (Io code) e x = absurd cc
saved_refusal b why e x = x

-- ---- how the call ends

or_none : (o : Option ℕ) → option_or o None ≡ o
or_none None = refl
or_none (Some code) = refl

or_some : (o : Option ℕ) (code : ℕ) → answer_of (option_or o (Some code)) ≡ Err (Io (unwrap_or o code))
or_some None code = refl
or_some (Some c) code = refl

module _ (first last : PageIndex) (old : SoloSeen) (h : HandleSeen) (new : SoloSeen) where
  pub refused_ends : (why : Refusal) → SaveEnds (record { 0 = h.number }) first last old.world (Err why) new.world
      → is_untold new h.file ≡ untold_since old new h.file → Ends first last old h (Err why) new h
  refused_ends (Io code) e u = inr (inl (record { code = code; saves = e; answer = refl; kept = refl; untold = u }))
  refused_ends why e u = inr (inr (inr (record { moves = e; unreported = refl; kept = refl; untold = u })))

  pub refused_reports : (why : Refusal) → SaveEnds (record { 0 = h.number }) first last old.world (Err why) new.world
      → is_untold new h.file ≡ untold_since old new h.file → Reports old h (Err why) new ⊎ IsUnflushed first last old h (Err why) new h
  refused_reports (Io code) e u = inr (record { code = code; saves = e; answer = refl; kept = refl; untold = u })
  refused_reports why e u = inl tt

  pub polled_ends : (failed told : Option ℕ) (result : Result Unit Refusal) (after : HandleSeen)
      → SaveEnds (record { 0 = h.number }) first last old.world (Ok failed) new.world → IsPolled old h told new after
      → result ≡ answer_of (option_or told failed) → Ends first last old h result new after
  polled_ends None told result after e p is =
      inl (record { told = told; saves = e; polled = p; answer = is ∙ ap answer_of (or_none told) })
  polled_ends (Some code) told result after e p is =
      inr (inr (inl (record { code = code; told = told; syncs = e; polled = p; answer = is ∙ or_some told code })))

-- the whole service after a flush
pub flushed_serves : (w v : WorldSeen) (errors : RecorderSeen) (n : ℕ) (r : Outcome) → IsFlushedOnce w r v
    → w.device.faults ≤ v.device.faults
    → Serves (record { world = w; errors = errors; attempts = n }) (record { world = v; errors = errors; attempts = n })
flushed_serves w v errors n r f faults =
    serves_counted (service_of w errors) (service_of v errors) n n (flush_serves w v (unmoved w v r f) errors faults)

-- one that failed leaves something to flush
pub failed_flush : (w v : WorldSeen) (code : ℕ) → IsFlushedOnce w (Err code) v → v.unflushed ≡ true
failed_flush w v code f = by w.unflushed refl
  where
    by : (b : Bool) → w.unflushed ≡ b → v.unflushed ≡ true
    by true e = (f.written e).failed ∙ e
    by false e = absurd (let x = (f.unwritten e).0 in cc)
