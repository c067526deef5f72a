-- How many bytes of a page's block are valid: none, all, or those that the run began with.
use Rattle.std.proofs.Common.{◌≡◌, ℕ, ◌/◌, ◌<◌, Bool, true, false, cond, eqb, List, length, refl, ap, sym, ◌∙◌}
use Rattle.std.proofs.Common.{inl, inr, ◌&&◌, ◌⊎◌, Option, Some, None, nat_le, take}
use Rattle.std.specs.FinMap as finmap
use Rattle.pc_types.specs.Spots.{Spot}
use Rattle.machine.specs.State.{State, Request, handle_file, page_count, spot_at}
use Rattle.machine.specs.Changes.{written, shrunk, flushed, ended}
use Rattle.machine.proofs.changes.ChangeLaws.{new_spot, taken_by, needs_block, written_writes, shrunk_truncates}
use Rattle.machine.proofs.steps.Cases.{Cases}
use Rattle.maps.proofs.MapLaws.{get-insert_place}
use Rattle.runs.specs.Plain.{Plain}
use Rattle.runs.specs.Runs.{Run, Steps, IsFirst, last}
use Rattle.runs.specs.Seen.{files_seen}
use Rattle.runs.specs.Valid.{SpotsAreWholeOrFirst}
use Rattle.runs.specs.World.{World, Move, WorldStep}
use Rattle.runs.proofs.events.Coupled.{Coupled}
use Rattle.runs.proofs.moments.CoreSteps.{core_cases}
use Rattle.runs.proofs.moments.Moments.{first_coupled, run_keeps, run_take}

-- by the state that the run began with
abbrev pub IsKnown : State → ℕ → ℕ → Spot → Type 0
IsKnown first f p spot = (spot.valid ≡ 0) ⊎ ((spot.valid ≡ first.sizes.page) ⊎ (spot_at first f p ≡ Some spot))

pub record Known (first s : State) : Type 0 where
  pub page : s.sizes.page ≡ first.sizes.page
  pub each : (f p : ℕ) (spot : Spot) → spot_at s f p ≡ Some spot → IsKnown first f p spot

same_some : (x y : Spot) → ◌≡◌ {A = Option Spot} (Some x) (Some y) → x ≡ y
same_some x y e = cc

module _ (first s : State) (ok : Known first s) where
  -- no spot changes
  quiet : (new : State) → new.spots ≡ s.spots → new.sizes ≡ s.sizes → Known first new
  quiet new spots sizes = record {
    page = ap (λ x. x.page) sizes ∙ ok.page;
    each = λ f p x is. ok.each f p x (sym (ap (λ m. finmap.get m (f, p)) spots) ∙ is);
  }

  -- a spot is new, or as it was
  of_new : (f p : ℕ) (b : Bool) (k : ℕ) (spot : Spot) → cond b (Some (new_spot k)) (spot_at s f p) ≡ Some spot
      → IsKnown first f p spot
  of_new f p true k spot e = inl (ap (λ (x : Spot). x.valid) (sym (same_some (new_spot k) spot e)))
  of_new f p false k spot e = ok.each f p spot e

  of_gone : (f p : ℕ) (b : Bool) (spot : Spot) → cond b None (spot_at s f p) ≡ Some spot → IsKnown first f p spot
  of_gone f p true spot e = absurd cc
  of_gone f p false spot e = ok.each f p spot e

  of_written : (f p : ℕ) (b : Bool) (x spot : Spot) → x.valid ≡ s.sizes.page
      → cond b (Some x) (spot_at s f p) ≡ Some spot → IsKnown first f p spot
  of_written f p true x spot whole e =
      inr (inl (ap (λ (y : Spot). y.valid) (sym (same_some x spot e)) ∙ whole ∙ ok.page))
  of_written f p false x spot whole e = ok.each f p spot e

  writes : (f o : ℕ) (b : List ℕ) → f < length s.files → (new : State) → new.sizes ≡ s.sizes
      → ((g p : ℕ) → spot_at new g p ≡ cond (eqb g f && needs_block s f o (length b) p)
      (Some (new_spot (taken_by s f (o / s.sizes.page) p))) (spot_at s g p)) → Known first new
  writes f o b here new sizes spots = record {
    page = ap (λ x. x.page) sizes ∙ ok.page;
    each = λ g p x is. of_new g p (eqb g f && needs_block s f o (length b) p) _ x (sym (spots g p) ∙ is);
  }

  shrinks : (f z : ℕ) → f < length s.files → Known first (shrunk s f z)
  shrinks f z here = record {
    page = ok.page;
    each = λ g p x is. of_gone g p (eqb g f && nat_le (page_count s.sizes.page z) p) x
        (sym ((shrunk_truncates s f z here).spots g p) ∙ is);
  }

  flushes : (t : ℕ) (x : Request) → Known first (flushed (ended s t) x)
  flushes t x = record {
    page = ok.page;
    each = λ g p y is. of_written g p (eqb g x.file && eqb p x.page) (record { block = x.block; valid = s.sizes.page }) y
        refl (sym (get-insert_place s.spots x.file x.page _ g p) ∙ is);
  }

module _ (first : State) (w : World) (plain : Plain) (c : Coupled w plain) (ok : Known first w.core) where
  abbrev s : State
  s = w.core

  cases : Cases s (λ e r new. Known first new)
  cases = record {
    same = λ e r step q. ok;
    writes_none = λ e h o is step. ok;
    creates = λ f room is. quiet first s ok _ refl refl;
    opens = λ f h in_files room low. quiet first s ok _ refl refl;
    closes = λ h opened free. quiet first s ok _ refl refl;
    writes = λ e h o b is may.
        let f = handle_file s h.0 in
        let here = c.valid h.0 may.opened in
        writes first s ok f o b here (written s f o b) refl (written_writes s f o b here may.blocks).spots;
    shrinks = λ h z may less. shrinks first s ok (handle_file s h.0) z (c.valid h.0 may.opened);
    grows = λ h z may more. quiet first s ok _ refl refl;
    makes_zeros = λ h p may unwritten. quiet first s ok _ refl refl;
    evicts = λ f p page is idle. quiet first s ok _ refl refl;
    fills = λ h p t may has room is. quiet first s ok _ refl refl;
    flushes = λ f p page t may is. quiet first s ok _ refl refl;
    drops = λ kind end x may dropped. quiet first s ok _ refl refl;
    fill_fails = λ end x code may live o. quiet first s ok _ refl refl;
    fill_ends = λ end x b may live o. quiet first s ok _ refl refl;
    flush_fails = λ end x code may live o. quiet first s ok _ refl refl;
    flush_ends = λ end x may live o. flushes first s ok end.serial.0 x;
    begins = λ h first last m may low. quiet _ s ok _ refl refl;
    starts = λ m y p page t is may given. quiet first s ok _ refl refl;
    waits = λ m y e p is pick first_page page. quiet first s ok _ refl refl;
    over = λ m y r is pick first_page verdict. quiet first s ok _ refl refl;
    sync_drops = λ m y is. quiet first s ok _ refl refl;
  }

  -- a step of the world
  step_known : (new : World) (move : Move) → WorldStep w move new → Known first new.core
  step_known new move step = core_cases w new (Known first) ok cases move step

pub run_known : (w : World) (run : Steps) → IsFirst w → Run w run → (k : ℕ) → Known w.core (last w (take k run)).core
run_known w run first r k =
    run_keeps (Known w.core) (λ v new plain c ok move m. step_known w.core v plain c ok new move m) (take k run) w
    (files_seen w) (first_coupled w first) (record { page = refl; each = λ f p x is. inr (inr is) }) (run_take run w k r)

pub spots_are_whole_or_first : SpotsAreWholeOrFirst
spots_are_whole_or_first w run first r k f p x is = (run_known w run first r k).each f p x is
