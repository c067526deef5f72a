-- Cache and plain files are coupled at each moment of a run.
use Rattle.std.proofs.Common.{◌≡◌, ℕ, zero, suc, ◌<◌, ◌≤◌, true, false, [], ◌∷◌, length, ap, sym, subst, refl, ◌∙◌}
use Rattle.std.proofs.Common.{arith, take, option_map, Option, Some, None, is_some, nat_le, nat_cmp, get_or, ◌+◌, ◌*◌}
use Rattle.std.specs.FinMap as finmap
use Rattle.std.proofs.lemmas.Bool.Decides.{nat_tests}
use Rattle.pc_types.specs.Files.{page_of}
use Rattle.pc_types.specs.Spots.{Spot, place_cmp}
use Rattle.pc_types.proofs.SpotLaws.{byte-shown}
use Rattle.machine.specs.Catalogs.{IsAdoptable, size_in, adopted}
use Rattle.machine.specs.State.{State, File, page_count, file_at, page_at, spot_at}
use Rattle.machine.proofs.changes.Adopted.{adopted_file, none_cached}
use Rattle.machine.proofs.steps.Choices.{some_of}
use Rattle.runs.specs.Plain.{Plain, plain_file}
use Rattle.runs.specs.Seen.{files_seen}
use Rattle.runs.specs.World.{World, Move, WorldStep, on_device, own_block}
use Rattle.runs.specs.Runs.{Steps, IsFirst, Run, last, world_at, plain_at, plain_move, plain_from}
use Rattle.runs.proofs.views.View.{Good, dirty, writeback, towrite, settled, valid_of}
use Rattle.runs.proofs.bytes.CutLaws.{below_count}
use Rattle.runs.proofs.moments.SeenBytes.{count-seen, length-seen, plain-seen, page-seen}
use Rattle.runs.proofs.events.Tables.{Tables, flight_at, bytes_of, flight, fit, writes}
use Rattle.runs.proofs.events.Coupled.{view, Coupled, coupled}
use Rattle.runs.proofs.events.Steps.{move_kept}

-- ---- the first world

module _ (w : World) (first : IsFirst w) where
  abbrev s : State
  s = w.core

  abbrev P : ℕ
  P = s.sizes.page

  abbrev spots : finmap.FinMap place_cmp Spot
  spots = first.catalog.spots

  core : s ≡ adopted s.sizes s.name first.catalog
  core = first.adopts.core

  page_none : (f p : ℕ) → page_at s f p ≡ None
  page_none f p = ap (λ (s : State). page_at s f p) core ∙ none_cached s.sizes s.name first.catalog f p

  spot_is : (f p : ℕ) → spot_at s f p ≡ finmap.get spots (f, p)
  spot_is f p = ap (λ (s : State). spot_at s f p) core

  size_is : (f : ℕ) → (file_at s f).size ≡ size_in first.catalog f
  size_is f = ap (λ (s : State). (file_at s f).size) core
      ∙ ap (λ (x : File). x.size) (adopted_file s.sizes s.name first.catalog f)

  request_none : (t : ℕ) → finmap.get s.requests t ≡ None
  request_none t = ap (λ (s : State). finmap.get s.requests t) core ∙ finmap.get-empty nat_cmp t

  flight_none : (t : ℕ) → flight_at s.requests w.writing t ≡ None
  flight_none t = ap (λ o. option_map (flight (bytes_of w.writing t)) o) (request_none t)

  outcome_none : (t : ℕ) → finmap.get w.outcomes t ≡ None
  outcome_none t = ap (λ m. finmap.get m t) first.adopts.outcomes ∙ finmap.get-empty nat_cmp t

  writing_none : (t : ℕ) → finmap.get w.writing t ≡ None
  writing_none t = ap (λ m. finmap.get m t) first.adopts.writing ∙ finmap.get-empty nat_cmp t

  handle_none : (h : ℕ) → finmap.get s.handles h ≡ None
  handle_none h = ap (λ (s : State). finmap.get s.handles h) core ∙ finmap.get-empty nat_cmp h

  -- ---- the pages of the catalog

  adoptable : (f p : ℕ) (x : Spot) → spot_at s f p ≡ Some x → IsAdoptable s.sizes (file_at s f).size p x
  adoptable f p x is = subst (λ z. IsAdoptable s.sizes z p x) (sym (size_is f))
      (first.is_catalog.spots f p x (sym (spot_is f p) ∙ is))

  -- what is valid of a block is no more than the file has there
  valid_within : (f p k : ℕ) → (file_at s f).size ≤ p * P + k → valid_of (spot_at s f p) ≤ k
  valid_within f p k past = go (spot_at s f p) refl
    where
      go : (o : Option Spot) → spot_at s f p ≡ o → valid_of o ≤ k
      go None is = omega arith
      go (Some x) is = let a = (adoptable f p x is).in_file in omega arith

  zeros_past : (f p k : ℕ) → k < P → (file_at s f).size ≤ p * P + k → get_or (on_device w f p) k 0 ≡ 0
  zeros_past f p k small past =
      let few = valid_within f p k past in
      byte-shown P (valid_of (spot_at s f p)) (own_block w f p) k ∙ grind (arith, nat_tests)

  seen_is : (f p : ℕ) → page_of P (plain_file (files_seen w) f) p ≡ on_device w f p
  seen_is f p = page-seen w f p (page_none f p) (zeros_past f p)

  all_settled : (f p : ℕ) → settled (spot_at s f p) ≡ true
  all_settled f p = go (spot_at s f p) refl
    where
      go : (o : Option Spot) → spot_at s f p ≡ o → settled o ≡ true
      go None is = refl
      go (Some x) is = let a = (adoptable f p x is).some in grind (arith, nat_tests)

  spot_within : (f p : ℕ) → is_some (spot_at s f p) ≡ true → p < page_count P (file_at s f).size
  spot_within f p e = let x = some_of (spot_at s f p) e in let a = adoptable f p x.0 x.1 in
      below_count P (file_at s f).size p first.adopts.page_size (let b = a.some in let c = a.in_file in omega arith)

  good : Good (view w (files_seen w))
  good = record {
    positive = first.adopts.page_size;
    pages = λ f p. let a = page_none f p in record {
      bytes = λ x e. absurd cc;
      towrite = λ e. absurd (let d = ap towrite a in cc);
      dirty_block = λ e. absurd (let d = ap dirty a in cc);
      writeback_block = λ e. absurd (let d = ap writeback a in cc);
      clean = λ _ _. sym (seen_is f p);
      clean_block = λ _ _. all_settled f p;
    };
    page_in = λ f p e. absurd (let a = ap is_some (page_none f p) in cc);
    spot_in = spot_within;
    spot_block = λ f p x e. let a = (adoptable f p x e).on_device in let b = first.adopts.blocks in omega arith;
    spot_valid = λ f p x e. (adoptable f p x e).in_page;
    spots_apart = λ f p g q x y e k b. first.is_catalog.apart f p g q x y (sym (spot_is f p) ∙ e) (sym (spot_is g q) ∙ k) b;
    requests = λ t r e. absurd (let a = flight_none t in cc);
    requests_apart = λ t u r x e k b. absurd (let a = flight_none t in cc);
    flushes = λ f p e. absurd (let a = ap writeback (page_none f p) in cc);
    outcomes = λ t e. absurd (let a = ap is_some (outcome_none t) in cc);
    block_sizes = λ b h. first.adopts.block_sizes b [] h;
  }

  tables : Tables s.requests w.outcomes w.writing
  tables = record {
    writes = λ t. ap is_some (writing_none t) ∙ sym (ap writes (request_none t));
    fit = λ t. ap (λ o. fit o (finmap.get w.outcomes t)) (request_none t);
  }

  pub first_coupled : Coupled w (files_seen w)
  first_coupled = record {
    good = good;
    tables = tables;
    blocks = first.adopts.blocks;
    handles = refl;
    count = count-seen w;
    valid = λ h e. absurd (let a = ap is_some (handle_none h) in cc);
    sizes = λ f. ap length (plain-seen w f) ∙ length-seen w f;
  }

-- ---- a whole run

-- what holds at moment i, and goes on from each moment to the next, holds at a later moment n
pub climb : (P : ℕ → Type 0) (i n : ℕ) → i ≤ n → ((k : ℕ) → i ≤ k → k < n → P k → P (suc k)) → P i → P n
climb P i zero l next here = subst P (omega arith) here
climb P i (suc n) l next here = elim (nat_le i n) as (λ b. nat_le i n ≡ b → P (suc n)) [
  | true ↦ λ e. let low : i ≤ n = grind (arith, nat_tests) in
      next n low (omega arith) (climb P i n low (λ k a b. next k a (omega arith)) here)
  | false ↦ λ e. subst P (grind (arith, nat_tests)) here
] refl

pub run_coupled : (run : Steps) (w : World) (plain : Plain) → Coupled w plain → Run w run
    → Coupled (last w run) (plain_from plain run)
run_coupled [] w plain c r = c
run_coupled (step ∷ steps) w plain c r = run_coupled steps step.1 (plain_move plain step.0)
    (coupled w plain _ step.1 (plain_move plain step.0) (move_kept w plain c step.0 step.1 r.0)) r.1

-- a run's first steps are a run
pub run_take : (run : Steps) (w : World) (k : ℕ) → Run w run → Run w (take k run)
run_take run w zero r = tt
run_take [] w (suc k) r = tt
run_take (step ∷ steps) w (suc k) r = (r.0, run_take steps step.1 k r.1)

pub coupled_at : (w : World) (run : Steps) → IsFirst w → Run w run → (k : ℕ)
    → Coupled (world_at w run k) (plain_at w run k)
coupled_at w run first r k = run_coupled (take k run) w (files_seen w) (first_coupled w first) (run_take run w k r)

-- what each step keeps holds at the end of a run
pub run_keeps : (Q : State → Type 0)
    → ((w new : World) (plain : Plain) → Coupled w plain → Q w.core → (move : Move) → WorldStep w move new → Q new.core)
    → (run : Steps) (w : World) (plain : Plain) → Coupled w plain → Q w.core → Run w run → Q (last w run).core
run_keeps Q step [] w plain k c r = c
run_keeps Q step (x ∷ xs) w plain k c r =
    run_keeps Q step xs x.1 (plain_move plain x.0)
    (coupled w plain _ x.1 (plain_move plain x.0) (move_kept w plain k x.0 x.1 r.0)) (step w x.1 plain k c x.0 r.0) r.1
