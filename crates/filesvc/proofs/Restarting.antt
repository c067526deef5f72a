-- A service that begins with the catalog of another, over its device.
use Rattle.std.proofs.Common.{Bool, false, suc, ◌∷◌, map, ◌≡◌, ℕ, ◌+◌, ◌-◌, ◌*◌, ◌<◌, ◌≤◌, true, List, [], length, min, refl, ap, sym, subst, ◌∙◌, arith}
use Rattle.std.specs.Prelude.{Option, Some, None, Result, Ok, Err, IfOk, nat_lt, option_map, unwrap_or}
use Rattle.std.specs.FinMap as finmap
use Rattle.std.proofs.lemmas.Bool.Decides.{nat_tests}
use Rattle.std.proofs.lemmas.List.{get_or_past}
use Rattle.blockdev.specs.Device.{Told}
use Rattle.pc_types.specs.Limits.{Sizes}
use Rattle.pc_types.specs.Spots.{Spot}
use Rattle.pc_types.specs.declared.refusal.Refusal.{Refusal}
use Rattle.catalog.specs.Cataloged.{Cataloged, fits}
use Rattle.cachecore.specs.Standing as standing
use Rattle.cachecore.specs.Standing.{if_valid, trimmed}
use Rattle.maps.proofs.MapLaws.{get-each_place, same_place_map}
use Rattle.machine.specs.Catalogs.{Catalog, IsCatalog, adopted, catalog_of, size_in}
use Rattle.machine.specs.State.{File, file_at, spot_at, valid_at}
use Rattle.runs.specs.Plain.{Plain}
use Rattle.runs.specs.Reached.{IsReached}
use Rattle.runs.specs.Restart.{IsClean, restarted}
use Rattle.runs.specs.Runs.{Adopts, plain_at}
use Rattle.runs.specs.Seen.{files_seen}
use Rattle.runs.specs.World.{World}
use Rattle.runs.proofs.moments.Reached.{reached_always}
use Rattle.runs.proofs.moments.FilesSeen.{files_are_those}
use Rattle.runs.proofs.moments.Restarts.{runs_may_restart}
use Rattle.world.specs.Stepping.{adopted_world, world_of}
use Rattle.filesvc.specs.Restarts.{Restarts}
use Rattle.filesvc.specs.Seen.{SoloSeen}
use Rattle.filesvc.specs.Service.{Tells, files}

size_count : (files : List File) → length (map (λ (x : File). x.size) files) ≡ length files
size_count [] = refl
size_count (x ∷ files) = ap suc (size_count files)

module _ (w : World) (r : IsReached w) (clean : IsClean w.core) (frames dirty_limit name : ℕ) where
  abbrev plain : Plain
  plain = plain_at r.first r.run (length r.run)

  abbrev Restarted : World → Type 0
  Restarted v = let new = restarted v frames dirty_limit name in
      IsCatalog new.core.sizes (catalog_of v.core) × Adopts (catalog_of v.core) new × ((files_seen new).files ≡ plain.files)

  abbrev left : ℕ → ℕ → ℕ
  left f p = (file_at w.core f).size - p * w.core.sizes.page

  abbrev cut_spot : ℕ → ℕ → Spot → Spot
  cut_spot f p x = record x { valid = min x.valid (left f p) }

  again : Restarted w
  again = subst Restarted r.leads (runs_may_restart r.first r.run r.is_first r.is_run frames dirty_limit name
      (subst (λ (v : World). IsClean v.core) (sym r.leads) clean))

  same_plain : (files_seen w).files ≡ plain.files
  same_plain = ap (λ (v : World). (files_seen v).files) (sym r.leads)
      ∙ ap (λ (v : Plain). v.files) (files_are_those r.first r.run r.is_first r.is_run)

  -- each page that has a block has a valid byte, and none past the page's end
  all_valid : (c : Cataloged) → standing.Tells w.core c → c.files ≡ catalog_of w.core
  all_valid c told = λ i. record {
    sizes = told.sizes i;
    spots = same_place_map c.files.spots (catalog_of w.core).spots at i;
  }
    where
      whole : (f p : ℕ) → valid_at w.core f p ≤ w.core.sizes.page
      whole = (reached_always w r).valid

      of_file : (f p : ℕ) → finmap.get (catalog_of w.core).spots (f, p) ≡ option_map (cut_spot f p) (spot_at w.core f p)
      of_file f p = get-each_place (λ k x. cut_spot k.0 k.1 x) w.core.spots (f, p)

      inside : (f p : ℕ) (o : Option Spot) → spot_at w.core f p ≡ o
          → if_valid (option_map (trimmed w.core f p) o) ≡ option_map (cut_spot f p) o
      inside f p None e = refl
      inside f p (Some x) e =
          let there = of_file f p ∙ ap (option_map (cut_spot f p)) e in
          let some = (again.0.spots f p (cut_spot f p x) there).some in
          let most = whole f p in
          let valid = ap (λ (o : Option Spot). unwrap_or (option_map (λ (y : Spot). y.valid) o) 0) e in
          let few : min x.valid (min (left f p) w.core.sizes.page) ≡ min x.valid (left f p) = omega (arith, most, valid) in
          ap (λ n. if_valid (Some (record x { valid = n }))) few
          ∙ (let v = min x.valid (left f p) in grind (arith, nat_tests, some))

      past : (f p : ℕ) → length w.core.files ≤ f → (o : Option Spot) → finmap.get (catalog_of w.core).spots (f, p) ≡ o → o ≡ None
      past f p h None e = refl
      past f p h (Some x) e =
          let good = again.0.spots f p x e in
          let few = size_count w.core.files in
          let none = get_or_past (catalog_of w.core).sizes f 0 (omega (arith, few, h)) in
          absurd (omega (arith, good.some, good.in_file, none))

      by_file : (f p : ℕ) (b : Bool) → nat_lt f (length w.core.files) ≡ b
          → finmap.get c.files.spots (f, p) ≡ finmap.get (catalog_of w.core).spots (f, p)
      by_file f p true b =
          told.spots f p (grind (arith, nat_tests, b)) ∙ inside f p (spot_at w.core f p) refl ∙ sym (of_file f p)
      by_file f p false b =
          let h : length w.core.files ≤ f = grind (arith, nat_tests, b) in
          told.others f p h ∙ sym (past f p h (finmap.get (catalog_of w.core).spots (f, p)) refl)

      at : (f p : ℕ) → finmap.get c.files.spots (f, p) ≡ finmap.get (catalog_of w.core).spots (f, p)
      at f p = by_file f p (nat_lt f (length w.core.files)) refl

pub restarts : (s : SoloSeen) (c : Cataloged) → (Tells s → IsReached (world_of s.world)) → standing.Tells s.world.core c → Restarts s c
restarts s c reached told tells clean g name d fit contents =
    let w : World = world_of s.world in
    let r : IsReached w = reached tells in
    let page : g.page ≡ w.core.sizes.page = (let a = told.page in grind (arith, nat_tests, fit, a)) in
    let blocks : g.blocks ≡ w.core.sizes.blocks = (let a = told.blocks in grind (arith, nat_tests, fit, a)) in
    let own : c.files ≡ catalog_of w.core = all_valid w r clean g.frames g.dirty_limit name c told in
    let sizes : g ≡ record w.core.sizes { frames = g.frames; dirty_limit = g.dirty_limit } =
    λ i. record { page = page i; frames = g.frames; dirty_limit = g.dirty_limit; blocks = blocks i } in
    let same : world_of (adopted_world g name c.files d) ≡ restarted w g.frames g.dirty_limit name =
    λ i. record {
      core = adopted (sizes i) name (own i);
      device = unwrap_or (contents i) [];
      outcomes = finmap.empty;
      writing = finmap.empty;
    } in
    ap (λ (v : World). (files_seen v).files) same
    ∙ (again w r clean g.frames g.dirty_limit name).2
    ∙ sym (same_plain w r clean g.frames g.dirty_limit name)

pub ok_restarts : (s : SoloSeen) (result : Result Cataloged Refusal) → (Tells s → IsReached (world_of s.world))
    → IfOk result (standing.Tells s.world.core) → IfOk result (Restarts s)
ok_restarts s (Ok c) reached told = restarts s c reached told
ok_restarts s (Err r) reached told = tt
