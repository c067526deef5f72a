-- A service that begins: a run leads to its world, and nothing was recorded.
use Rattle.std.proofs.Common.{◌≡◌, ◌≤◌, ℕ, zero, suc, true, List, [], length, get_or, ap, sym, subst, ◌∙◌, refl, arith}
use Rattle.std.specs.Prelude.{Option, Some, None, is_some, IfSome, replicate}
use Rattle.blockdev.specs.Device.{Told}
use Rattle.errseq.specs.declared.recording.Recording.{Recording}
use Rattle.std.proofs.lemmas.List.{length-replicate}
use Rattle.pc_types.specs.declared.limits.TheConstants.{MAX_FILES, MAX_FILE_SIZE, MIN_PAGE_SIZE}
use Rattle.errboard.specs.Views.{files, recorded_of}
use Rattle.runs.specs.Reached.{IsReached}
use Rattle.runs.specs.Runs.{Adopts}
use Rattle.machine.specs.Catalogs.{Catalog, IsCatalog, adopted}
use Rattle.machine.specs.State.{File, file_at}
use Rattle.machine.proofs.changes.Adopted.{adopted_file, same_count}
use Rattle.machine.specs.Sound.{Sound}
use Rattle.machine.proofs.sound.Steps.{histories_are_sound}
use Rattle.world.specs.Stepping.{WorldSeen, adopted_world, world_of}
use Rattle.pc_types.specs.Limits.{Sizes}
use Rattle.runs.proofs.moments.Reached.{reached_first}
use Rattle.orderly.specs.Orderly.{IsOrderly}
use Rattle.orderly.proofs.Orderly.{adopted_orderly}

pub reached_at : (w : WorldSeen) (files : Catalog) (d : Told) → w.device ≡ d → IsCatalog w.core.sizes files
    → IfSome d.contents (λ _. Adopts files (world_of w)) → is_some w.device.contents ≡ true → IsReached (world_of w)
reached_at w files d same ok first tells = reached_first (world_of w) (record {
  catalog = files;
  is_catalog = ok;
  adopts = go d.contents first (sym (ap (λ (x : Told). is_some x.contents) same) ∙ tells);
})
  where
    go : (o : Option (List (List ℕ))) → IfSome o (λ _. Adopts files (world_of w)) → is_some o ≡ true
        → Adopts files (world_of w)
    go None f e = absurd cc
    go (Some x) f e = f

same_at : {A : Type 0} (n f : ℕ) (d : A) → get_or (replicate n d) f d ≡ d
same_at zero f d = refl
same_at (suc n) zero d = refl
same_at (suc n) (suc f) d = same_at n f d

pub nothing_in : (all : List (List Recording)) (f : ℕ) → all ≡ replicate files [] → recorded_of all f ≡ []
nothing_in all f e = ap (λ x. recorded_of x f) e ∙ same_at files f []

pub lists_in : (all : List (List Recording)) → all ≡ replicate files [] → length all ≡ MAX_FILES
lists_in all e = ap length e ∙ length-replicate {A = List Recording} files []

module _ (g : Sizes) (name : ℕ) (files : Catalog) (d : Told) (w : WorldSeen) (is : w ≡ adopted_world g name files d) (ok : IsCatalog g files) where
  pub sound_at : Sound w.core
  sound_at = subst (λ (x : WorldSeen). Sound x.core) (sym is)
      (histories_are_sound files g name [] (adopted g name files) ok refl)

  pub orderly_at : MIN_PAGE_SIZE ≤ g.page → IsOrderly w.core
  orderly_at some = subst (λ (x : WorldSeen). IsOrderly x.core) (sym is) (adopted_orderly g name files ok (omega (arith, some)))

  pub sizes_at : (f : ℕ) → (file_at w.core f).size ≤ MAX_FILE_SIZE
  sizes_at f = subst (λ (x : WorldSeen). (file_at x.core f).size ≤ MAX_FILE_SIZE) (sym is)
      (let size = ap (λ (file : File). file.size) (adopted_file g name files f) in omega (arith, size, ok.file_sizes f))

  pub few_at : length w.core.files ≤ MAX_FILES
  few_at = subst (λ (x : WorldSeen). length x.core.files ≤ MAX_FILES) (sym is)
      (let same = same_count files.sizes in omega (arith, same, ok.count))

  pub catalog_at : IsCatalog w.core.sizes files
  catalog_at = subst (λ (x : WorldSeen). IsCatalog x.core.sizes files) (sym is) ok
