-- A cache that begins with a catalog's files.
use Rattle.std.proofs.Common.{◌≡◌, ℕ, ◌+◌, ◌-◌, ◌<◌, ◌≤◌, zero, suc, List, [], ◌∷◌, ◌++◌, length, get_or, refl, ap, sym, subst, ◌∙◌, arith, map, take}
use Rattle.std.specs.Prelude.{Option, Some, None, slice_set, sum_by}
use Rattle.std.proofs.lemmas.List.Sums.{sum_by-cons}
use Rattle.std.specs.FinSet as set
use Rattle.std.specs.Ordering.{nat_cmp}
use Rattle.std.specs.FinMap as finmap
use Rattle.std.specs.FinMap.{FinMap, get-empty, len-empty}
use Rattle.pc_types.specs.Limits.{Sizes}
use Rattle.pc_types.specs.Spots.{place_cmp}
use Rattle.pc_types.specs.declared.limits.TheConstants.{MAX_FILES, MAX_FILE_SIZE, MAX_FRAMES}
use Rattle.blockmap.specs.Blocks.{Blocks}
use Rattle.machine.specs.Catalogs.{Catalog, IsCatalog, adopted, size_in}
use Rattle.machine.specs.State.{File, Page, Request, no_file, file_at}
use Rattle.machine.proofs.changes.Adopted.{adopted_file, file_of, same_count}
use Rattle.machine.proofs.sound.Steps.{histories_are_sound}
use Rattle.pagestore.specs.Ranges.{AreSized}
use Rattle.cachecore.specs.Standing.{store_over}
use Rattle.cachecore.specs.Tables.{IsCache, IsCore}
use Rattle.cachecore.proofs.CoreLemmas.{none_filling, none_in_flight, sized_none, some_none}
use Rattle.cachecore.proofs.Holdings.{Holds-none}
use Rattle.cachecore.proofs.SyncLaws.{none_syncs}

-- ---- its tables

abbrev pub blocks_over : Sizes → Catalog → Blocks
blocks_over sizes catalog = record { count = sizes.blocks; spots = catalog.spots; held = finmap.empty }

none_stored : (files : List ℕ) → sum_by (λ (file : File). finmap.len file.pages) (map file_of files) ≡ 0
none_stored [] = refl
none_stored (z ∷ files) =
    let first = sum_by-cons (λ (file : File). finmap.len file.pages) (file_of z) (map file_of files) in
    let rest = none_stored files in
    let none = len-empty nat_cmp Page in
    omega (arith, first, rest, none)

module _ (sizes : Sizes) (name : ℕ) (catalog : Catalog) (ok : IsCatalog sizes catalog) (few : sizes.frames ≤ MAX_FRAMES) where
  no_request : (t : ℕ) (r : Request) → finmap.get (finmap.empty {X = Request} {R = nat_cmp}) t ≡ Some r → ⊥
  no_request t r e = some_none r (finmap.get (finmap.empty {X = Request} {R = nat_cmp}) t) (get-empty nat_cmp t) e

  file_is : (f : ℕ) → file_at (adopted sizes name catalog) f ≡ file_of (size_in catalog f)
  file_is = adopted_file sizes name catalog

  core-adopted : IsCore (adopted sizes name catalog) (store_over sizes catalog.sizes) (blocks_over sizes catalog)
  core-adopted = record {
    few_files = let n = same_count catalog.sizes in let m = ok.count in omega (arith, n, m);
    known = λ k f e. absurd (some_none f (finmap.get (finmap.empty {X = ℕ} {R = nat_cmp}) k) (get-empty nat_cmp k) e);
    bounded = λ f. subst (λ (x : File). x.size ≤ MAX_FILE_SIZE) (sym (file_is f)) (ok.file_sizes f);
    sized = λ f. subst (λ (x : File). AreSized sizes.page x.pages) (sym (file_is f)) (sized_none sizes.page);
    page = refl;
    framed = few;
    counted =
        let none = none_in_flight (adopted sizes name catalog) refl in
        let stored = none_stored catalog.sizes in
        omega (arith, none, stored);
    filling = λ f p. set.contains-empty place_cmp (f, p) ∙ sym (none_filling (adopted sizes name catalog) f p refl);
    device = refl;
    holds = Holds-none;
    within = λ t r e. absurd (no_request t r e);
    filed = λ t r e. absurd (no_request t r e);
    failed = λ f.
        let none = len-empty nat_cmp Request in
        let zero_is = ap (λ (x : File). x.failures) (file_is f) in
        omega (arith, none, zero_is);
    serials = omega arith;
    sound = histories_are_sound catalog sizes name [] (adopted sizes name catalog) ok refl;
  }

  pub cache-adopted : IsCache (adopted sizes name catalog) (store_over sizes catalog.sizes) (blocks_over sizes catalog)
  cache-adopted = record { core = core-adopted; syncs = none_syncs finmap.empty (map file_of catalog.sizes) }

-- ---- file after file

abbrev pub files_before : List ℕ → ℕ → List File
files_before files n = map file_of (take n files)

abbrev with_size : List File → ℕ → ℕ → List File
with_size files n z = slice_set files n (record (get_or files n no_file) { size = z })

one_more : (files : List ℕ) (n : ℕ) → n < length files
    → with_size (files_before files n ++ no_file ∷ []) n (get_or files n 0) ≡ files_before files (suc n)
one_more [] n h = absurd (omega (arith, h))
one_more (z ∷ files) zero h = refl
one_more (z ∷ files) (suc n) h = ap (λ (l : List File). file_of z ∷ l) (one_more files n (omega (arith, h)))

pub file_more : (files : List ℕ) (n : ℕ) → n < length files
    → with_size (files_before files n ++ no_file ∷ []) n (get_or files n 0) ≡ files_before files (n + 1)
file_more files n h = one_more files n h ∙ ap (files_before files) (let e : suc n ≡ n + 1 = omega arith in e)
