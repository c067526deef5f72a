-- A cache whose files stand on the device already.
use Rattle.std.proofs.Common.{◌≡◌, ℕ, zero, suc, List, [], ◌∷◌, length, get_or, refl, ap, ◌∙◌, arith, map, None, nat_cmp}
use Rattle.std.specs.FinMap as finmap
use Rattle.pc_types.specs.Limits.{Sizes}
use Rattle.pc_types.specs.Spots.{Spot, place_cmp}
use Rattle.machine.specs.Catalogs.{Catalog, IsCatalog, no_catalog, size_in, adopted}
use Rattle.machine.specs.State.{File, no_file, file_at, page_at}

-- a file of which no page is cached, and no write failed
abbrev pub file_of : ℕ → File
file_of z = record no_file { size = z }

each_file : (sizes : List ℕ) (f : ℕ) → get_or (map file_of sizes) f no_file ≡ file_of (get_or sizes f 0)
each_file [] f = refl
each_file (z ∷ sizes) zero = refl
each_file (z ∷ sizes) (suc f) = each_file sizes f

pub same_count : (sizes : List ℕ) → length (map file_of sizes) ≡ length sizes
same_count [] = refl
same_count (z ∷ sizes) = ap suc (same_count sizes)

module _ (sizes : Sizes) (name : ℕ) (catalog : Catalog) where
  pub adopted_file : (f : ℕ) → file_at (adopted sizes name catalog) f ≡ file_of (size_in catalog f)
  adopted_file f = each_file catalog.sizes f

  pub none_cached : (f p : ℕ) → page_at (adopted sizes name catalog) f p ≡ None
  none_cached f p = ap (λ (file : File). finmap.get file.pages p) (adopted_file f) ∙ finmap.get-empty nat_cmp p

-- a cache without files is one of the cases
pub no_catalog_is : (sizes : Sizes) → IsCatalog sizes no_catalog
no_catalog_is sizes = record {
  count = omega arith;
  file_sizes = λ f. omega arith;
  spots = λ f p x e. absurd (let n = finmap.get-empty {X = Spot} place_cmp (f, p) in cc);
  apart = λ f p g q x y e. absurd (let n = finmap.get-empty {X = Spot} place_cmp (f, p) in cc);
}
