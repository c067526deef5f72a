-- A cache begins contiguous: with one file that stands on the first blocks, or with none.
use Rattle.std.proofs.Common.{◌≡◌, ℕ, zero, suc, ◌<◌, Bool, true, false, cond, refl, ap, sym, ◌∙◌}
use Rattle.std.proofs.Common.{arith, ◌&&◌, eqb, Option, Some, None, option_map, nat_cmp}
use Rattle.std.specs.Prelude.{nat_lt, slice_index}
use Rattle.std.specs.FinMap as finmap
use Rattle.std.specs.FinMap.{get-empty}
use Rattle.std.proofs.lemmas.Bool.Decides.{nat_tests}
use Rattle.pc_types.specs.Limits.{Sizes}
use Rattle.pc_types.specs.Spots.{Spot, place_cmp}
use Rattle.machine.specs.Catalogs.{Catalog, IsCatalog, adopted, no_catalog, size_in}
use Rattle.machine.specs.State.{Request, block_at}
use Rattle.contiguous.specs.Contiguous.{IsHeld}
use Rattle.contiguous.specs.Promises.{CatalogsBeginContiguous, EmptyBeginsContiguous}

none_in_flight : (sizes : Sizes) (name : ℕ) (catalog : Catalog) (n b : ℕ) → IsHeld (adopted sizes name catalog) b → b < n
none_in_flight sizes name catalog n b h = absurd (let none = get-empty {X = Request} nat_cmp h.0 in let some = h.2 in cc)

-- no page past the last file has a spot
no_spot : (sizes : Sizes) (catalog : Catalog) (g p : ℕ) → IsCatalog sizes catalog → size_in catalog g ≡ 0
    → (o : Option Spot) → finmap.get catalog.spots (g, p) ≡ o → option_map (λ (x : Spot). x.block) o ≡ None
no_spot sizes catalog g p is none None e = refl
no_spot sizes catalog g p is none (Some x) e = absurd (let a = is.spots g p x e in
    let valid = a.some in let fits = a.in_file in omega arith)

pub catalogs_begin_contiguous : CatalogsBeginContiguous
catalogs_begin_contiguous sizes name catalog z n is one each = record {
  extent = extent;
  held = λ b h. none_in_flight sizes name catalog n b h;
}
  where
    past : (g : ℕ) → size_in catalog (suc g) ≡ 0
    past g = ap (λ zs. slice_index zs (suc g)) one

    extent : (g p : ℕ) → block_at (adopted sizes name catalog) g p ≡ cond (eqb g 0 && nat_lt p n) (Some p) None
    extent zero p = each p
    extent (suc g) p = no_spot sizes catalog (suc g) p is (past g) (finmap.get catalog.spots (suc g, p)) refl
        ∙ ap (λ b. cond (b && nat_lt p n) (Some p) None)
        (let e : false ≡ eqb (suc g) 0 = grind (arith, nat_tests) in e)

pub empty_begins_contiguous : EmptyBeginsContiguous
empty_begins_contiguous sizes name f = record {
  extent = λ g p. ap (option_map (λ (x : Spot). x.block)) (get-empty {X = Spot} place_cmp (g, p)) ∙ nothing (eqb g f) p;
  held = λ b h. none_in_flight sizes name no_catalog 0 b h;
}
  where
    nothing : (b : Bool) (p : ℕ) → ◌≡◌ {A = Option ℕ} None (cond (b && nat_lt p 0) (Some p) None)
    nothing true p = sym (ap (λ c. cond c (Some p) None) (let e : nat_lt p 0 ≡ false = grind (arith, nat_tests) in e))
    nothing false p = refl
