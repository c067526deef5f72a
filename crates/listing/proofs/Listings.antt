-- A list's extents are taken, one after the other.
use Rattle.std.proofs.Common.{◌≡◌, ◌⊎◌, ℕ, ◌+◌, ◌<◌, ◌≤◌, ◌^◌, List, [], ◌∷◌, ◌++◌, length, take, get_or, Option, Some, None, refl, sym, ap, subst, ◌∙◌, inl, inr}
use Rattle.std.proofs.lemmas.List.{take_more}
use Rattle.std.proofs.lemmas.List.Elements.{filter_map-append}
use Rattle.std.proofs.lemmas.Option.{slice_get-get_or}
use Rattle.std.specs.List.{cons_option, filter_map, last_or}
use Rattle.std.specs.FinMap as map
use Rattle.pc_types.specs.Spots.{Spot, place_cmp}
use Rattle.blockmap.specs.Blocks.{Spots}
use Rattle.catalog.specs.Cataloged.{Cataloged}
use Rattle.std.specs.Prelude.{slice_get}
use Rattle.catalog.specs.Extents.{Added, misfit, or_else}
use Rattle.catalog.specs.declared.extent.Misfit.{Misfit}
use Rattle.catalog.specs.declared.extent.Misfit.TheVariants.{Memory, PastDevice}
use Rattle.listing.specs.Listing.{IsExtentUnfit, Lists, extent_of, spot_by}
use Rattle.listing.specs.declared.list.FileExtent.{FileExtent}

-- the last of a list that may have one more
last_more : (first : Option Spot) (xs : List Spot) (h : FileExtent → Option Spot) (e : FileExtent) → last_or first (xs ++ filter_map h (e ∷ [])) ≡ or_else (h e) (last_or first xs)
last_more first (x ∷ xs) h e = last_more (Some x) xs h e
last_more first [] h e = by_spot (h e)
  where
    by_spot : (o : Option Spot) → last_or first (cons_option o []) ≡ or_else o first
    by_spot None = refl
    by_spot (Some spot) = refl

pub lists_none : (c : Cataloged) → c.files.spots ≡ map.empty → Lists c.files.sizes [] c
lists_none c e = record { sizes = refl; spots = λ f p. ap (λ (m : Spots). map.get m (f, p)) e ∙ map.get-empty place_cmp (f, p) }

pub lists_more : (sizes : List ℕ) (before : List FileExtent) (old new : Cataloged) (e : FileExtent) → Lists sizes before old → Added old new e.file (extent_of e) → Lists sizes (before ++ e ∷ []) new
lists_more sizes before old new e is added = record {
  sizes = added.sizes ∙ is.sizes;
  spots = λ f p.
      added.spots f p
      ∙ ap (or_else (spot_by old.page f p e)) (is.spots f p)
      ∙ sym (last_more None (filter_map (spot_by old.page f p) before) (spot_by old.page f p) e)
      ∙ ap (last_or None) (sym (filter_map-append (spot_by old.page f p) before (e ∷ [])))
      ∙ ap (λ (page : ℕ). last_or None (filter_map (spot_by page f p) (before ++ e ∷ []))) (sym added.page);
}

-- the extent that comes next is not taken
pub unfit_next : (lengths : List ℕ) (extents : List FileExtent) (k : ℕ) (none : FileExtent) (c : Cataloged) (why : Misfit) → k < length extents → Lists lengths (take k extents) c
    → (let e = get_or extents k none in (why ≡ Memory) ⊎ (((why ≡ PastDevice) × (2 ^ 32 ≤ e.block)) ⊎ (misfit c e.file (extent_of e) ≡ Some why)))
    → (x : FileExtent) × (slice_get extents k ≡ Some x) × IsExtentUnfit lengths (take k extents) x why
unfit_next lengths extents k none c why within is reason = (
  get_or extents k none,
  slice_get-get_or extents k none within,
  elim reason [
    | inl memory ↦ inl memory
    | inr (inl far) ↦ inr (inl far)
    | inr (inr test) ↦ inr (inr (c, is, test))
  ],
)

-- or it is
pub lists_next : (lengths : List ℕ) (extents : List FileExtent) (k : ℕ) (none : FileExtent) (old new : Cataloged) → k < length extents → Lists lengths (take k extents) old
    → (let e = get_or extents k none in Added old new e.file (extent_of e)) → Lists lengths (take (k + 1) extents) new
lists_next lengths extents k none old new within is added =
    subst (λ (xs : List FileExtent). Lists lengths xs new) (sym (take_more extents k none within)) (lists_more lengths (take k extents) old new (get_or extents k none) is added)
