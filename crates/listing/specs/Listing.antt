-- Files that a device has already, as a program lists them: their sizes, and where their pages stand.
use Rattle.std.specs.Prelude.{◌≡◌, ℕ, ◌<◌, ◌≤◌, ◌==◌, ◌⊎◌, ◌^◌, if◌then◌else◌, List, Option, Some, None, take, slice_get, slice_index}
use Rattle.std.specs.List.{filter_map, last_or}
use Rattle.std.specs.FinMap as map
use Rattle.pc_types.specs.Spots.{Spot}
use Rattle.pc_types.specs.declared.limits.TheConstants.{MAX_FILES, MAX_FILE_SIZE}
use Rattle.catalog.specs.Cataloged.{Cataloged}
use Rattle.catalog.specs.Extents.{misfit, spot_in}
use Rattle.catalog.specs.declared.extent.Extent.{Extent}
use Rattle.catalog.specs.declared.extent.Misfit.{Misfit}
use Rattle.catalog.specs.declared.extent.Misfit.TheVariants.{Memory, PastDevice, TooLarge, TooManyFiles}
use Rattle.listing.specs.declared.list.FileExtent.{FileExtent}
use Rattle.listing.specs.declared.list.Unfit.{Unfit}
use Rattle.listing.specs.declared.list.Unfit.TheVariants as unfit

-- an extent without its file
abbrev pub extent_of : FileExtent → Extent
extent_of e = record { first = record { 0 = e.first }; block = record { 0 = e.block }; bytes = e.bytes }

-- where an extent has page p of file f, for pages of P bytes
abbrev pub spot_by : ℕ → ℕ → ℕ → FileExtent → Option Spot
spot_by P f p e = if f == e.file then spot_in P (extent_of e) p else None

-- the catalog has the files of these sizes, and each page where the list's last extent with it has it
pub record Lists (lengths : List ℕ) (extents : List FileExtent) (c : Cataloged) : Type 0 where
  pub sizes : c.files.sizes ≡ lengths
  pub spots : (f p : ℕ) → map.get c.files.spots (f, p) ≡ last_or None (filter_map (spot_by c.page f p) extents)

-- the catalog of what stands before in the list doesn't take an extent
abbrev pub IsExtentUnfit : List ℕ → List FileExtent → FileExtent → Misfit → Type 0
IsExtentUnfit sizes before e why =
    (why ≡ Memory) ⊎ (((why ≡ PastDevice) × (2 ^ 32 ≤ e.block)) ⊎ ((c : Cataloged) × Lists sizes before c × (misfit c e.file (extent_of e) ≡ Some why)))

-- why a list is not a catalog's
abbrev pub IsUnfit : List ℕ → List FileExtent → Unfit → Type 0
IsUnfit sizes extents (unfit.File k why) =
    (why ≡ Memory) ⊎ (((why ≡ TooManyFiles) × (MAX_FILES ≤ k)) ⊎ ((why ≡ TooLarge) × (MAX_FILE_SIZE < slice_index sizes k)))
IsUnfit sizes extents (unfit.Extent k why) = (e : FileExtent) × (slice_get extents k ≡ Some e) × IsExtentUnfit sizes (take k extents) e why
