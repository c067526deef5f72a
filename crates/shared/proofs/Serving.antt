-- The state that a cache begins with.
use Rattle.std.proofs.Common.{◌≡◌, ℕ, ◌<◌, List, [], ◌∷◌, length, ap, refl, subst, sym, ◌∙◌}
use Rattle.std.specs.Prelude.{All, IfSome, Some, map as map_list}
use Rattle.std.specs.FinMap as map
use Rattle.blockdev.specs.Device.{IsSized, Told}
use Rattle.cachecore.specs.Core.{Core}
use Rattle.machine.specs.PageLists.{no_lists}
use Rattle.pc_types.specs.Limits.{Sizes}
use Rattle.machine.specs.Catalogs.{Catalog, IsCatalog, adopted}
use Rattle.machine.specs.State.{File}
use Rattle.machine.proofs.changes.Adopted.{file_of}
use Rattle.trail.specs.Honest.{MayBegin}
use Rattle.shared.specs.Keeps.{IsDisk, begun_with}

-- its world, over a device that tells these blocks
pub first_over : (files : Catalog) (sizes : Sizes) (name : ℕ) (blocks : List (List ℕ)) (device : Told) → IsCatalog sizes files → 0 < sizes.page → IsDisk sizes device
    → IsSized device → device.contents ≡ Some blocks → MayBegin files sizes name blocks
first_over files sizes name blocks device ok page disk sized told =
    let s = subst (λ o. IfSome o (λ bs. (length bs ≡ device.count) × All (λ bytes. length bytes ≡ device.size) bs)) told sized in (
      ok,
      record {
        page_size = page;
        core = refl;
        outcomes = refl;
        writing = refl;
        blocks = s.0 ∙ disk.1;
        block_sizes = subst (λ n. All (λ bytes. length bytes ≡ n) blocks) disk.0 s.1;
      },
    )

-- nothing is in flight
pub idle_first : (core : Core) (files : Catalog) (sizes : Sizes) (name : ℕ) → core ≡ record { state = adopted sizes name files; lists = no_lists }
    → map.len core.state.requests ≡ 0
idle_first core files sizes name e = ap (λ (k : Core). map.len k.state.requests) e ∙ map.len-empty _ _

sizes_back : (zs : List ℕ) → map_list (λ (x : File). x.size) (map_list file_of zs) ≡ zs
sizes_back [] = refl
sizes_back (z ∷ zs) = ap (λ ys. z ∷ ys) (sizes_back zs)

-- its catalog is the one that it was made with
pub begun_is : (files : Catalog) (sizes : Sizes) (name : ℕ) → begun_with (adopted sizes name files) ≡ files
begun_is files sizes name = λ i. record { sizes = sizes_back files.sizes i; spots = files.spots }

module _ (core : Core) (files : Catalog) (sizes : Sizes) (name : ℕ)
    (is : core ≡ record { state = adopted sizes name files; lists = no_lists }) where
  pub begun_as : begun_with core.state ≡ files
  begun_as = ap (λ (k : Core). begun_with k.state) is ∙ begun_is files sizes name

  pub begun_first : IsCatalog sizes files
      → (core.state ≡ adopted sizes name (begun_with core.state)) × IsCatalog sizes (begun_with core.state)
  begun_first ok = (
    ap (λ (k : Core). k.state) is ∙ ap (adopted sizes name) (sym begun_as),
    subst (IsCatalog sizes) (sym begun_as) ok,
  )
