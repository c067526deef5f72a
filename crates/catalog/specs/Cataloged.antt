-- A catalog for a device with blocks of P bytes, and that it is one.
use Rattle.std.specs.Prelude.{◌≡◌, ℕ, ◌==◌, ◌&&◌, Bool, List, refl}
use Rattle.std.specs.Coded.{Coded, code_by, coded×, coded_ℕ, coded_list}
use Rattle.std.specs.FinMap as map
use Rattle.pc_types.specs.Limits.{Sizes}
use Rattle.pc_types.specs.Spots.{spot_code}
use Rattle.blockmap.specs.Blocks.{Spots, place_code}
use Rattle.machine.specs.Catalogs.{Catalog, IsCatalog}

-- bytes of a page, blocks of the device, and the files
pub record Cataloged : Type 0 where
  pub page : ℕ
  pub blocks : ℕ
  pub files : Catalog

abbrev pub cataloged_code : Coded Cataloged
cataloged_code =
    code_by (ℕ × (ℕ × (List ℕ × Spots))) (coded× coded_ℕ (coded× coded_ℕ (coded× (coded_list coded_ℕ) (map.code place_code spot_code))))
    (λ c. (c.page, (c.blocks, (c.files.sizes, c.files.spots))))
    (λ p. record { page = p.0; blocks = p.1.0; files = record { sizes = p.1.1.0; spots = p.1.1.1 } }) (λ _. refl)

-- whether the catalog is for devices of a cache of these sizes
abbrev pub fits : Sizes → Cataloged → Bool
fits sizes c = c.page == sizes.page && c.blocks == sizes.blocks

-- a cache over such a device may begin with the files
abbrev pub IsFor : Cataloged → Sizes → Type 0
IsFor c sizes = sizes.page ≡ c.page → sizes.blocks ≡ c.blocks → IsCatalog sizes c.files
