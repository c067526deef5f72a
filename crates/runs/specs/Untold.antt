-- Bytes of blocks that are not valid are never told.
use Rattle.std.specs.Prelude.{◌≡◌, ℕ, List, take, map, length, Some}
use Rattle.std.specs.FinMap as finmap
use Rattle.pc_types.specs.Spots.{Spot}
use Rattle.machine.specs.Catalogs.{Catalog, IsCatalog}
use Rattle.runs.specs.World.{World, Move, block_bytes}
use Rattle.runs.specs.Runs.{Adopts, Steps, plain_at}

abbrev pub moves : Steps → List Move
moves run = map (λ step. step.0) run

-- both devices have the same valid bytes in the blocks of the catalog
abbrev pub ValidAlike : Catalog → World → World → Type 0
ValidAlike catalog w v = (f p : ℕ) (spot : Spot) → finmap.get catalog.spots (f, p) ≡ Some spot
    → take spot.valid (block_bytes w spot.block) ≡ take spot.valid (block_bytes v spot.block)

-- from such worlds the same moves leave the same plain files. And each read, and each page that is cached, is by these
-- (`ReadsAreRight`, `FilesAreHeld`)
abbrev pub OtherBytesAreUntold : Type 0
OtherBytesAreUntold = (catalog : Catalog) (w v : World) → IsCatalog w.core.sizes catalog → Adopts catalog w
    → Adopts catalog v → w.core.sizes.page ≡ v.core.sizes.page → ValidAlike catalog w v
    → (run other : Steps) → moves run ≡ moves other → plain_at w run (length run) ≡ plain_at v other (length other)
