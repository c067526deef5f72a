-- How many bytes of a page's block are valid, over every run.
use Rattle.std.specs.Prelude.{◌≡◌, ◌⊎◌, ℕ, Some}
use Rattle.pc_types.specs.Spots.{Spot}
use Rattle.machine.specs.State.{spot_at}
use Rattle.runs.specs.Runs.{EveryRun, core_at}

-- none, as of a block that the page was just given; or all, since a write there ended well; or the spot is as the run began
-- with it. So in a run from a cache without files, or from one whose pages stand on whole blocks, it is none or all
abbrev pub SpotsAreWholeOrFirst : Type 0
SpotsAreWholeOrFirst = EveryRun (λ w run. (k f p : ℕ) (spot : Spot) → spot_at (core_at w run k) f p ≡ Some spot
    → (spot.valid ≡ 0) ⊎ ((spot.valid ≡ w.core.sizes.page) ⊎ (spot_at w.core f p ≡ Some spot)))
