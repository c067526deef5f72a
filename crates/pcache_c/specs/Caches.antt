-- What is seen of the cache in C's hands.
use Rattle.std.specs.Prelude.{◌≡◌, ℕ, ℤ, ◌⊎◌, ◌++◌, ◌∷◌, [], List, length, Option, None, Some}
use Rattle.pc_types.specs.Limits.{Sizes}
use Rattle.pc_types.specs.declared.refusal.Refusal.TheVariants.{BadConfig, Memory}
use Rattle.catalog.specs.Cataloged.{Cataloged}
use Rattle.catalog.specs.declared.extent.Misfit.{Misfit}
use Rattle.world.specs.Stepping.{adopted_world}
use Rattle.relay.specs.Device.{told_relay}
use Rattle.filesvc.specs.Seen.{HandleSeen}
use Rattle.filesvc.specs.Service.{Tells, files}
use Rattle.listing.specs.Listing.{IsUnfit, Lists}
use Rattle.desk.specs.Seen.{DeskSeen, handle_at}
use Rattle.listing.specs.declared.list.FileExtent.{FileExtent}
use Rattle.listing.specs.declared.list.Unfit.TheVariants as unfit
use Rattle.pcache_c.specs.Answers.{misfit_answer, refusal_answer}

-- the open handle of a number, where there is a cache and it has one
abbrev pub opened_at : Option DeskSeen → ℕ → Option HandleSeen
opened_at None n = None
opened_at (Some desk) n = handle_at desk n

-- a file without bytes is behind the others, with this number
abbrev pub IsCreated : DeskSeen → DeskSeen → ℕ → Type 0
IsCreated old new n = (n ≡ length old.service.world.core.files) × (Tells old.service → (files new.service).files ≡ (files old.service).files ++ [] ∷ [])

-- a new cache over the listed files, none of which is open
abbrev pub IsAdopted : Sizes → List ℕ → List FileExtent → DeskSeen → Type 0
IsAdopted g sizes extents desk =
    (c : Cataloged) × Lists sizes extents c × (c.page ≡ g.page) × (c.blocks ≡ g.blocks)
    × (desk.service.world ≡ adopted_world g 1 c.files (told_relay g.page g.blocks)) × (desk.handles ≡ [])

-- the list is refused by this answer, for what stands at this place of it
abbrev pub IsToldUnfit : List ℕ → List FileExtent → ℕ → ℤ → Type 0
IsToldUnfit sizes extents place answer =
    (why : Misfit) × (answer ≡ misfit_answer why) × (IsUnfit sizes extents (unfit.File place why) ⊎ IsUnfit sizes extents (unfit.Extent place why))

-- why an adoption is refused
abbrev pub IsAdoptRefusal : List ℕ → List FileExtent → ℕ → ℤ → Type 0
IsAdoptRefusal sizes extents place answer =
    (answer ≡ refusal_answer BadConfig) ⊎ ((answer ≡ refusal_answer Memory) ⊎ IsToldUnfit sizes extents place answer)
