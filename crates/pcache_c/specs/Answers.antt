-- What a call answers to C.
use Rattle.std.specs.Prelude.{ℤ, negsuc, ◌-◌}
use Rattle.pc_types.specs.Refusals.{refusal_number}
use Rattle.pc_types.specs.declared.refusal.Refusal.{Refusal}
use Rattle.pc_types.specs.declared.refusal.Refusal.TheVariants as refusal
use Rattle.catalog.specs.declared.extent.Misfit.{Misfit}
use Rattle.catalog.specs.declared.extent.Misfit.TheVariants as misfit

-- a refusal: its number, below 0
abbrev pub refusal_answer : Refusal → ℤ
refusal_answer r = negsuc (refusal_number r - 1)

-- what is answered where there is no cache, or no handle of the number
abbrev pub bad_handle : ℤ
bad_handle = refusal_answer refusal.BadHandle

-- why a list of files is refused: -40 to -44 where no refusal says it
abbrev pub misfit_answer : Misfit → ℤ
misfit_answer misfit.TooManyFiles = refusal_answer refusal.TooManyFiles
misfit_answer misfit.TooLarge = refusal_answer refusal.TooLarge
misfit_answer misfit.NoSuchFile = refusal_answer refusal.NoSuchFile
misfit_answer misfit.Memory = refusal_answer refusal.Memory
misfit_answer misfit.Empty = negsuc 39
misfit_answer misfit.PastSize = negsuc 40
misfit_answer misfit.OutOfOrder = negsuc 41
misfit_answer misfit.PastDevice = negsuc 42
misfit_answer misfit.BlockTwice = negsuc 43
