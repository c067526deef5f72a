-- The numbers of refusals are 1 to 24.
use Rattle.std.proofs.Common.{◌<◌, ◌≤◌, arith}
use Rattle.pc_types.specs.Refusals.{refusal_number}
use Rattle.pc_types.specs.declared.refusal.Refusal.{Refusal}
use Rattle.pc_types.specs.declared.refusal.Refusal.TheVariants.{BadConfig, TooManyFiles, TooManyHandles, BadHandle}
use Rattle.pc_types.specs.declared.refusal.Refusal.TheVariants.{NoSuchFile, TooLong, TooLarge, NoFrame, NoSpace}
use Rattle.pc_types.specs.declared.refusal.Refusal.TheVariants.{DirtyLimit, TooManyInFlight, Busy, Memory, Io, Stranger}
use Rattle.pc_types.specs.declared.refusal.Refusal.TheVariants.{TrailFull, BadEntry, BadOrder, NoId, NoEntry, BadCode}
use Rattle.pc_types.specs.declared.refusal.Refusal.TheVariants.{Turns, BadRange}

pub number_fits : (r : Refusal) → (0 < refusal_number r) × (refusal_number r ≤ 24)
number_fits BadConfig = (omega arith, omega arith)
number_fits TooManyFiles = (omega arith, omega arith)
number_fits TooManyHandles = (omega arith, omega arith)
number_fits BadHandle = (omega arith, omega arith)
number_fits NoSuchFile = (omega arith, omega arith)
number_fits TooLong = (omega arith, omega arith)
number_fits TooLarge = (omega arith, omega arith)
number_fits NoFrame = (omega arith, omega arith)
number_fits NoSpace = (omega arith, omega arith)
number_fits DirtyLimit = (omega arith, omega arith)
number_fits TooManyInFlight = (omega arith, omega arith)
number_fits Busy = (omega arith, omega arith)
number_fits Memory = (omega arith, omega arith)
number_fits (Io code) = (omega arith, omega arith)
number_fits Stranger = (omega arith, omega arith)
number_fits TrailFull = (omega arith, omega arith)
number_fits BadEntry = (omega arith, omega arith)
number_fits BadOrder = (omega arith, omega arith)
number_fits NoId = (omega arith, omega arith)
number_fits NoEntry = (omega arith, omega arith)
number_fits BadCode = (omega arith, omega arith)
number_fits Turns = (omega arith, omega arith)
number_fits BadRange = (omega arith, omega arith)
