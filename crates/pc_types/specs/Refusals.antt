-- The number of each refusal, as scripts and traces print it.
use Rattle.std.specs.Prelude.{ℕ}
use Rattle.pc_types.specs.declared.refusal.Refusal.{Refusal}
use Rattle.pc_types.specs.declared.refusal.Refusal.TheVariants.{BadConfig, TooManyFiles, TooManyHandles, BadHandle, NoSuchFile, TooLong, TooLarge, NoFrame, NoSpace, DirtyLimit, TooManyInFlight, Busy, Memory, Io, Stranger, TrailFull, BadEntry, BadOrder, NoId, NoEntry, BadCode, Turns, BadRange}

abbrev pub refusal_number : Refusal → ℕ
refusal_number BadConfig = 1
refusal_number TooManyFiles = 2
refusal_number TooManyHandles = 3
refusal_number BadHandle = 4
refusal_number NoSuchFile = 5
refusal_number TooLong = 6
refusal_number TooLarge = 7
refusal_number NoFrame = 8
refusal_number NoSpace = 9
refusal_number DirtyLimit = 10
refusal_number TooManyInFlight = 11
refusal_number Busy = 12
refusal_number Memory = 13
refusal_number (Io code) = 14
refusal_number Stranger = 15
refusal_number TrailFull = 16
refusal_number BadEntry = 17
refusal_number BadOrder = 18
refusal_number NoId = 19
refusal_number NoEntry = 20
refusal_number BadCode = 21
refusal_number Turns = 22
refusal_number BadRange = 24
