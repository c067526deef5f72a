-- The error word, after Linux's errseq_t: bits 0 to 11 are the code, bit 12 is SEEN, and bits 13 to 63 are a counter of
-- 51 bits, where Linux's has 19.
use Rattle.std.specs.Prelude.{◌≡◌, ◌≢◌, ℕ, ◌+◌, ◌-◌, ◌*◌, ◌/◌, ◌%◌, ◌<◌, ◌≤◌, ◌==◌, ◌⊎◌, Bool, false, if◌then◌else◌, Option, Some, None}
use Rattle.pc_types.specs.declared.limits.TheConstants.{MAX_ERR_CODE}

-- how many values the counter has: 2^51. All that depends on its width is said by this
abbrev pub turns : ℕ
turns = 2251799813685248

-- The premise on the counter, of everything that says that no recording is missed: fewer recordings raised it than it has values, so it didn't come round to where it was
abbrev pub IsWithinTurn : ℕ → Type 0
IsWithinTurn raises = raises < turns

-- a code is 1 to 4,095
abbrev pub IsCode : ℕ → Type 0
IsCode code = (1 ≤ code) × (code ≤ MAX_ERR_CODE)

abbrev pub code_of : ℕ → ℕ
code_of w = w % 4096

abbrev pub is_seen : ℕ → Bool
is_seen w = w / 4096 % 2 == 1

abbrev pub counter_of : ℕ → ℕ
counter_of w = w / 8192

-- the word with this counter, flag and code
abbrev pub word : ℕ → Bool → ℕ → ℕ
word counter seen code = counter * 8192 + (if seen then 4096 else 0) + code

-- the word after a code is recorded: the code is new, SEEN is clear, and the counter rises by one where SEEN was set
abbrev pub word_set : ℕ → ℕ → ℕ
word_set w code = word (if is_seen w then (counter_of w + 1) % turns else counter_of w) false code

-- what a new handle compares with: 0 where SEEN is clear, else the word
abbrev pub sample_of : ℕ → ℕ
sample_of w = if is_seen w then w else 0

abbrev pub with_seen : ℕ → ℕ
with_seen w = if is_seen w then w else w + 4096

abbrev pub without_seen : ℕ → ℕ
without_seen w = if is_seen w then w - 4096 else w

-- a word of 32 bits may be carried over: nothing was recorded in it, or it has a code
abbrev pub MayBeCarried : ℕ → Type 0
MayBeCarried w = (w ≡ 0) ⊎ (code_of w ≢ 0)

-- what a look answers: nothing where the word is the sample, else the code
abbrev pub checked : ℕ → ℕ → Option ℕ
checked w since = if w == since then None else Some (code_of w)
