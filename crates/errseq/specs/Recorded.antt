-- The codes recorded in a word, oldest first, and the word that stands for them.
use Rattle.std.specs.Prelude.{ℕ, ◌+◌, ◌%◌, Bool, List, [], ◌∷◌, if◌then◌else◌}
use Rattle.errseq.specs.declared.recording.Recording.{Recording}
use Rattle.errseq.specs.Word.{turns, word}

-- how many of the recordings raised the counter
abbrev pub raised : List Recording → ℕ
raised [] = 0
raised (r ∷ rs) = (if r.raises then 1 else 0) + raised rs

-- the last code, or 0 where nothing was recorded
abbrev pub last_code : List Recording → ℕ
last_code [] = 0
last_code (r ∷ []) = r.code
last_code (r ∷ x ∷ rs) = last_code (x ∷ rs)

-- the word of these recordings, with SEEN or without, where the counter began at `start`
abbrev pub word_of : ℕ → List Recording → Bool → ℕ
word_of start log seen = word ((start + raised log) % turns) seen (last_code log)
