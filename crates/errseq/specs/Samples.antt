-- What a handle's sample knows of the recordings in a word.
use Rattle.std.specs.Prelude.{◌≡◌, ◌≢◌, ℕ, ◌-◌, ◌<◌, ◌≤◌, ◌⊎◌, true, false, List, [], length, take, if◌then◌else◌}
use mathlib.Core.Option.{some}
use mathlib.Core.List.{IsPrefix}
use lib.ListN.{get_elem?}
use Rattle.errseq.specs.declared.recording.Recording.{Recording}
use Rattle.errseq.specs.Word.{IsCode, code_of, is_seen}
use Rattle.errseq.specs.Recorded.{word_of}

-- the word stands for the recordings: it is theirs without SEEN, or with it where there are any
abbrev pub StandsFor : ℕ → ℕ → List Recording → Type 0
StandsFor start w log = (w ≡ word_of start log false) ⊎ ((0 < length log) × (w ≡ word_of start log true))

-- each of the codes is 1 to 4,095
abbrev pub AreCodes : List Recording → Type 0
AreCodes log = (k : ℕ) (r : Recording) → get_elem? log k ≡ some r → IsCode r.code

-- the recording that a change from one word to another makes
abbrev pub recording : ℕ → ℕ → Recording
recording old new = record { code = code_of new; raises = is_seen old }

-- how many recordings a new handle takes as told, where it found this word: all of them, or all but the last where that was not seen
abbrev pub done_at : List Recording → ℕ → ℕ
done_at log found = if is_seen found then length log else length log - 1

-- where the sample is 0, nothing was recorded, or there is a recording past those done: the next look is told it
abbrev pub Owes : List Recording → ℕ → ℕ → Type 0
Owes log done since = since ≡ 0 → (log ≡ []) ⊎ (done < length log)

-- What a sample that is not 0 knows: it is the word of the recordings that are done, with SEEN; where nothing was recorded since, it is the word still; and the first recording since raised the counter
pub record FitsSample (start : ℕ) (log : List Recording) (w done since : ℕ) : Type 0 where
  pub some_done : 0 < done
  pub is_word : since ≡ word_of start (take done log) true
  pub still : done ≡ length log → w ≡ since
  pub raising : (r : Recording) → get_elem? log done ≡ some r → r.raises ≡ true

-- what a handle knows: a beginning of the recordings, of which some are done, and what its sample says of them
pub record FitsPass (start : ℕ) (log : List Recording) (w : ℕ) (known : List Recording) (done since : ℕ) : Type 0 where
  pub known_begins : IsPrefix known log
  pub done_within : done ≤ length known
  pub fresh : Owes log done since
  pub sampled : since ≢ 0 → FitsSample start log w done since

-- a word that was found of these recordings is theirs without SEEN, or with it and then still the word
abbrev pub FitsFound : ℕ → List Recording → ℕ → ℕ → Type 0
FitsFound start log w found = (found ≡ word_of start log false) ⊎ ((0 < length log) × (found ≡ word_of start log true) × (w ≡ found))
