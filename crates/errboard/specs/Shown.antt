-- What contracts see of a recorder, a pass and a receipt.
use Rattle.std.specs.Prelude.{◌≡◌, ℕ, ◌<◌, Bool, false, List, [], length, slice_index, slice_set, Option, Some, None}
use Rattle.atomic_table.specs.Seated.{TableId}
use Rattle.errseq.specs.declared.recording.Recording.{Recording}
use Rattle.errseq.specs.Recorded.{word_of}
use Rattle.errseq.specs.Word.{is_seen, with_seen, without_seen}
use Rattle.errboard.specs.declared.views.View.{View}
use Rattle.errboard.specs.declared.views.View.TheVariants.{Recorder, Sampled, Pass, Trying, Receipt}
use Rattle.errboard.specs.Views.{files, recorded_of, start_of}

-- the board of a recorder, the words that it began with, all recordings by file, and each word as the recorder last wrote it, with SEEN
-- where a poll of its own was told since
pub record RecorderSeen : Type 0 where
  pub board : TableId
  pub opening : List ℕ
  pub all : List (List Recording)
  pub words : List ℕ

-- the board and the file of a pass, where the file's counter began, what the pass knows of the file's recordings, how many of these are done, and its sample
pub record PassSeen : Type 0 where
  pub board : TableId
  pub file : ℕ
  pub start : ℕ
  pub known : List Recording
  pub done : ℕ
  pub since : ℕ

-- the board and the file of a receipt, and the recordings up to its own. Their count is the receipt's number
pub record ReceiptSeen : Type 0 where
  pub board : TableId
  pub file : ℕ
  pub recorded : List Recording

-- there is a word for each file, and but for SEEN it is that of the file's recordings
abbrev pub Remembers : List ℕ → List ℕ → List (List Recording) → Type 0
Remembers opening words all = (length words ≡ files) × ((file : ℕ) → file < files → without_seen (slice_index words file) ≡ word_of (start_of opening file) (recorded_of all file) false)

-- whether the recorder remembers that somebody was told of the last recording of a file
abbrev pub is_told : RecorderSeen → ℕ → Bool
is_told r file = is_seen (slice_index r.words file)

-- the words that the recorder remembers after a poll of its own, which answered this: the file's has SEEN where that is a code
abbrev pub words_after : List ℕ → ℕ → Option ℕ → List ℕ
words_after words file None = words
words_after words file (Some code) = slice_set words file (with_seen (slice_index words file))

-- ---- the parts of a view

abbrev pub opening_of : View → List ℕ
opening_of (Recorder opening all) = opening
opening_of (Sampled opening all file found) = opening
opening_of v = []

abbrev pub all_of : View → List (List Recording)
all_of (Recorder opening all) = all
all_of (Sampled opening all file found) = all
all_of v = []

abbrev pub file_of : View → ℕ
file_of (Receipt file known) = file
file_of v = 0

abbrev pub start_in : View → ℕ
start_in (Pass file start known done since) = start
start_in (Trying file start known) = start
start_in v = 0

abbrev pub known_of : View → List Recording
known_of (Pass file start known done since) = known
known_of (Trying file start known) = known
known_of (Receipt file known) = known
known_of v = []

abbrev pub done_of : View → ℕ
done_of (Pass file start known done since) = done
done_of v = 0

abbrev pub since_of : View → ℕ
since_of (Pass file start known done since) = since
since_of v = 0
