-- What the seats of a board know, and how views are cut and joined.
use Rattle.std.specs.Prelude.{ℕ, ◌==◌, ◌-◌, false, List, [], ◌∷◌, ◌++◌, map, length, drop, slice_index, slice_index_or}
use Rattle.std.specs.Prelude.{if◌then◌else◌}
use Rattle.pc_types.specs.declared.limits.TheConstants.{MAX_FILES}
use Rattle.errseq.specs.declared.recording.Recording.{Recording}
use Rattle.errseq.specs.Word.{code_of, counter_of, sample_of}
use Rattle.errseq.specs.Samples.{done_at}
use Rattle.errboard.specs.declared.views.View.{View}
use Rattle.errboard.specs.declared.views.View.TheVariants.{Spent, Recorder, Sampled, Compares, Pass, Receipt}

-- how many files a board has
abbrev pub files : ℕ
files = MAX_FILES

-- the recordings of a file
abbrev pub recorded_of : List (List Recording) → ℕ → List Recording
recorded_of all file = slice_index_or all file []

-- where a file's counter began: at that of the word that the board began with
abbrev pub start_of : List ℕ → ℕ → ℕ
start_of opening file = counter_of (slice_index opening file)

-- what a word that a board begins with says was recorded: nothing where it is 0, else its code, which raised no counter
abbrev pub opening_log : ℕ → List Recording
opening_log w = if w == 0 then [] else record { code = code_of w; raises = false } ∷ []

abbrev pub opening_view : List ℕ → View
opening_view opening = Recorder opening (map opening_log opening)

abbrev pub recorder_left : View → View
recorder_left (Sampled opening all file found) = Recorder opening all
recorder_left v = v

-- a new pass knows all recordings, and its sample is that of the word found
abbrev pub pass_right : View → View
pass_right (Sampled opening all file found) = Pass file (start_of opening file) (recorded_of all file) (done_at (recorded_of all file) found) (sample_of found)
pass_right v = Spent

-- one that is told of the last recording, whoever else was
abbrev pub owing_right : View → View
owing_right (Sampled opening all file found) = Pass file (start_of opening file) (recorded_of all file) (length (recorded_of all file) - 1) 0
owing_right v = Spent

abbrev pub receipt_right : View → View
receipt_right (Sampled opening all file found) = Receipt file (recorded_of all file)
receipt_right v = Spent

-- the first list, and then what the second has past its length: of two beginnings of one list, the longer
abbrev pub longer : List Recording → List Recording → List Recording
longer xs ys = xs ++ drop (length xs) ys

-- what a pass of this file knows once it was told of a receipt of that one
abbrev pub told_of : ℕ → List Recording → ℕ → List Recording → List Recording
told_of file known from recorded = if file == from then longer known recorded else known

abbrev pub informed : View → View → View
informed (Pass file start known done since) (Receipt from recorded) = Pass file start (told_of file known from recorded) done since
informed v w = v

abbrev pub with_pass : View → View → View
with_pass (Recorder opening all) (Pass file start known done since) = Compares opening all file known done since
with_pass v w = v
