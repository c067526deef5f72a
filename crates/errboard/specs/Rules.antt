-- The rule of a board: what the words are, and what each seat knows. And what each step tells its seat.
use Rattle.std.specs.Prelude.{◌≡◌, ◌≢◌, ℕ, ◌<◌, ◌≤◌, ◌==◌, ◌⊎◌, true, false, List, [], ◌∷◌, ◌++◌, length, drop, slice_index, slice_set, MatchBool, if◌then◌else◌}
use mathlib.Core.Option.{some}
use mathlib.Core.List.{IsPrefix}
use lib.ListN.{get_elem?}
use Rattle.atomic_table.specs.Table.{State, Me, Step}
use Rattle.errseq.specs.declared.recording.Recording.{Recording}
use Rattle.errseq.specs.Word.{IsWithinTurn, is_seen}
use Rattle.errseq.specs.Recorded.{raised, word_of}
use Rattle.errseq.specs.Samples.{StandsFor, AreCodes, Owes, FitsPass, FitsFound, recording}
use Rattle.errboard.specs.declared.views.View.{View}
use Rattle.errboard.specs.declared.views.View.TheVariants.{Spent, Recorder, Sampled, Compares, Pass, Trying, Receipt}
use Rattle.errboard.specs.Views.{files, recorded_of, start_of}

-- a file's word stands for what was recorded; a counter begins elsewhere than at 0 only where there is a recording
pub record FitsFile (start w : ℕ) (log : List Recording) : Type 0 where
  pub stands : StandsFor start w log
  pub codes : AreCodes log
  pub opening : log ≡ [] → start ≡ 0

-- what the view of a seat says is true: of the recorder, that it knows all; of a pass or a receipt, that what it knows begins what was recorded
abbrev pub Fits : List ℕ → List (List Recording) → List ℕ → ℕ → ℕ → View → Type 0
Fits opening logs words writer seat Spent = Unit {0}
Fits opening logs words writer seat (Recorder began all) = (seat ≡ writer) × (began ≡ opening) × (all ≡ logs)
Fits opening logs words writer seat (Sampled began all file found) = (seat ≡ writer) × (began ≡ opening) × (all ≡ logs) × (file < files) × FitsFound (start_of opening file) (recorded_of logs file) (slice_index words file) found
Fits opening logs words writer seat (Compares began all file known done since) = (seat ≡ writer) × (began ≡ opening) × (all ≡ logs) × IsPrefix known (recorded_of logs file) × Owes (recorded_of logs file) done since
Fits opening logs words writer seat (Pass file start known done since) = (file < files) × (start ≡ start_of opening file) × FitsPass start (recorded_of logs file) (slice_index words file) known done since
Fits opening logs words writer seat (Trying file start known) = (file < files) × (start ≡ start_of opening file) × (0 < length known) × IsPrefix known (recorded_of logs file)
Fits opening logs words writer seat (Receipt file known) = IsPrefix known (recorded_of logs file)

-- The rule, over the words that the board began with: there are lists of what was recorded, one a file, each word stands for its file's, and each view is true of them
pub record IsKept (opening : List ℕ) (s : State ℕ View) : Type 0 where
  pub logs : List (List Recording)
  pub writer : ℕ
  pub word_count : length s.words ≡ files
  pub log_count : length logs ≡ files
  pub each_file : (file : ℕ) → file < files → FitsFile (start_of opening file) (slice_index s.words file) (recorded_of logs file)
  pub each_seat : (seat : ℕ) (v : View) → get_elem? s.views seat ≡ some v → Fits opening logs s.words writer seat v

-- ---- what the steps tell

-- the recorder finds the word of a file
abbrev pub FoundFrom : ℕ → View → ℕ → View → Type 0
FoundFrom file (Recorder opening all) found after =
    (after ≡ Sampled opening all file found) × FitsFound (start_of opening file) (recorded_of all file) found found × AreCodes (recorded_of all file)
FoundFrom file v found after = Unit {0}

abbrev pub Found : Step ℕ → Me ℕ View → ℕ → Me ℕ View → Type 0
Found s before found after = (after.1 ≡ before.1) × FoundFrom s.word before.0 found after.0

-- one more recording of a file, after which its word has no SEEN. It raised the counter only where there was one before
abbrev pub IsRecording : ℕ → List ℕ → List (List Recording) → Step ℕ → View → Type 0
IsRecording file opening all s after =
    let log = recorded_of all file ++ recording s.first s.second ∷ [] in
    (after ≡ Sampled opening (slice_set all file log) file s.second) × (s.second ≡ word_of (start_of opening file) log false)
    × (is_seen s.first ≡ true → 0 < length (recorded_of all file))

-- the first try records, or finds that the word had got SEEN; the second records
abbrev pub RecordedFrom : ℕ → Step ℕ → View → ℕ → View → Type 0
RecordedFrom file s (Recorder opening all) found after = MatchBool (found == s.first) (IsRecording file opening all s after)
    ((after ≡ Sampled opening all file found) × (found ≡ word_of (start_of opening file) (recorded_of all file) true))
RecordedFrom file s (Sampled opening all at seen) found after = IsRecording at opening all s after
RecordedFrom file s v found after = Unit {0}

abbrev pub Recorded : Step ℕ → Me ℕ View → ℕ → Me ℕ View → Type 0
Recorded s before found after = (after.1 ≡ before.1) × RecordedFrom s.word s before.0 found after.0

-- the pass loads a word that stands for what was recorded then; where it is not the sample and has no SEEN, the pass is to set it
abbrev pub LookedFrom : View → ℕ → View → Type 0
LookedFrom (Pass file start known done since) found after =
    (log : List Recording) × IsPrefix known log × StandsFor start found log × AreCodes log
    × ((found ≡ since → IsWithinTurn (raised (drop done log)) → length log ≤ done) × (found ≢ since → done < length log))
    × (after ≡ (if found == since then Pass file start log (length log) since else (if is_seen found then Pass file start log (length log) found else Trying file start log)))
LookedFrom v found after = Unit {0}

abbrev pub Looked : Step ℕ → Me ℕ View → ℕ → Me ℕ View → Type 0
Looked s before found after = (after.1 ≡ before.1) × LookedFrom before.0 found after.0

-- the pass sets SEEN, or finds it set; or a code was recorded since its load, and its sample is 0
abbrev pub MarkedFrom : Step ℕ → View → ℕ → View → Type 0
MarkedFrom s (Trying file start known) found after =
    ((log : List Recording) × IsPrefix known log × (s.first ≡ word_of start log false) × (s.second ≡ word_of start log true) × AreCodes log × (after ≡ Pass file start log (length log) s.second) × ((found ≡ s.first) ⊎ (found ≡ s.second)))
    ⊎ ((found ≢ s.first) × (found ≢ s.second) × (after ≡ Pass file start known (length known) 0))
MarkedFrom s v found after = Unit {0}

abbrev pub Marked : Step ℕ → Me ℕ View → ℕ → Me ℕ View → Type 0
Marked s before found after = (after.1 ≡ before.1) × MarkedFrom s before.0 found after.0

-- nothing is told
abbrev pub Rested : Step ℕ → Me ℕ View → ℕ → Me ℕ View → Type 0
Rested s before found after = after ≡ before

-- what the pass knew begins what was recorded, and where its sample is 0 the next poll is told
abbrev pub ConfirmedFrom : View → View → Type 0
ConfirmedFrom (Compares opening all file known done since) after = (after ≡ Recorder opening all) × IsPrefix known (recorded_of all file) × Owes (recorded_of all file) done since
ConfirmedFrom v after = Unit {0}

abbrev pub Confirmed : Step ℕ → Me ℕ View → ℕ → Me ℕ View → Type 0
Confirmed s before found after = (after.1 ≡ before.1) × ConfirmedFrom before.0 after.0
