-- What the functions that make one step or two say.
use Rattle.std.specs.Prelude.{◌≡◌, ◌≢◌, ℕ, ◌<◌, ◌≤◌, ◌⊎◌, true, false, List, [], ◌∷◌, ◌++◌, length, drop, slice_set}
use mathlib.Core.List.{IsPrefix}
use Rattle.atomic_table.specs.Seated.{TableId}
use Rattle.atomic_table.specs.Table.{Me}
use Rattle.atomic_table.specs.declared.shared.Seat.{Seat}
use Rattle.errseq.specs.declared.recording.Recording.{Recording}
use Rattle.errseq.specs.Word.{IsWithinTurn, is_seen, sample_of}
use Rattle.errseq.specs.Recorded.{raised, word_of}
use Rattle.errseq.specs.Samples.{StandsFor, AreCodes, done_at}
use Rattle.errboard.specs.declared.views.View.{View}
use Rattle.errboard.specs.declared.views.View.TheVariants.{Pass, Sampled}
use Rattle.errboard.specs.Views.{files, recorded_of, start_of}

-- the seat is one of this table, which has a word for each file
abbrev pub IsAt : TableId → Seat ℕ View → ℕ → Type 0
IsAt table seat file = (seat.table_id ≡ table) × (table.words ≡ files) × (file < files)

abbrev pub Stays : Seat ℕ View → Seat ℕ View → Type 0
Stays before after = (after.table_id ≡ before.table_id) × (after.id ≡ before.id)

-- SEEN stands, or a code was recorded since the load and the sample is 0
abbrev pub IsMarked : ℕ → ℕ → List Recording → ℕ → ℕ → Me ℕ View → Type 0
IsMarked file start tried found since after =
    (log : List Recording) × IsPrefix tried log × (found ≡ word_of start log false) × AreCodes log
    × (after ≡ (Pass file start log (length log) since, []))
    × ((since ≡ word_of start log true) ⊎ (since ≡ 0))

-- all recordings, with one more of this file
abbrev pub with_recording : List (List Recording) → ℕ → Recording → List (List Recording)
with_recording all file x = slice_set all file (recorded_of all file ++ x ∷ [])

-- the code is recorded, and this is the word then, which has no SEEN
abbrev pub IsRecorded : ℕ → List ℕ → List (List Recording) → ℕ → ℕ → Me ℕ View → Type 0
IsRecorded file opening all code word after =
    (x : Recording) × (x.code ≡ code) × (x.raises ≡ true → 0 < length (recorded_of all file))
    × (after ≡ (Sampled opening (with_recording all file x) file word, [])) × (word ≡ word_of (start_of opening file) (recorded_of all file ++ x ∷ []) false) × (is_seen word ≡ false)

-- a poll found nothing new; or it found a code past what was done, and SEEN stands or a code was recorded since its load
abbrev pub IsPolled : ℕ → ℕ → List Recording → ℕ → ℕ → ℕ → ℕ → Me ℕ View → Type 0
IsPolled file start known done since found next after =
    (log : List Recording) × IsPrefix known log × AreCodes log × StandsFor start found log
    × (after ≡ (Pass file start log (length log) next, []))
    × (((found ≡ since) × (next ≡ since) × (IsWithinTurn (raised (drop done log)) → length log ≤ done))
    ⊎ ((found ≢ since) × (done < length log) × ((next ≡ word_of start log true) ⊎ (next ≡ 0))))

-- a new pass of a file with these recordings, whose word was found so
abbrev pub IsGiven : ℕ → ℕ → List Recording → ℕ → Me ℕ View → Type 0
IsGiven file start log found me = StandsFor start found log × (me ≡ (Pass file start log (done_at log found) (sample_of found), []))
