-- What each call on the error word and its cursors answers, and what it leaves: the case of the word's own call (errseq, specs/Word).
use Rattle.std.specs.Prelude.{ℕ, ◌==◌, if◌then◌else◌, slice_index, replicate, Option, Some, None}
use Rattle.std.specs.List.{slice_set}
use Rattle.pc_types.specs.Limits.{is_err_code}
use Rattle.pc_types.specs.declared.refusal.Refusal.TheVariants.{BadCode}
use Rattle.errseq.specs.Word.{checked, sample_of, with_seen, word_set, code_of}
use Rattle.xarray_trace.specs.declared.answer.Answer.{Answer}
use Rattle.xarray_trace.specs.declared.answer.Answer.TheVariants as says
use Rattle.xarray_trace.specs.declared.word_call.Watched.{Watched}
use Rattle.xarray_trace.specs.declared.word_call.WordCall.{WordCall}
use Rattle.xarray_trace.specs.declared.word_call.WordCall.TheVariants.{New, Set, Sample, Check, Advance}

-- a word on which nothing was recorded, and cursors that know of nothing
abbrev pub fresh : Watched
fresh = record { word = 0; samples = replicate 8 0 }

abbrev pub code_answer : Option ℕ → Answer
code_answer None = says.None
code_answer (Some code) = says.Code code

-- what a cursor's sample and the word become by a look, and what it answers
abbrev pub advanced : Watched → ℕ → ℕ → Answer × Watched
advanced w cursor since =
    if w.word == since then (says.None, w)
    else (
      says.Advanced (code_of w.word) (with_seen w.word) (with_seen w.word),
      record { word = with_seen w.word; samples = slice_set w.samples cursor (with_seen w.word) },
    )

-- what a call answers, and what it leaves
abbrev pub watched : Watched → WordCall → Answer × Watched
watched w New = (says.Ok, fresh)
watched w (Set number) =
    if is_err_code number then (says.Word (word_set w.word number), record w { word = word_set w.word number })
    else (says.Refused BadCode, w)
watched w (Sample cursor) = (says.Since (sample_of w.word), record w { samples = slice_set w.samples cursor (sample_of w.word) })
watched w (Check cursor) = (code_answer (checked w.word (slice_index w.samples cursor)), w)
watched w (Advance cursor) = advanced w cursor (slice_index w.samples cursor)
