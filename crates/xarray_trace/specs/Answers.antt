-- What an operation's answer prints.
use Rattle.std.specs.Prelude.{ℕ, ◌^◌, ◌-◌, false, ◌==◌, if◌then◌else◌, nat_lt, List, [], ◌∷◌, ◌++◌, codes, decimal}
use Rattle.std.specs.Fmt.{digits, padded_integral, format_spec}
use Rattle.pc_types.specs.Refusals.{refusal_number}
use Rattle.xarray_trace.specs.declared.answer.Answer.{Answer}
use Rattle.xarray_trace.specs.declared.answer.Answer.TheVariants as answer
use Rattle.xarray.specs.MarkedArray.{Range}
use Rattle.xarray_trace.specs.Entries.{shown}
use Rattle.xarray_trace.specs.declared.entries.Entry.{Entry}
use Rattle.textline.specs.Prints.{ended}

-- so many hexadecimal digits in lower case, with zeros before them
abbrev pub hex_text : ℕ → ℕ → List ℕ
hex_text width n = padded_integral (format_spec 32 0 4 width (2 ^ 64 - 1)) false [] (digits 16 false n)

-- an error word: 8 digits, or 16 where it is 2^32 or more
abbrev pub word_text : ℕ → List ℕ
word_text w = hex_text (if nat_lt w (2 ^ 32) then 8 else 16) w

abbrev pub answer_text : Answer → List ℕ
answer_text answer.Ok = codes "ok"
answer_text answer.None = codes "none"
answer_text (answer.Old value) = codes "old " ++ decimal value
answer_text (answer.Value value) = codes "value " ++ decimal value
answer_text (answer.Refused refusal) = codes "refused " ++ decimal (refusal_number refusal)
answer_text (answer.Is is) = if is then codes "true" else codes "false"
answer_text (answer.Entry found) = codes "entry " ++ decimal found.first ++ codes " " ++ decimal found.order ++ codes " " ++ decimal found.value
answer_text (answer.Count count) = codes "count " ++ decimal count
answer_text (answer.Hash count hash) = codes "hash " ++ decimal count ++ codes " " ++ hex_text 16 hash
answer_text (answer.Entries count) = codes "entries " ++ decimal count
answer_text (answer.Id id) = codes "id " ++ decimal id
answer_text (answer.CyclicId id wrapped) = codes "id " ++ decimal id ++ (if wrapped then codes " wrapped" else codes " plain")
answer_text (answer.Word word) = codes "word " ++ word_text word
answer_text (answer.Since since) = codes "since " ++ word_text since
answer_text (answer.Code code) = codes "code " ++ decimal code
answer_text (answer.Advanced code since word) = codes "code " ++ decimal code ++ codes " since " ++ word_text since ++ codes " word " ++ word_text word

-- the digits of the marks that are set, of which bit m is mark m, or `-`
abbrev pub marks_text : ℕ → List ℕ
marks_text marks =
    if marks == 1 then codes "0"
    else if marks == 2 then codes "1"
    else if marks == 3 then codes "01"
    else if marks == 4 then codes "2"
    else if marks == 5 then codes "02"
    else if marks == 6 then codes "12"
    else if marks == 7 then codes "012"
    else codes "-"

abbrev pub entry_text : Entry → List ℕ
entry_text e = decimal e.found.first ++ codes " " ++ decimal e.found.order ++ codes " " ++ decimal e.found.value ++ codes " " ++ marks_text e.marks

-- a line for each entry
abbrev pub lines_text : List (ℕ × Range) → List ℕ
lines_text [] = []
lines_text (e ∷ entries) = ended (entry_text (shown e)) ++ lines_text entries
