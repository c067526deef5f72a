-- What a line of a trace does, and what it prints.
use Rattle.std.specs.Prelude.{◌≡◌, ◌⊎◌, ℕ, List, [], ◌∷◌, ◌++◌, Option, codes}
use Rattle.std.specs.FinMap as map
use Rattle.std.specs.Io.KnownBytes.{Appends}
use Rattle.idalloc.specs.Ids.{Ids}
use Rattle.xarray.specs.MarkedArray.{Array as TheArray, Ranges}
use Rattle.xarray_trace.specs.declared.answer.Answer.{Answer}
use Rattle.xarray_trace.specs.declared.array_call.ArrayCall.{ArrayCall}
use Rattle.xarray_trace.specs.declared.array_call.ArrayCall.TheVariants.{Dump}
use Rattle.xarray_trace.specs.declared.id_call.IdCall.{IdCall}
use Rattle.xarray_trace.specs.declared.word_call.Watched.{Watched}
use Rattle.xarray_trace.specs.declared.word_call.WordCall.{WordCall}
use Rattle.xarray_trace.specs.declared.operation.Operation.{Operation}
use Rattle.xarray_trace.specs.declared.operation.Operation.TheVariants.{Array, Id, Word}
use Rattle.xarray_trace.specs.declared.run.Session.{Session}
use Rattle.textline.specs.Prints.{ended}
use Rattle.xarray_trace.specs.Answers.{answer_text, lines_text}
use Rattle.xarray_trace.specs.Calls.{made}
use Rattle.xarray_trace.specs.Identifiers.{Gives}
use Rattle.xarray_trace.specs.Lines.{Means}
use Rattle.xarray_trace.specs.Watches.{watched}

-- an answer on its line, and after a dump's a line for each entry
abbrev pub call_text : ArrayCall → Answer → Ranges → List ℕ
call_text Dump answer m = ended (answer_text answer) ++ lines_text (map.entries m)
call_text _ answer m = ended (answer_text answer)

-- a call on the array is made, and what it answers is printed
abbrev pub RunsCall : TheArray → ArrayCall → TheArray → Option (List ℕ) → Option (List ℕ) → Type 0
RunsCall old call new before after = (answer : Answer) × ((answer, new) ≡ made old call) × Appends before after (call_text call answer new.ranges)

-- a call on the identifiers is made, and what it answers is printed
abbrev pub RunsIdCall : Ids → IdCall → Ids → Option (List ℕ) → Option (List ℕ) → Type 0
RunsIdCall old call new before after = (answer : Answer) × Gives old call answer new × Appends before after (ended (answer_text answer))

-- a call on the word is made, and what it answers is printed
abbrev pub RunsWordCall : Watched → WordCall → Watched → Option (List ℕ) → Option (List ℕ) → Type 0
RunsWordCall old call new before after = (answer : Answer) × ((answer, new) ≡ watched old call) × Appends before after (ended (answer_text answer))

-- the line's call is made; or the line is none, and that is printed
abbrev pub RunsLine : List ℕ → Session → Session → Option (List ℕ) → Option (List ℕ) → Type 0
RunsLine line old new before after =
    ((call : ArrayCall) × Means line (Array call) × RunsCall old.array call new.array before after × (new ≡ record old { array = new.array }))
    ⊎ (((call : IdCall) × Means line (Id call) × RunsIdCall old.ids call new.ids before after × (new ≡ record old { ids = new.ids }))
    ⊎ (((call : WordCall) × Means line (Word call) × RunsWordCall old.watched call new.watched before after × (new ≡ record old { watched = new.watched }))
    ⊎ (((operation : Operation) → ¬ (Means line operation)) × (new ≡ old) × Appends before after (ended (codes "unknown")))))
