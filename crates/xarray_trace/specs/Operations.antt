-- The operation of a name and the numbers after it.
use Rattle.std.specs.Prelude.{ℕ, List, [], ◌∷◌, Option, Some, None, nat_lt, if◌then◌else◌, option_map}
use Rattle.xarray.specs.declared.entry.Mark.{Mark}
use Rattle.xarray.specs.declared.entry.Mark.TheVariants.{M0, M1, M2}
use Rattle.xarray_trace.specs.declared.array_call.ArrayCall.TheVariants as array
use Rattle.xarray_trace.specs.declared.id_call.IdCall.TheVariants as id
use Rattle.xarray_trace.specs.declared.word_call.WordCall.TheVariants as word
use Rattle.xarray_trace.specs.declared.word_call.TheConstants.{CURSORS}
use Rattle.xarray_trace.specs.declared.operation.Operation.{Operation}
use Rattle.xarray_trace.specs.declared.operation.Operation.TheVariants.{Array, Id, Word}
use Rattle.xarray_trace.specs.declared.keyword.Keyword.{Keyword}
use Rattle.xarray_trace.specs.declared.keyword.Keyword.TheVariants.{Store, Insert, InsertOrder, Erase, Load, Split, SetMark, ClearMark, GetMark, Marked, Find, FindMarked, Retag, Empty, Hash, Dump, New, Ids, Alloc, AllocCyclic, Free, IsUsed, ErrNew, ErrSet, ErrSample, ErrCheck, ErrAdvance}

-- the mark of a number, 0 to 2
abbrev pub mark_of : ℕ → Option Mark
mark_of n = if nat_lt n 1 then Some M0 else if nat_lt n 2 then Some M1 else if nat_lt n 3 then Some M2 else None

-- the cursor of a number, 0 to 7
abbrev pub cursor_of : ℕ → Option ℕ
cursor_of n = if nat_lt n CURSORS then Some n else None

abbrev pub with_none : Keyword → Option Operation
with_none Empty = Some (Array array.Empty)
with_none Hash = Some (Array array.Hash)
with_none Dump = Some (Array array.Dump)
with_none New = Some (Array array.New)
with_none Ids = Some (Id id.New)
with_none ErrNew = Some (Word word.New)
with_none _ = None

abbrev pub with_one : Keyword → ℕ → Option Operation
with_one Erase a = Some (Array (array.Erase a))
with_one Load a = Some (Array (array.Load a))
with_one Marked a = option_map (λ mark. Array (array.Marked mark)) (mark_of a)
with_one Free a = Some (Id (id.Free a))
with_one IsUsed a = Some (Id (id.IsUsed a))
with_one ErrSet a = Some (Word (word.Set a))
with_one ErrSample a = option_map (λ cursor. Word (word.Sample cursor)) (cursor_of a)
with_one ErrCheck a = option_map (λ cursor. Word (word.Check cursor)) (cursor_of a)
with_one ErrAdvance a = option_map (λ cursor. Word (word.Advance cursor)) (cursor_of a)
with_one _ a = None

abbrev pub with_two : Keyword → ℕ → ℕ → Option Operation
with_two Store a b = Some (Array (array.Store a b))
with_two Insert a b = Some (Array (array.Insert a b))
with_two Split a b = Some (Array (array.Split a b))
with_two SetMark a b = option_map (λ mark. Array (array.SetMark a mark)) (mark_of b)
with_two ClearMark a b = option_map (λ mark. Array (array.ClearMark a mark)) (mark_of b)
with_two GetMark a b = option_map (λ mark. Array (array.GetMark a mark)) (mark_of b)
with_two Find a b = Some (Array (array.Find a b))
with_two Alloc a b = Some (Id (id.Alloc a b))
with_two AllocCyclic a b = Some (Id (id.AllocCyclic a b))
with_two _ a b = None

abbrev pub with_three : Keyword → ℕ → ℕ → ℕ → Option Operation
with_three InsertOrder a b c = Some (Array (array.InsertOrder a b c))
with_three FindMarked a b c = option_map (λ mark. Array (array.FindMarked a b mark)) (mark_of c)
with_three _ a b c = None

abbrev pub retag_of : ℕ → ℕ → Option Mark → Option Mark → Option Operation
retag_of a b (Some mark) (Some other) = Some (Array (array.Retag a b mark other))
retag_of a b _ _ = None

abbrev pub with_four : Keyword → ℕ → ℕ → ℕ → ℕ → Option Operation
with_four Retag a b c d = retag_of a b (mark_of c) (mark_of d)
with_four _ a b c d = None

-- the operation, where the name goes with as many numbers, and a mark or a cursor among them is one
abbrev pub with_numbers : Keyword → List ℕ → Option Operation
with_numbers keyword [] = with_none keyword
with_numbers keyword (a ∷ []) = with_one keyword a
with_numbers keyword (a ∷ b ∷ []) = with_two keyword a b
with_numbers keyword (a ∷ b ∷ c ∷ []) = with_three keyword a b c
with_numbers keyword (a ∷ b ∷ c ∷ d ∷ []) = with_four keyword a b c d
with_numbers keyword (a ∷ b ∷ c ∷ d ∷ e ∷ rest) = None
