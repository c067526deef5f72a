-- What each call on the array answers, and what it leaves: the case of the array's own call (xarray, specs/MarkedArray).
use Rattle.std.specs.Prelude.{ℕ, ◌+◌, ◌-◌, ◌%◌, ◌^◌, min, ◌==◌, ◌&&◌, true, false, nat_lt, if◌then◌else◌, Option, Some, None, option_map}
use Rattle.std.specs.List.{list_any}
use Rattle.std.specs.FinMap as map
use Rattle.pc_types.specs.declared.refusal.Refusal.TheVariants.{BadEntry, BadOrder, Busy, NoEntry}
use Rattle.xarray.specs.declared.entry.Found.{Found}
use Rattle.xarray.specs.declared.entry.Mark.{Mark}
use Rattle.xarray.specs.MarkedArray.{Array, Range, Ranges, entry_at, erased, found_of, has_mark, is_any, is_marked, lowest, remarked, retagged, count_of, split, stored, unmarked}
use Rattle.xarray_trace.specs.Entries.{entry_count, hash_of}
use Rattle.xarray_trace.specs.declared.answer.Answer.{Answer}
use Rattle.xarray_trace.specs.declared.answer.Answer.TheVariants as says
use Rattle.xarray_trace.specs.declared.array_call.ArrayCall.{ArrayCall}
use Rattle.xarray_trace.specs.declared.array_call.ArrayCall.TheVariants.{Store, Insert, InsertOrder, Erase, Load, Split, SetMark, ClearMark, GetMark, Marked, Find, FindMarked, Retag, Empty, Hash, Dump, New}

-- the value of the entry at an index
abbrev pub value_at : Array → ℕ → Option ℕ
value_at a index = option_map (λ e. e.1.value) (entry_at a.ranges index)

-- the array of these entries after a change, which ends what `reserve` made
abbrev pub holding : Ranges → Array
holding ranges = record { ranges = ranges; ready = None }

abbrev pub before_answer : Option ℕ → Answer
before_answer None = says.None
before_answer (Some value) = says.Old value

abbrev pub value_answer : Option ℕ → Answer
value_answer None = says.None
value_answer (Some value) = says.Value value

abbrev pub found_answer : Option Found → Answer
found_answer None = says.None
found_answer (Some found) = says.Entry found

-- an insert of a value that fits, where this stands at the index
abbrev pub inserted : Array → ℕ → ℕ → Option (ℕ × Range) → Answer × Array
inserted a index value None = (says.Ok, holding (map.insert a.ranges index (unmarked 0 value)))
inserted a index value (Some e) = (says.Refused Busy, a)

-- an insert of a range, where this is the lowest entry that it meets
abbrev pub range_inserted : Array → ℕ → ℕ → ℕ → Option (ℕ × Range) → Answer × Array
range_inserted a index order value None = (says.Ok, holding (map.insert a.ranges index (unmarked order value)))
range_inserted a index order value (Some e) = (says.Refused Busy, a)

-- a split to this order, where this stands at the index
abbrev pub split_made : Array → ℕ → ℕ → Option (ℕ × Range) → Answer × Array
split_made a index order None = (says.Refused NoEntry, a)
split_made a index order (Some e) =
    if nat_lt e.1.order order then (says.Refused BadOrder, a)
    else (says.Ok, holding (split a.ranges index order))

-- a mark set, where this stands at the index
abbrev pub mark_set : Array → ℕ → Mark → Option (ℕ × Range) → Answer × Array
mark_set a index mark None = (says.Refused NoEntry, a)
mark_set a index mark (Some e) = (says.Ok, holding (remarked a.ranges index mark true))

-- what a call answers, and what it leaves
abbrev pub made : Array → ArrayCall → Answer × Array
made a (Store index value) =
    if nat_lt value (2 ^ 63) then (before_answer (value_at a index), holding (stored a.ranges index value))
    else (says.Refused BadEntry, a)
made a (Insert index value) =
    if nat_lt value (2 ^ 63) then inserted a index value (entry_at a.ranges index)
    else (says.Refused BadEntry, a)
made a (InsertOrder index order value) =
    if nat_lt value (2 ^ 63) then
    if nat_lt order 64 && (index % 2 ^ order == 0) then range_inserted a index order value (lowest is_any a.ranges index (index + 2 ^ order - 1))
    else (says.Refused BadOrder, a)
    else (says.Refused BadEntry, a)
made a (Erase index) = (before_answer (value_at a index), holding (erased a.ranges index))
made a (Load index) = (value_answer (value_at a index), a)
made a (Split index order) = split_made a index order (entry_at a.ranges index)
made a (SetMark index mark) = mark_set a index mark (entry_at a.ranges index)
made a (ClearMark index mark) = (says.Ok, holding (remarked a.ranges index mark false))
made a (GetMark index mark) = (says.Is (is_marked mark (entry_at a.ranges index)), a)
made a (Marked mark) = (says.Is (list_any (has_mark mark) (map.values a.ranges)), a)
made a (Find from to) = (found_answer (option_map found_of (lowest is_any a.ranges from to)), a)
made a (FindMarked from to mark) = (found_answer (option_map found_of (lowest (has_mark mark) a.ranges from to)), a)
made a (Retag from to mark other) = (says.Count (min (count_of a.ranges from to mark) (2 ^ 64 - 1)), holding (retagged a.ranges from to mark other))
made a Empty = (says.Is (map.len a.ranges == 0), a)
made a Hash = (says.Hash (entry_count a.ranges) (hash_of a.ranges), a)
made a Dump = (says.Entries (entry_count a.ranges), a)
made a New = (says.Ok, holding map.empty)
