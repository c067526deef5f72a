-- What each call on the identifiers answers, and what it leaves (idalloc, specs/Ids).
use Rattle.std.specs.Prelude.{◌≡◌, ℕ, ◌+◌, ◌%◌, ◌^◌, if◌then◌else◌}
use Rattle.std.specs.FinSet as set
use Rattle.pc_types.specs.declared.refusal.Refusal.TheVariants.{NoEntry, NoId}
use Rattle.idalloc.specs.Ids.{AllUsed, Ids, IsCyclic, IsLowestUnused}
use Rattle.xarray_trace.specs.declared.answer.Answer.{Answer}
use Rattle.xarray_trace.specs.declared.answer.Answer.TheVariants as says
use Rattle.xarray_trace.specs.declared.id_call.IdCall.{IdCall}
use Rattle.xarray_trace.specs.declared.id_call.IdCall.TheVariants.{New, Alloc, AllocCyclic, Free, IsUsed}

-- no identifier is used
abbrev pub unused : Ids
unused = record { used = set.empty; next = 0 }

-- the lowest unused identifier of a range, if one is left
abbrev pub GivesLowest : Ids → ℕ → ℕ → Answer → Ids → Type 0
GivesLowest old min max (says.Id id) new = IsLowestUnused old.used min max id × (new ≡ record old { used = set.insert old.used id })
GivesLowest old min max (says.Refused NoId) new = AllUsed old.used min max × (new ≡ old)
GivesLowest old min max _ new = ⊥

-- the next identifier of a range in turn, if one is left
abbrev pub GivesNext : Ids → ℕ → ℕ → Answer → Ids → Type 0
GivesNext old min max (says.CyclicId id wrapped) new =
    IsCyclic old.used old.next min max (id, wrapped) × (new ≡ record { used = set.insert old.used id; next = (id + 1) % 2 ^ 64 })
GivesNext old min max (says.Refused NoId) new = AllUsed old.used min max × (new ≡ old)
GivesNext old min max _ new = ⊥

abbrev pub freed : Ids → ℕ → Answer × Ids
freed old id =
    if set.contains old.used id then (says.Ok, record old { used = set.remove old.used id })
    else (says.Refused NoEntry, old)

-- what a call answers, and what it leaves
abbrev pub Gives : Ids → IdCall → Answer → Ids → Type 0
Gives old New answer new = (answer ≡ says.Ok) × (new ≡ unused)
Gives old (Alloc min max) answer new = GivesLowest old min max answer new
Gives old (AllocCyclic min max) answer new = GivesNext old min max answer new
Gives old (Free id) answer new = (answer, new) ≡ freed old id
Gives old (IsUsed id) answer new = (answer ≡ says.Is (set.contains old.used id)) × (new ≡ old)
