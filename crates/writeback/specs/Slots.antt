-- The program's syncs as those of the machine.
use Rattle.std.specs.Prelude.{ℕ, ◌+◌, ◌==◌, Bool, false, List, [], ◌∷◌, map as map_list, Option, Some, None, option_map}
use Rattle.std.specs.Ordering.{nat_cmp}
use Rattle.std.specs.FinMap as map
use Rattle.writeback.specs.declared.syncs.Progress.{Progress}
use Rattle.machine.specs.State.{Sync}

abbrev pub sync_of : Progress → Sync
sync_of y =
    record {
      handle = y.handle.0;
      first = y.first.0;
      last = y.last.0;
      started = option_map (λ p. p.0) y.started;
      failures = y.failures;
      bound = option_map (λ t. t.0) y.bound;
    }

-- whether a sync of this handle stands in the slot
abbrev pub is_of : ℕ → Option Progress → Bool
is_of handle None = false
is_of handle (Some p) = p.handle.0 == handle

-- the slots in use, each with its number, the first number being k
abbrev pub slots_from : {X : Type 0} → ℕ → List (Option X) → List (ℕ × X)
slots_from k [] = []
slots_from k (None ∷ slots) = slots_from (k + 1) slots
slots_from k (Some x ∷ slots) = (k, x) ∷ slots_from (k + 1) slots

-- the map of a table with a slot for each number
abbrev pub in_use : {X : Type 0} → List (Option X) → map.FinMap nat_cmp X
in_use slots = map.from_entries (slots_from 0 slots)

-- the syncs of a table
abbrev pub in_progress : List (Option Progress) → map.FinMap nat_cmp Sync
in_progress slots = in_use (map_list (option_map sync_of) slots)
