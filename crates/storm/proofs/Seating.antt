-- Seats that a cache was made with.
use Rattle.std.proofs.Common.{◌≡◌, ℕ, List, [], ◌∷◌}
use Rattle.std.specs.Prelude.{All}
use Rattle.std.proofs.lemmas.List.Elements.{All-from_get_or, All-nil}
use Rattle.atomic_table.specs.Seated.{TableId}
use Rattle.held.specs.Shown.{AreFresh, SeatSeen}

-- all have its table
pub all_seated : (table : TableId) (name : ℕ) (seats : List SeatSeen) → AreFresh table name seats
    → All (λ s. s.table ≡ table) seats
all_seated table name [] fresh = All-nil (λ (s : SeatSeen). s.table ≡ table)
all_seated table name (s ∷ seats) fresh =
    All-from_get_or (λ (x : SeatSeen). x.table ≡ table) (s ∷ seats) s (λ i below. (fresh i s below).0)
