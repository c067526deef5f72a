-- Seats of one table.
use Rattle.std.proofs.Common.{◌≡◌, ◌<◌, ℕ, zero, suc, Bool, true, false, List, [], ◌∷◌, ◌++◌, length, slice_index_or, subst, sym, arith}
use Rattle.std.proofs.lemmas.List.Elements.{All-append}
use Rattle.std.specs.Prelude.{All, if◌then◌else◌}
use Rattle.atomic_table.specs.Seated.{TableId}
use Rattle.held.specs.Shown.{AreFresh, SeatSeen}

-- those that were just made
pub fresh_seated : (table : TableId) (name : ℕ) (seats : List SeatSeen) → AreFresh table name seats → All (λ s. s.table ≡ table) seats
fresh_seated table name seats fresh = λ k d less. (fresh k d less).0

one_seated : (table : TableId) (x : SeatSeen) → x.table ≡ table → All (λ s. s.table ≡ table) (x ∷ [])
one_seated table x e = λ k d less. one k d less
  where
    one : (k : ℕ) (d : SeatSeen) → k < length (x ∷ []) → (slice_index_or (x ∷ []) k d).table ≡ table
    one zero d less = e
    one (suc k) d less = absurd (omega arith)

-- and one more, where there was room for it
pub put_back : (table : TableId) (seats all : List SeatSeen) (x : SeatSeen) (fits : Bool)
    → all ≡ (if fits then seats ++ x ∷ [] else seats) → All (λ s. s.table ≡ table) seats → x.table ≡ table
    → All (λ s. s.table ≡ table) all
put_back table seats all x true is those e =
    subst (λ (ss : List SeatSeen). All (λ s. s.table ≡ table) ss) (sym is)
    (All-append (λ s. s.table ≡ table) seats (x ∷ []) those (one_seated table x e))
put_back table seats all x false is those e =
    subst (λ (ss : List SeatSeen). All (λ s. s.table ≡ table) ss) (sym is) those
