-- What one event leaves of its seat, whether it is answered or refused.
use Rattle.std.specs.Prelude.{Err, IfErr, IfOk, Ok, Result}
use Rattle.trail.specs.declared.entry.Entry.{Entry}
use Rattle.held.specs.Shown.{SeatSeen}
use Rattle.held.specs.Called.{Only}
use Rattle.held.specs.declared.denied.Denied.{Denied}

pub only_answered : {A : Type 0} (own : Entry → Type 0) (before after : SeatSeen) (made : A → Type 0) (denied : Denied → Type 0)
    (result : Result A Denied) → IfOk result made → IfErr result denied → ((r : A) → made r → Only own before after)
    → ((d : Denied) → denied d → Only own before after) → Only own before after
only_answered own before after made denied (Ok r) m q f g = f r m
only_answered own before after made denied (Err d) m q f g = g d q
