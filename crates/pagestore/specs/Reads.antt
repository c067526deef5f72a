-- Words of the contracts: how a read of pages ends.
use Rattle.std.specs.Prelude.{◌≡◌, ℕ, Bool, true, false, Option, Some, None, ⊤}
use Rattle.pagestore.specs.declared.pages.Reading.{Reading}
use Rattle.pagestore.specs.declared.pages.Reading.TheVariants.{Absent, Done, Filling}

-- the page that is not cached, where there is one
abbrev pub stop_of : Reading → Option ℕ
stop_of Done = None
stop_of (Filling p) = Some p
stop_of (Absent p) = Some p

-- it tells of that page whether it is filling
abbrev pub TellsWaits : Reading → (ℕ → Bool) → Type 0
TellsWaits Done awaited = ⊤
TellsWaits (Filling p) awaited = awaited p ≡ true
TellsWaits (Absent p) awaited = awaited p ≡ false
