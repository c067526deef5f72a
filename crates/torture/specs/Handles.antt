-- The handles that a service opened.
use Rattle.std.specs.Prelude.{◌≢◌, List, [], ◌∷◌, All}
use Rattle.filesvc.specs.Seen.{HandleSeen}

-- no two have one number
abbrev pub AreApart : List HandleSeen → Type 0
AreApart [] = Unit {0}
AreApart (h ∷ hs) = All (λ (g : HandleSeen). g.number ≢ h.number) hs × AreApart hs
