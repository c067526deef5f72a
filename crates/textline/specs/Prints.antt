-- What is written of a line that is printed.
use Rattle.std.specs.Prelude.{ℕ, List, [], ◌∷◌, ◌++◌, take, Option, Result, Ok, Err}
use Rattle.std.specs.Io.KnownBytes.{Appends, Keeps}
use Rattle.textline.specs.declared.stop.Stop.{Stop}
use Rattle.textline.specs.declared.stop.Stop.TheVariants.{Output, Memory}

-- a line of its own: the text, and the end of a line (byte 0a)
abbrev pub ended : List ℕ → List ℕ
ended text = text ++ (10 ∷ [])

-- known bytes grow by a beginning of bs
abbrev pub AppendsPart : Option (List ℕ) → Option (List ℕ) → List ℕ → Type 0
AppendsPart old new bs = (n : ℕ) × Appends old new (take n bs)

-- what comes of writing: all bytes; or the output fails, after a beginning of them; or memory is refused, before the first
abbrev pub Writes : Result (Unit {0}) Stop → List ℕ → Option (List ℕ) → Option (List ℕ) → Type 0
Writes (Ok _) bs old new = Appends old new bs
Writes (Err Output) bs old new = AppendsPart old new bs
Writes (Err Memory) bs old new = Keeps old new
Writes (Err _) bs old new = ⊥

-- output or memory failed
abbrev pub IsPrintFault : Stop → Type 0
IsPrintFault Output = Unit {0}
IsPrintFault Memory = Unit {0}
IsPrintFault _ = ⊥
