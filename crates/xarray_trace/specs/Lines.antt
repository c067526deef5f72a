-- What the lines of a trace ask for.
use Rattle.std.specs.Prelude.{◌≡◌, ℕ, List, ◌∷◌, Some}
use Rattle.xarray_trace.specs.declared.keyword.Keyword.{Keyword}
use Rattle.xarray_trace.specs.declared.operation.Operation.{Operation}
use Rattle.xarray_trace.specs.Keywords.{name_of}
use Rattle.xarray_trace.specs.Operations.{with_numbers}
use Rattle.textline.specs.Words.{words_of, AreNumbers}

-- the line is the operation's name and then numbers that go with it
abbrev pub Means : List ℕ → Operation → Type 0
Means line operation =
    (keyword : Keyword) × (words : List (List ℕ)) × (numbers : List ℕ)
    × (words_of line ≡ name_of keyword ∷ words) × AreNumbers words numbers × (with_numbers keyword numbers ≡ Some operation)
