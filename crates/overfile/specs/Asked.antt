-- What the words after `over` ask for.
use Rattle.std.specs.Prelude.{◌≡◌, ℕ, List, [], ◌∷◌}
use denote.Ref.{Bor}
use Rattle.textline.specs.Words.{IsNumber}
use Rattle.overfile.specs.declared.options.Options.{Options}

-- PATH SIZE
abbrev pub AsksFor : List (Bor (List ℕ)) → Options → Type 0
AsksFor (path ∷ size ∷ []) o = (o.path ≡ path) × IsNumber size.now o.size
AsksFor words o = ⊥
