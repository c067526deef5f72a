-- What the words after `torture` ask for, what is printed of the rounds, and the status.
use Rattle.std.specs.Prelude.{◌≡◌, ◌⊎◌, ◌++◌, ℕ, List, [], ◌∷◌, Option, Some, None, Result, Ok, Err, codes, decimal, if◌then◌else◌, is_some}
use Rattle.std.specs.Io.KnownBytes.{Appends, Keeps}
use denote.Ref.{Bor}
use Rattle.textline.specs.Prints.{AppendsPart, ended}
use Rattle.textline.specs.Words.{IsNumber}
use Rattle.storm_text.specs.Asked.{IsNumberUpTo}
use Rattle.storm_text.specs.Told.{refused_text}
use Rattle.torture.specs.declared.told.Difference.{Difference}
use Rattle.torture.specs.declared.told.Fault.{Fault}
use Rattle.torture.specs.declared.told.Findings.{Findings}
use Rattle.torture.specs.declared.told.Options.{Options}

-- SEED ROUNDS
abbrev pub AsksFor : List (Bor (List ℕ)) → Options → Type 0
AsksFor (seed ∷ rounds ∷ []) o = IsNumber seed.now o.seed × IsNumberUpTo 1000000 rounds.now o.rounds
AsksFor words o = ⊥

abbrev pub difference_text : Difference → List ℕ
difference_text d = codes "agree no: seed " ++ decimal d.seed ++ codes ", round " ++ decimal d.round ++ codes ", calls " ++ decimal d.calls

abbrev pub agreement_text : Option Difference → List ℕ
agreement_text None = codes "agree yes"
agreement_text (Some d) = difference_text d

-- how many rounds were played, and calls made
abbrev pub counts_text : ℕ → ℕ → List ℕ
counts_text rounds calls = codes "rounds " ++ decimal rounds ++ codes "\ncalls " ++ decimal calls

-- by what calls were refused, and how many device calls failed
abbrev pub trouble_text : List ℕ → ℕ → List ℕ
trouble_text times faults = refused_text times ++ codes "\nfaults " ++ decimal faults

-- these, and whether all answers agree
abbrev pub findings_text : Findings → List ℕ
findings_text f =
    counts_text f.rounds f.calls ++ codes "\n" ++ trouble_text f.refused.times f.faults ++ codes "\n" ++ agreement_text f.difference

-- what was found is told, and the status is 0 where all answers agree, and 1 where not; or the output (3) or memory (4) failed, and a
-- beginning of that was written
abbrev pub Tells : Result Findings Fault → ℕ → Option (List ℕ) → Option (List ℕ) → Type 0
Tells (Ok f) status before after =
    ((status ≡ (if is_some f.difference then 1 else 0)) × Appends before after (ended (findings_text f)))
    ⊎ (((status ≡ 3) ⊎ (status ≡ 4)) × AppendsPart before after (ended (findings_text f)))
Tells (Err fault) status before after = (status ≡ 4) × Keeps before after

-- what was found of the rounds that these words ask for is told; where they ask for none nothing is printed, and the status is 2
abbrev pub TortureTells : List (Bor (List ℕ)) → ℕ → Option (List ℕ) → Option (List ℕ) → Type 0
TortureTells words status before after =
    ((o : Options) × (found : Result Findings Fault) × AsksFor words o × Tells found status before after)
    ⊎ (((o : Options) → ¬ (AsksFor words o)) × (status ≡ 2) × Keeps before after)
