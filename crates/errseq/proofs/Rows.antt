-- What the record of events answers, at some lists of them: each handle is told once, and one that is opened only where nobody was told before.
use Rattle.std.proofs.Common.{◌≡◌, List, [], ◌∷◌, Some, None, refl}
use Rattle.errseq.specs.Events.{Event, Record, Look, Open, answer}

abbrev failed : List Event
failed = Record 5 ∷ Open 1 ∷ Open 0 ∷ []

abbrev both_looked : List Event
both_looked = Look 1 ∷ Look 0 ∷ failed

pub first_is_told : answer 0 failed ≡ Some 5
first_is_told = refl

pub other_is_told : answer 1 (Look 0 ∷ failed) ≡ Some 5
other_is_told = refl

pub first_is_told_once : answer 0 both_looked ≡ None
first_is_told_once = refl

pub late_is_not_told : answer 2 (Open 2 ∷ both_looked) ≡ None
late_is_not_told = refl

pub early_is_told : answer 2 (Look 1 ∷ Look 0 ∷ Open 2 ∷ failed) ≡ Some 5
early_is_told = refl

pub next_is_told : answer 0 (Record 28 ∷ both_looked) ≡ Some 28
next_is_told = refl
