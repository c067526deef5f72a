-- What the desk knows of each block, while deeds go out and come home.
use Rattle.std.proofs.Common.{◌≡◌, ◌≢◌, ℕ, zero, suc, ◌+◌, ◌<◌, Bool, List, [], ◌∷◌, map, length, refl, ap, sym, ◌∙◌, arith}
use Rattle.std.specs.Prelude.{slice_get, slice_set, Some}
use Rattle.std.proofs.lemmas.Option.{none-some, same_Some}
use Rattle.blockdev.specs.Jobs.{FinishedTask}
use Rattle.deeds.specs.declared.views.Block.{Block}
use Rattle.deeds.specs.declared.views.Given.{Given}
use Rattle.deeds.specs.declared.views.Place.{Place}
use Rattle.deeds.specs.declared.views.Place.TheVariants.{Home, Out}
use Rattle.deeds.specs.Shown.{Settles, bytes_of, calls_of, known, known_of, out_count}
use Rattle.deeds.specs.Views.{home_in, no_given}
use Rattle.deeds.proofs.Counts.{calls_set, contents_at, contents_set, in_set, out_set}
use Rattle.deeds.proofs.Lists.{set_here}

-- a block whose deed is not out has it at home
pub home_unless_out : (places : List Place) (k : ℕ) → k < length places
    → ((g : Given) → slice_get places k ≢ Some (Out g)) → slice_get places k ≡ Some (Home (home_in places k))
home_unless_out [] k h n = absurd (omega arith)
home_unless_out (Home now ∷ ps) zero h n = refl
home_unless_out (Out g ∷ ps) zero h n = absurd (n g refl)
home_unless_out (p ∷ ps) (suc k) h n = home_unless_out ps k (omega arith) n

pub known_opened : (blocks : List Block) → known (map Home blocks) ≡ blocks
known_opened [] = refl
known_opened (b ∷ bs) = λ i. b ∷ known_opened bs i

pub known_at : (places : List Place) (k : ℕ) (p : Place) → slice_get places k ≡ Some p
    → slice_get (known places) k ≡ Some (known_of p)
known_at [] k p e = absurd (none-some p e)
known_at (x ∷ xs) zero p e = ap (λ y. Some (known_of y)) (same_Some x p e)
known_at (x ∷ xs) (suc k) p e = known_at xs k p e

pub known_set : (places : List Place) (k : ℕ) (p : Place)
    → known (slice_set places k p) ≡ slice_set (known places) k (known_of p)
known_set [] k p = refl
known_set (x ∷ xs) zero p = refl
known_set (x ∷ xs) (suc k) p = λ i. known_of x ∷ known_set xs k p i

set_same : (l : List Block) (k : ℕ) (x : Block) → slice_get l k ≡ Some x → slice_set l k x ≡ l
set_same [] k x e = refl
set_same (y ∷ ys) zero x e = λ i. sym (same_Some y x e) i ∷ ys
set_same (y ∷ ys) (suc k) x e = λ i. y ∷ set_same ys k x e i

-- a deed that is given changes nothing of what the desk knows
pub known_given : (places : List Place) (k : ℕ) (g : Given) → slice_get places k ≡ Some (Home g.before)
    → known (slice_set places k (Out g)) ≡ known places
known_given places k g e =
    known_set places k (Out g) ∙ set_same (known places) k g.before (known_at places k (Home g.before) e)

-- one that comes home changes its block to what its call left
pub known_settled : (told : Bool) (before after : List Place) (done : FinishedTask) (s : Settles told before done after)
    → known after ≡ slice_set (known before) done.block s.left
known_settled told before after done s = ap known s.home ∙ known_set before done.block (Home s.left)

-- ---- the bytes that the desk knows

pub bytes_opened : (blocks : List Block) → bytes_of (known (map Home blocks)) ≡ bytes_of blocks
bytes_opened blocks = ap bytes_of (known_opened blocks)

pub bytes_at : (places : List Place) (k : ℕ) (p : Place) → slice_get places k ≡ Some p
    → slice_get (bytes_of (known places)) k ≡ Some (known_of p).bytes
bytes_at places k p e = contents_at (known places) k (known_of p) (known_at places k p e)

pub bytes_given : (places : List Place) (k : ℕ) (g : Given) → slice_get places k ≡ Some (Home g.before)
    → bytes_of (known (slice_set places k (Out g))) ≡ bytes_of (known places)
bytes_given places k g e = ap bytes_of (known_given places k g e)

pub bytes_settled : (told : Bool) (before after : List Place) (done : FinishedTask) (s : Settles told before done after)
    → bytes_of (known after) ≡ slice_set (bytes_of (known before)) done.block s.left.bytes
bytes_settled told before after done s =
    ap bytes_of (known_settled told before after done s) ∙ contents_set (known before) done.block s.left

-- ---- the calls that it knows of, and how many deeds are out

pub calls_given : (places : List Place) (k : ℕ) (g : Given) → slice_get places k ≡ Some (Home g.before)
    → calls_of (known (slice_set places k (Out g))) ≡ calls_of (known places)
calls_given places k g e = ap calls_of (known_given places k g e)

pub calls_settled : (told : Bool) (before after : List Place) (done : FinishedTask) → Settles told before done after
    → calls_of (known after) ≡ calls_of (known before) + 1
calls_settled told before after done s =
    let was = known_at before done.block (Out s.given) s.out in
    ap calls_of (known_settled told before after done s)
    ∙ calls_set (known before) done.block s.given.before s.left was s.comes.calls

pub out_given : (places : List Place) (k : ℕ) (g : Given) → slice_get places k ≡ Some (Home g.before)
    → out_count (slice_set places k (Out g)) ≡ out_count places + 1
out_given places k g e = out_set places k g.before g e

pub out_settled : (told : Bool) (before after : List Place) (done : FinishedTask) → Settles told before done after
    → out_count after + 1 ≡ out_count before
out_settled told before after done s =
    ap (λ ps. out_count ps + 1) s.home ∙ in_set before done.block s.given s.left s.out

abbrev given_in : Place → Given
given_in (Out g) = g
given_in (Home now) = no_given

-- the deed that comes home is the one that was given
pub given_back : (told : Bool) (places after : List Place) (k : ℕ) (p : Place) (g : Given) (done : FinishedTask)
    → slice_get places k ≡ Some p → done.block ≡ k → (s : Settles told (slice_set places k (Out g)) done after)
    → s.given ≡ g
given_back told places after k p g done here at s =
    let there = set_here places k (Out g) p here in
    let out = ap (λ j. slice_get (slice_set places k (Out g)) j) (sym at) ∙ s.out in
    ap given_in (same_Some _ _ (sym out ∙ there))
