-- What a poll leaves: the file has no error then that nobody was told of, where a code was answered, and nothing else is changed.
use Rattle.std.proofs.Common.{◌≡◌, ℕ, Bool, true, false, not, eq-eqb, List, length, refl, ap, sym, subst, ◌∙◌}
use Rattle.std.specs.Prelude.{Option, is_some, nat_lt, ◌==◌, ◌&&◌, if◌then◌else◌}
use Rattle.errboard.specs.Shown.{RecorderSeen, is_told}
use Rattle.world.specs.Stepping.{WorldSeen}
use Rattle.filesvc.specs.Seen.{SoloSeen}
use Rattle.filesvc.specs.Service.{Keeps, Serves, ServesBut, errors_of, is_untold, untold_since}

-- the service with these words of its recorder
abbrev pub with_words : SoloSeen → List ℕ → SoloSeen
with_words s words = record s { errors = record s.errors { words = words } }

-- the words of a recorder after a poll of file f
abbrev pub IsSeenIn : SoloSeen → ℕ → Option ℕ → List ℕ → Type 0
IsSeenIn s f answer words = (g : ℕ) → is_told (record s.errors { words = words }) g ≡ (if g == f && is_some answer then true else is_told s.errors g)

and_false : (b : Bool) → (b && false) ≡ false
and_false true = refl
and_false false = refl

pub untold_polled : (s : SoloSeen) (f : ℕ) (answer : Option ℕ) (words : List ℕ) → IsSeenIn s f answer words → (g : ℕ) → is_untold (with_words s words) g ≡ (if g == f && is_some answer then false else is_untold s g)
untold_polled s f answer words seen g = ap (λ b. nat_lt 0 (length (errors_of s g)) && not b) (seen g) ∙ by (g == f && is_some answer)
  where
    some : Bool
    some = nat_lt 0 (length (errors_of s g))

    by : (t : Bool) → (some && not (if t then true else is_told s.errors g)) ≡ (if t then false else is_untold s g)
    by true = and_false some
    by false = refl

-- another file's errors stay
untold_else : (s : SoloSeen) (f : ℕ) (answer : Option ℕ) (words : List ℕ) → IsSeenIn s f answer words → (g : ℕ) → (g == f) ≡ false → is_untold (with_words s words) g ≡ is_untold s g
untold_else s f answer words seen g e = untold_polled s f answer words seen g ∙ ap (λ t. if t && is_some answer then false else is_untold s g) e

-- and after the calls before it
pub untold_after : (old s : SoloSeen) (f : ℕ) (answer : Option ℕ) (words : List ℕ) → Keeps old s → IsSeenIn s f answer words → is_untold (with_words s words) f ≡ (if is_some answer then false else untold_since old s f)
untold_after old s f answer words k seen = untold_polled s f answer words seen f ∙ ap (λ t. if t && is_some answer then false else is_untold s f) (eq-eqb f f refl) ∙ ap (λ b. if is_some answer then false else b) (k.untold f refl)

pub serves_polled : (old s : SoloSeen) (f : ℕ) (answer : Option ℕ) (words : List ℕ) → Serves old s → IsSeenIn s f answer words → ServesBut (λ g. g == f) old (with_words s words)
serves_polled old s f answer words serves seen = let k = serves.keeps in record {
  keeps = record {
    name = k.name;
    sizes = k.sizes;
    handles = k.handles;
    count = k.count;
    board = k.board;
    opening = k.opening;
    recorded = k.recorded;
    noted = k.noted;
    coded = k.coded;
    untold = λ g e. untold_else s f answer words seen g e ∙ k.untold g refl;
    tells = k.tells;
    faults = k.faults;
  };
  lengths = serves.lengths;
  files = serves.files;
}

-- calls that poll no file
pub serves_but : (p : ℕ → Bool) (old new : SoloSeen) → Serves old new → ServesBut p old new
serves_but p old new serves = let k = serves.keeps in record {
  keeps = record {
    name = k.name;
    sizes = k.sizes;
    handles = k.handles;
    count = k.count;
    board = k.board;
    opening = k.opening;
    recorded = k.recorded;
    noted = k.noted;
    coded = k.coded;
    untold = λ g _. k.untold g refl;
    tells = k.tells;
    faults = k.faults;
  };
  lengths = serves.lengths;
  files = serves.files;
}

-- ---- the service after a poll of its recorder

module _ (old : SoloSeen) (w : WorldSeen) (errors after : RecorderSeen) (n file f : ℕ) (answer : Option ℕ) (words : List ℕ) (same : after ≡ record errors { words = words }) (told : (g : ℕ) → is_told after g ≡ (if g == file && is_some answer then true else is_told errors g)) (here : file ≡ f) where
  abbrev was : SoloSeen
  was = record { world = w; errors = errors; attempts = n }

  abbrev polled : SoloSeen
  polled = record { world = w; errors = after; attempts = n }

  is : polled ≡ with_words was words
  is = ap (λ (e : RecorderSeen). record { world = w; errors = e; attempts = n }) same

  seen : IsSeenIn was f answer words
  seen g = sym (ap (λ (e : RecorderSeen). is_told e g) same) ∙ told g ∙ ap (λ k. if g == k && is_some answer then true else is_told errors g) here

  pub but_polled : Serves old was → ServesBut (λ g. g == f) old polled
  but_polled s = subst (λ (t : SoloSeen). ServesBut (λ g. g == f) old t) (sym is) (serves_polled old was f answer words s seen)

  pub since_polled : Keeps old was → is_untold polled f ≡ (if is_some answer then false else untold_since old polled f)
  since_polled k = subst (λ (t : SoloSeen). is_untold t f ≡ (if is_some answer then false else untold_since old t f)) (sym is) (untold_after old was f answer words k seen)
