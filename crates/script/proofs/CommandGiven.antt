-- What a command gives, and the line that asks for it.
use Rattle.std.proofs.Common.{◌≡◌, ◌≢◌, ℕ, Bool, true, false, inr, List, Option, Some, None, Result, Ok, Err, IfOk, IsOk, IsOkUnless, refl, sym, ap, subst}
use Rattle.std.specs.Prelude.{◌↔◌, IsTrue, if◌then◌else◌}
use Rattle.std.proofs.lemmas.Bool.{false≢true}
use Rattle.pc_types.specs.Limits.{Sizes, is_geometry}
use Rattle.pc_types.specs.declared.refusal.Refusal.{Refusal}
use Rattle.pc_types.specs.declared.refusal.Refusal.TheVariants.{BadConfig}
use Rattle.script.specs.declared.command.Command.{Command}
use Rattle.script.specs.declared.command.Command.TheVariants as command
use Rattle.textline.specs.declared.stop.Stop.{Stop}
use Rattle.textline.specs.declared.stop.Stop.TheVariants.{Malformed, Input, Output, Memory}
use Rattle.textline.specs.Lines.{is_blank}
use Rattle.textline.specs.Prints.{Writes}
use Rattle.script.specs.Commands.{Means}
use Rattle.script.specs.Runs.{Answers, CommandGives, ConfigGives, IsMisplaced, LineGives, default_sizes, sizes_of, session_of_sizes}
use Rattle.script.specs.Sessions.{SessionSeen}
use Rattle.script.proofs.CommandLemmas.{config_alone}

-- a command whose answer was printed, or begun, or for which memory was refused
pub answer_given : (old : Option SessionSeen) (n : ℕ) (c : Command) (r : Result (Unit {0}) Stop) (w : SessionSeen) (before after : Option (List ℕ)) (printed : List ℕ)
    → Answers old c printed w → Writes r printed before after → CommandGives old n c r (Some w) before after
answer_given old n c (Ok done) w before after printed answered writes = (printed, w, answered, refl, writes)
answer_given old n c (Err (Malformed m)) w before after printed answered writes = absurd writes
answer_given old n c (Err Input) w before after printed answered writes = absurd writes
answer_given old n c (Err Output) w before after printed answered writes = (printed, w, answered, writes)
answer_given old n c (Err Memory) w before after printed answered writes = writes

-- a geometry as it is made is the sizes of its line, or the refusal
made_of : (b : Bool) (r : Result Sizes Refusal) (s : Sizes) → IfOk r (λ g. g ≡ s) → (IsOk r → IsTrue b) → (IsTrue b → IsOk r) → IsOkUnless r BadConfig → r ≡ (if b then Ok s else Err BadConfig)
made_of true (Ok g) s is to from other = ap Ok is
made_of true (Err e) s is to from other = absurd (false≢true (from refl))
made_of false (Ok g) s is to from other = absurd (false≢true (to refl))
made_of false (Err e) s is to from other = ap Err other

pub geometry_made : (r : Result Sizes Refusal) (p f d b : ℕ) → (let s : Sizes = record { page = p; frames = f; dirty_limit = d; blocks = b } in IfOk r (λ g. g ≡ s) × (IsOk r ↔ IsTrue (is_geometry s)) × IsOkUnless r BadConfig) → r ≡ sizes_of p f d b
geometry_made r p f d b h = made_of (is_geometry (record { page = p; frames = f; dirty_limit = d; blocks = b })) r (record { page = p; frames = f; dirty_limit = d; blocks = b }) h.0 h.1.0 h.1.1 h.2

-- a `config` that is not the first command
pub misplaced : (w : SessionSeen) (n p f d b : ℕ) (new : Option SessionSeen) (bytes : Option (List ℕ)) → CommandGives (Some w) n (command.Config p f d b) (Err (Malformed n)) new bytes bytes
misplaced w n p f d b new None = (refl, tt, tt)
misplaced w n p f d b new (Some xs) = (refl, tt, refl)

pub configured : (n p f d b : ℕ) (before after : Option (List ℕ)) (r : Result (Unit {0}) Stop) (new : Option SessionSeen) (sizes : Result Sizes Refusal) → sizes ≡ sizes_of p f d b
    → ConfigGives sizes r new before after → CommandGives None n (command.Config p f d b) r new before after
configured n p f d b before after r new sizes e gives = configured_as n p f d b before after r new (subst (λ s. ConfigGives s r new before after) e gives)
  where
    configured_as : (n p f d b : ℕ) (before after : Option (List ℕ)) (r : Result (Unit {0}) Stop) (new : Option SessionSeen)
        → ConfigGives (sizes_of p f d b) r new before after → CommandGives None n (command.Config p f d b) r new before after
    configured_as n p f d b before after (Ok done) new gives = (_, _, (refl, refl), gives.0, gives.1)
    configured_as n p f d b before after (Err (Malformed m)) new gives = absurd gives.1
    configured_as n p f d b before after (Err Input) new gives = absurd gives.1
    configured_as n p f d b before after (Err Output) new gives = (_, _, (refl, refl), gives.1)
    configured_as n p f d b before after (Err Memory) new gives = gives

-- any other first command finds the session of the default sizes
pub first_given : (n : ℕ) (c : Command) (r : Result (Unit {0}) Stop) (new : Option SessionSeen) (before after : Option (List ℕ))
    → ((p f d b : ℕ) → c ≢ command.Config p f d b) → CommandGives (Some (session_of_sizes default_sizes)) n c r new before after → CommandGives None n c r new before after
first_given n (command.Config p f d b) r new before after other gives = absurd (other p f d b refl)
first_given n (command.Step s) (Ok done) new before after other gives = gives
first_given n (command.Step s) (Err (Malformed m)) new before after other gives = absurd gives.1
first_given n (command.Step s) (Err Input) new before after other gives = gives
first_given n (command.Step s) (Err Output) new before after other gives = gives
first_given n (command.Step s) (Err Memory) new before after other gives = gives
first_given n (command.Fail s k e) (Ok done) new before after other gives = gives
first_given n (command.Fail s k e) (Err (Malformed m)) new before after other gives = absurd gives.1
first_given n (command.Fail s k e) (Err Input) new before after other gives = gives
first_given n (command.Fail s k e) (Err Output) new before after other gives = gives
first_given n (command.Fail s k e) (Err Memory) new before after other gives = gives
first_given n (command.Fsync h k) (Ok done) new before after other gives = gives
first_given n (command.Fsync h k) (Err (Malformed m)) new before after other gives = absurd gives.1
first_given n (command.Fsync h k) (Err Input) new before after other gives = gives
first_given n (command.Fsync h k) (Err Output) new before after other gives = gives
first_given n (command.Fsync h k) (Err Memory) new before after other gives = gives
first_given n (command.Poll h) (Ok done) new before after other gives = gives
first_given n (command.Poll h) (Err (Malformed m)) new before after other gives = absurd gives.1
first_given n (command.Poll h) (Err Input) new before after other gives = gives
first_given n (command.Poll h) (Err Output) new before after other gives = gives
first_given n (command.Poll h) (Err Memory) new before after other gives = gives
first_given n (command.Tags f p) (Ok done) new before after other gives = gives
first_given n (command.Tags f p) (Err (Malformed m)) new before after other gives = absurd gives.1
first_given n (command.Tags f p) (Err Input) new before after other gives = gives
first_given n (command.Tags f p) (Err Output) new before after other gives = gives
first_given n (command.Tags f p) (Err Memory) new before after other gives = gives

-- where a line asks for a misplaced command, each command that it asks for is misplaced
misplaced_line : (old : Option SessionSeen) (line : List ℕ) (c : Command) → Means line c → IsMisplaced old c → (d : Command) → Means line d → IsMisplaced old d
misplaced_line None line (command.Config p f l b) means h d asked = absurd h
misplaced_line None line (command.Step s) means h d asked = absurd h
misplaced_line None line (command.Fail s k e) means h d asked = absurd h
misplaced_line None line (command.Fsync k r) means h d asked = absurd h
misplaced_line None line (command.Poll k) means h d asked = absurd h
misplaced_line None line (command.Tags f p) means h d asked = absurd h
misplaced_line (Some w) line (command.Step s) means h d asked = absurd h
misplaced_line (Some w) line (command.Fail s k e) means h d asked = absurd h
misplaced_line (Some w) line (command.Fsync k r) means h d asked = absurd h
misplaced_line (Some w) line (command.Poll k) means h d asked = absurd h
misplaced_line (Some w) line (command.Tags f p) means h d asked = absurd h
misplaced_line (Some w) line (command.Config p f l b) means h d asked =
    let (q, g, m, n, is) = config_alone line p f l b d means asked in
    subst (IsMisplaced (Some w)) (sym is) tt

-- a line that is a command gives what the command gives
pub line_given : (old : Option SessionSeen) (n : ℕ) (line : List ℕ) (c : Command) (r : Result (Unit {0}) Stop) (new : Option SessionSeen) (before after : Option (List ℕ))
    → is_blank line ≡ false → Means line c → CommandGives old n c r new before after → LineGives old n line r new before after
line_given old n line c (Ok done) new before after some means (printed, w, answered, is, appended) = (printed, inr (some, c, w, means, answered, is), appended)
line_given old n line c (Err (Malformed m)) new before after some means (is, mis, kept) = (is, (some, misplaced_line old line c means mis), kept)
line_given old n line c (Err Input) new before after some means gives = gives
line_given old n line c (Err Output) new before after some means (printed, w, answered, part) = (printed, Some w, inr (some, c, w, means, answered, refl), part)
line_given old n line c (Err Memory) new before after some means gives = gives
