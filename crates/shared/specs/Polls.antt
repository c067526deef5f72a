-- What a handle learns of failed writes.
use Rattle.std.specs.Prelude.{◌≡◌, ◌⊎◌, ◌+◌, ◌<◌, ◌≤◌, ℕ, true, length, drop, take, Option, IfSome, IfNone, IsSome}
use mathlib.Core.List.{IsPrefix}
use Rattle.errboard.specs.Shown.{PassSeen}
use Rattle.errseq.specs.Recorded.{last_code, raised, word_of}
use Rattle.errseq.specs.Samples.{StandsFor, done_at}
use Rattle.errseq.specs.Word.{IsWithinTurn, checked, sample_of}
use Rattle.held.specs.Shown.{SeatSeen}
use Rattle.held.specs.declared.log.Slip.{Slip}
use Rattle.machine.specs.State.{State, file_at}
use Rattle.pc_types.specs.Limits.{Sizes}
use Rattle.machine.specs.Catalogs.{Catalog}
use Rattle.trail.specs.History.{After}

-- a poll and its answer. What is known then is what was recorded at a moment that no clause dates, and all of that is done. A code
-- comes only of a recording past those done before, and is the last. It comes always, but for a counter that came round
pub record Polled (before after : PassSeen) (told : Option ℕ) : Type 0 where
  pub same : (after.board ≡ before.board) × (after.file ≡ before.file) × (after.start ≡ before.start)
  pub grows : IsPrefix before.known after.known
  pub done : after.done ≡ length after.known
  -- it answers nothing exactly where the word that it loaded is the sample
  pub compared : (loaded : ℕ) × StandsFor after.start loaded after.known × (told ≡ checked loaded before.since)
  pub code : IfSome told (λ c. (before.done < length after.known) × (c ≡ last_code after.known))
  pub none : IfNone told (IsWithinTurn (raised (drop before.done after.known)) → length after.known ≤ before.done)
  pub owed : IsWithinTurn (raised (drop before.done after.known)) → before.done < length before.known → IsSome told
  pub kept : IfNone told (after.since ≡ before.since)
  pub seen : IfSome told (λ _. (after.since ≡ word_of after.start after.known true) ⊎ (after.since ≡ 0))

-- a new pass: it loaded a word that stands for what it knows. By that word go its sample, and what it takes as told
abbrev pub IsSampled : PassSeen → Type 0
IsSampled p =
    (loaded : ℕ) × StandsFor p.start loaded p.known × (p.since ≡ sample_of loaded) × (p.done ≡ done_at p.known loaded)

-- what is known is as much or more, and nothing was polled
abbrev pub IsLevelled : PassSeen → PassSeen → Type 0
IsLevelled before after = (after ≡ record before { known = after.known }) × IsPrefix before.known after.known

-- the failed writes of the file, as many as the history has up to the slip's entry, are known
pub record Hears (files : Catalog) (sizes : Sizes) (name : ℕ) (slip : Slip) (seat : SeatSeen) (pass : PassSeen) : Type 0 where
  pub state : State
  pub leaves : After files sizes name (take (slip.place + 1) seat.list) state
  pub known : (file_at state pass.file).failures ≤ length pass.known

-- these are known, and no more
pub record HearsJust (files : Catalog) (sizes : Sizes) (name : ℕ) (slip : Slip) (seat : SeatSeen) (pass : PassSeen) : Type 0 where
  pub state : State
  pub leaves : After files sizes name (take (slip.place + 1) seat.list) state
  pub known : length pass.known ≡ (file_at state pass.file).failures
