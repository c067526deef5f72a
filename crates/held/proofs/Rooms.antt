-- Room that is enough for more is enough for less, and what is left of it.
use Rattle.std.proofs.Common.{◌≡◌, ◌∙◌, ℕ, [], ap, sym, true, arith}
use Rattle.std.specs.Prelude.{Option, Some, None, nat_le, ◌&&◌}
use Rattle.std.proofs.lemmas.Bool.Decides.{nat_tests}
use Rattle.machine.proofs.steps.Choices.{and_true}
use Rattle.trail.specs.Room.{Room, fits, fits_bytes}
use Rattle.held.specs.Keeps.{room_after}
use Rattle.held.specs.Shown.{LogSeen}

pub fits_entry : (room : Room) (b : ℕ) → fits room 1 b ≡ true → fits room 1 0 ≡ true
fits_entry room b e = go room.bytes (and_true (nat_le 1 room.events) (fits_bytes room.bytes b) e).0
  where
    go : (o : Option ℕ) → nat_le 1 room.events ≡ true → (nat_le 1 room.events && fits_bytes o 0) ≡ true
    go None k = rw k cc
    go (Some n) k = rw k (grind (arith, nat_tests))

-- nothing is gone of it before the first entry
pub room_first : (whole : Room) (log : LogSeen) → log.history ≡ [] → log.room ≡ whole → log.room ≡ room_after whole log.history
room_first whole log empty is = is ∙ ap (room_after whole) (sym empty)
