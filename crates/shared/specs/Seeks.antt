-- Where a cursor is put.
use Rattle.std.specs.Prelude.{◌≡◌, ◌⊎◌, ℕ, Option, Some, None, Result, Ok, Err}
use Rattle.cursor.specs.Places.{placed, target}
use Rattle.cursor.specs.declared.seek.Seek.{Seek}
use Rattle.cursor.specs.declared.seek.Seek.TheVariants.{End}
use Rattle.machine.specs.declared.event.Event.TheVariants as event
use Rattle.machine.specs.declared.event.Reply.TheVariants as reply
use Rattle.pc_types.specs.Limits.{Sizes}
use Rattle.machine.specs.Catalogs.{Catalog}
use Rattle.pc_types.specs.declared.refusal.Refusal.{Refusal}
use Rattle.trail.specs.Room.{Room}
use Rattle.held.specs.declared.log.Slip.{Slip}
use Rattle.held.specs.Shown.{SeatSeen}
use Rattle.held.specs.declared.denied.Denied.{Denied}
use Rattle.shared.specs.Called.{Makes}
use Rattle.shared.specs.Denials.{IsDenied, IsFullIfNoSlip, MadeOne}
use Rattle.shared.specs.Seen.{HandleSeen}

-- the place, or why there is none, with the slip of the size that it was counted from
abbrev pub with_slip : Option Slip → Result ℕ Refusal → Result (ℕ × Option Slip) Denied
with_slip slip (Ok at) = Ok (at, slip)
with_slip slip (Err why) = Err (record { refusal = why; slip = slip })

abbrev pub IsRefused : Catalog → Sizes → ℕ → Room → HandleSeen → SeatSeen → SeatSeen → Result (ℕ × Option Slip) Denied → Type 0
IsRefused files sizes name whole h before after (Ok r) = ⊥
IsRefused files sizes name whole h before after (Err d) =
    IsDenied files sizes name whole (λ e. e ≡ event.Size h.number) before after d × IsFullIfNoSlip before after d
    × MadeOne d.slip before after

-- from the end of the file it is counted by the size that the slip's entry answers, if that is not refused; that is the one
-- event. Else none is made
abbrev pub Seeks : Catalog → Sizes → ℕ → Room → Seek → HandleSeen → SeatSeen → SeatSeen → Result (ℕ × Option Slip) Denied → Type 0
Seeks files sizes name whole (End by) h before after result =
    ((size : ℕ) × (slip : Slip) × Makes before after slip (event.Size h.number) (reply.Size size)
    × MadeOne (Some slip) before after
    × (result ≡ with_slip (Some slip) (placed (target (End by) h.cursor size)))) ⊎ IsRefused files sizes name whole h before after result
Seeks files sizes name whole place h before after result =
    (after ≡ before) × (result ≡ with_slip None (placed (target place h.cursor 0)))

-- the cursor after it: at the place, or where it was
abbrev pub place_after : ℕ → Result (ℕ × Option Slip) Denied → ℕ
place_after cursor (Ok r) = r.0
place_after cursor (Err d) = cursor
