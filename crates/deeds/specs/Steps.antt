-- What the functions that make the steps say.
use Rattle.std.specs.Prelude.{◌≡◌, ℕ, Bool, List, []}
use Rattle.atomic_table.specs.declared.shared.Seat.{Seat}
use Rattle.atomic_table.specs.Seated.{TableId}
use Rattle.atomic_table.specs.Table.{Me}
use Rattle.deeds.specs.Views.{device_view, desk_view, deed_view, both_view, device_with, desk_with, undone, carried}
use Rattle.deeds.specs.declared.views.Block.{Block}
use Rattle.deeds.specs.declared.views.Given.{Given}
use Rattle.deeds.specs.declared.views.Done.{Done}
use Rattle.deeds.specs.declared.views.Deed.{Deed}
use Rattle.deeds.specs.declared.views.Place.{Place}
use Rattle.deeds.specs.declared.views.View.{View}

-- the pass is one of this table, which has one word
abbrev pub IsAt : TableId → Seat ℕ View → Type 0
IsAt table pass = (pass.table_id ≡ table) × (table.words ≡ 1)

-- it is still the same pass
abbrev pub Stays : Seat ℕ View → Seat ℕ View → Type 0
Stays before after = (after.table_id ≡ before.table_id) × (after.id ≡ before.id)

-- what a pass has: the device's side, the desk, or a deed, whose call is still to be made or was made
abbrev pub IsDevice : Me ℕ View → Bool → List Block → Type 0
IsDevice me told blocks = me ≡ (device_view told blocks, [])

abbrev pub IsDesk : Me ℕ View → Bool → List Place → Type 0
IsDesk me told places = me ≡ (desk_view told places, [])

abbrev pub IsUndone : Me ℕ View → Given → Type 0
IsUndone me g = me ≡ (deed_view (undone g), [])

abbrev pub IsCarried : Me ℕ View → Given → Done → Type 0
IsCarried me g x = me ≡ (deed_view (carried g x), [])

-- or two of these
abbrev pub IsBoth : Me ℕ View → Bool × List Block → Bool × List Place → Type 0
IsBoth me device desk = me ≡ (both_view device desk, [])

abbrev pub IsDeviceWith : Me ℕ View → Bool → List Block → Deed → Type 0
IsDeviceWith me told blocks d = me ≡ (device_with told blocks d, [])

abbrev pub IsDeskWith : Me ℕ View → Bool → List Place → Deed → Type 0
IsDeskWith me told places d = me ≡ (desk_with told places d, [])
