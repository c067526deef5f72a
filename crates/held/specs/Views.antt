-- What the seats of a trail know, and how views are cut and joined.
use Rattle.std.specs.Prelude.{ℕ, ◌≡◌, ◌+◌, ◌≤◌, ◌==◌, List, [], ◌∷◌, if◌then◌else◌}
use Rattle.machine.specs.declared.event.Event.TheVariants.{Age}
use Rattle.machine.specs.declared.event.Reply.TheVariants.{Done}
use Rattle.trail.specs.declared.entry.Entry.{Entry}
use Rattle.held.specs.declared.views.View.{View}
use Rattle.held.specs.declared.views.View.TheVariants.{Spent, Keeper, Holds, Seat}

-- how many of the entries are of a seat
abbrev pub count_of : ℕ → List Entry → ℕ
count_of number [] = 0
count_of number (e ∷ es) = (if e.seat == number then 1 else 0) + count_of number es

-- so many seats have made all of the entries: none has the number of another
abbrev pub AreOfSeats : ℕ → List Entry → Type 0
AreOfSeats seats log = (number : ℕ) → seats ≤ number → count_of number log ≡ 0

abbrev pub opening_view : View
opening_view = Keeper [] 0

abbrev pub with_seat : View → View
with_seat (Keeper all made) = Keeper all (made + 1)
with_seat v = v

abbrev pub new_seat : View → View
new_seat (Keeper all made) = Seat made all 0
new_seat v = Spent

abbrev pub holding : View → View → View
holding (Keeper all made) (Seat number list count) = Holds all made number list count
holding v w = v

abbrev pub without_seat : View → View
without_seat (Holds all made number list count) = Keeper all made
without_seat v = v

abbrev pub note_back : View → View
note_back (Holds all made number list count) = Seat number all count
note_back v = Spent

abbrev pub no_entry : Entry
no_entry = record { seat = 0; event = Age; reply = Done }
