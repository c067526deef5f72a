-- The numbers of syncs, in a history with a seat beside each event.
use Rattle.std.specs.Prelude.{◌≡◌, ◌==◌, ℕ, Bool, true, false, List, [], ◌∷◌, if◌then◌else◌}
use Rattle.pc_types.specs.Limits.{Sizes}
use Rattle.machine.specs.Catalogs.{Catalog}
use Rattle.machine.specs.declared.event.Event.{Event}
use Rattle.machine.specs.declared.event.Event.TheVariants as event
use Rattle.machine.specs.declared.event.Reply.{Reply}
use Rattle.machine.specs.declared.event.Reply.TheVariants as reply
use Rattle.machine.specs.State.{State}
use Rattle.trail.specs.declared.entry.Entry.{Entry}
use Rattle.trail.specs.History.{After}

-- the event gives this number to a sync
abbrev pub gives : ℕ → Event → Reply → Bool
gives m (event.SyncBegin h first last) (reply.Sync n) = n.0 == m
gives m e r = false

-- it ends the sync of this number
abbrev pub ends : ℕ → Event → Reply → Bool
ends m (event.SyncStep n) reply.Clean = n.0 == m
ends m (event.SyncStep n) (reply.Failed code) = n.0 == m
ends m (event.SyncDrop n) reply.Dropped = n.0 == m
ends m e r = false

-- which seats have the sync of this number by their own entries, after one more entry: who was given it, and has not ended it since
abbrev pub has_after : ℕ → (ℕ → Bool) → Entry → ℕ → Bool
has_after m has e k =
    if e.seat == k then (if gives m e.event e.reply then true else if ends m e.event e.reply then false else has k) else has k

-- each seat ends what it has
abbrev pub EndsOwn : ℕ → (ℕ → Bool) → List Entry → Type 0
EndsOwn m has [] = Unit {0}
EndsOwn m has (e ∷ es) = (ends m e.event e.reply ≡ true → has e.seat ≡ true) × EndsOwn m (has_after m has e) es

-- the number is given while no seat has it
abbrev pub GivenFree : ℕ → (ℕ → Bool) → List Entry → Type 0
GivenFree m has [] = Unit {0}
GivenFree m has (e ∷ es) = (gives m e.event e.reply ≡ true → (k : ℕ) → has k ≡ false) × GivenFree m (has_after m has e) es

-- in a legal history in which each seat ends what it has
abbrev pub NumbersStay : Type 0
NumbersStay = (files : Catalog) (sizes : Sizes) (name : ℕ) (history : List Entry) (state : State) → After files sizes name history state → (m : ℕ)
    → EndsOwn m (λ k. false) history → GivenFree m (λ k. false) history
