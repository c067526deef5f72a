-- What a call leaves behind it: no request of its own and no end of another's, and no page filled that it was not told to be missing.
use Rattle.std.specs.Prelude.{◌≡◌, ◌+◌, ◌++◌, ℕ, Any, List}
use Rattle.machine.specs.declared.event.Event.{Event}
use Rattle.machine.specs.declared.event.Event.TheVariants as event
use Rattle.machine.specs.declared.event.Reply.{Reply}
use Rattle.machine.specs.declared.event.Reply.TheVariants as reply
use Rattle.pc_types.specs.declared.ids.PageIndex.{PageIndex}
use Rattle.pc_types.specs.declared.kind.Kind.{Kind}
use Rattle.pc_types.specs.declared.kind.Kind.TheVariants.{Fill, Flush}
use Rattle.trail.specs.declared.entry.Entry.{Entry}
use Rattle.held.specs.Shown.{SeatSeen}
use Rattle.held.specs.Called.{Only}
use Rattle.shared.specs.Workers.{IsEnd}

-- the seat made an entry of the second kind since, if it made one of the first kind
pub record Pairs {A : Type 0} (first second : A → Entry → Type 0) (before after : SeatSeen) : Type 0 where
  pub same : after.number ≡ before.number
  pub since : List Entry
  pub saw : after.list ≡ before.list ++ since
  pub each : (x : A) → Any (λ e. (e.seat ≡ before.number) × first x e) since
      → Any (λ e. (e.seat ≡ before.number) × second x e) since

-- ---- requests

-- the event began the request of this kind and this serial
abbrev pub IsBegun : Kind × ℕ → Event → Reply → Type 0
IsBegun x (event.FillBegin h p) (reply.Job t) = (x.0 ≡ Fill) × (t.0 ≡ x.1)
IsBegun x (event.FlushBegin f) (reply.Job t) = (x.0 ≡ Flush) × (t.0 ≡ x.1)
IsBegun x (event.SyncStep m) (reply.Job t) = (x.0 ≡ Flush) × (t.0 ≡ x.1)
IsBegun x e r = ⊥

-- it is the end of that request, of the cache of this name
abbrev pub IsEnded : ℕ → Kind × ℕ → Event → Type 0
IsEnded name x (event.End kind end) = (kind ≡ x.0) × (end.kind ≡ x.0) × (end.serial.0 ≡ x.1) × (end.cache ≡ name)
IsEnded name x e = ⊥

-- it is this end
abbrev pub IsThisEnd : Event → Entry → Type 0
IsThisEnd end e = (e.event ≡ end) × IsEnd end

-- the entry began the request that this end is of
abbrev pub BeganFor : ℕ → Event → Entry → Type 0
BeganFor name end e = (x : Kind × ℕ) × IsEnded name x end × IsBegun x e.event e.reply

-- each end that the seat made since, also one that was refused, is of a request that it began since
abbrev pub EndsOwn : ℕ → SeatSeen → SeatSeen → Type 0
EndsOwn name before after = Pairs IsThisEnd (BeganFor name) before after

-- the seat made the end of each request that it began since, and no other end
pub record Settles (name : ℕ) (before after : SeatSeen) : Type 0 where
  pub ended : Pairs (λ x e. IsBegun x e.event e.reply) (λ x e. IsEnded name x e.event) before after
  pub own : EndsOwn name before after

-- it made one event, the end of that request
abbrev pub EndsOne : ℕ → Kind × ℕ → SeatSeen → SeatSeen → Type 0
EndsOne name x before after = Only (λ e. IsEnded name x e.event) before after × (after.count ≡ before.count + 1)

-- ---- pages

-- the event began to fill this page
abbrev pub Fills : PageIndex → Event → Type 0
Fills p (event.FillBegin h q) = q ≡ p
Fills p e = ⊥

-- it is no fill but of this page
abbrev pub FillsNoOther : PageIndex → Event → Type 0
FillsNoOther p (event.FillBegin h q) = q ≡ p
FillsNoOther p e = Unit {0}

-- each page that the seat began to fill since was answered as missing to this event of the seat's
abbrev pub FillsMissed : Event → SeatSeen → SeatSeen → Type 0
FillsMissed own before after =
    Pairs (λ p e. Fills p e.event) (λ p e. (e.event ≡ own) × (e.reply ≡ reply.Miss p)) before after
