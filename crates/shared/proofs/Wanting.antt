-- What a call asked for before memory was wanting outside an event.
use Rattle.std.proofs.Common.{◌≡◌, ◌⊎◌, ◌∙◌, ℕ, true, false, List, refl, sym, ap, subst, inl, inr}
use Rattle.std.specs.Prelude.{IfErr, Ok, Err, Option, Some, None, Result}
use Rattle.machine.specs.declared.event.Event.{Event}
use Rattle.machine.specs.declared.event.Reply.{Reply}
use Rattle.machine.specs.declared.event.Reply.TheVariants as reply
use Rattle.pc_types.specs.declared.ids.HandleId.{HandleId}
use Rattle.pc_types.specs.declared.refusal.Refusal.{Refusal}
use Rattle.pc_types.specs.declared.refusal.Refusal.TheVariants.{BadHandle, Memory, Stranger, TrailFull}
use Rattle.pc_types.specs.Limits.{Sizes}
use Rattle.machine.specs.Catalogs.{Catalog}
use Rattle.trail.specs.Room.{Room}
use Rattle.held.specs.declared.log.Slip.{Slip}
use Rattle.held.specs.Entered.{Made}
use Rattle.held.specs.Shown.{HeldSeen, SeatSeen}
use Rattle.held.specs.Called.{Goes}
use Rattle.held.specs.Denials as under
use Rattle.held.specs.declared.denied.Denied.{Denied}
use Rattle.shared.specs.Changes.{event_of}
use Rattle.shared.specs.Own.{admitted}
use Rattle.shared.specs.Rooms.{AsksMore, IsShortFor, wants_room}
use Rattle.shared.specs.declared.writes.Change.{Change}
use Rattle.shared.proofs.Making.{full_by, makes_by, makes_on, makes_then}
use Rattle.shared.proofs.Rooming.{refused_why}

-- ---- the refusal is another

-- a seat or a handle of another cache
pub short_admitted : (own : Event) (a c : SeatSeen) (name seat handle : ℕ) (why : Refusal) (d : Denied)
    → admitted name seat handle ≡ Err why → d ≡ record { refusal = why; slip = None } → IsShortFor own a c d
short_admitted own a c name seat handle why d e is short =
    absurd (other (refused_why name seat handle why e) (ap (λ (x : Denied). x.refusal) (sym is ∙ short)))
  where
    other : (why ≡ BadHandle) ⊎ (why ≡ Stranger) → why ≡ Memory → ⊥
    other (inl x) memory = cc
    other (inr x) memory = cc

module _ (files : Catalog) (sizes : Sizes) (name : ℕ) (whole : Room) where
  -- an event was refused
  pub short_denied : (own e : Event) (old new : HeldSeen) (before at a c : SeatSeen) (d : Denied)
      → under.IsDenied files sizes name whole e old new before at d → IsShortFor own a c d
  short_denied own e old new before at a c d q short =
      let full : d.refusal ≡ TrailFull = (full_by files sizes name whole e old new before at d q (ap (λ (x : Denied). x.slip) short)).0 in
      let memory : d.refusal ≡ Memory = ap (λ (x : Denied). x.refusal) short in
      absurd cc

-- ---- the call's event asked for more

pub short_missed : (own : Event) (r : Reply) (old new : HeldSeen) (a b c : SeatSeen) (slip : Slip) (d : Denied) → AsksMore r
    → Made own r old new a b slip → Goes b c → IsShortFor own a c d
short_missed own r old new a b c slip d asks m goes short =
    (slip, r, asks, makes_then a b c slip own r (makes_by own r old new a b slip m) goes)

module _ (files : Catalog) (sizes : Sizes) (name : ℕ) (whole : Room) where
  -- a change was refused, and what came of it
  pub short_settled : (change : Change) (h : HandleId) (bytes : List ℕ) (old new : HeldSeen) (a b c : SeatSeen) (first d : Denied)
      → under.IsDenied files sizes name whole (event_of change h bytes) old new a b first → Goes b c
      → (d ≡ first) ⊎ (wants_room first.refusal ≡ true) → IsShortFor (event_of change h bytes) a c d
  short_settled change h bytes old new a b c first d q goes (inl same) =
      let own = event_of change h bytes in
      subst (IsShortFor own a c) (sym same) (short_denied files sizes name whole own own old new a b a c first q)
  short_settled change h bytes old new a b c first d q goes (inr wants) = go first.refusal first.slip wants q
    where
      go : (r : Refusal) (o : Option Slip) → wants_room r ≡ true → under.DeniedBy files sizes name whole (event_of change h bytes) old new a b r o
          → IsShortFor (event_of change h bytes) a c d
      go r None wants q =
          let other : wants_room r ≡ false = subst (λ (x : Refusal). wants_room x ≡ false) (sym q.0) refl in absurd cc
      go r (Some slip) wants q = short_missed (event_of change h bytes) (reply.Refused r) old new a b c slip d wants q goes

-- ---- later

pub short_on : (own : Event) (a b c : SeatSeen) (d : Denied) → Goes a b → IsShortFor own b c d → IsShortFor own a c d
short_on own a b c d goes p short = let k = p short in (k.0, k.1, k.2, makes_on a b c k.0 own k.1 goes k.3)

-- the first refusal wants room, whatever came of it
pub wants_anyhow : (result : Result Unit Denied) (first : Denied) → wants_room first.refusal ≡ true
    → IfErr result (λ d. (d ≡ first) ⊎ (wants_room first.refusal ≡ true))
wants_anyhow (Ok r) first wants = tt
wants_anyhow (Err d) first wants = inr wants
