-- What the events of a call say of its seat, from its begin to its end.
use Rattle.std.proofs.Common.{◌≡◌, ◌⊎◌, Bool, true, false, cond, not, length, ℕ, List, [], ◌∷◌, ◌++◌, refl, ap, sym, subst, ◌∙◌, arith, inl, inr}
use Rattle.std.specs.Prelude.{IfErr, IfOk, Ok, Option, Result, Some, None, find, is_some, nat_le, option_map}
use Rattle.std.specs.Ordering.{nat_cmp}
use Rattle.std.proofs.lemmas.Bool.Decides.{nat_tests}
use Rattle.std.proofs.lemmas.List.{get_or_past}
use Rattle.std.proofs.lemmas.Result.{IfErr-weaker, IfOk-weaker}
use mathlib.Core.List.{IsPrefix}
use Rattle.maps.proofs.MapLaws.{no_entries}
use Rattle.errseq.proofs.Prefixes.{prefix_self, prefix_trans}
use Rattle.cachecore.specs.Replies.{fill_ended}
use Rattle.cachecore.specs.declared.answers.Ended.TheVariants as ended
use Rattle.machine.specs.declared.event.End.{End}
use Rattle.machine.specs.declared.event.Event.{Event}
use Rattle.machine.specs.declared.event.Event.TheVariants as event
use Rattle.machine.specs.declared.event.Reply.{Reply}
use Rattle.machine.specs.declared.event.Reply.TheVariants as reply
use Rattle.machine.specs.Changes.{flush_pick}
use Rattle.machine.specs.PageTags as tags
use Rattle.machine.specs.State.{File, Page, State, file_at, no_file}
use Rattle.machine.specs.Step.{Step}
use Rattle.machine.specs.Tests.{is_full, refuse, tests}
use Rattle.machine.proofs.steps.Cases.{answered}
use Rattle.pc_types.specs.declared.ids.FileId.{FileId}
use Rattle.pc_types.specs.declared.ids.HandleId.{HandleId}
use Rattle.pc_types.specs.declared.ids.PageIndex.{PageIndex}
use Rattle.pc_types.specs.declared.kind.Kind.TheVariants.{Fill}
use Rattle.pc_types.specs.declared.refusal.Refusal.{Refusal}
use Rattle.pc_types.specs.declared.refusal.Refusal.TheVariants.{Io, NoSuchFile, TooManyInFlight, TrailFull}
use Rattle.trail.specs.Entries.{entry_of, noted}
use Rattle.pc_types.specs.Limits.{Sizes}
use Rattle.machine.specs.Catalogs.{Catalog}
use Rattle.trail.specs.History.{After}
use Rattle.trail.specs.Room.{Room, has_room, reserved}
use Rattle.held.specs.Keeps.{room_after}
use Rattle.held.specs.declared.log.Slip.{Slip}
use Rattle.held.specs.Entered.{Made}
use Rattle.held.specs.Shown.{HeldSeen, SeatSeen}
use Rattle.held.specs.Called.{Goes, IsShown}
use Rattle.held.specs.Denials as under
use Rattle.held.specs.Firsts.{IsFirstDenied}
use Rattle.held.specs.declared.denied.Denied.{Denied}
use Rattle.held.proofs.Seats.{goes_by, goes_on, goes_same, goes_seen, only_by, shown_same}
use Rattle.shared.specs.Called.{IsForLater, Leads, Makes, OwnFirst, Retries, is_for_now}
use Rattle.shared.specs.Denials.{DeniedBy, IsDenied, IsFullFor, IsFullIfNoSlip, MadeOne, MayRefuse, SawFull}
use Rattle.shared.specs.Own.{IsCallOf, IsEviction, IsHelp, IsRoomEvent, IsStillDenied}
use Rattle.shared.specs.Rooms.{wants_room}

-- ---- what was made

pub makes_by : (e : Event) (r : Reply) (old new : HeldSeen) (before after : SeatSeen) (slip : Slip)
    → Made e r old new before after slip → Makes before after slip e r
makes_by e r old new before after slip m = record {
  earlier = old.log.history;
  saw = m.entered.saw;
  entered = subst (IsPrefix (old.log.history ++ entry_of before.number e r ∷ []))
      (sym (m.entered.sees ∙ m.entered.history)) (prefix_self _);
  placed = m.entered.placed;
}

-- so is what an answer comes with
pub answer_made : {A : Type 0} (result : Result (A × Slip) Denied) (e : Event) (says : A → Reply) (old new : HeldSeen)
    (before after : SeatSeen) → IfOk result (λ r. Made e (says r.0) old new before after r.1)
    → IfOk result (λ r. Makes before after r.1 e (says r.0))
answer_made result e says old new before after m =
    IfOk-weaker result (λ r. Made e (says r.0) old new before after r.1) (λ r. Makes before after r.1 e (says r.0))
    (λ r k. makes_by e (says r.0) old new before after r.1 k) m

pub makes_on : (a b c : SeatSeen) (slip : Slip) (e : Event) (r : Reply) → Goes a b → Makes b c slip e r → Makes a c slip e r
makes_on a b c slip e r p q = record {
  earlier = q.earlier;
  saw = prefix_trans a.list b.list q.earlier p.grows q.saw;
  entered = subst (λ n. IsPrefix (q.earlier ++ entry_of n e r ∷ []) c.list) p.same.2 q.entered;
  placed = (q.placed.0 ∙ p.same.1, q.placed.1);
}

pub makes_then : (a b c : SeatSeen) (slip : Slip) (e : Event) (r : Reply) → Makes a b slip e r → Goes b c → Makes a c slip e r
makes_then a b c slip e r p q = record {
  earlier = p.earlier;
  saw = p.saw;
  entered = prefix_trans _ b.list c.list p.entered q.grows;
  placed = p.placed;
}

-- ---- refusals

-- it is no begin of a write-back, which may be refused by one thing alone
abbrev pub IsNoFlush : Event → Type 0
IsNoFlush (event.FlushBegin f) = ⊥
IsNoFlush e = Unit {0}

may_refuse : (e : Event) (why : Refusal) → IsNoFlush e → MayRefuse e why
may_refuse (event.FlushBegin f) why none = absurd none
may_refuse e why none = tt

-- a file that has a page to write is there
picked_there : (s : State) (f : ℕ) → is_some (flush_pick (file_at s f)) ≡ true → nat_le (length s.files) f ≡ false
picked_there s f some = go (nat_le (length s.files) f) refl
  where
    go : (past : Bool) → past ≡ nat_le (length s.files) f → nat_le (length s.files) f ≡ false
    go false is = sym is
    go true is =
        let beyond : file_at s f ≡ no_file = get_or_past s.files f no_file (grind (arith, nat_tests, is)) in
        let nothing : is_some (flush_pick no_file) ≡ false =
        ap (λ (es : List (ℕ × Page)). is_some (option_map (λ (e : ℕ × Page). e.0) (find (λ (e : ℕ × Page). tags.is_flushable e.1.tags) es))) (no_entries nat_cmp) in
        absurd (let wrong : true ≡ false = sym some ∙ ap (λ (x : File). is_some (flush_pick x)) beyond ∙ nothing in cc)

full_alone : (past full : Bool) (pick : Option ℕ) (why : Refusal) → past ≡ false → is_some pick ≡ true
    → cond past (refuse NoSuchFile) (cond (not (is_some pick)) (Some reply.Nothing) (cond full (refuse TooManyInFlight) None))
    ≡ Some (reply.Refused why) → why ≡ TooManyInFlight
full_alone true full pick why there some e = absurd cc
full_alone false full None why there some e = absurd cc
full_alone false true (Some p) why there some e = cc
full_alone false false (Some p) why there some e = absurd cc

-- its write-back is refused where too many requests are in flight
pub first_refused : (s new : State) (f : FileId) (why : Refusal) → is_some (flush_pick (file_at s f.0)) ≡ true
    → Step s (event.FlushBegin f) (reply.Refused why) new → why ≡ TooManyInFlight
first_refused s new f why some step =
    elim (answered (tests s (event.FlushBegin f)) s (event.FlushBegin f) (reply.Refused why) new step) [
      | inl a ↦ full_alone (nat_le (length s.files) f.0) (is_full s) (flush_pick (file_at s f.0)) why (picked_there s f.0 some) some a.0
      | inr a ↦ absurd a.1
    ]

module _ (files : Catalog) (sizes : Sizes) (name : ℕ) (whole : Room) where
  -- a trail that is full for an event
  pub full_at : (own : Event → Type 0) (e : Event) (old new : HeldSeen) (before after : SeatSeen)
      → own e → under.IsFull files sizes name whole e old new before after → SawFull files sizes name whole own before after
  full_at own e old new before after is q = record {
    event = e;
    is = is;
    history = after.list;
    saw = (goes_seen before after q.shown).grows;
    sees = prefix_self after.list;
    state = old.core.state;
    leaves = subst (λ l. After files sizes name l old.core.state) (sym q.sees) q.leaves;
    full = ap (λ x. has_room x (reserved old.core.state) old.core.state e) (ap (room_after whole) q.sees ∙ sym q.left) ∙ q.full;
  }

  pub full_on : (own wider : Event → Type 0) (a b c : SeatSeen) → ((e : Event) → own e → wider e) → Goes a b
      → SawFull files sizes name whole own b c → SawFull files sizes name whole wider a c
  full_on own wider a b c f p q = record {
    event = q.event;
    is = f q.event q.is;
    history = q.history;
    saw = prefix_trans a.list b.list q.history p.grows q.saw;
    sees = q.sees;
    state = q.state;
    leaves = q.leaves;
    full = q.full;
  }

  full_then : (own : Event → Type 0) (a b c : SeatSeen) → SawFull files sizes name whole own a b → Goes b c
      → SawFull files sizes name whole own a c
  full_then own a b c p q = record {
    event = p.event;
    is = p.is;
    history = p.history;
    saw = p.saw;
    sees = prefix_trans p.history b.list c.list p.sees q.grows;
    state = p.state;
    leaves = p.leaves;
    full = p.full;
  }

  pub denied_on : (own wider : Event → Type 0) (a b c : SeatSeen) (d : Denied) → ((e : Event) → own e → wider e) → Goes a b
      → IsDenied files sizes name whole own b c d → IsDenied files sizes name whole wider a c d
  denied_on own wider a b c d f p q = go d.refusal d.slip q
    where
      go : (r : Refusal) (o : Option Slip) → DeniedBy files sizes name whole own b c r o → DeniedBy files sizes name whole wider a c r o
      go r None (inl q) = inl (q.0, full_on own wider a b c f p q.1)
      go r None (inr q) = inr q
      go r (Some slip) q = (q.0, q.1, f q.0 q.2, q.3, makes_on a b c slip q.0 q.1 p q.4)

  pub denied_then : (own : Event → Type 0) (a b c : SeatSeen) (d : Denied) → IsDenied files sizes name whole own a b d → Goes b c → IsDenied files sizes name whole own a c d
  denied_then own a b c d p q = go d.refusal d.slip p
    where
      go : (r : Refusal) (o : Option Slip) → DeniedBy files sizes name whole own a b r o → DeniedBy files sizes name whole own a c r o
      go r None (inl p) = inl (p.0, full_then own a b c p.1 q)
      go r None (inr p) = inr p
      go r (Some slip) p = (p.0, p.1, p.2, p.3, makes_then a b c slip p.0 p.1 p.4 q)

  -- the event of a call was refused
  pub denied_by : (own : Event → Type 0) (e : Event) (old new : HeldSeen) (before after : SeatSeen) (d : Denied) → own e
      → ((why : Refusal) (slip : Slip) → under.DeniedBy files sizes name whole e old new before after why (Some slip) → MayRefuse e why)
      → under.IsDenied files sizes name whole e old new before after d → IsDenied files sizes name whole own before after d
  denied_by own e old new before after d is may q = go d.refusal d.slip q
    where
      go : (r : Refusal) (o : Option Slip) → under.DeniedBy files sizes name whole e old new before after r o → DeniedBy files sizes name whole own before after r o
      go r None q = inl (q.0, full_at own e old new before after is q.1)
      go r (Some slip) q = (e, reply.Refused r, is, (refl, may r slip q), makes_by e (reply.Refused r) old new before after slip q)

  under_goes : (e : Event) (old new : HeldSeen) (before after : SeatSeen) (d : Denied)
      → under.IsDenied files sizes name whole e old new before after d → Goes before after
  under_goes e old new before after d q = go d.refusal d.slip q
    where
      go : (r : Refusal) (o : Option Slip) → under.DeniedBy files sizes name whole e old new before after r o → Goes before after
      go r None q = goes_seen before after q.1.shown
      go r (Some slip) q = goes_by e (reply.Refused r) old new before after slip q

  -- the seat goes on where an event is refused
  pub goes_denied : (e : Event) (old new : HeldSeen) (before after : SeatSeen) (d : Denied)
      → under.IsDenied files sizes name whole e old new before after d → Goes before after
  goes_denied = under_goes

  pub denied_event : (e : Event) (old new : HeldSeen) (before after : SeatSeen) (d : Denied) → IsNoFlush e
      → under.IsDenied files sizes name whole e old new before after d → IsDenied files sizes name whole (λ x. x ≡ e) before after d
  denied_event e old new before after d none q = denied_by (λ x. x ≡ e) e old new before after d refl (λ why slip q. may_refuse e why none) q

  pub denied_begin : (h : HandleId) (p : PageIndex) (old new : HeldSeen) (before after : SeatSeen) (d : Denied)
      → under.IsDenied files sizes name whole (event.FillBegin h p) old new before after d → IsDenied files sizes name whole (IsHelp h) before after d
  denied_begin h p old new before after d q = denied_by (IsHelp h) (event.FillBegin h p) old new before after d refl (λ why slip q. tt) q

  -- a fill whose device call failed
  pub failed_end : (h : HandleId) (end : End) (file : FileId) (code : ℕ) (b : List ℕ) (old new : HeldSeen) (before after : SeatSeen) (slip : Slip)
      → Made (event.End Fill end) (fill_ended (Ok (ended.Failed file code b))) old new before after slip
      → IsDenied files sizes name whole (IsHelp h) before after (record { refusal = Io code; slip = Some slip })
  failed_end h end file code b old new before after slip m =
      (event.End Fill end, reply.Failed code, tt, refl, makes_by (event.End Fill end) (reply.Failed code) old new before after slip m)

  pub full_for_on : (own : Event → Type 0) (a b c : SeatSeen) (d : Denied) → Goes a b → IsFullFor files sizes name whole own b c d
      → IsFullFor files sizes name whole own a c d
  full_for_on own a b c d p q = (q.0, full_on own own a b c (λ e x. x) p q.1)

  pub denied_first : (old new : HeldSeen) (before after : SeatSeen) (d : Denied) → IsFirstDenied files sizes name whole old new before after d
      → IsDenied files sizes name whole IsRoomEvent before after d
  denied_first old new before after d q =
      denied_by IsRoomEvent (event.FlushBegin q.file) old new before after d tt
      (λ why slip m. first_refused old.core.state new.core.state q.file why q.first.0 m.step) q.denied

-- ---- one part of a call after another

module _ (files : Catalog) (sizes : Sizes) (name : ℕ) (whole : Room) where
  pub room_on : (a b c : SeatSeen) (d : Denied) → Goes a b → IsDenied files sizes name whole IsRoomEvent b c d → IsDenied files sizes name whole IsRoomEvent a c d
  room_on a b c d p q = denied_on files sizes name whole IsRoomEvent IsRoomEvent a b c d (λ e x. x) p q

pub room_helps : (h : HandleId) (e : Event) → IsRoomEvent e → IsHelp h e
room_helps h (event.End kind end) x = x
room_helps h (event.FlushBegin f) x = x
room_helps h event.Evict x = x
room_helps h event.Age x = x
room_helps h e x = absurd x

eviction_room : (e : Event) → IsEviction e → IsRoomEvent e
eviction_room event.Evict x = x
eviction_room event.Age x = x
eviction_room e x = absurd x

module _ (files : Catalog) (sizes : Sizes) (name : ℕ) (whole : Room) where
  -- no page could be let go, since the trail is full
  pub room_full : (a b : SeatSeen) (d : Denied) → IsFullFor files sizes name whole IsEviction a b d
      → IsDenied files sizes name whole IsRoomEvent a b d
  room_full a b d q =
      subst (IsDenied files sizes name whole IsRoomEvent a b) (sym q.0)
      (inl (refl, full_on files sizes name whole IsEviction IsRoomEvent a a b eviction_room (goes_same a a refl) q.1))

  pub help_room : (h : HandleId) (a b : SeatSeen) (d : Denied) → IsDenied files sizes name whole IsRoomEvent a b d → IsDenied files sizes name whole (IsHelp h) a b d
  help_room h a b d q = denied_on files sizes name whole IsRoomEvent (IsHelp h) a a b d (room_helps h) (goes_same a a refl) q

  pub help_on : (h : HandleId) (a b c : SeatSeen) (d : Denied) → Goes a b → IsDenied files sizes name whole (IsHelp h) b c d → IsDenied files sizes name whole (IsHelp h) a c d
  help_on h a b c d p q = denied_on files sizes name whole (IsHelp h) (IsHelp h) a b c d (λ e x. x) p q

  -- the call's own event was refused
  pub call_first : (h : HandleId) (own : Event) (old new : HeldSeen) (before after : SeatSeen) (d : Denied)
      → IsNoFlush own → under.IsDenied files sizes name whole own old new before after d → IsDenied files sizes name whole (IsCallOf h own) before after d
  call_first h own old new before after d none q =
      denied_by files sizes name whole (IsCallOf h own) own old new before after d (inl refl) (λ why slip q. may_refuse own why none) q

  pub call_help : (h : HandleId) (own : Event) (a b c : SeatSeen) (d : Denied) → Goes a b → IsDenied files sizes name whole (IsHelp h) b c d
      → IsDenied files sizes name whole (IsCallOf h own) a c d
  call_help h own a b c d p q = denied_on files sizes name whole (IsHelp h) (IsCallOf h own) a b c d (λ e x. inr x) p q

  pub call_on : (h : HandleId) (own : Event) (a b c : SeatSeen) (d : Denied) → Goes a b → IsDenied files sizes name whole (IsCallOf h own) b c d
      → IsDenied files sizes name whole (IsCallOf h own) a c d
  call_on h own a b c d p q = denied_on files sizes name whole (IsCallOf h own) (IsCallOf h own) a b c d (λ e x. x) p q

  -- an event that was refused, and what came of it
  pub call_settled : (h : HandleId) (own : Event) (old new : HeldSeen) (a b c : SeatSeen) (first d : Denied) → IsNoFlush own
      → under.IsDenied files sizes name whole own old new a b first → Goes b c → IsStillDenied files sizes name whole first b c d → IsDenied files sizes name whole (IsCallOf h own) a c d
  call_settled h own old new a b c first d none q goes (inl same) =
      subst (IsDenied files sizes name whole (IsCallOf h own) a c) (sym same)
      (denied_then files sizes name whole (IsCallOf h own) a b c first (call_first h own old new a b first none q) goes)
  call_settled h own old new a b c first d none q goes (inr room) =
      denied_on files sizes name whole IsRoomEvent (IsCallOf h own) a b c d (λ e x. inr (room_helps h e x)) (under_goes files sizes name whole own old new a b first q) room

  -- a fill that was refused, and what came of it
  pub help_settled : (h : HandleId) (p : PageIndex) (old new : HeldSeen) (a b c : SeatSeen) (first d : Denied)
      → under.IsDenied files sizes name whole (event.FillBegin h p) old new a b first → Goes b c → IsStillDenied files sizes name whole first b c d → IsDenied files sizes name whole (IsHelp h) a c d
  help_settled h p old new a b c first d q goes (inl same) =
      subst (IsDenied files sizes name whole (IsHelp h) a c) (sym same)
      (denied_then files sizes name whole (IsHelp h) a b c first (denied_begin files sizes name whole h p old new a b first q) goes)
  help_settled h p old new a b c first d q goes (inr room) =
      denied_on files sizes name whole IsRoomEvent (IsHelp h) a b c d (room_helps h) (under_goes files sizes name whole (event.FillBegin h p) old new a b first q) room

-- ---- an attempt that is to be made again

-- the event is entered as it is
abbrev pub IsPlain : Event → Type 0
IsPlain e = (r : Reply) → noted e r ≡ e

leads_by : (e : Event) (r : Reply) (old new : HeldSeen) (a b c : SeatSeen) (slip : Slip) → IsPlain e
    → Made e r old new a b slip → Goes b c → Leads e r a c
leads_by e r old new a b c slip plain m goes = record {
  at = b;
  made = only_by (λ l. (l.event ≡ e) × (l.reply ≡ r)) e r old new a b slip (plain r, refl) m;
  one = m.entered.count;
  goes = goes;
}

leads_then : (e : Event) (r : Reply) (a b c : SeatSeen) → Leads e r a b → Goes b c → Leads e r a c
leads_then e r a b c p goes = record { at = p.at; made = p.made; one = p.one; goes = goes_on p.at b c p.goes goes }

pub retries_by : (e : Event) (r : Reply) (old new : HeldSeen) (a b c : SeatSeen) (slip : Slip) → IsPlain e → IsForLater r
    → Made e r old new a b slip → Goes b c → Retries a c e
retries_by e r old new a b c slip plain later m goes = (r, later, leads_by e r old new a b c slip plain m goes)

module _ (files : Catalog) (sizes : Sizes) (name : ℕ) (whole : Room) where
  pub retries_denied : (e : Event) (old new : HeldSeen) (a b c : SeatSeen) (d : Denied) → IsPlain e → is_for_now d.refusal ≡ true
      → under.IsDenied files sizes name whole e old new a b d → Goes b c → Retries a c e
  retries_denied e old new a b c d plain later q goes = go d.refusal d.slip later q
    where
      never : is_for_now TrailFull ≡ true → Retries a c e
      never x = absurd cc

      go : (r : Refusal) (o : Option Slip) → is_for_now r ≡ true → under.DeniedBy files sizes name whole e old new a b r o → Retries a c e
      go r None later q = never (subst (λ (x : Refusal). is_for_now x ≡ true) q.0 later)
      go r (Some slip) later q = retries_by e (reply.Refused r) old new a b c slip plain later q goes

-- no try before, or such as have to be made again
pub retries_on : (e : Event) (a b c : SeatSeen) → (b ≡ a) ⊎ Retries a b e → Retries b c e → Goes b c → (c ≡ a) ⊎ Retries a c e
retries_on e a b c (inl same) q goes = inr (subst (λ (s : SeatSeen). Retries s c e) same q)
retries_on e a b c (inr p) q goes = inr (p.0, p.1, leads_then e p.0 a b c p.2 goes)

-- ---- the first event of a call

pub first_same : (e : Event) (a b : SeatSeen) → b ≡ a → OwnFirst e a b
first_same e a b same = record { is = inl (ap (λ (s : SeatSeen). s.count) same) }

first_seen : (e : Event) (a b : SeatSeen) → IsShown a b → OwnFirst e a b
first_seen e a b p = record { is = inl (ap (λ (s : SeatSeen). s.count) p.same) }

-- the event, and no other
pub first_made : (e : Event) (r : Reply) (old new : HeldSeen) (a b : SeatSeen) (slip : Slip) → IsPlain e
    → Made e r old new a b slip → OwnFirst e a b
first_made e r old new a b slip plain m =
    record { is = inr (r, leads_by e r old new a b b slip plain m (goes_same b b refl), inr m.entered.count) }

pub first_again : (e : Event) (a b : SeatSeen) → Retries a b e → OwnFirst e a b
first_again e a b p = record { is = inr (p.0, p.2, inl p.1) }

module _ (files : Catalog) (sizes : Sizes) (name : ℕ) (whole : Room) where
  pub first_denied : (e : Event) (old new : HeldSeen) (a b : SeatSeen) (d : Denied) → IsPlain e → under.IsDenied files sizes name whole e old new a b d
      → OwnFirst e a b
  first_denied e old new a b d plain q = go d.refusal d.slip q
    where
      go : (r : Refusal) (o : Option Slip) → under.DeniedBy files sizes name whole e old new a b r o → OwnFirst e a b
      go r None q = first_seen e a b q.1.shown
      go r (Some slip) q = first_made e (reply.Refused r) old new a b slip plain q

  -- a refusal, and what came of it: nothing more, but where room might have spared it
  pub first_settled : (e : Event) (old new : HeldSeen) (a b c : SeatSeen) (d : Denied) → IsPlain e
      → (wants_room d.refusal ≡ true → is_for_now d.refusal ≡ true) → (wants_room d.refusal ≡ false → c ≡ b)
      → under.IsDenied files sizes name whole e old new a b d → Goes b c → OwnFirst e a c
  first_settled e old new a b c d plain passes quiet q goes = go (wants_room d.refusal) refl
    where
      go : (w : Bool) → wants_room d.refusal ≡ w → OwnFirst e a c
      go true is = first_again e a c (retries_denied files sizes name whole e old new a b c d plain (passes is) q goes)
      go false is = subst (OwnFirst e a) (sym (quiet is)) (first_denied e old new a b d plain q)

-- after tries that have to be made again
pub first_on : (e : Event) (a b c : SeatSeen) → (b ≡ a) ⊎ Retries a b e → OwnFirst e b c → Goes b c → OwnFirst e a c
first_on e a b c (inl same) q goes = subst (λ (s : SeatSeen). OwnFirst e s c) same q
first_on e a b c (inr p) q goes = record { is = inr (p.0, leads_then e p.0 a b c p.2 goes, inl p.1) }

module _ (files : Catalog) (sizes : Sizes) (name : ℕ) (whole : Room) where
  -- what is answered was answered by the event, refusals too
  pub event_denied : {A : Type 0} (result : Result A Denied) (e : Event) (old new : HeldSeen) (before after : SeatSeen) → IsNoFlush e
      → IfErr result (under.IsDenied files sizes name whole e old new before after) → IfErr result (IsDenied files sizes name whole (λ x. x ≡ e) before after)
  event_denied result e old new before after none q =
      IfErr-weaker result (under.IsDenied files sizes name whole e old new before after) (IsDenied files sizes name whole (λ x. x ≡ e) before after)
      (λ d k. denied_event files sizes name whole e old new before after d none k) q

  -- an event that could not be made
  pub full_by : (e : Event) (old new : HeldSeen) (before after : SeatSeen) (d : Denied)
      → under.IsDenied files sizes name whole e old new before after d → IsFullIfNoSlip before after d
  full_by e old new before after d q none = go d.refusal d.slip q none
    where
      go : (r : Refusal) (o : Option Slip) → under.DeniedBy files sizes name whole e old new before after r o → o ≡ None
          → (r ≡ TrailFull) × IsShown before after
      go r None q none = (q.0, q.1.shown)
      go r (Some slip) q none = absurd cc

  pub event_full : {A : Type 0} (result : Result A Denied) (e : Event) (old new : HeldSeen) (before after : SeatSeen)
      → IfErr result (under.IsDenied files sizes name whole e old new before after) → IfErr result (IsFullIfNoSlip before after)
  event_full result e old new before after q =
      IfErr-weaker result (under.IsDenied files sizes name whole e old new before after) (IsFullIfNoSlip before after)
      (λ d k. full_by e old new before after d k) q

-- none was made
pub none_made : (before after : SeatSeen) → after ≡ before → MadeOne None before after
none_made = shown_same

-- an event that was made is one entry of the seat
pub made_one : (e : Event) (r : Reply) (old new : HeldSeen) (before after : SeatSeen) (slip : Slip)
    → Made e r old new before after slip → MadeOne (Some slip) before after
made_one e r old new before after slip m = m.entered.count

module _ (files : Catalog) (sizes : Sizes) (name : ℕ) (whole : Room) where
  -- one that was refused is too, where there is a slip of it
  pub denied_one : (e : Event) (old new : HeldSeen) (before after : SeatSeen) (d : Denied)
      → under.IsDenied files sizes name whole e old new before after d → MadeOne d.slip before after
  denied_one e old new before after d q = go d.refusal d.slip q
    where
      go : (r : Refusal) (o : Option Slip) → under.DeniedBy files sizes name whole e old new before after r o → MadeOne o before after
      go r None q = q.1.shown
      go r (Some slip) q = q.entered.count
