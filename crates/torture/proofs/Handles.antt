-- Handles that a service opened stay open, and apart.
use Rattle.std.proofs.Common.{◌≡◌, ◌≢◌, ℕ, zero, suc, ◌<◌, Bool, true, false, true≢false, List, [], ◌∷◌, ◌++◌, length, slice_set, subst, sym, refl, ap, ◌∙◌, inl, inr, arith}
use Rattle.std.specs.Prelude.{All, IfOk, IsOk, OnErr, Result, Ok, Err, Some, None, is_some, ◌⊎◌, ◌≤◌, if◌then◌else◌, nat_le, slice_index_or}
use Rattle.std.specs.FinMap as finmap
use Rattle.std.proofs.lemmas.List.Elements.{All-cons, All-nil, All-pop, All-push, All-set, All-weaker}
use Rattle.errboard.specs.Shown.{RecorderSeen}
use Rattle.pc_types.specs.declared.limits.TheConstants.{MAX_FILES, MAX_HANDLES}
use Rattle.pc_types.specs.declared.refusal.Refusal.{Refusal}
use Rattle.pc_types.specs.declared.refusal.Refusal.TheVariants.{NoSuchFile, TooManyHandles}
use Rattle.machine.specs.declared.event.Event.TheVariants as event
use Rattle.machine.specs.declared.event.Reply.TheVariants as reply
use Rattle.machine.specs.State.{State, is_open}
use Rattle.machine.specs.Step.{Step}
use Rattle.machine.specs.Tests.{tests, refuse}
use Rattle.machine.proofs.steps.Cases.{answered}
use Rattle.machine.proofs.steps.Steady.{steady}
use Rattle.runs.proofs.events.Lookups.{get-remove1}
use Rattle.runs.proofs.views.View.{put1_else}
use Rattle.world.specs.Stepping.{WorldSeen}
use Rattle.filesvc.specs.Seen.{HandleSeen, SoloSeen}
use Rattle.filesvc.specs.Service.{IsAsBefore, IsOpen, IsTold, IsUntried, KeepsBut, Names, Opened, Opens, close_reply}
use Rattle.filesvc.proofs.Callers.{open_beside, open_moved, open_on, open_synced, opened_by}
use Rattle.torture.specs.Handles.{AreApart}

-- ---- open

-- past a call
pub all_on : {p : ℕ → Bool} (old new : SoloSeen) (hs : List HandleSeen) → KeepsBut p old new → All (IsOpen old) hs → All (IsOpen new) hs
all_on old new hs k all = All-weaker (IsOpen old) (IsOpen new) (λ h o. open_on old new h k o) hs all

-- past one that opens another
pub all_beside : (old new : SoloSeen) (f : ℕ) (append : Bool) (r : Result HandleSeen Refusal) (hs : List HandleSeen)
    → Opened old f append r new → new.errors ≡ old.errors → All (IsOpen old) hs → All (IsOpen new) hs
all_beside old new f append r hs o e all =
    All-weaker (IsOpen old) (IsOpen new) (λ h was. open_beside old new f append r h o e was) hs all

-- past a call by one of them, after which it is this one
pub all_put : {p : ℕ → Bool} (old new : SoloSeen) (hs : List HandleSeen) (at : ℕ) (now : HandleSeen) → KeepsBut p old new
    → IsOpen new now → All (IsOpen old) hs → All (IsOpen new) (slice_set hs at now)
all_put old new hs at now k o all = All-set (IsOpen new) hs at now o (all_on old new hs k all)

-- past a close of a handle of another number
closed_at : (old new : SoloSeen) (g : HandleSeen) → new.world.core ≡ old.world.core → new.errors ≡ old.errors → IsOpen old g → IsOpen new g
closed_at old new g c e o = record {
  board = o.board ∙ sym (ap (λ (r : RecorderSeen). r.board) e);
  pass = o.pass;
  number = ap (λ (s : State). finmap.get s.handles g.number) c ∙ o.number;
  file = subst (λ (s : State). g.file < length s.files) (sym c) o.file;
}

pub closed_beside : (old new : SoloSeen) (h g : HandleSeen) (r : Result Unit (Refusal × HandleSeen))
    → Step old.world.core (event.Close (record { 0 = h.number })) (close_reply r) new.world.core → new.errors ≡ old.errors
    → g.number ≢ h.number → IsOpen old g → IsOpen new g
closed_beside old new h g (Ok u) step e apart o =
    elim (answered (tests old.world.core (event.Close (record { 0 = h.number }))) old.world.core (event.Close (record { 0 = h.number })) reply.Closed new.world.core step) [
      | inl a ↦ closed_at old new g a.1 e o
      | inr a ↦ record {
        board = o.board ∙ sym (ap (λ (r : RecorderSeen). r.board) e);
        pass = o.pass;
        number = ap (λ (s : State). finmap.get s.handles g.number) a.2 ∙ get-remove1 old.world.core.handles h.number g.number ∙ put1_else _ h.number None g.number apart ∙ o.number;
        file = subst (λ (s : State). g.file < length s.files) (sym a.2) o.file;
      }
    ]
closed_beside old new h g (Err why) step e apart o =
    elim (answered (tests old.world.core (event.Close (record { 0 = h.number }))) old.world.core (event.Close (record { 0 = h.number })) (reply.Refused why.0) new.world.core step) [
      | inl a ↦ closed_at old new g a.1 e o
      | inr a ↦ closed_at old new g a.2 e o
    ]

pub all_closed : (old new : SoloSeen) (h : HandleSeen) (hs : List HandleSeen) (r : Result Unit (Refusal × HandleSeen))
    → Step old.world.core (event.Close (record { 0 = h.number })) (close_reply r) new.world.core → new.errors ≡ old.errors
    → All (λ (g : HandleSeen). g.number ≢ h.number) hs → All (IsOpen old) hs → All (IsOpen new) hs
all_closed old new h hs r step e apart all =
    λ k d below. closed_beside old new h (slice_index_or hs k d) r step e (apart k d below) (all k d below)

-- ---- apart

apart_swap : (g h : HandleSeen) → g.number ≢ h.number → h.number ≢ g.number
apart_swap g h n = λ e. n (sym e)

pub apart_push : (hs : List HandleSeen) (h : HandleSeen) → AreApart hs → All (λ (g : HandleSeen). g.number ≢ h.number) hs → AreApart (hs ++ h ∷ [])
apart_push [] h a n = (All-nil (λ (g : HandleSeen). g.number ≢ h.number), tt)
apart_push (g ∷ hs) h a n =
    (All-push (λ (x : HandleSeen). x.number ≢ g.number) hs h a.0 (apart_swap g h (n 0 g (omega arith))), apart_push hs h a.1 (λ k d below. n (suc k) d (omega (arith, below))))

pub apart_pop : (hs : List HandleSeen) (h : HandleSeen) → AreApart (hs ++ h ∷ []) → AreApart hs × All (λ (g : HandleSeen). g.number ≢ h.number) hs
apart_pop [] h a = (tt, All-nil (λ (g : HandleSeen). g.number ≢ h.number))
apart_pop (g ∷ hs) h a =
    let rest = apart_pop hs h a.1 in
    let last = All-pop (λ (x : HandleSeen). x.number ≢ g.number) (hs ++ h ∷ []) hs (Some h) refl a.0 in
    ((last.0, rest.0), All-cons (λ (x : HandleSeen). x.number ≢ h.number) g hs (apart_swap h g last.1) rest.1)

pub apart_put : (hs : List HandleSeen) (at : ℕ) (now h : HandleSeen) → at < length hs → h ≡ slice_index_or hs at h → now.number ≡ h.number
    → AreApart hs → AreApart (slice_set hs at now)
apart_put [] at now h below is same a = absurd (omega (arith, below))
apart_put (g ∷ hs) zero now h below is same a =
    (All-weaker (λ (x : HandleSeen). x.number ≢ g.number) (λ (x : HandleSeen). x.number ≢ now.number) (λ x n e. n (e ∙ same ∙ ap (λ (y : HandleSeen). y.number) is)) hs a.0, a.1)
apart_put (g ∷ hs) (suc at) now h below is same a =
    let within : at < length hs = omega (arith, below) in
    (All-set (λ (x : HandleSeen). x.number ≢ g.number) hs at now (λ e. a.0 at h within (ap (λ (y : HandleSeen). y.number) (sym is) ∙ sym same ∙ e)) a.0, apart_put hs at now h within is same a.1)

-- a handle that is opened has a number that none has
pub fresh_number : (old new : SoloSeen) (f : ℕ) (append : Bool) (h g : HandleSeen) → Opens old f append h new → IsOpen old g → g.number ≢ h.number
fresh_number old new f append h g o was = λ k. elim (answered (tests old.world.core (event.Open (record { 0 = f }))) old.world.core (event.Open (record { 0 = f })) (reply.Handle (record { 0 = h.number })) new.world.core o.step) [
  | inl a ↦ refuses (nat_le (length old.world.core.files) f) (nat_le MAX_HANDLES (finmap.len old.world.core.handles)) a.0
  | inr a ↦
      (let free : is_open old.world.core h.number ≡ false = a.1.0 in let taken : is_open old.world.core h.number ≡ true = ap (λ n. is_open old.world.core n) (sym k) ∙ ap is_some was.number in true≢false (sym taken ∙ free))
]
  where
    refuses : (a b : Bool) → (if a then refuse NoSuchFile else if b then refuse TooManyHandles else None) ≡ Some (reply.Handle (record { 0 = h.number })) → ⊥
    refuses true b e = absurd cc
    refuses false true e = absurd cc
    refuses false false e = absurd cc

pub all_fresh : (old new : SoloSeen) (f : ℕ) (append : Bool) (h : HandleSeen) (hs : List HandleSeen) → Opens old f append h new → All (IsOpen old) hs
    → All (λ (g : HandleSeen). g.number ≢ h.number) hs
all_fresh old new f append h hs o all = λ k d below. fresh_number old new f append h (slice_index_or hs k d) o (all k d below)

-- ---- a desk

-- what a desk keeps of its service
pub record Stays (old new : SoloSeen) : Type 0 where
  pub name : new.world.core.name ≡ old.world.core.name
  pub handles : new.world.core.handles ≡ old.world.core.handles
  pub count : length new.world.core.files ≡ length old.world.core.files
  pub board : new.errors.board ≡ old.errors.board

pub stays_kept : {p : ℕ → Bool} (old new : SoloSeen) → KeepsBut p old new → Stays old new
stays_kept old new k = record { name = k.name; handles = k.handles; count = k.count; board = k.board }

pub stays_same : (old new : SoloSeen) → new.world ≡ old.world → new.errors.board ≡ old.errors.board → Stays old new
stays_same old new w b = record {
  name = ap (λ (x : WorldSeen). x.core.name) w;
  handles = ap (λ (x : WorldSeen). x.core.handles) w;
  count = ap (λ (x : WorldSeen). length x.core.files) w;
  board = b;
}

pub open_stays : (old new : SoloSeen) (h : HandleSeen) → Stays old new → IsOpen old h → IsOpen new h
open_stays old new h k o = record { board = o.board ∙ sym k.board; pass = o.pass; number = ap (λ m. finmap.get m h.number) k.handles ∙ o.number; file = subst (λ (n : ℕ). h.file < n) (sym k.count) o.file }

-- a service of this name with these handles, and a stray one
abbrev pub IsDesk : SoloSeen → List HandleSeen → HandleSeen → Type 0
IsDesk s hs stray = All (IsOpen s) hs × AreApart hs × (s.world.core.name ≡ 7) × (stray.cache ≡ 8)

-- past a call
pub desk_on : (old new : SoloSeen) (hs : List HandleSeen) (stray : HandleSeen) → Stays old new → IsDesk old hs stray → IsDesk new hs stray
desk_on old new hs stray k d =
    (All-weaker (IsOpen old) (IsOpen new) (λ h o. open_stays old new h k o) hs d.0, d.1, k.name ∙ d.2, d.3)

-- past a call by one of the handles, after which it is this one
pub desk_put : (old new : SoloSeen) (hs : List HandleSeen) (at : ℕ) (h now stray : HandleSeen) → Stays old new → at < length hs
    → h ≡ slice_index_or hs at h → now.number ≡ h.number → (IsOpen new h → IsOpen new now) → IsDesk old hs stray
    → IsDesk new (slice_set hs at now) stray
desk_put old new hs at h now stray k below is same o d =
    let those = All-weaker (IsOpen old) (IsOpen new) (λ g p. open_stays old new g k p) hs d.0 in
    let this = o (subst (IsOpen new) (sym is) (those at h below)) in
    (All-set (IsOpen new) hs at now this those, apart_put hs at now h below is same d.1, k.name ∙ d.2, d.3)

-- whose cursor was moved
pub desk_moved : (old new : SoloSeen) (hs : List HandleSeen) (at place : ℕ) (h now stray : HandleSeen) → Stays old new → at < length hs
    → h ≡ slice_index_or hs at h → now ≡ record h { cursor = place } → IsDesk old hs stray → IsDesk new (slice_set hs at now) stray
desk_moved old new hs at place h now stray k below is moved d =
    desk_put old new hs at h now stray k below is (ap (λ (x : HandleSeen). x.number) moved)
    (λ o. subst (IsOpen new) (sym moved) (open_moved new h place o)) d

-- whose cursor was moved, or which was refused
pub desk_sought : (old new : SoloSeen) (hs : List HandleSeen) (at : ℕ) (h now stray : HandleSeen) (r : Result ℕ Refusal) → Stays old new
    → at < length hs → h ≡ slice_index_or hs at h → IfOk r (λ place. now ≡ record h { cursor = place }) → OnErr r (now ≡ h)
    → IsDesk old hs stray → IsDesk new (slice_set hs at now) stray
desk_sought old new hs at h now stray (Ok place) k below is moved kept d = desk_moved old new hs at place h now stray k below is moved d
desk_sought old new hs at h now stray (Err why) k below is moved kept d =
    desk_put old new hs at h now stray k below is (ap (λ (x : HandleSeen). x.number) kept) (λ o. subst (IsOpen new) (sym kept) o) d

told_number : (s : SoloSeen) (h now : HandleSeen) → IsTold s h now ⊎ (now ≡ h) → now.number ≡ h.number
told_number s h now (inl told) = ap (λ (x : HandleSeen). x.number) told.same
told_number s h now (inr kept) = ap (λ (x : HandleSeen). x.number) kept

-- which was told, or is as it was
pub desk_told : (old new : SoloSeen) (hs : List HandleSeen) (at : ℕ) (h now stray : HandleSeen) → Stays old new → at < length hs
    → h ≡ slice_index_or hs at h → IsTold new h now ⊎ (now ≡ h) → IsDesk old hs stray → IsDesk new (slice_set hs at now) stray
desk_told old new hs at h now stray k below is told d =
    desk_put old new hs at h now stray k below is (told_number new h now told) (λ o. open_synced new h now told o) d

apart_or_same : (a b : ℕ) → (a ≡ b) ⊎ (a ≢ b)
apart_or_same a b = elim (three a b) [ inl e ↦ inl e | inr n ↦ inr (λ e. elim n [ inl l ↦ omega (arith, l, e) | inr m ↦ omega (arith, m, e) ]) ]
  where
    three : (a b : ℕ) → (a ≡ b) ⊎ ((a < b) ⊎ (b < a))
    three a b = grind arith

-- by a poll: one by a handle of another service is refused, and changes nothing
pub polled_told : {T : Type 0} (old new : SoloSeen) (h now : HandleSeen) (r : Result T Refusal) → (Names old h → IsOk r)
    → (h.cache ≢ old.world.core.name → now ≡ h) → IfOk r (λ x. IsTold new h now) → IsTold new h now ⊎ (now ≡ h)
polled_told old new h now (Ok x) answers foreign told = inl told
polled_told old new h now (Err why) answers foreign told = elim (apart_or_same h.cache old.world.core.name) [
  | inl e ↦ absurd (let a : false ≡ true = answers e in cc)
  | inr n ↦ inr (foreign n)
]

-- past an open: the name stays, and the handles that were open are
pub desk_opened : (old new : SoloSeen) (f : ℕ) (append : Bool) (r : Result HandleSeen Refusal) (hs : List HandleSeen) (stray : HandleSeen)
    → (MAX_FILES ≤ f → (r ≡ Err NoSuchFile) × IsAsBefore old new) → (f < MAX_FILES → Opened old f append r new)
    → new.errors ≡ old.errors → IsDesk old hs stray → IsDesk new hs stray
desk_opened old new f append r hs stray none opened e d = elim (few f MAX_FILES) [
  | inl small ↦ (all_beside old new f append r hs (opened small) e d.0, d.1, opened_name r (opened small) ∙ d.2, d.3)
  | inr large ↦ desk_on old new hs stray (stays_same old new (ap (λ (s : SoloSeen). s.world) (none large).1) (ap (λ (r : RecorderSeen). r.board) e)) d
]
  where
    few : (a b : ℕ) → (a < b) ⊎ (b ≤ a)
    few a b = grind arith

    opened_name : (r : Result HandleSeen Refusal) → Opened old f append r new → new.world.core.name ≡ old.world.core.name
    opened_name (Ok h) o = (steady old.world.core (event.Open (record { 0 = f })) (reply.Handle (record { 0 = h.number })) new.world.core o.step).name
    opened_name (Err why) o = (steady old.world.core (event.Open (record { 0 = f })) (reply.Refused why) new.world.core o).name

-- and the one that was opened, where there is memory for it
pub desk_pushed : (old new : SoloSeen) (f : ℕ) (append b : Bool) (r : Result HandleSeen Refusal) (h : HandleSeen) (hs now : List HandleSeen) (stray : HandleSeen)
    → r ≡ Ok h → (MAX_FILES ≤ f → (r ≡ Err NoSuchFile) × IsAsBefore old new) → (f < MAX_FILES → Opened old f append r new)
    → new.errors ≡ old.errors → now ≡ (if b then hs ++ h ∷ [] else hs) → IsDesk old hs stray → IsDesk new now stray
desk_pushed old new f append b r h hs now stray is none opened e those d =
    let on = desk_opened old new f append r hs stray none opened e d in
    subst (λ (x : List HandleSeen). IsDesk new x stray) (sym those) (pushed b on)
  where
    this : IsOpen new h
    this = opened_by old new f append r h is none opened e

    fresh : All (λ (g : HandleSeen). g.number ≢ h.number) hs
    fresh = elim (few f MAX_FILES) [
      | inl small ↦ all_fresh old new f append h hs (subst (λ (x : Result HandleSeen Refusal). Opened old f append x new) is (opened small)) d.0
      | inr large ↦ absurd (let a : Ok h ≡ Err NoSuchFile = sym is ∙ (none large).0 in cc)
    ]
      where
        few : (a b : ℕ) → (a < b) ⊎ (b ≤ a)
        few a b = grind arith

    pushed : (b : Bool) → IsDesk new hs stray → IsDesk new (if b then hs ++ h ∷ [] else hs) stray
    pushed true on = (All-push (IsOpen new) hs h on.0 this, apart_push hs h on.1 fresh, on.2, on.3)
    pushed false on = on

-- past a close of the last handle
pub desk_closed : (old new : SoloSeen) (h : HandleSeen) (hs all : List HandleSeen) (stray : HandleSeen) (r : Result Unit (Refusal × HandleSeen))
    → all ≡ hs ++ h ∷ [] → (Names old h → Step old.world.core (event.Close (record { 0 = h.number })) (close_reply r) new.world.core)
    → (h.cache ≢ old.world.core.name → IsUntried old new) → new.errors ≡ old.errors → IsDesk old all stray → IsDesk new hs stray
desk_closed old new h hs all stray r those step foreign e d =
    let whole = subst (λ (x : List HandleSeen). IsDesk old x stray) those d in
    let parts = apart_pop hs h whole.1 in
    let others = (All-pop (IsOpen old) (hs ++ h ∷ []) hs (Some h) refl whole.0).0 in
    elim (apart_or_same h.cache old.world.core.name) [
      | inl names ↦ (all_closed old new h hs r (step names) e parts.1 others, parts.0, (steady old.world.core (event.Close (record { 0 = h.number })) (close_reply r) new.world.core (step names)).name ∙ d.2, d.3)
      | inr n ↦ desk_on old new hs stray (stays_same old new (ap (λ (s : SoloSeen). s.world) (foreign n)) (ap (λ (r : RecorderSeen). r.board) e)) (others, parts.0, d.2, d.3)
    ]
