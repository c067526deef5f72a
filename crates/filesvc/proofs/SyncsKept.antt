-- No sync appears but by its begin, and its end or its drop takes it away. Of any world.
use Rattle.std.proofs.Common.{◌≡◌, ◌≢◌, ◌<◌, ℕ, arith, Bool, true, false, cond, refl, ap, sym, ◌∙◌, inl, inr}
use Rattle.std.specs.Prelude.{Option, Some, None, is_some, not, nat_le, nat_lt}
use Rattle.std.specs.FinMap as finmap
use Rattle.std.proofs.lemmas.Bool.Decides.{nat_tests}
use Rattle.std.specs.FinMap.{get-empty, len-empty}
use Rattle.std.specs.Ordering.{nat_cmp}
use Rattle.pc_types.specs.declared.ids.HandleId.{HandleId}
use Rattle.pc_types.specs.declared.ids.PageIndex.{PageIndex}
use Rattle.pc_types.specs.declared.ids.SyncId.{SyncId}
use Rattle.pc_types.specs.declared.limits.TheConstants.{MAX_SYNCS}
use Rattle.pc_types.specs.declared.refusal.Refusal.{Refusal}
use Rattle.pc_types.specs.declared.refusal.Refusal.TheVariants.{BadHandle, BadRange, Stranger, TooManyInFlight}
use Rattle.machine.specs.declared.event.Event.{Event}
use Rattle.machine.specs.declared.event.Event.TheVariants as event
use Rattle.machine.specs.declared.event.Outcome.{Outcome}
use Rattle.machine.specs.declared.event.Reply.{Reply}
use Rattle.machine.specs.declared.event.Reply.TheVariants as reply
use Rattle.machine.specs.Changes.{drop_sync, sync_stepped}
use Rattle.machine.specs.State.{State, Request, Sync, is_open}
use Rattle.machine.specs.Step.{Step}
use Rattle.machine.specs.Tests.{refuse, tests}
use Rattle.machine.proofs.steps.Cases.{Cases, answered, by_cases, happened}
use Rattle.machine.proofs.steps.Choices.{at_false, none_of}
use Rattle.maps.proofs.MapLaws.{same_nat_map}
use Rattle.runs.specs.World.{World, Act, Finish, Ends, WorldStep}
use Rattle.runs.proofs.events.Lookups.{get-insert1, get-remove1}
use Rattle.runs.proofs.views.View.{put1_else, put1_here, put1_tells}
use Rattle.world.proofs.SyncStays.{is_over}

-- a number without a sync stays without one
abbrev pub NoneNew : State → State → Type 0
NoneNew s new = (k : ℕ) → finmap.get s.syncs k ≡ None → finmap.get new.syncs k ≡ None

gone : (s : State) (n k : ℕ) → finmap.get s.syncs k ≡ None → finmap.get (finmap.remove s.syncs n) k ≡ None
gone s n k e = get-remove1 s.syncs n k ∙ elim (put1_tells (finmap.get s.syncs) n None k) [ inl a ↦ a.1 | inr a ↦ a.1 ∙ e ]

put_there : (s : State) (n : ℕ) (was now : Sync) → finmap.get s.syncs n ≡ Some was → (k : ℕ) → finmap.get s.syncs k ≡ None → finmap.get (finmap.insert s.syncs n now) k ≡ None
put_there s n was now is k e = get-insert1 s.syncs n now k ∙ elim (put1_tells (finmap.get s.syncs) n (Some now) k) [
  | inl a ↦ absurd (let x : None ≡ Some was = sym e ∙ ap (finmap.get s.syncs) a.0 ∙ is in cc)
  | inr a ↦ a.1 ∙ e
]

-- ---- an event that begins no sync

abbrev pub begins_sync : Event → Bool
begins_sync (event.SyncBegin h first last) = true
begins_sync _ = false

record BeginsNone (s : State) (e : Event) (t : State) : Type 0 where
  pub none : begins_sync e ≡ false → NoneNew s t

module _ (s : State) where
  all : (e : Event) (t : State) → t.syncs ≡ s.syncs → BeginsNone s e t
  all e t is = record { none = λ _ k none. ap (λ m. finmap.get m k) is ∙ none }

  none_cases : Cases s (λ e r t. BeginsNone s e t)
  none_cases = record {
    same = λ e r step quiet. all e s refl;
    writes_none = λ e h o is step. all e s refl;
    creates = λ f room is. all _ _ refl;
    opens = λ f h here room low. all _ _ refl;
    closes = λ h there free. all _ _ refl;
    writes = λ e h o b is may. all _ _ refl;
    shrinks = λ h z may less. all _ _ refl;
    grows = λ h z may more. all _ _ refl;
    makes_zeros = λ h p may unwritten. all _ _ refl;
    evicts = λ f p page is idle. all _ _ refl;
    fills = λ h p t may written room next. all _ _ refl;
    flushes = λ f p page t may next. all _ _ refl;
    drops = λ kind end x may dropped. all _ _ refl;
    fill_fails = λ end x code may live went. all _ _ refl;
    fill_ends = λ end x b may live went. all _ _ refl;
    flush_fails = λ end x code may live went. all _ _ refl;
    flush_ends = λ end x may live went. all _ _ refl;
    begins = λ h first last m may low. record { none = λ k. absurd cc };
    starts = λ m y p page t is may next. record { none = λ _. put_there s m.0 y _ is };
    waits = λ m y e p is pick first page. record { none = λ _. put_there s m.0 y _ is };
    over = λ m y r is pick first verdict. record { none = λ _. gone s m.0 };
    sync_drops = λ m y is. record { none = λ _. gone s m.0 };
  }

pub step_none : (s new : State) (e : Event) (r : Reply) → begins_sync e ≡ false → Step s e r new → NoneNew s new
step_none s new e r k step = (by_cases s (λ e r t. BeginsNone s e t) (none_cases s) e r new step).none k

pub none_empty : (s new : State) → NoneNew s new → s.syncs ≡ finmap.empty → new.syncs ≡ finmap.empty
none_empty s new n e = same_nat_map _ _ (λ q. n q (ap (λ m. finmap.get m q) e ∙ get-empty nat_cmp q) ∙ sym (get-empty nat_cmp q))

pub act_none : (w new : World) (e : Event) (r : Reply) → begins_sync e ≡ false → WorldStep w (Act e r) new → NoneNew w.core new.core
act_none w new e r q m = step_none w.core new.core e r q m.1.0

pub finish_none : (w new : World) (t : ℕ) (r : Reply) → WorldStep w (Finish t r) new → NoneNew w.core new.core
finish_none w new t r m = by (finmap.get w.core.requests t) (finmap.get w.outcomes t) m
  where
    by : (q : Option Request) (o : Option Outcome) → Ends w t q o r new → NoneNew w.core new.core
    by (Some x) (Some call) h = step_none w.core new.core (event.End x.kind (record { cache = w.core.name; kind = x.kind; serial = record { 0 = t }; block = record { 0 = x.block }; outcome = call })) r refl h.0
    by (Some x) None h = absurd h
    by None o h = absurd h

-- ---- a step of a sync that ends it

taken : (s new : State) (n : ℕ) → new ≡ drop_sync s n → finmap.get new.syncs n ≡ None
taken s new n e = ap (λ (x : State). finmap.get x.syncs n) e ∙ get-remove1 s.syncs n n ∙ put1_here (finmap.get s.syncs) n None

pub over_none : (s new : State) (m : SyncId) (r : Reply) → is_over r ≡ true → Step s (event.SyncStep m) r new → finmap.get new.syncs m.0 ≡ None
over_none s new m reply.Clean o step = taken s new m.0 ((happened s (event.SyncStep m) reply.Clean new step refl (λ n o k. cc)).is ∙ dropped (finmap.get s.syncs m.0))
  where
    dropped : (y : Option Sync) → sync_stepped s m.0 y reply.Clean ≡ drop_sync s m.0
    dropped None = refl
    dropped (Some y) = refl
over_none s new m (reply.Failed c) o step = taken s new m.0 ((happened s (event.SyncStep m) (reply.Failed c) new step refl (λ n o k. cc)).is ∙ dropped (finmap.get s.syncs m.0))
  where
    dropped : (y : Option Sync) → sync_stepped s m.0 y (reply.Failed c) ≡ drop_sync s m.0
    dropped None = refl
    dropped (Some y) = refl
over_none s new m _ o step = absurd cc

-- ---- a begin, and a drop

pub begun_syncs : (s new : State) (h : HandleId) (first last : PageIndex) (m : SyncId) → Step s (event.SyncBegin h first last) (reply.Sync m) new → (y : Sync) × (new.syncs ≡ finmap.insert s.syncs m.0 y)
begun_syncs s new h first last m step =
    (_, ap (λ (x : State). x.syncs) (happened s (event.SyncBegin h first last) (reply.Sync m) new step refl (λ n o k. cc)).is)

-- a begin that is refused leaves the cache as it is; on an open handle, and where no sync is in progress, its range was turned round
pub begin_refused : (s new : State) (h : HandleId) (first last : PageIndex) (why : Refusal) → is_open s h.0 ≡ true → s.syncs ≡ finmap.empty → Step s (event.SyncBegin h first last) (reply.Refused why) new → (new ≡ s) × ((last.0 < first.0) × (why ≡ BadRange))
begin_refused s new h first last why opened none step = elim (answered (tests s (event.SyncBegin h first last)) s (event.SyncBegin h first last) (reply.Refused why) new step) [
  | inl a ↦ (a.1, by (nat_lt last.0 first.0) refl a.0)
  | inr b ↦ absurd b.1
]
  where
    passes : nat_lt last.0 first.0 ≡ false → tests s (event.SyncBegin h first last) ≡ None
    passes order = at_false _ _ _ (ap not opened) ∙ at_false _ _ _ order ∙ at_false _ _ _ (ap (λ m. nat_le MAX_SYNCS (finmap.len m)) none ∙ ap (nat_le MAX_SYNCS) (len-empty nat_cmp Sync))

    refuses : nat_lt last.0 first.0 ≡ true → tests s (event.SyncBegin h first last) ≡ refuse BadRange
    refuses turned = at_false _ _ _ (ap not opened) ∙ ap (λ b. cond b (refuse BadRange) (cond (nat_le MAX_SYNCS (finmap.len s.syncs)) (refuse TooManyInFlight) None)) turned

    by : (b : Bool) → nat_lt last.0 first.0 ≡ b → tests s (event.SyncBegin h first last) ≡ Some (reply.Refused why) → (last.0 < first.0) × (why ≡ BadRange)
    by true e t = (grind (arith, nat_tests), let same : refuse BadRange ≡ Some (reply.Refused why) = sym (refuses e) ∙ t in let is : BadRange ≡ why = cc in sym is)
    by false e t = absurd (let x : None ≡ Some (reply.Refused why) = sym (passes e) ∙ t in cc)

-- a sync that begins has a range
pub begun_range : (s new : State) (h : HandleId) (first last : PageIndex) (m : SyncId) → Step s (event.SyncBegin h first last) (reply.Sync m) new → last.0 < first.0 → ⊥
begun_range s new h first last m step turned =
    let a = happened s (event.SyncBegin h first last) (reply.Sync m) new step refl (λ n o k. cc) in
    by (not (is_open s h.0)) (nat_lt last.0 first.0) (let t : nat_lt last.0 first.0 ≡ true = grind (arith, nat_tests) in t) a.untested
  where
    by : (b c : Bool) → c ≡ true → cond b (refuse BadHandle) (cond c (refuse BadRange) (cond (nat_le MAX_SYNCS (finmap.len s.syncs)) (refuse TooManyInFlight) None)) ≡ None → ⊥
    by true c t e = cc
    by false true t e = cc
    by false false t e = cc

pub dropped_none : (s new : State) (m : SyncId) (r : Reply) → Step s (event.SyncDrop m) r new → (finmap.get new.syncs m.0 ≡ None) × NoneNew s new
dropped_none s new m r step = (
  elim (answered (tests s (event.SyncDrop m)) s (event.SyncDrop m) r new step) [
    | inl a ↦ ap (λ (x : State). finmap.get x.syncs m.0) a.1 ∙ none_of (finmap.get s.syncs m.0) (absent (is_some (finmap.get s.syncs m.0)) a.0)
    | inr b ↦ taken s new m.0 b.2
  ],
  step_none s new (event.SyncDrop m) r refl step,
)
  where
    absent : (b : Bool) → cond b None (refuse Stranger) ≡ Some r → b ≡ false
    absent true e = absurd cc
    absent false e = refl

-- ---- the only sync

-- sync n is in progress, and no other
pub record OnlySync (s : State) (n : ℕ) : Type 0 where
  pub there : is_some (finmap.get s.syncs n) ≡ true
  pub others : (k : ℕ) → k ≢ n → finmap.get s.syncs k ≡ None

pub only_begun : (s new : State) (h : HandleId) (first last : PageIndex) (n : SyncId) → s.syncs ≡ finmap.empty → Step s (event.SyncBegin h first last) (reply.Sync n) new → OnlySync new n.0
only_begun s new h first last n none e =
    let b = begun_syncs s new h first last n e in record {
      there = ap (λ m. is_some (finmap.get m n.0)) b.1 ∙ ap is_some (get-insert1 s.syncs n.0 b.0 n.0 ∙ put1_here (finmap.get s.syncs) n.0 (Some b.0));
      others = λ k apart. ap (λ m. finmap.get m k) b.1 ∙ get-insert1 s.syncs n.0 b.0 k ∙ put1_else (finmap.get s.syncs) n.0 (Some b.0) k apart ∙ ap (λ m. finmap.get m k) none ∙ get-empty nat_cmp k;
    }

pub only_left : (s : State) (n : ℕ) → finmap.get s.syncs n ≡ None → ((k : ℕ) → k ≢ n → finmap.get s.syncs k ≡ None) → s.syncs ≡ finmap.empty
only_left s n gone others = same_nat_map _ _ (λ q. elim (put1_tells (finmap.get s.syncs) n None q) [ inl a ↦ ap (finmap.get s.syncs) a.0 ∙ gone | inr a ↦ others q a.0 ] ∙ sym (get-empty nat_cmp q))
