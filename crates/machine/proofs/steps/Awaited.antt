-- What a sync with a bound awaits only shrinks, by exactly the requests that end or are dropped.
use Rattle.std.proofs.Common.{◌≡◌, ℕ, ◌≤◌, Bool, true, false, cond, not, eqb, eqb-true, refl, ap, sym, subst, ◌∙◌}
use Rattle.std.proofs.Common.{arith, inl, inr, ◌&&◌, ◌⊎◌, ◌==◌, Option, Some, None, is_some, option_map, nat_lt, nat_le}
use Rattle.std.proofs.Common.{filter, nat_cmp}
use Rattle.std.specs.Prelude.{unwrap_or}
use Rattle.std.specs.List.{list_any}
use Rattle.std.specs.FinMap as map
use Rattle.std.proofs.lemmas.Bool.Decides.{nat_tests}
use Rattle.pc_types.specs.Kinds.{is_flush}
use Rattle.machine.specs.declared.event.Event.{Event}
use Rattle.machine.specs.declared.event.Reply.{Reply}
use Rattle.machine.specs.State.{State, Request, Sync, handle_file, is_open, in_range, bound_of, is_awaited, awaited}
use Rattle.machine.specs.State.{page_count}
use Rattle.machine.specs.Changes.{new_sync, cut_request}
use Rattle.maps.specs.Maps.{each_value}
use Rattle.machine.specs.Step.{Step}
use Rattle.machine.specs.Awaiting.{Settled, AwaitedShrinks}
use Rattle.machine.specs.Laws.{is_live}
use Rattle.machine.proofs.steps.Choices.{and_true}
use Rattle.maps.proofs.Maps.{get-insert_nat, get-remove_nat, get-each_value, none_passes, passing, same_keys}
use Rattle.machine.proofs.steps.Cases.{Cases, by_cases}

-- what becomes of a request that may be awaited by a sync with this bound
abbrev pub Changed : State → map.FinMap nat_cmp Request → ℕ → ℕ → Type 0
Changed s requests bound t =
    (map.get requests t ≡ map.get s.requests t)
    ⊎ ((map.get requests t ≡ None)
    ⊎ ((bound ≤ t)
    ⊎ ((x : Request) × (map.get requests t ≡ Some x) × (x.dropped ≡ true))))

pub record Requests (s : State) (requests : map.FinMap nat_cmp Request) (bound : ℕ) : Type 0 where
  pub each : (t : ℕ) → Changed s requests bound t

-- the same sync, but for the page that it started last
pub record Like (y z : Sync) : Type 0 where
  pub handle : z.handle ≡ y.handle
  pub range : (p : ℕ) → in_range z p ≡ in_range y p
  pub bound : z.bound ≡ y.bound

like_self : (y : Sync) → Like y y
like_self y = record { handle = refl; range = λ p. refl; bound = refl }

abbrev pub Result : State → State → ℕ → Sync → Sync → Type 0
Result s new bound y z = (z.bound ≡ Some bound) × (awaited new z ≡ filter (is_live new) (awaited s y))

none_either : (b : Bool) → ◌≡◌ {A = Option Request} (cond b None None) None
none_either true = refl
none_either false = refl

-- what becomes of the sync y with this bound, and of what it may await: in any number of steps
pub record Later (s new : State) (bound : ℕ) (y z : Sync) : Type 0 where
  pub like : Like y z
  pub file : handle_file new y.handle ≡ handle_file s y.handle
  pub requests : Requests s new.requests bound

pub later_self : (s : State) (bound : ℕ) (y : Sync) → Later s s bound y y
later_self s bound y = record { like = like_self y; file = refl; requests = record { each = λ t. inl refl } }

pub later_on : (s between new : State) (bound : ℕ) (y x z : Sync) → Later s between bound y x
    → Later between new bound x z → Later s new bound y z
later_on s between new bound y x z a b = record {
  like = record {
    handle = b.like.handle ∙ a.like.handle;
    range = λ p. b.like.range p ∙ a.like.range p;
    bound = b.like.bound ∙ a.like.bound;
  };
  file = ap (handle_file new) (sym a.like.handle) ∙ b.file ∙ ap (handle_file between) a.like.handle ∙ a.file;
  requests = record {
    each = λ t. elim (b.requests.each t) [
      | inl same ↦ elim (a.requests.each t) [
        | inl k ↦ inl (same ∙ k)
        | inr k ↦ elim k [
          | inl none ↦ inr (inl (same ∙ none))
          | inr l ↦ elim l [ inl high ↦ inr (inr (inl high)) | inr x ↦ inr (inr (inr (x.0, same ∙ x.1, x.2))) ]
        ]
      ]
      | inr k ↦ inr k
    ];
  };
}

module _ (s new : State) (bound : ℕ) (y z : Sync) (bounded : y.bound ≡ Some bound) (later : Later s new bound y z) where
  like : Like y z
  like = later.like

  file : handle_file new y.handle ≡ handle_file s y.handle
  file = later.file

  requests : Requests s new.requests bound
  requests = later.requests

  bound_new : bound_of new z ≡ bound
  bound_new = ap (λ o. unwrap_or o new.next) (like.bound ∙ bounded)

  bound_old : bound_of s y ≡ bound
  bound_old = ap (λ o. unwrap_or o s.next) bounded

  same_file : handle_file new z.handle ≡ handle_file s y.handle
  same_file = ap (handle_file new) like.handle ∙ file

  same_test : (t : ℕ) (x : Request) → is_awaited new z (t, x) ≡ is_awaited s y (t, x)
  same_test t x = λ i. is_flush x.kind && not x.dropped && (x.file == same_file i) && like.range x.page i
      && nat_lt t ((bound_new ∙ sym bound_old) i)

  live_at : (t : ℕ) (o : Option Request) → map.get new.requests t ≡ o
      → is_live new t ≡ unwrap_or (option_map (λ (x : Request). not x.dropped) o) false
  live_at t o e = ap (λ o. unwrap_or (option_map (λ (x : Request). not x.dropped) o) false) e

  awaited_live : (f d g k l : Bool) → (f && d && g && k && l) ≡ true → d ≡ true
  awaited_live f d g k l e =
      (and_true f d (and_true (f && d) g (and_true (f && d && g) k (and_true (f && d && g && k) l e).0).0).0).1

  low : (t : ℕ) → bound ≤ t → nat_lt t bound ≡ false
  low t l = grind (arith, nat_tests)

  and_none : (a b : Bool) → b ≡ false → (a && b) ≡ false
  and_none true b e = e
  and_none false b e = refl

  not_low : (t : ℕ) (x : Request) → bound ≤ t → is_awaited new z (t, x) ≡ false
  not_low t x l = and_none (is_flush x.kind && not x.dropped && x.file == handle_file new z.handle && in_range z x.page)
      (nat_lt t (bound_of new z)) (ap (nat_lt t) bound_new ∙ low t l)

  not_dropped : (t : ℕ) (x : Request) → x.dropped ≡ true → is_awaited new z (t, x) ≡ false
  not_dropped t x d = elim (is_awaited new z (t, x)) as (λ b. is_awaited new z (t, x) ≡ b → b ≡ false) [
    | true ↦ λ e. absurd (let a = awaited_live (is_flush x.kind) (not x.dropped) (x.file == handle_file new z.handle)
        (in_range z x.page) (nat_lt t (bound_of new z)) e in let k = sym a ∙ ap not d in cc)
    | false ↦ λ e. refl
  ] refl

  -- a request that stays as it is
  stays : (t : ℕ) (o : Option Request) → map.get new.requests t ≡ o
      → passing (is_awaited new z) t o ≡ cond (is_live new t) (passing (is_awaited s y) t o) None
  stays t None e = sym (none_either (is_live new t))
  stays t (Some x) e = ap (λ b. cond b (Some x) None) (same_test t x) ∙ go (is_awaited s y (t, x)) refl
    where
      go : (b : Bool) → is_awaited s y (t, x) ≡ b
          → cond b (Some x) None ≡ cond (is_live new t) (cond b (Some x) None) None
      go true a =
          sym (ap (λ b. cond b (Some x) None)
          (live_at t (Some x) e ∙ awaited_live (is_flush x.kind) (not x.dropped) (x.file == handle_file s y.handle)
          (in_range y x.page) (nat_lt t (bound_of s y)) a))
      go false a = sym (none_either (is_live new t))

  nothing : (t : ℕ) (o : Option Request) → map.get new.requests t ≡ o
      → ((x : Request) → o ≡ Some x → is_awaited new z (t, x) ≡ false) → passing (is_awaited new z) t o ≡ None
  nothing t None e h = refl
  nothing t (Some x) e h = ap (λ b. cond b (Some x) None) (h x refl)

  was_nothing : (t : ℕ) → bound ≤ t → (o : Option Request) → passing (is_awaited s y) t o ≡ None
  was_nothing t l None = refl
  was_nothing t l (Some x) =
      ap (λ b. cond b (Some x) None)
      (and_none (is_flush x.kind && not x.dropped && x.file == handle_file s y.handle && in_range y x.page)
      (nat_lt t (bound_of s y)) (ap (nat_lt t) bound_old ∙ low t l))

  not_live : (t : ℕ) → is_live new t ≡ false → cond (is_live new t) (passing (is_awaited s y) t (map.get s.requests t))
      None ≡ None
  not_live t e = ap (λ b. cond b (passing (is_awaited s y) t (map.get s.requests t)) None) e

  point : (t : ℕ) → passing (is_awaited new z) t (map.get new.requests t)
      ≡ cond (is_live new t) (passing (is_awaited s y) t (map.get s.requests t)) None
  point t = elim (requests.each t) [
    | inl a ↦ stays t (map.get new.requests t) refl
        ∙ ap (λ o. cond (is_live new t) (passing (is_awaited s y) t o) None) a
    | inr a ↦ elim a [
      | inl k ↦ ap (passing (is_awaited new z) t) k ∙ sym (not_live t (live_at t None k))
      | inr k ↦ elim k [
        | inl l ↦ nothing t (map.get new.requests t) refl (λ x _. not_low t x l)
            ∙ sym (ap (λ o. cond (is_live new t) o None) (was_nothing t l (map.get s.requests t))
            ∙ none_either (is_live new t))
        | inr x ↦ ap (passing (is_awaited new z) t) x.1 ∙ ap (λ b. cond b (Some x.0) None) (not_dropped t x.0 x.2)
            ∙ sym (not_live t (live_at t (Some x.0) x.1 ∙ ap not x.2))
      ]
    ]
  ]

  pub shrinks : Result s new bound y z
  shrinks =
      (like.bound ∙ bounded, same_keys s.requests new.requests (is_awaited s y) (is_awaited new z) (is_live new) point)

-- ---- what each case changes

some_of_same : (a b : Sync) (o : Option Sync) → o ≡ Some a → o ≡ Some b → b ≡ a
some_of_same a b o e k = let x : Some b ≡ Some a = sym k ∙ e in cc

-- what is to be shown of a new state. A record, so that each case determines its state
pub record Shrinks (s : State) (m bound : ℕ) (y : Sync) (new : State) : Type 0 where
  pub at : (z : Sync) → map.get new.syncs m ≡ Some z → Later s new bound y z

module _ (s : State) (m bound : ℕ) (y : Sync) (settled : Settled s m y bound) where
  abbrev Goal : State → Type 0
  Goal new = Shrinks s m bound y new

  kept : Requests s s.requests bound
  kept = record { each = λ t. inl refl }

  -- the syncs are as they were
  quiet : (new : State) → map.get new.syncs m ≡ map.get s.syncs m → handle_file new y.handle ≡ handle_file s y.handle
      → Requests s new.requests bound → Goal new
  quiet new syncs file requests =
      record {
        at = λ z is. let same = some_of_same y z (map.get s.syncs m) settled.is (sym syncs ∙ is) in
            record { like = subst (Like y) (sym same) (like_self y); file = file; requests = requests };
      }

  -- a request begins
  begun : (x : Request) (t : ℕ) → (cond (eqb t s.next) (Some x) (map.get s.requests t) ≡ map.get s.requests t)
      ⊎ (bound ≤ t)
  begun x t =
      elim (eqb t s.next) as (λ b. eqb t s.next ≡ b → (cond b (Some x) (map.get s.requests t) ≡ map.get s.requests t)
      ⊎ (bound ≤ t)) [
        | true ↦ λ e. inr (let same = eqb-true t s.next e in let given = settled.given in omega arith)
        | false ↦ λ e. inl refl
      ] refl

  begins : (x : Request) → Requests s (map.insert s.requests s.next x) bound
  begins x = record {
    each = λ t. elim (begun x t) [
      | inl a ↦ inl (get-insert_nat s.requests s.next x t ∙ a)
      | inr a ↦ inr (inr (inl a))
    ];
  }

  ends : (u : ℕ) → Requests s (map.remove s.requests u) bound
  ends u = record {
    each = λ t. elim (eqb t u) as (λ b. eqb t u ≡ b → Changed s (map.remove s.requests u) bound t) [
      | true ↦ λ e. inr (inl (get-remove_nat s.requests u t ∙ ap (λ b. cond b None (map.get s.requests t)) e))
      | false ↦ λ e. inl (get-remove_nat s.requests u t ∙ ap (λ b. cond b None (map.get s.requests t)) e)
    ] refl;
  }

  cuts : (f n : ℕ) → Requests s (each_value (λ _. cut_request f n) s.requests) bound
  cuts f n = record { each = λ t. go t (map.get s.requests t) refl }
    where
      now : (t : ℕ) → map.get (each_value (λ _. cut_request f n) s.requests) t ≡ option_map (cut_request f n)
          (map.get s.requests t)
      now t = get-each_value (λ _. cut_request f n) s.requests t

      at : (t : ℕ) (x : Request) → map.get s.requests t ≡ Some x → (b : Bool) → (x.file == f && nat_le n x.page) ≡ b
          → map.get (each_value (λ _. cut_request f n) s.requests) t ≡ Some (cond b (record x { dropped = true }) x)
          → Changed s (each_value (λ _. cut_request f n) s.requests) bound t
      at t x e true k h = inr (inr (inr (record x { dropped = true }, h, refl)))
      at t x e false k h = inl (h ∙ sym e)

      go : (t : ℕ) (o : Option Request) → map.get s.requests t ≡ o
          → Changed s (each_value (λ _. cut_request f n) s.requests) bound t
      go t None e = inr (inl (now t ∙ ap (option_map (cut_request f n)) e))
      go t (Some x) e =
          at t x e (x.file == f && nat_le n x.page) refl
          (now t ∙ ap (option_map (cut_request f n)) e ∙ ap (λ b. Some (cond b (record x { dropped = true }) x)) refl)

  -- another handle is opened or closed
  other_opened : (h f : ℕ) → is_open s h ≡ false
      → handle_file (record s { handles = map.insert s.handles h f }) y.handle ≡ handle_file s y.handle
  other_opened h f free =
      ap (λ o. unwrap_or o 0) (get-insert_nat s.handles h f y.handle
      ∙ elim (eqb y.handle h) as (λ b. eqb y.handle h ≡ b
      → cond b (Some f) (map.get s.handles y.handle) ≡ map.get s.handles y.handle) [
        | true ↦ λ e. absurd (let a = ap (is_open s) (eqb-true y.handle h e) in let k = sym settled.opened ∙ a ∙ free in
            cc)
        | false ↦ λ e. refl
      ] refl)

  other_closed : (h : ℕ) → list_any (λ (y : Sync). eqb y.handle h) (map.values s.syncs) ≡ false
      → handle_file (record s { handles = map.remove s.handles h }) y.handle ≡ handle_file s y.handle
  other_closed h free =
      ap (λ o. unwrap_or o 0) (get-remove_nat s.handles h y.handle
      ∙ ap (λ b. cond b None (map.get s.handles y.handle))
      (none_passes (λ (y : Sync). eqb y.handle h) s.syncs m y free settled.is))

  -- a sync is put, which is another, or this one like before
  puts : (new : State) (k : ℕ) (v : Sync) → new.syncs ≡ map.insert s.syncs k v
      → handle_file new y.handle ≡ handle_file s y.handle → Requests s new.requests bound → (k ≡ m → Like y v)
      → Goal new
  puts new k v syncs file requests like = record {
    at = λ z is. elim (eqb m k) as (λ b. eqb m k ≡ b → Later s new bound y z) [
      | true ↦ λ e. (let same =
          some_of_same v z (map.get new.syncs m) (now ∙ ap (λ b. cond b (Some v) (map.get s.syncs m)) e) is in
          record { like = subst (Like y) (sym same) (like (sym (eqb-true m k e))); file = file; requests = requests })
      | false ↦ λ e. (quiet new (now ∙ ap (λ b. cond b (Some v) (map.get s.syncs m)) e) file requests).at z is
    ] refl;
  }
    where
      now : map.get new.syncs m ≡ cond (eqb m k) (Some v) (map.get s.syncs m)
      now = ap (λ x. map.get x m) syncs ∙ get-insert_nat s.syncs k v m

  removes : (new : State) (k : ℕ) → new.syncs ≡ map.remove s.syncs k → handle_file new y.handle ≡ handle_file s y.handle
      → Requests s new.requests bound → Goal new
  removes new k syncs file requests = record {
    at = λ z is. elim (eqb m k) as (λ b. eqb m k ≡ b → Later s new bound y z) [
      | true ↦ λ e. absurd (let a = sym is ∙ now ∙ ap (λ b. cond b None (map.get s.syncs m)) e in cc)
      | false ↦ λ e. (quiet new (now ∙ ap (λ b. cond b None (map.get s.syncs m)) e) file requests).at z is
    ] refl;
  }
    where
      now : map.get new.syncs m ≡ cond (eqb m k) None (map.get s.syncs m)
      now = ap (λ x. map.get x m) syncs ∙ get-remove_nat s.syncs k m

  this : (k : ℕ) (v : Sync) → k ≡ m → map.get s.syncs k ≡ Some v → v ≡ y
  this k v same is = some_of_same y v (map.get s.syncs m) settled.is (ap (map.get s.syncs) (sym same) ∙ is)

  cases : Cases s (λ e r new. Goal new)
  cases = record {
    same = λ e r step q. quiet s refl refl kept;
    writes_none = λ e h o is step. quiet s refl refl kept;
    creates = λ f room is. quiet _ refl refl kept;
    opens = λ f h a b free. quiet _ refl (other_opened h.0 f.0 free.0) kept;
    closes = λ h opened free. quiet _ refl (other_closed h.0 free) kept;
    writes = λ e h o b is may. quiet _ refl refl kept;
    shrinks = λ h z may l. quiet _ refl refl (cuts (handle_file s h.0) (page_count s.sizes.page z));
    grows = λ h z may l. quiet _ refl refl kept;
    makes_zeros = λ h p may w. quiet _ refl refl kept;
    evicts = λ f p page is idle. quiet _ refl refl kept;
    fills = λ h p t may w full is. quiet _ refl refl (begins _);
    flushes = λ f p page t may is. quiet _ refl refl (begins _);
    drops = λ kind end x may d. quiet _ refl refl (ends end.serial.0);
    fill_fails = λ end x c may d o. quiet _ refl refl (ends end.serial.0);
    fill_ends = λ end x b may d o. quiet _ refl refl (ends end.serial.0);
    flush_fails = λ end x c may d o. quiet _ refl refl (ends end.serial.0);
    flush_ends = λ end x may d o. quiet _ refl refl (ends end.serial.0);
    begins = λ h first last k may low. puts _ k.0 (new_sync s h.0 first.0 last.0) refl refl kept
        (λ same. absurd (let a : is_some (map.get s.syncs m) ≡ false = ap (λ x. is_some (map.get s.syncs x)) (sym same)
        ∙ low.0 in let e = sym (ap is_some settled.is) ∙ a in cc));
    starts = λ k v p page t is may given. puts _ k.0 (record v { started = Some p }) refl refl (begins _)
        (λ same. absurd (let a = this k.0 v same is in let e = sym may.unbound ∙ ap (λ (x : Sync). x.bound) a
        ∙ settled.bounded in cc));
    waits = λ k v e p is pick first page. puts _ k.0 (record v { bound = Some (bound_of s v) }) refl refl kept
        (λ same. (let a = this k.0 v same is in record {
          handle = ap (λ (x : Sync). x.handle) a;
          range = λ p. ap (λ (x : Sync). in_range x p) a;
          bound = ap (λ (x : Sync). Some (bound_of s x)) a ∙ ap (λ o. Some (unwrap_or o s.next)) settled.bounded
              ∙ sym settled.bounded;
        }));
    over = λ k v r is pick first verdict. removes _ k.0 refl refl kept;
    sync_drops = λ k v is. removes _ k.0 refl refl kept;
  }

-- in one step
pub later_step : (old new : State) (e : Event) (r : Reply) → Step old e r new → (m bound : ℕ) (y z : Sync)
    → Settled old m y bound → map.get new.syncs m ≡ Some z → Later old new bound y z
later_step old new e r step m bound y z settled is =
    (by_cases old (λ e r new. Goal old m bound y settled new) (cases old m bound y settled) e r new step).at z is

pub awaited_shrinks : AwaitedShrinks
awaited_shrinks old new e r step m bound y z settled is =
    shrinks old new bound y z settled.bounded (later_step old new e r step m bound y z settled is)
