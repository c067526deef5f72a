-- How a sync in progress goes on in each step.
use Rattle.std.proofs.Common.{◌≡◌, ◌≢◌, ℕ, ◌≤◌, true, false, eqb, eqb-true, eq-eqb, refl, ap, sym, subst, ◌∙◌, arith}
use Rattle.std.proofs.Common.{inl, inr}
use Rattle.std.specs.Prelude.{◌⊎◌, Option, Some, None, is_some, unwrap_or}
use Rattle.std.specs.FinMap as finmap
use Rattle.std.specs.List.{list_any}
use Rattle.machine.specs.State.{State, Page, Sync, handle_file, is_open, page_at, bound_of}
use Rattle.machine.specs.Changes.{sync_pick, started, put_sync, drop_sync, under_write, new_sync}
use Rattle.machine.proofs.steps.Cases.{Cases}
use Rattle.maps.proofs.Maps.{none_passes}
use Rattle.machine.proofs.steps.Passed.{MayStart}
use Rattle.runs.specs.World.{World, Move, WorldStep}
use Rattle.runs.proofs.views.View.{put1, put1_here, put1_else, put2_here, towrite}
use Rattle.runs.proofs.moments.CoreSteps.{core_cases}
use Rattle.runs.proofs.events.Lookups.{get-insert1, get-remove1, cached_within, change_page-is, page_at-put_page}

-- it starts no page, and its bound stays
pub record IsUnmoved (y z : Sync) : Type 0 where
  pub started : z.started ≡ y.started
  pub bound : z.bound ≡ y.bound

-- it starts a page, which is TOWRITE no more
pub record IsStarting (old new : State) (y z : Sync) : Type 0 where
  pub page : ℕ
  pub pick : sync_pick old y ≡ Some page
  pub started : z.started ≡ Some page
  pub was : y.bound ≡ None
  pub is : z.bound ≡ None
  pub cleared : towrite (page_at new (handle_file old y.handle) page) ≡ false

-- it has no page left, and gets its bound
pub record IsBound (old new : State) (y z : Sync) : Type 0 where
  pub pick : sync_pick old y ≡ None
  pub was : y.bound ≡ None
  pub is : z.bound ≡ Some old.next
  pub requests : new.requests ≡ old.requests
  pub next : new.next ≡ old.next

pub record Tracked (old new : State) (m : ℕ) (y : Sync) : Type 0 where
  pub now : Sync
  pub is : finmap.get new.syncs m ≡ Some now
  pub handle : now.handle ≡ y.handle
  pub first : now.first ≡ y.first
  pub last : now.last ≡ y.last
  pub failures : now.failures ≡ y.failures
  pub file : finmap.get new.handles y.handle ≡ finmap.get old.handles y.handle
  pub rises : old.next ≤ new.next
  pub how : IsUnmoved y now ⊎ (IsStarting old new y now ⊎ IsBound old new y now)

module _ (s : State) (m : ℕ) (y : Sync) (is : finmap.get s.syncs m ≡ Some y) (opened : is_open s y.handle ≡ true) where
  -- where the sync is still in progress
  pub record Still (new : State) : Type 0 where
    pub at : is_some (finmap.get new.syncs m) ≡ true → Tracked s new m y

  -- the sync stands as it was
  stands : (new : State) → finmap.get new.syncs m ≡ finmap.get s.syncs m
      → finmap.get new.handles y.handle ≡ finmap.get s.handles y.handle → s.next ≤ new.next → Still new
  stands new e h rises =
      record {
        at =
            λ _. record {
              now = y;
              is = e ∙ is;
              handle = refl;
              first = refl;
              last = refl;
              failures = refl;
              file = h;
              rises = rises;
              how = inl (record { started = refl; bound = refl });
            };
      }

  quiet : (new : State) → new.syncs ≡ s.syncs → new.handles ≡ s.handles → s.next ≤ new.next → Still new
  quiet new e h rises = stands new (ap (λ x. finmap.get x m) e) (ap (λ x. finmap.get x y.handle) h) rises

  number : (k : ℕ) → (m ≡ k) ⊎ (m ≢ k)
  number k = elim (eqb m k) as (λ b. eqb m k ≡ b → (m ≡ k) ⊎ (m ≢ k))
      [ true ↦ λ e. inl (eqb-true m k e) | false ↦ λ e. inr (λ j. let a = eq-eqb m k j in cc) ] refl

  other_put : (k : ℕ) (z : Sync) (new : State) → m ≢ k → new.syncs ≡ finmap.insert s.syncs k z → new.handles ≡ s.handles
      → s.next ≤ new.next → Still new
  other_put k z new apart e h rises =
      stands new (ap (λ x. finmap.get x m) e ∙ get-insert1 s.syncs k z m
      ∙ put1_else (finmap.get s.syncs) k (Some z) m apart) (ap (λ x. finmap.get x y.handle) h) rises

  gone : (k : ℕ) → Still (drop_sync s k)
  gone k = elim (number k) [
    | inl same ↦ record {
      at =
          λ still. absurd (let a : finmap.get (finmap.remove s.syncs k) m ≡ None = get-remove1 s.syncs k m
          ∙ (λ i. put1 (finmap.get s.syncs) k None (same i)) ∙ put1_here (finmap.get s.syncs) k None in
          let b = ap is_some a in cc);
    }
    | inr apart ↦ stands (drop_sync s k) (get-remove1 s.syncs k m ∙ put1_else (finmap.get s.syncs) k None m apart) refl
        (omega arith)
  ]

  put_here : (k : ℕ) (z : Sync) → m ≡ k → finmap.get (finmap.insert s.syncs k z) m ≡ Some z
  put_here k z same = get-insert1 s.syncs k z m ∙ (λ i. put1 (finmap.get s.syncs) k (Some z) (same i))
      ∙ put1_here (finmap.get s.syncs) k (Some z)

  same_sync : (k : ℕ) (z : Sync) → m ≡ k → finmap.get s.syncs k ≡ Some z → y ≡ z
  same_sync k z same e = let a : Some y ≡ Some z = sym is ∙ (λ i. finmap.get s.syncs (same i)) ∙ e in cc

  -- this sync starts page p
  starts_here : (k p : ℕ) (page : Page) → m ≡ k → MayStart s y p page
      → Still (put_sync (started s (handle_file s y.handle) p) k (record y { started = Some p }))
  starts_here k p page same may =
      let f = handle_file s y.handle in
      let here = cached_within s f p (ap is_some may.is) in
      let page_now : page_at (started s f p) f p ≡ Some (under_write page) =
      ap (λ (x : State). page_at x f p) (change_page-is s f p under_write page may.is)
      ∙ page_at-put_page s f p (under_write page) here f p ∙ put2_here (page_at s) f p (Some (under_write page)) in
      record {
        at = λ _. record {
          now = record y { started = Some p };
          is = put_here k (record y { started = Some p }) same;
          handle = refl;
          first = refl;
          last = refl;
          failures = refl;
          file = refl;
          rises = omega arith;
          how = inr (inl (record {
            page = p;
            pick = may.pick;
            started = refl;
            was = may.unbound;
            is = may.unbound;
            cleared = ap towrite page_now;
          }));
        };
      }

  -- this sync waits, and has its bound from then on
  waits_here : (k : ℕ) → m ≡ k → sync_pick s y ≡ None → Still (put_sync s k (record y { bound = Some (bound_of s y) }))
  waits_here k same pick = record {
    at = λ _. record {
      now = record y { bound = Some (bound_of s y) };
      is = put_here k (record y { bound = Some (bound_of s y) }) same;
      handle = refl;
      first = refl;
      last = refl;
      failures = refl;
      file = refl;
      rises = omega arith;
      how = by_bound y.bound refl;
    };
  }
    where
      by_bound : (o : Option ℕ) → y.bound ≡ o → IsUnmoved y (record y { bound = Some (bound_of s y) })
          ⊎ (IsStarting s (put_sync s k (record y { bound = Some (bound_of s y) })) y
          (record y { bound = Some (bound_of s y) })
          ⊎ IsBound s (put_sync s k (record y { bound = Some (bound_of s y) })) y
          (record y { bound = Some (bound_of s y) }))
      by_bound None e =
          inr (inr (record {
            pick = pick;
            was = e;
            is = ap (λ o. Some (unwrap_or o s.next)) e;
            requests = refl;
            next = refl;
          }))
      by_bound (Some b) e = inl (record { started = refl; bound = ap (λ o. Some (unwrap_or o s.next)) e ∙ sym e })

  -- another handle is opened or closed
  other_opened : (h f : ℕ) → is_open s h ≡ false → finmap.get (finmap.insert s.handles h f) y.handle
      ≡ finmap.get s.handles y.handle
  other_opened h f free = get-insert1 s.handles h f y.handle
      ∙ put1_else (finmap.get s.handles) h (Some f) y.handle
      (λ k. let a : is_open s h ≡ true = (λ i. is_open s (sym k i)) ∙ opened in cc)

  other_closed : (h : ℕ) → list_any (λ (y : Sync). eqb y.handle h) (finmap.values s.syncs) ≡ false
      → finmap.get (finmap.remove s.handles h) y.handle ≡ finmap.get s.handles y.handle
  other_closed h free = get-remove1 s.handles h y.handle
      ∙ put1_else (finmap.get s.handles) h None y.handle
      (λ k. let a = none_passes (λ (y : Sync). eqb y.handle h) s.syncs m y free is in let b = eq-eqb y.handle h k in cc)

  cases : Cases s (λ e r new. Still new)
  cases = record {
    same = λ e r step q. quiet s refl refl (omega arith);
    writes_none = λ e h o is step. quiet s refl refl (omega arith);
    creates = λ f room is. quiet _ refl refl (omega arith);
    opens = λ f h in_files room low. stands _ refl (other_opened h.0 f.0 low.0) (omega arith);
    closes = λ h open_now free. stands _ refl (other_closed h.0 free) (omega arith);
    writes = λ e h o b is may. quiet _ refl refl (omega arith);
    shrinks = λ h z may less. quiet _ refl refl (omega arith);
    grows = λ h z may more. quiet _ refl refl (omega arith);
    makes_zeros = λ h p may unwritten. quiet _ refl refl (omega arith);
    evicts = λ f p page is idle. quiet _ refl refl (omega arith);
    fills = λ h p t may has room is. quiet _ refl refl (omega arith);
    flushes = λ f p page t may is. quiet _ refl refl (omega arith);
    drops = λ kind end x may dropped. quiet _ refl refl (omega arith);
    fill_fails = λ end x code may live o. quiet _ refl refl (omega arith);
    fill_ends = λ end x b may live o. quiet _ refl refl (omega arith);
    flush_fails = λ end x code may live o. quiet _ refl refl (omega arith);
    flush_ends = λ end x may live o. quiet _ refl refl (omega arith);
    begins = λ h first last k may low. other_put k.0 (new_sync s h.0 first.0 last.0) _
        (λ same. let a : is_some (finmap.get s.syncs k.0) ≡ true = (λ i. is_some (finmap.get s.syncs (sym same i)))
        ∙ ap is_some is in let b = low.0 in cc) refl refl (omega arith);
    starts = λ k z p page t there may given. elim (number k.0) [
      | inl same ↦ subst (λ x. Still
          (put_sync (started s (handle_file s x.handle) p) k.0 (record x { started = Some p })))
          (same_sync k.0 z same there) (starts_here k.0 p page same
          (subst (λ x. MayStart s x p page) (sym (same_sync k.0 z same there)) may))
      | inr apart ↦ other_put k.0 (record z { started = Some p }) _ apart refl refl (omega arith)
    ];
    waits = λ k z e p there pick first page. elim (number k.0) [
      | inl same ↦ subst (λ x. Still (put_sync s k.0 (record x { bound = Some (bound_of s x) })))
          (same_sync k.0 z same there) (waits_here k.0 same (ap (sync_pick s) (same_sync k.0 z same there) ∙ pick))
      | inr apart ↦ other_put k.0 (record z { bound = Some (bound_of s z) }) _ apart refl refl (omega arith)
    ];
    over = λ k z r there pick first verdict. gone k.0;
    sync_drops = λ k z there. gone k.0;
  }

-- a step of the world
pub move_tracked : (w new : World) (m : ℕ) (y : Sync) → finmap.get w.core.syncs m ≡ Some y
    → is_open w.core y.handle ≡ true → is_some (finmap.get new.core.syncs m) ≡ true → (move : Move)
    → WorldStep w move new → Tracked w.core new.core m y
move_tracked w new m y is opened still move step =
    (core_cases w new (Still w.core m y is opened) (quiet w.core m y is opened w.core refl refl (omega arith))
    (cases w.core m y is opened) move step).at still
