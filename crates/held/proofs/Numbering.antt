-- A sync's number is not given anew while a seat has it.
use Rattle.std.proofs.Common.{◌≡◌, ℕ, Bool, true, false, cond, eqb, eqb-true, List, [], ◌∷◌, refl, ap, sym, subst, ◌∙◌}
use Rattle.std.specs.Prelude.{◌==◌, Some, None, is_some, map}
use Rattle.std.specs.FinMap as finmap
use Rattle.std.proofs.lemmas.Bool.{eq-eqb}
use Rattle.maps.proofs.Maps.{get-insert_nat, get-remove_nat}
use Rattle.machine.specs.declared.event.Event.{Event}
use Rattle.machine.specs.declared.event.Event.TheVariants as event
use Rattle.machine.specs.declared.event.Reply.{Reply}
use Rattle.machine.specs.declared.event.Reply.TheVariants as reply
use Rattle.machine.specs.Changes.{new_sync}
use Rattle.machine.specs.Catalogs.{adopted}
use Rattle.machine.specs.History.{Leads}
use Rattle.machine.specs.State.{State, Sync, bound_of}
use Rattle.machine.specs.Step.{Step}
use Rattle.machine.proofs.steps.Answered.{is_quiet}
use Rattle.machine.proofs.steps.Cases.{Cases, IsVerdict, by_cases}
use Rattle.pc_types.specs.declared.ids.SyncId.{SyncId}
use Rattle.trail.specs.declared.entry.Entry.{Entry}
use Rattle.trail.specs.History.{seatless}
use Rattle.held.specs.Numbers.{EndsOwn, GivenFree, NumbersStay, ends, gives, has_after}

-- what one event says of number m
record Turn (s new : State) (m : ℕ) (e : Event) (r : Reply) : Type 0 where
  free : gives m e r ≡ true → is_some (finmap.get s.syncs m) ≡ false
  given : gives m e r ≡ true → is_some (finmap.get new.syncs m) ≡ true
  kept : gives m e r ≡ false → ends m e r ≡ false → is_some (finmap.get s.syncs m) ≡ true
      → is_some (finmap.get new.syncs m) ≡ true

quiet_gives : (m : ℕ) (e : Event) (r : Reply) → is_quiet r ≡ true → gives m e r ≡ false
quiet_gives m (event.SyncBegin h first last) (reply.Sync n) q = absurd cc
quiet_gives m e r q = refl

wrote_gives : (m : ℕ) (e : Event) (n end : ℕ) → gives m e (reply.Wrote n end) ≡ false
wrote_gives m (event.SyncBegin h first last) n end = refl
wrote_gives m e n end = refl

module _ (s : State) (m : ℕ) where
  -- the syncs are as they were
  same : (new : State) (e : Event) (r : Reply) → gives m e r ≡ false → new.syncs ≡ s.syncs → Turn s new m e r
  same new e r other syncs = record {
    free = λ x. absurd cc;
    given = λ x. absurd cc;
    kept = λ x y z. ap (λ k. is_some (finmap.get k m)) syncs ∙ z;
  }

  put_there : (k : ℕ) (v : Sync) → is_some (finmap.get s.syncs m) ≡ true
      → is_some (finmap.get (finmap.insert s.syncs k v) m) ≡ true
  put_there k v was =
      ap is_some (get-insert_nat s.syncs k v m)
      ∙ elim (eqb m k) as (λ b. is_some (cond b (Some v) (finmap.get s.syncs m)) ≡ true) [
        | true ↦ refl
        | false ↦ was
      ]

  begun : (k : ℕ) (v : Sync) → (k == m) ≡ true → is_some (finmap.get (finmap.insert s.syncs k v) m) ≡ true
  begun k v is =
      let here : k ≡ m = eqb-true k m is in
      ap is_some (get-insert_nat s.syncs k v m)
      ∙ elim (eqb m k) as (λ b. eqb m k ≡ b → is_some (cond b (Some v) (finmap.get s.syncs m)) ≡ true) [
        | true ↦ λ e. refl
        | false ↦ λ e. absurd (let a = eq-eqb m k (sym here) in cc)
      ] refl

  removed : (k : ℕ) → (k == m) ≡ false → is_some (finmap.get s.syncs m) ≡ true
      → is_some (finmap.get (finmap.remove s.syncs k) m) ≡ true
  removed k other was =
      ap is_some (get-remove_nat s.syncs k m)
      ∙ elim (eqb m k) as (λ b. eqb m k ≡ b → is_some (cond b None (finmap.get s.syncs m)) ≡ true) [
        | true ↦ λ e. absurd (let a = eq-eqb k m (sym (eqb-true m k e)) in cc)
        | false ↦ λ e. was
      ] refl

  over : (k : SyncId) (y : Sync) (r : Reply) → IsVerdict s y r → ends m (event.SyncStep k) r ≡ false → (k.0 == m) ≡ false
  over k y reply.Clean verdict e = e
  over k y (reply.Failed code) verdict e = e
  over k y r verdict e = absurd verdict

  turns : Cases s (λ e r new. Turn s new m e r)
  turns = record {
    same = λ e r step q. same s e r (quiet_gives m e r q) refl;
    writes_none = λ e h o is step. same s e (reply.Wrote 0 o) (wrote_gives m e 0 o) refl;
    creates = λ f room is. same _ _ _ refl refl;
    opens = λ f h a b free. same _ _ _ refl refl;
    closes = λ h opened free. same _ _ _ refl refl;
    writes = λ e h o b is may. same _ e _ (wrote_gives m e _ _) refl;
    shrinks = λ h z may l. same _ _ _ refl refl;
    grows = λ h z may l. same _ _ _ refl refl;
    makes_zeros = λ h p may w. same _ _ _ refl refl;
    evicts = λ f p page is idle. same _ _ _ refl refl;
    fills = λ h p t may w full is. same _ _ _ refl refl;
    flushes = λ f p page t may is. same _ _ _ refl refl;
    drops = λ kind end x may d. same _ _ _ refl refl;
    fill_fails = λ end x c may d o. same _ _ _ refl refl;
    fill_ends = λ end x b may d o. same _ _ _ refl refl;
    flush_fails = λ end x c may d o. same _ _ _ refl refl;
    flush_ends = λ end x may d o. same _ _ _ refl refl;
    begins = λ h first last k may low. record {
      free = λ is. subst (λ n. is_some (finmap.get s.syncs n) ≡ false) (eqb-true k.0 m is) low.0;
      given = λ is. begun k.0 (new_sync s h.0 first.0 last.0) is;
      kept = λ x y was. put_there k.0 (new_sync s h.0 first.0 last.0) was;
    };
    starts = λ k v p page t is may given. record {
      free = λ x. absurd cc;
      given = λ x. absurd cc;
      kept = λ x y was. put_there k.0 (record v { started = Some p }) was;
    };
    waits = λ k v e p is pick first page. record {
      free = λ x. absurd cc;
      given = λ x. absurd cc;
      kept = λ x y was. put_there k.0 (record v { bound = Some (bound_of s v) }) was;
    };
    over = λ k v r is pick first verdict. record {
      free = λ x. absurd cc;
      given = λ x. absurd cc;
      kept = λ x y was. removed k.0 (over k v r verdict y) was;
    };
    sync_drops = λ k v is. record {
      free = λ x. absurd cc;
      given = λ x. absurd cc;
      kept = λ x y was. removed k.0 y was;
    };
  }

turn : (s new : State) (m : ℕ) (e : Event) (r : Reply) → Step s e r new → Turn s new m e r
turn s new m e r step = by_cases s (λ e r new. Turn s new m e r) (turns s m) e r new step

-- a number that a seat has is in use, and no other seat has it
record Fits (s : State) (m : ℕ) (has : ℕ → Bool) : Type 0 where
  used : (k : ℕ) → has k ≡ true → is_some (finmap.get s.syncs m) ≡ true
  alone : (i j : ℕ) → has i ≡ true → has j ≡ true → i ≡ j

module _ (s new : State) (m : ℕ) (has : ℕ → Bool) (e : Entry) (fits : Fits s m has) (t : Turn s new m e.event e.reply)
    (own : ends m e.event e.reply ≡ true → has e.seat ≡ true) where
  free : gives m e.event e.reply ≡ true → (k : ℕ) → has k ≡ false
  free is k = go (has k) refl
    where
      go : (b : Bool) → has k ≡ b → has k ≡ false
      go true h = absurd (let a = t.free is in let u = fits.used k h in cc)
      go false h = h

  after : Fits new m (has_after m has e)
  after = go (gives m e.event e.reply) refl (ends m e.event e.reply) refl
    where
      is_seat : (k : ℕ) (b : Bool) → eqb e.seat k ≡ b → (b ≡ true → e.seat ≡ k)
      is_seat k b h is = eqb-true e.seat k (h ∙ is)

      -- it is given to the seat alone
      to_seat : gives m e.event e.reply ≡ true → (k : ℕ) → has_after m has e k ≡ true → e.seat ≡ k
      to_seat is k h = pick (eqb e.seat k) refl (subst (λ b. cond (eqb e.seat k)
          (cond b true (cond (ends m e.event e.reply) false (has k))) (has k) ≡ true) is h)
        where
          pick : (b : Bool) → eqb e.seat k ≡ b → cond b true (has k) ≡ true → e.seat ≡ k
          pick true here h = eqb-true e.seat k here
          pick false here h = absurd (let a = free is k in cc)

      -- who has it was the one who ends it
      from_seat : gives m e.event e.reply ≡ false → ends m e.event e.reply ≡ true → (k : ℕ) → has_after m has e k ≡ true → ⊥
      from_seat other is k h = pick (eqb e.seat k) refl
          (subst (λ b. cond (eqb e.seat k) (cond (gives m e.event e.reply) true (cond b false (has k))) (has k) ≡ true) is h)
        where
          pick : (b : Bool) → eqb e.seat k ≡ b
              → cond b (cond (gives m e.event e.reply) true false) (has k) ≡ true → ⊥
          pick true here h = let a = other in cc
          pick false here h =
              let a = eq-eqb e.seat k (fits.alone e.seat k (own is) h) in cc

      as_before : gives m e.event e.reply ≡ false → ends m e.event e.reply ≡ false → (k : ℕ) → has_after m has e k ≡ true
          → has k ≡ true
      as_before other none k h = pick (eqb e.seat k) refl
          (subst (λ b. cond (eqb e.seat k) (cond (gives m e.event e.reply) true (cond b false (has k))) (has k) ≡ true) none
          h)
        where
          pick : (b : Bool) → eqb e.seat k ≡ b
              → cond b (cond (gives m e.event e.reply) true (has k)) (has k) ≡ true → has k ≡ true
          pick true here h = let a = other in cc
          pick false here h = h

      go : (a : Bool) → gives m e.event e.reply ≡ a → (b : Bool) → ends m e.event e.reply ≡ b → Fits new m (has_after m has e)
      go true is b x = record {
        used = λ k h. t.given is;
        alone = λ i j h l. sym (to_seat is i h) ∙ to_seat is j l;
      }
      go false other true is = record {
        used = λ k h. absurd (from_seat other is k h);
        alone = λ i j h l. absurd (from_seat other is i h);
      }
      go false other false none = record {
        used = λ k h. t.kept other none (fits.used k (as_before other none k h));
        alone = λ i j h l. fits.alone i j (as_before other none i h) (as_before other none j l);
      }

stay : (m : ℕ) (s : State) (es : List Entry) (to : State) (has : ℕ → Bool) → Fits s m has → Leads s (map seatless es) to
    → EndsOwn m has es → GivenFree m has es
stay m s [] to has fits leads own = tt
stay m s (e ∷ es) to has fits leads own =
    let t = turn s leads.0 m e.event e.reply leads.1 in
    (free s leads.0 m has e fits t own.0, stay m leads.0 es to (has_after m has e) (after s leads.0 m has e fits t own.0) leads.2 own.1)

pub numbers_stay : NumbersStay
numbers_stay files sizes name history state legal m own =
    stay m (adopted sizes name files) history state (λ k. false) (record { used = λ k h. absurd cc; alone = λ i j h l. absurd cc })
    legal.1 own
