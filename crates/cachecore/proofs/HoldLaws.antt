-- Which blocks are held as a request begins or ends.
use Rattle.std.proofs.Common.{◌≡◌, ◌≢◌, ℕ, ◌+◌, Bool, false, refl, ap, sym, ◌∙◌, arith, inl, inr}
use Rattle.std.specs.Prelude.{◌⊎◌, Option, Some, None}
use Rattle.std.specs.Ordering.{nat_cmp}
use Rattle.std.specs.FinMap as finmap
use Rattle.std.specs.FinMap.{FinMap}
use Rattle.mapping.proofs.MapLemmas.{get-insert_here, get-insert_there, get-remove_there, len_insert_new}
use Rattle.mapping.proofs.MapLemmas.{len_remove_old}
use Rattle.machine.specs.State.{Request}
use Rattle.cachecore.specs.Holding.{Holds}
use Rattle.maps.proofs.Maps.{get_inserted, get_left}

some_is : {A : Type 0} (x y : A) (o : Option A) → o ≡ Some x → o ≡ Some y → x ≡ y
some_is x y o a b = cc

some_none : {A : Type 0} (x : A) (o : Option A) → o ≡ None → o ≡ Some x → ⊥
some_none x o a b = cc

module _ (held : FinMap nat_cmp Bool) (requests : FinMap nat_cmp Request) (h : Holds held requests) where
  -- a block that no request has is not held
  pub not_held : (b : ℕ) → ((t : ℕ) (r : Request) → finmap.get requests t ≡ Some r → r.block ≢ b)
      → finmap.get held b ≡ None
  not_held b free = go (finmap.get held b) refl
    where
      go : (o : Option Bool) → finmap.get held b ≡ o → o ≡ None
      go None e = refl
      go (Some c) e = absurd (let w = h.holder b c e in free w.0 w.1 w.2 w.3)

  module _ (t : ℕ) (new : Request) (fresh : finmap.get requests t ≡ None) (free : finmap.get held new.block ≡ None)
      (live : new.dropped ≡ false) where
    -- a request of now is the new one, or was there and has another block
    begun : (u : ℕ) (r : Request) → finmap.get (finmap.insert requests t new) u ≡ Some r → ((u ≡ t) × (new ≡ r))
        ⊎ ((finmap.get requests u ≡ Some r) × (r.block ≢ new.block))
    begun u r e = elim (get_inserted requests t new u) [
      | inl k ↦ inl (k.0, some_is new r _ k.1 e)
      | inr k ↦ inr (
        sym k.1 ∙ e,
        λ same. some_none r.dropped (finmap.get held new.block) free
            (ap (finmap.get held) (sym same) ∙ h.held_is u r (sym k.1 ∙ e)),
      )
    ]

    still : (u : ℕ) (r : Request) → finmap.get requests u ≡ Some r
        → finmap.get (finmap.insert requests t new) u ≡ Some r
    still u r e =
        get-insert_there requests t new u
        (λ same. some_none r (finmap.get requests t) fresh (ap (finmap.get requests) (sym same) ∙ e)) ∙ e

    pub Holds-begun : Holds (finmap.insert held new.block false) (finmap.insert requests t new)
    Holds-begun = record {
      held_is = λ u r e. elim (begun u r e) [
        | inl k ↦ get-insert_here held new.block false r.block (ap (λ (x : Request). x.block) (sym k.1))
            ∙ ap Some (sym live ∙ ap (λ (x : Request). x.dropped) k.1)
        | inr k ↦ get-insert_there held new.block false r.block k.1 ∙ h.held_is u r k.0
      ];
      holder = λ b c e. elim (get_inserted held new.block false b) [
        | inl k ↦ (t, new, get-insert_here requests t new t refl, sym k.0)
        | inr k ↦ (let w = h.holder b c (sym k.1 ∙ e) in (w.0, w.1, still w.0 w.1 w.2, w.3))
      ];
      alone = λ u v r q a b same. elim (begun u r a) [
        | inl k ↦ elim (begun v q b) [
          | inl j ↦ k.0 ∙ sym j.0
          | inr j ↦ absurd (j.1 (sym same ∙ ap (λ (x : Request). x.block) (sym k.1)))
        ]
        | inr k ↦ elim (begun v q b) [
          | inl j ↦ absurd (k.1 (same ∙ ap (λ (x : Request). x.block) (sym j.1)))
          | inr j ↦ h.alone u v r q k.0 j.0 same
        ]
      ];
      counted = len_insert_new held new.block false free ∙ ap (λ n. n + 1) h.counted
          ∙ sym (len_insert_new requests t new fresh);
    }

  module _ (t : ℕ) (old : Request) (is : finmap.get requests t ≡ Some old) where
    -- a request that is left has another block
    left : (u : ℕ) (r : Request) → finmap.get (finmap.remove requests t) u ≡ Some r
        → (finmap.get requests u ≡ Some r) × (r.block ≢ old.block)
    left u r e = let k = get_left requests t u r e in (k.1, λ same. k.0 (h.alone u t r old k.1 is same))

    pub Holds-ended : Holds (finmap.remove held old.block) (finmap.remove requests t)
    Holds-ended = record {
      held_is = λ u r e. (let k = left u r e in get-remove_there held old.block r.block k.1 ∙ h.held_is u r k.0);
      holder = λ b c e.
          let k = get_left held old.block b c e in
          let w = h.holder b c k.1 in
          let apart : w.0 ≢ t =
          λ same. k.0 (sym w.3 ∙ ap (λ (x : Request). x.block)
          (some_is w.1 old (finmap.get requests t) (ap (finmap.get requests) (sym same) ∙ w.2) is)) in
          (w.0, w.1, get-remove_there requests t w.0 apart ∙ w.2, w.3);
      alone = λ u v r q a b same. h.alone u v r q (left u r a).0 (left v q b).0 same;
      counted =
          let a = len_remove_old held old.block old.dropped (h.held_is t old is) in
          let b = len_remove_old requests t old is in
          let c = h.counted in
          omega arith;
    }
