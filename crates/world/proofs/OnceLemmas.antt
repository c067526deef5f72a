-- Entries in a list, each key once, and the finite map that they make.
use Rattle.std.proofs.Common.{◌≡◌, ℕ, zero, suc, ◌<◌, ◌+◌, Bool, true, false, cond, eqb, eqb-true, eq-eqb, List, []}
use Rattle.std.proofs.Common.{◌∷◌, ◌++◌, length, get_or, refl, ap, sym, ◌∙◌, arith}
use Rattle.std.specs.Prelude.{Some, None, is_some, remove}
use Rattle.std.specs.Ordering.{nat_cmp}
use Rattle.std.specs.Cmp.{nat_cmp_total, unsigned_tied}
use Rattle.std.specs.FinMap as finmap
use Rattle.std.specs.FinMap.{from_entries, find, nat_cmp-IsAntisymmetric, from_entries_push, get-from_entries}
use Rattle.std.specs.FinMap.{len-insert, len-empty}
use Rattle.world.specs.Flights.{EachOnce}
use Rattle.machine.proofs.steps.Choices.{if_none}
use Rattle.maps.proofs.MapLaws.{same_nat_map}
use Rattle.maps.proofs.Maps.{get-remove_nat}

pub seek_first : {X : Type 0} (q : ℕ) (e : ℕ × X) (es : List (ℕ × X))
    → find nat_cmp q (e ∷ es) ≡ cond (eqb q e.0) (Some e.1) (find nat_cmp q es)
seek_first q e es = ap (λ b. cond b (Some e.1) (find nat_cmp q es)) (unsigned_tied q e.0)

pub none_rest : {X : Type 0} (q : ℕ) (e : ℕ × X) (es : List (ℕ × X)) → find nat_cmp q (e ∷ es) ≡ None
    → (eqb q e.0 ≡ false) × (find nat_cmp q es ≡ None)
none_rest q e es h = if_none (eqb q e.0) e.1 (find nat_cmp q es) (sym (seek_first q e es) ∙ h)

other : (a b : ℕ) → eqb a b ≡ false → eqb b a ≡ false
other a b h = go (eqb b a) refl
  where
    go : (c : Bool) → eqb b a ≡ c → c ≡ false
    go false e = refl
    go true e = let k = eqb-true b a e in let l = eq-eqb a b (sym k) in absurd (let x = sym l ∙ h in cc)

module _ {X : Type 0} where
  -- ---- a new entry at the end

  seek_push : (q : ℕ) (es : List (ℕ × X)) (k : ℕ) (v : X) → find nat_cmp q es ≡ None → eqb q k ≡ false
      → find nat_cmp q (es ++ (k, v) ∷ []) ≡ None
  seek_push q [] k v h n = seek_first q (k, v) [] ∙ ap (λ b. cond b (Some v) None) n
  seek_push q (e ∷ es) k v h n = let r = none_rest q e es h in seek_first q e (es ++ (k, v) ∷ [])
      ∙ ap (λ b. cond b (Some e.1) (find nat_cmp q (es ++ (k, v) ∷ []))) r.0 ∙ seek_push q es k v r.1 n

  pub once_push : (es : List (ℕ × X)) (k : ℕ) (v : X) → EachOnce es → find nat_cmp k es ≡ None
      → EachOnce (es ++ (k, v) ∷ [])
  once_push [] k v o h = (refl, tt)
  once_push (e ∷ es) k v o h = let r = none_rest k e es h in
      (seek_push e.0 es k v o.0 (other k e.0 r.0), once_push es k v o.1 r.1)

  pub push_inserts : (es : List (ℕ × X)) (k : ℕ) (v : X) → find nat_cmp k es ≡ None
      → from_entries {R = nat_cmp} (es ++ (k, v) ∷ []) ≡ finmap.insert (from_entries es) k v
  push_inserts es k v h = from_entries_push nat_cmp_total nat_cmp-IsAntisymmetric es k v h

  pub len_once : (es : List (ℕ × X)) → EachOnce es → length es ≡ finmap.len (from_entries {R = nat_cmp} es)
  len_once [] o = sym (len-empty nat_cmp X)
  len_once (e ∷ es) o =
      let absent : is_some (finmap.get (from_entries {R = nat_cmp} es) e.0) ≡ false =
      ap is_some (get-from_entries nat_cmp_total es e.0 ∙ o.0) in
      let more : finmap.len (from_entries {R = nat_cmp} (e ∷ es)) ≡ finmap.len (from_entries {R = nat_cmp} es) + 1 =
      len-insert nat_cmp_total (from_entries es) e.0 e.1
      ∙ ap (λ b. cond b (finmap.len (from_entries {R = nat_cmp} es))
      (finmap.len (from_entries {R = nat_cmp} es) + 1)) absent in
      omega (arith, len_once es o.1, more)

  -- ---- an entry is taken out

  apart : (q : ℕ) (es : List (ℕ × X)) (i : ℕ) (d : ℕ × X) → i < length es → find nat_cmp q es ≡ None
      → eqb q (get_or es i d).0 ≡ false
  apart q [] i d h n = absurd (omega arith)
  apart q (e ∷ es) zero d h n = (none_rest q e es n).0
  apart q (e ∷ es) (suc i) d h n = apart q es i d (omega arith) (none_rest q e es n).1

  none_remove : (q : ℕ) (es : List (ℕ × X)) (i : ℕ) → i < length es → find nat_cmp q es ≡ None
      → find nat_cmp q (remove es i) ≡ None
  none_remove q [] i h n = absurd (omega arith)
  none_remove q (e ∷ es) zero h n = (none_rest q e es n).1
  none_remove q (e ∷ es) (suc i) h n = let r = none_rest q e es n in seek_first q e (remove es i)
      ∙ ap (λ b. cond b (Some e.1) (find nat_cmp q (remove es i))) r.0 ∙ none_remove q es i (omega arith) r.1

  pub once_remove : (es : List (ℕ × X)) (i : ℕ) → i < length es → EachOnce es → EachOnce (remove es i)
  once_remove [] i h o = absurd (omega arith)
  once_remove (e ∷ es) zero h o = o.1
  once_remove (e ∷ es) (suc i) h o = (none_remove e.0 es i (omega arith) o.0, once_remove es i (omega arith) o.1)

  -- the entry at i is found by its key
  pub seek_at : (es : List (ℕ × X)) (i : ℕ) (d : ℕ × X) → i < length es → EachOnce es
      → find nat_cmp (get_or es i d).0 es ≡ Some (get_or es i d).1
  seek_at [] i d h o = absurd (omega arith)
  seek_at (e ∷ es) zero d h o = seek_first e.0 e es
      ∙ ap (λ b. cond b (Some e.1) (find nat_cmp e.0 es)) (eq-eqb e.0 e.0 refl)
  seek_at (e ∷ es) (suc i) d h o =
      seek_first (get_or es i d).0 e es
      ∙ ap (λ b. cond b (Some e.1) (find nat_cmp (get_or es i d).0 es))
      (other e.0 (get_or es i d).0 (apart e.0 es i d (omega arith) o.0)) ∙ seek_at es i d (omega arith) o.1

  seek_remove : (es : List (ℕ × X)) (i : ℕ) (d : ℕ × X) (q : ℕ) → i < length es → EachOnce es
      → find nat_cmp q (remove es i) ≡ cond (eqb q (get_or es i d).0) None (find nat_cmp q es)
  seek_remove [] i d q h o = absurd (omega arith)
  seek_remove (e ∷ es) zero d q h o = go (eqb q e.0) refl ∙ ap (cond (eqb q e.0) None) (sym (seek_first q e es))
    where
      go : (b : Bool) → eqb q e.0 ≡ b → find nat_cmp q es ≡ cond b None (cond b (Some e.1) (find nat_cmp q es))
      go true t = ap (λ k. find nat_cmp k es) (eqb-true q e.0 t) ∙ o.0
      go false t = refl
  seek_remove (e ∷ es) (suc i) d q h o = seek_first q e (remove es i)
      ∙ go (seek_remove es i d q (omega arith) o.1) (eqb q e.0) refl
      ∙ ap (cond (eqb q (get_or es i d).0) None) (sym (seek_first q e es))
    where
      go : find nat_cmp q (remove es i) ≡ cond (eqb q (get_or es i d).0) None (find nat_cmp q es) → (b : Bool)
          → eqb q e.0 ≡ b → cond b (Some e.1) (find nat_cmp q (remove es i)) ≡ cond (eqb q (get_or es i d).0) None
          (cond b (Some e.1) (find nat_cmp q es))
      go rest true t =
          sym (ap (λ c. cond c None (Some e.1)) (ap (λ k. eqb k (get_or es i d).0) (eqb-true q e.0 t)
          ∙ apart e.0 es i d (omega arith) o.0))
      go rest false t = rest

  pub remove_removes : (es : List (ℕ × X)) (i : ℕ) (d : ℕ × X) → i < length es → EachOnce es
      → from_entries {R = nat_cmp} (remove es i) ≡ finmap.remove (from_entries es) (get_or es i d).0
  remove_removes es i d h o =
      same_nat_map _ _ (λ q. get-from_entries nat_cmp_total (remove es i) q ∙ seek_remove es i d q h o
      ∙ ap (cond (eqb q (get_or es i d).0) None) (sym (get-from_entries nat_cmp_total es q))
      ∙ sym (get-remove_nat (from_entries es) (get_or es i d).0 q))
