-- How many entries a map has, and how many of its values pass a test, after a change of one.
use Rattle.std.proofs.Common.{◌≡◌, ℕ, ◌+◌, ◌-◌, ◌≤◌, Bool, true, false, cond, List, [], ◌∷◌, length, refl, ap, sym, ◌∙◌}
use Rattle.std.proofs.Common.{arith, Some, None, Option, is_some, option_map, nat_cmp}
use Rattle.std.specs.declared.cmp.Ordering.{Ordering}
use Rattle.std.specs.declared.cmp.Ordering.TheVariants.{Less, Equal, Greater}
use Rattle.std.specs.Cmp.{nat_cmp_total}
use Rattle.std.specs.FinMap as finmap
use Rattle.std.specs.FinMap.{FinMap, put, entries-insert, len-entries, len-insert, len-remove, len-empty}
use Rattle.std.specs.FinMap.Entries.{by_order}
use Rattle.std.proofs.lemmas.List.Sums.{sum_by-cons}
use Rattle.maps.specs.Maps.{change_at, each_value, put_some}
use Rattle.maps.proofs.Count.{count_of, count_le, count_lt, passing}
use Rattle.maps.proofs.Maps.{get_left, get-each_value}

module _ {X : Type 0} where
  all_pass : (es : List (ℕ × X)) → passing (λ (x : X). true) es ≡ length es
  all_pass [] = refl
  all_pass (e ∷ es) = let a = sum_by-cons (λ (x : ℕ × X). cond {A = ℕ} true 1 0) e es in let b = all_pass es in
      omega arith

  count_all : (m : FinMap nat_cmp X) → count_of (λ (x : X). true) m ≡ finmap.len m
  count_all m = all_pass (finmap.entries m) ∙ sym (len-entries m)

  pub len_le : (m n : FinMap nat_cmp X)
      → ((q : ℕ) (x : X) → finmap.get m q ≡ Some x → (y : X) × (finmap.get n q ≡ Some y)) → finmap.len m ≤ finmap.len n
  len_le m n h =
      let a = count_le (λ (x : X). true) (λ (x : X). true) m n (λ q x e t. let y = h q x e in (y.0, y.1, refl)) in
      let b = count_all m in let c = count_all n in omega arith

  pub len_put : (m : FinMap nat_cmp X) (k : ℕ) (x : X) → finmap.len (finmap.insert m k x) ≤ finmap.len m + 1
  len_put m k x = go (finmap.contains_key m k) (finmap.len (finmap.insert m k x)) (len-insert nat_cmp_total m k x)
    where
      go : (b : Bool) (n : ℕ) → n ≡ cond b (finmap.len m) (finmap.len m + 1) → n ≤ finmap.len m + 1
      go true n e = omega arith
      go false n e = omega arith

  pub len_put_there : (m : FinMap nat_cmp X) (k : ℕ) (x y : X) → finmap.get m k ≡ Some y
      → finmap.len (finmap.insert m k x) ≡ finmap.len m
  len_put_there m k x y e = len-insert nat_cmp_total m k x
      ∙ ap (λ o. cond (is_some o) (finmap.len m) (finmap.len m + 1)) e

  pub len_put_new : (m : FinMap nat_cmp X) (k : ℕ) (x : X) → finmap.get m k ≡ None
      → finmap.len (finmap.insert m k x) ≡ finmap.len m + 1
  len_put_new m k x e = len-insert nat_cmp_total m k x
      ∙ ap (λ o. cond (is_some o) (finmap.len m) (finmap.len m + 1)) e

  -- a value that is there is changed
  pub len_changed : (k : ℕ) (g : X → X) (m : FinMap nat_cmp X) → finmap.len (change_at k g m) ≡ finmap.len m
  len_changed k g m = go (finmap.get m k) refl
    where
      go : (o : Option X) → finmap.get m k ≡ o → finmap.len (put_some k (option_map g o) m) ≡ finmap.len m
      go None e = refl
      go (Some x) e = len_put_there m k (g x) x e

  pub len_gone : (m : FinMap nat_cmp X) (k : ℕ) → finmap.len (finmap.remove m k) ≤ finmap.len m
  len_gone m k = go (finmap.contains_key m k) (finmap.len (finmap.remove m k)) (len-remove nat_cmp_total m k)
    where
      go : (b : Bool) (n : ℕ) → n ≡ cond b (finmap.len m - 1) (finmap.len m) → n ≤ finmap.len m
      go true n e = omega arith
      go false n e = omega arith

  -- ---- how many values pass a test

  in_cons : (a : X → Bool) (e : ℕ × X) (es : List (ℕ × X)) → passing a (e ∷ es) ≡ cond (a e.1) 1 0 + passing a es
  in_cons a e es = sum_by-cons (λ (x : ℕ × X). cond {A = ℕ} (a x.1) 1 0) e es

  passing_put : (a : X → Bool) (k : ℕ) (v : X) (es : List (ℕ × X))
      → passing a (put nat_cmp k v es) ≤ passing a es + cond (a v) 1 0
  passing_put a k v [] = let c = in_cons a (k, v) [] in omega arith
  passing_put a k v (y ∷ es) = by_cmp (passing_put a k v es) (nat_cmp k y.0)
    where
      by_cmp : passing a (put nat_cmp k v es) ≤ passing a es + cond (a v) 1 0 → (o : Ordering)
          → passing a (by_order o ((k, v) ∷ y ∷ es) ((y.0, v) ∷ es) (y ∷ put nat_cmp k v es)) ≤ passing a (y ∷ es)
          + cond (a v) 1 0
      by_cmp rest Less = let c = in_cons a (k, v) (y ∷ es) in omega arith
      by_cmp rest Equal = let c = in_cons a (y.0, v) es in let d = in_cons a y es in omega arith
      by_cmp rest Greater = let c = in_cons a y (put nat_cmp k v es) in let d = in_cons a y es in omega arith

  pub count_put : (a : X → Bool) (m : FinMap nat_cmp X) (k : ℕ) (v : X)
      → count_of a (finmap.insert m k v) ≤ count_of a m + cond (a v) 1 0
  count_put a m k v = let e = ap (passing a) (entries-insert nat_cmp_total m k v) in
      let l = passing_put a k v (finmap.entries m) in omega arith

  pub count_empty : (a : X → Bool) → count_of a (finmap.empty {X = X} {R = nat_cmp}) ≡ 0
  count_empty a =
      let l = count_le a (λ (x : X). true) (finmap.empty {X = X} {R = nat_cmp}) (finmap.empty {X = X} {R = nat_cmp})
      (λ q x e t. (x, e, refl)) in
      let k = count_all (finmap.empty {X = X} {R = nat_cmp}) in
      let z = len-empty nat_cmp X in omega arith

  pub count_gone : (a : X → Bool) (m : FinMap nat_cmp X) (k : ℕ) → count_of a (finmap.remove m k) ≤ count_of a m
  count_gone a m k = count_le a a (finmap.remove m k) m (λ q x e t. (x, (get_left m k q x e).1, t))

  pub count_one_gone : (a : X → Bool) (m : FinMap nat_cmp X) (k : ℕ) (y : X) → finmap.get m k ≡ Some y → a y ≡ true
      → count_of a (finmap.remove m k) + 1 ≤ count_of a m
  count_one_gone a m k y is t =
      count_lt a a (finmap.remove m k) m k y (λ q x e t. let l = get_left m k q x e in (l.0, (x, l.1, t))) is t

  -- a value that is there is taken out
  pub len_one_gone : (m : FinMap nat_cmp X) (k : ℕ) (y : X) → finmap.get m k ≡ Some y
      → finmap.len m ≡ finmap.len (finmap.remove m k) + 1
  len_one_gone m k y is =
      let a = count_one_gone (λ (x : X). true) m k y is refl in
      let b = count_all m in
      let c = count_all (finmap.remove m k) in
      let d : finmap.len (finmap.remove m k) ≡ finmap.len m - 1 =
      len-remove nat_cmp_total m k ∙ ap (λ o. cond (is_some o) (finmap.len m - 1) (finmap.len m)) is in
      omega arith

  -- each value is changed, and only those pass that passed before
  pub count_each : (a b : X → Bool) (g : X → X) (m : FinMap nat_cmp X) → ((x : X) → a (g x) ≡ true → b x ≡ true)
      → count_of a (each_value (λ _. g) m) ≤ count_of b m
  count_each a b g m h = count_le a b (each_value (λ _. g) m) m
      (λ q x e t. go q x t (finmap.get m q) refl (sym (get-each_value (λ _. g) m q) ∙ e))
    where
      go : (q : ℕ) (x : X) → a x ≡ true → (o : Option X) → finmap.get m q ≡ o → option_map g o ≡ Some x
          → (y : X) × (finmap.get m q ≡ Some y) × (b y ≡ true)
      go q x t None k e = absurd cc
      go q x t (Some y) k e = let same : g y ≡ x = cc in (y, k, h y (ap a same ∙ t))
