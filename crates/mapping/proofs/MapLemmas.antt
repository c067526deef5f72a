-- Finite maps from numbers: equal maps, their entries changed one by one, searched and counted.
use Rattle.std.proofs.Common.{◌≡◌, ℕ, ◌+◌, ◌-◌, ◌<◌, ◌≤◌, Bool, true, false, cond, eqb, eqb-true, eq-eqb, T, List, [], ◌∷◌, length, refl, ap, sym, ◌∙◌, inl, inr, arith, map}
use Rattle.std.specs.Prelude.{◌&&◌, Option, Some, None, option_map, find, count_by}
use Rattle.std.specs.declared.cmp.Ordering.{Ordering}
use Rattle.std.specs.declared.cmp.Ordering.TheVariants.{Less, Equal, Greater}
use Rattle.std.specs.Ordering.{nat_cmp, eq_by_cmp, is_lt}
use Rattle.std.specs.Cmp.{nat_cmp_total, unsigned_tied}
use Rattle.std.specs.FinMap as finmap
use Rattle.std.specs.FinMap.{FinMap, put, get-entries, get-from_entries, entries-insert, entries_sorted, len-entries, len-empty, from_entries}
use Rattle.std.specs.FinMap.Entries.{below_all, is_sorted, by_order}
use Rattle.std.proofs.lemmas.Bool.{cases_eq}
use Rattle.std.proofs.lemmas.Option.{none-some}
use Rattle.std.proofs.lemmas.Bool.Decides.{nat_tests}
use Rattle.std.proofs.lemmas.List.Sums.{sum_by-cons, count_by-le-length}
use Rattle.maps.proofs.Found.{above}
pub use Rattle.maps.proofs.Found.{both_true, found, found_lowest, found_none}
pub use Rattle.maps.proofs.Lengths.{len_put_new as len_insert_new, len_put_there as len_insert_old, len_one_gone as len_remove_old}
pub use Rattle.maps.proofs.MapLaws.{same_nat_map}
pub use Rattle.maps.proofs.Maps.{get-insert_nat, get-remove_nat}

-- ---- tests

pub both_join : (a b : Bool) → T a → T b → T (a && b)
both_join true b p q = q
both_join false b p q = p

cmp_less : (a b : ℕ) → nat_cmp a b ≡ Less → a < b
cmp_less a b e = grind (arith, nat_tests)

cmp_equal : (a b : ℕ) → nat_cmp a b ≡ Equal → a ≡ b
cmp_equal a b e = grind (arith, nat_tests)

cmp_greater : (a b : ℕ) → nat_cmp a b ≡ Greater → b < a
cmp_greater a b e = grind (arith, nat_tests)

apart : (a b : ℕ) → (a ≡ b → ⊥) → eqb a b ≡ false
apart a b h = grind (arith, nat_tests)

none_at_zero : {A : Type 0} (es : List A) → length es ≡ 0 → es ≡ []
none_at_zero [] e = refl
none_at_zero (x ∷ es) e = absurd (omega arith)

-- 1 where a test holds
abbrev pub bit : Bool → ℕ
bit b = cond b 1 0

-- ---- equal maps

module _ {X : Type 0} where
  pub get-insert_here : (m : FinMap nat_cmp X) (k : ℕ) (x : X) (q : ℕ) → q ≡ k → finmap.get (finmap.insert m k x) q ≡ Some x
  get-insert_here m k x q e = get-insert_nat m k x q ∙ ap (λ b. cond b (Some x) (finmap.get m q)) (eq-eqb q k e)

  pub get-insert_there : (m : FinMap nat_cmp X) (k : ℕ) (x : X) (q : ℕ) → (q ≡ k → ⊥) → finmap.get (finmap.insert m k x) q ≡ finmap.get m q
  get-insert_there m k x q n = get-insert_nat m k x q ∙ ap (λ b. cond b (Some x) (finmap.get m q)) (apart q k n)

  pub get-remove_here : (m : FinMap nat_cmp X) (k q : ℕ) → q ≡ k → finmap.get (finmap.remove m k) q ≡ None
  get-remove_here m k q e = get-remove_nat m k q ∙ ap (λ b. cond b None (finmap.get m q)) (eq-eqb q k e)

  pub get-remove_there : (m : FinMap nat_cmp X) (k q : ℕ) → (q ≡ k → ⊥) → finmap.get (finmap.remove m k) q ≡ finmap.get m q
  get-remove_there m k q n = get-remove_nat m k q ∙ ap (λ b. cond b None (finmap.get m q)) (apart q k n)

  -- where no entry is, there is nothing to remove
  pub remove_absent : (m : FinMap nat_cmp X) (k : ℕ) → finmap.get m k ≡ None → finmap.remove m k ≡ m
  remove_absent m k none = same_nat_map _ _ (λ q. elim (cases_eq q k) [
    | inl e ↦ get-remove_here m k q e ∙ sym (ap (finmap.get m) e ∙ none)
    | inr n ↦ get-remove_there m k q n
  ])

  -- an entry that was removed and is put back
  pub insert-remove : (m : FinMap nat_cmp X) (k : ℕ) (x : X) → finmap.get m k ≡ Some x → finmap.insert (finmap.remove m k) k x ≡ m
  insert-remove m k x some = same_nat_map _ _ (λ q. elim (cases_eq q k) [
    | inl e ↦ get-insert_here (finmap.remove m k) k x q e ∙ sym (ap (finmap.get m) e ∙ some)
    | inr n ↦ get-insert_there (finmap.remove m k) k x q n ∙ get-remove_there m k q n
  ])

  -- an entry that is put where it stands
  pub insert_same : (m : FinMap nat_cmp X) (k : ℕ) (x : X) → finmap.get m k ≡ Some x → finmap.insert m k x ≡ m
  insert_same m k x some = same_nat_map _ _ (λ q. elim (cases_eq q k) [
    | inl e ↦ get-insert_here m k x q e ∙ sym (ap (finmap.get m) e ∙ some)
    | inr n ↦ get-insert_there m k x q n
  ])

-- ---- the entries of a map

-- what holds of each entry
abbrev pub AllEntries : {X : Type 0} → (ℕ × X → Type 0) → List (ℕ × X) → Type 0
AllEntries P [] = Unit {0}
AllEntries P (e ∷ es) = P e × AllEntries P es

module _ {X : Type 0} where
  find_here : (e : ℕ × X) (es : List (ℕ × X)) → finmap.find nat_cmp e.0 (e ∷ es) ≡ Some e.1
  find_here e es = ap (λ b. cond b (Some e.1) (finmap.find nat_cmp e.0 es)) (unsigned_tied e.0 e.0 ∙ eq-eqb e.0 e.0 refl)

  find_later : (q : ℕ) (e : ℕ × X) (es : List (ℕ × X)) → (q ≡ e.0 → ⊥) → finmap.find nat_cmp q (e ∷ es) ≡ finmap.find nat_cmp q es
  find_later q e es n = ap (λ b. cond b (Some e.1) (finmap.find nat_cmp q es)) (unsigned_tied q e.0 ∙ apart q e.0 n)

  -- a fact on what a map has is a fact on each entry
  all_in : (P : ℕ × X → Type 0) (es : List (ℕ × X)) → T (is_sorted nat_cmp es) → ((e : ℕ × X) → finmap.find nat_cmp e.0 es ≡ Some e.1 → P e) → AllEntries P es
  all_in P [] h each = tt
  all_in P (y ∷ es) h each =
      let parts = both_true _ _ h in (
        each y (find_here y es),
        all_in P es parts.1 (λ e at.
            let l = above y.0 e.0 e.1 es parts.0 at in
            each e (find_later e.0 y es (λ same. omega (arith, same, l)) ∙ at)),
      )

  pub all_entries : (P : ℕ × X → Type 0) (m : FinMap nat_cmp X) → ((q : ℕ) (x : X) → finmap.get m q ≡ Some x → P (q, x)) → AllEntries P (finmap.entries m)
  all_entries P m each = all_in P (finmap.entries m) (entries_sorted m) (λ e at. each e.0 e.1 (get-entries m e.0 ∙ at))

  find-alike : (p q : ℕ × X → Bool) (es : List (ℕ × X)) → AllEntries (λ e. p e ≡ q e) es → find p es ≡ find q es
  find-alike p q [] h = refl
  find-alike p q (e ∷ es) h = λ i. cond (h.0 i) (Some e) (find-alike p q es h.1 i)

  -- two tests that answer alike at each entry find the same
  pub find_same : (p q : ℕ × X → Bool) (m : FinMap nat_cmp X) → ((k : ℕ) (x : X) → finmap.get m k ≡ Some x → p (k, x) ≡ q (k, x)) → find p (finmap.entries m) ≡ find q (finmap.entries m)
  find_same p q m alike = find-alike p q (finmap.entries m) (all_entries (λ e. p e ≡ q e) m alike)

  count-alike : (p q : ℕ × X → Bool) (es : List (ℕ × X)) → AllEntries (λ e. p e ≡ q e) es → count_by p es ≡ count_by q es
  count-alike p q [] h = refl
  count-alike p q (e ∷ es) h = sum_by-cons (λ x. bit (p x)) e es ∙ (λ i. bit (h.0 i) + count-alike p q es h.1 i) ∙ sym (sum_by-cons (λ x. bit (q x)) e es)

  -- and count the same
  pub count_same : (p q : ℕ × X → Bool) (m : FinMap nat_cmp X) → ((k : ℕ) (x : X) → finmap.get m k ≡ Some x → p (k, x) ≡ q (k, x)) → count_by p (finmap.entries m) ≡ count_by q (finmap.entries m)
  count_same p q m alike = count-alike p q (finmap.entries m) (all_entries (λ e. p e ≡ q e) m alike)

  find-key : (k : ℕ) (es : List (ℕ × X)) → find (λ e. eqb k e.0) es ≡ option_map (λ x. (k, x)) (finmap.find nat_cmp k es)
  find-key k [] = refl
  find-key k (e ∷ es) = elim (cases_eq k e.0) [
    | inl n ↦ ap (λ b. cond b (Some e) (find (λ e. eqb k e.0) es)) (eq-eqb k e.0 n) ∙ ap (λ z. Some (z, e.1)) (sym n) ∙ sym (ap (option_map (λ x. (k, x))) (ap (λ z. finmap.find nat_cmp z (e ∷ es)) n ∙ find_here e es))
    | inr n ↦ ap (λ b. cond b (Some e) (find (λ e. eqb k e.0) es)) (apart k e.0 n) ∙ find-key k es ∙ sym (ap (option_map (λ x. (k, x))) (find_later k e es n))
  ]

  pub find_key : (m : FinMap nat_cmp X) (k : ℕ) → find (λ e. eqb k e.0) (finmap.entries m) ≡ option_map (λ x. (k, x)) (finmap.get m k)
  find_key m k = find-key k (finmap.entries m) ∙ ap (option_map (λ x. (k, x))) (sym (get-entries m k))

  count-none : (es : List (ℕ × X)) → count_by (λ _. false) es ≡ 0
  count-none [] = refl
  count-none (e ∷ es) = sum_by-cons (λ x. bit false) e es ∙ ap (λ n. 0 + n) (count-none es)

  -- a test that no entry passes
  pub count_none : (p : ℕ × X → Bool) (m : FinMap nat_cmp X) → ((k : ℕ) (x : X) → finmap.get m k ≡ Some x → p (k, x) ≡ false) → count_by p (finmap.entries m) ≡ 0
  count_none p m never = count_same p (λ _. false) m never ∙ count-none (finmap.entries m)

  -- ---- how many entries

  short : (n low : ℕ) (es : List (ℕ × X)) → T (is_sorted nat_cmp es) → ((q : ℕ) (x : X) → finmap.find nat_cmp q es ≡ Some x → (low ≤ q) × (q < n)) → length es ≤ n - low
  short n low [] h within = omega arith
  short n low (y ∷ es) h within =
      let parts = both_true _ _ h in
      let first = within y.0 y.1 (find_here y es) in
      let rest = short n (y.0 + 1) es parts.1 (λ q x at.
      let l = above y.0 q x es parts.0 at in
      let w = within q x (find_later q y es (λ same. omega (arith, same, l)) ∙ at) in
      (omega (arith, l), w.1)) in
      omega (arith, first.0, first.1, rest)

  -- a map with keys below n has at most n entries
  pub len-le : (n : ℕ) (m : FinMap nat_cmp X) → ((q : ℕ) (x : X) → finmap.get m q ≡ Some x → q < n) → finmap.len m ≤ n
  len-le n m below =
      let l = short n 0 (finmap.entries m) (entries_sorted m) (λ q x at. (omega arith, below q x (get-entries m q ∙ at))) in
      omega (arith, len-entries m, l)

  pub count-le-len : (p : ℕ × X → Bool) (m : FinMap nat_cmp X) → count_by p (finmap.entries m) ≤ finmap.len m
  count-le-len p m = omega (arith, count_by-le-length p (finmap.entries m), len-entries m)

  -- ---- a count after one change

  -- whether the entry at a key, where there is one, passes
  abbrev pub taken : (ℕ × X → Bool) → ℕ → Option X → ℕ
  taken p k None = 0
  taken p k (Some x) = bit (p (k, x))

  none_below : (x q : ℕ) (es : List (ℕ × X)) → T (below_all nat_cmp x es) → q ≤ x → finmap.find nat_cmp q es ≡ None
  none_below x q [] h l = refl
  none_below x q (y ∷ es) h l =
      let parts = both_true _ _ h in
      let m = above x y.0 y.1 (y ∷ es) h (find_here y es) in
      find_later q y es (λ same. omega (arith, same, m, l)) ∙ none_below x q es parts.1 l

  count_put : (p : ℕ × X → Bool) (k : ℕ) (v : X) (es : List (ℕ × X)) → T (is_sorted nat_cmp es) → count_by p (put nat_cmp k v es) + taken p k (finmap.find nat_cmp k es) ≡ count_by p es + bit (p (k, v))
  count_put p k v [] h = omega (arith, sum_by-cons (λ x. bit (p x)) (k, v) [])
  count_put p k v (e ∷ es) h =
      let parts = both_true _ _ h in
      let f : ℕ × X → ℕ = λ x. bit (p x) in
      let whole = sum_by-cons f e es in
      elim (nat_cmp k e.0) as (λ o. nat_cmp k e.0 ≡ o → count_by p (by_order o ((k, v) ∷ e ∷ es) ((e.0, v) ∷ es) (e ∷ put nat_cmp k v es)) + taken p k (finmap.find nat_cmp k (e ∷ es)) ≡ count_by p (e ∷ es) + bit (p (k, v))) [
        | Less ↦ λ o. (
            let l = cmp_less k e.0 o in
            let none : finmap.find nat_cmp k (e ∷ es) ≡ None = find_later k e es (λ same. omega (arith, same, l)) ∙ none_below e.0 k es parts.0 (omega (arith, l)) in
            ap (λ z. count_by p ((k, v) ∷ e ∷ es) + taken p k z) none ∙ omega (arith, sum_by-cons f (k, v) (e ∷ es))
            )
        | Equal ↦ λ o. (
            let same = cmp_equal k e.0 o in
            let some : finmap.find nat_cmp k (e ∷ es) ≡ Some e.1 = ap (λ z. finmap.find nat_cmp z (e ∷ es)) same ∙ find_here e es in
            let here : taken p k (finmap.find nat_cmp k (e ∷ es)) ≡ bit (p e) = ap (taken p k) some ∙ ap (λ z. bit (p (z, e.1))) same in
            let new : bit (p (e.0, v)) ≡ bit (p (k, v)) = ap (λ z. bit (p (z, v))) (sym same) in
            omega (arith, sum_by-cons f (e.0, v) es, whole, here, new)
            )
        | Greater ↦ λ o. (
            let l = cmp_greater k e.0 o in
            let same : taken p k (finmap.find nat_cmp k (e ∷ es)) ≡ taken p k (finmap.find nat_cmp k es) = ap (taken p k) (find_later k e es (λ s. omega (arith, s, l))) in
            omega (arith, sum_by-cons f e (put nat_cmp k v es), whole, same, count_put p k v es parts.1)
            )
      ] refl

  pub count_insert : (p : ℕ × X → Bool) (m : FinMap nat_cmp X) (k : ℕ) (v : X) → count_by p (finmap.entries (finmap.insert m k v)) + taken p k (finmap.get m k) ≡ count_by p (finmap.entries m) + bit (p (k, v))
  count_insert p m k v =
      (λ i. count_by p (entries-insert nat_cmp_total m k v i) + taken p k (get-entries m k i)) ∙ count_put p k v (finmap.entries m) (entries_sorted m)

  pub count_remove : (p : ℕ × X → Bool) (m : FinMap nat_cmp X) (k : ℕ) (x : X) → finmap.get m k ≡ Some x → count_by p (finmap.entries m) ≡ count_by p (finmap.entries (finmap.remove m k)) + bit (p (k, x))
  count_remove p m k x some =
      let back = ap (λ n. count_by p (finmap.entries n)) (insert-remove m k x some) in
      let none = ap (taken p k) (get-remove_here m k k refl) in
      omega (arith, back, none, count_insert p (finmap.remove m k) k x)

  -- one more entry passes another test
  pub count_one_more : (p q : ℕ × X → Bool) (m : FinMap nat_cmp X) (k : ℕ) (x : X) → finmap.get m k ≡ Some x → p (k, x) ≡ false → q (k, x) ≡ true → ((j : ℕ) (y : X) → (j ≡ k → ⊥) → finmap.get m j ≡ Some y → p (j, y) ≡ q (j, y)) → count_by q (finmap.entries m) ≡ count_by p (finmap.entries m) + 1
  count_one_more p q m k x some fails passes alike =
      let rest = count_same p q (finmap.remove m k) (λ j y at. elim (cases_eq j k) [
        | inl e ↦ absurd (none-some y (sym (get-remove_here m k j e) ∙ at))
        | inr n ↦ alike j y n (sym (get-remove_there m k j n) ∙ at)
      ]) in
      let before : bit (p (k, x)) ≡ 0 = ap bit fails in
      let after : bit (q (k, x)) ≡ 1 = ap bit passes in
      omega (arith, rest, before, after, count_remove p m k x some, count_remove q m k x some)

-- ---- a map made of its entries

module _ {Y : Type 0} where
  put_first : (k : ℕ) (v : Y) (es : List (ℕ × Y)) → T (below_all nat_cmp k es) → put nat_cmp k v es ≡ (k, v) ∷ es
  put_first k v [] h = refl
  put_first k v (y ∷ es) h = go (nat_cmp k y.0) (both_true _ _ h).0
    where
      go : (o : Ordering) → T (is_lt o) → by_order o ((k, v) ∷ y ∷ es) ((y.0, v) ∷ es) (y ∷ put nat_cmp k v es) ≡ (k, v) ∷ y ∷ es
      go Less h = refl
      go Equal h = absurd h
      go Greater h = absurd h

  -- entries in order are those of the map that they make
  pub entries-from_entries : (es : List (ℕ × Y)) → T (is_sorted nat_cmp es) → finmap.entries (from_entries {R = nat_cmp} es) ≡ es
  entries-from_entries [] h = none_at_zero (finmap.entries (finmap.empty {X = Y} {R = nat_cmp})) (sym (len-entries (finmap.empty {X = Y} {R = nat_cmp})) ∙ len-empty nat_cmp Y)
  entries-from_entries (e ∷ es) h =
      let parts = both_true _ _ h in
      entries-insert nat_cmp_total (from_entries es) e.0 e.1 ∙ ap (put nat_cmp e.0 e.1) (entries-from_entries es parts.1) ∙ put_first e.0 e.1 es parts.0

-- ---- each value of a map changed

module _ {X Y : Type 0} (f : ℕ × X → Y) where
  abbrev pub each : List (ℕ × X) → List (ℕ × Y)
  each es = map (λ (e : ℕ × X). (e.0, f e)) es

  below-each : (k : ℕ) (es : List (ℕ × X)) → T (below_all nat_cmp k es) → T (below_all nat_cmp k (each es))
  below-each k [] h = tt
  below-each k (y ∷ es) h = let parts = both_true _ _ h in both_join _ _ parts.0 (below-each k es parts.1)

  sorted-each : (es : List (ℕ × X)) → T (is_sorted nat_cmp es) → T (is_sorted nat_cmp (each es))
  sorted-each [] h = tt
  sorted-each (y ∷ es) h = let parts = both_true _ _ h in both_join _ _ (below-each y.0 es parts.0) (sorted-each es parts.1)

  pub entries-each : (m : FinMap nat_cmp X) → finmap.entries (from_entries {R = nat_cmp} (each (finmap.entries m))) ≡ each (finmap.entries m)
  entries-each m = entries-from_entries _ (sorted-each (finmap.entries m) (entries_sorted m))

  find-each : (q : ℕ) (es : List (ℕ × X)) → finmap.find nat_cmp q (each es) ≡ option_map (λ x. f (q, x)) (finmap.find nat_cmp q es)
  find-each q [] = refl
  find-each q (e ∷ es) = elim (eq_by_cmp nat_cmp q e.0) as (λ b. eq_by_cmp nat_cmp q e.0 ≡ b → cond b (Some (f e)) (finmap.find nat_cmp q (each es)) ≡ option_map (λ x. f (q, x)) (cond b (Some e.1) (finmap.find nat_cmp q es))) [
    | true ↦ λ t. ap (λ z. Some (f (z, e.1))) (sym (eqb-true q e.0 (sym (unsigned_tied q e.0) ∙ t)))
    | false ↦ λ t. find-each q es
  ] refl

  pub get-each : (m : FinMap nat_cmp X) (q : ℕ) → finmap.get (from_entries {R = nat_cmp} (each (finmap.entries m))) q ≡ option_map (λ x. f (q, x)) (finmap.get m q)
  get-each m q = get-from_entries nat_cmp_total (each (finmap.entries m)) q ∙ find-each q (finmap.entries m) ∙ ap (option_map (λ x. f (q, x))) (sym (get-entries m q))

  first-each : (test : ℕ × Y → Bool) (es : List (ℕ × X)) → find test (each es) ≡ option_map (λ e. (e.0, f e)) (find (λ e. test (e.0, f e)) es)
  first-each test [] = refl
  first-each test (e ∷ es) = elim (test (e.0, f e)) as (λ b. cond b (Some (e.0, f e)) (find test (each es)) ≡ option_map (λ e. (e.0, f e)) (cond b (Some e) (find (λ e. test (e.0, f e)) es))) [ true ↦ refl | false ↦ first-each test es ]

  -- the lowest entry that passes a test
  pub find_each : (test : ℕ × Y → Bool) (m : FinMap nat_cmp X) → find test (finmap.entries (from_entries {R = nat_cmp} (each (finmap.entries m)))) ≡ option_map (λ e. (e.0, f e)) (find (λ e. test (e.0, f e)) (finmap.entries m))
  find_each test m = ap (find test) (entries-each m) ∙ first-each test (finmap.entries m)
