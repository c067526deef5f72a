-- How many entries of one map pass a test, against those of another.
use Rattle.std.proofs.Common.{◌≡◌, ◌≢◌, ℕ, ◌+◌, ◌≤◌, Bool, true, false, cond, eqb, eqb-true, eq-eqb, T, List, [], ◌∷◌}
use Rattle.std.proofs.Common.{refl, ap, sym, ◌∙◌, arith, Some, count_by, nat_cmp}
use Rattle.std.specs.Cmp.{unsigned_tied}
use Rattle.std.specs.FinMap as finmap
use Rattle.std.specs.FinMap.{FinMap, find, get-entries, entries_sorted}
use Rattle.std.specs.FinMap.Entries.{below_all, is_sorted}
use Rattle.std.proofs.lemmas.List.Sums.{sum_by-cons}
use Rattle.std.proofs.lemmas.Bool.Decides.{nat_tests}
use Rattle.maps.proofs.Found.{above, both_true}

-- one that passes counts for one
one_at : (b : Bool) → b ≡ true → cond {A = ℕ} b 1 0 ≡ 1
one_at true e = refl
one_at false e = absurd cc

none_at : (b : Bool) → b ≡ false → cond {A = ℕ} b 1 0 ≡ 0
none_at true e = absurd cc
none_at false e = refl

module _ {X : Type 0} where
  -- how many values pass
  abbrev pub passing : (X → Bool) → List (ℕ × X) → ℕ
  passing a es = count_by (λ (e : ℕ × X). a e.1) es

  passing-cons : (a : X → Bool) (e : ℕ × X) (es : List (ℕ × X)) → passing a (e ∷ es) ≡ cond (a e.1) 1 0 + passing a es
  passing-cons a e es = sum_by-cons (λ (x : ℕ × X). cond (a x.1) 1 0) e es

  -- the entries without the first one with the key
  drop_key : ℕ → List (ℕ × X) → List (ℕ × X)
  drop_key k [] = []
  drop_key k (e ∷ es) = cond (eqb k e.0) es (e ∷ drop_key k es)

  find-cons : (q : ℕ) (e : ℕ × X) (es : List (ℕ × X))
      → find nat_cmp q (e ∷ es) ≡ cond (eqb q e.0) (Some e.1) (find nat_cmp q es)
  find-cons q e es = ap (λ b. cond b (Some e.1) (find nat_cmp q es)) (unsigned_tied q e.0)

  passing-drop : (b : X → Bool) (k : ℕ) (y : X) (fs : List (ℕ × X)) → find nat_cmp k fs ≡ Some y → b y ≡ true
      → passing b fs ≡ passing b (drop_key k fs) + 1
  unfolding drop_key
  passing-drop b k y [] e t = absurd cc
  passing-drop b k y (x ∷ fs) e t =
      elim (eqb k x.0) as (λ c. cond c (Some x.1) (find nat_cmp k fs) ≡ Some y
      → passing b (x ∷ fs) ≡ passing b (cond c fs (x ∷ drop_key k fs)) + 1) [
        | true ↦ λ j. (let same : x.1 ≡ y = cc in let one = one_at (b x.1) (ap b same ∙ t) in
            let c = passing-cons b x fs in
            omega arith)
        | false ↦ λ j. (let rest = passing-drop b k y fs j t in let c = passing-cons b x fs in
            let d = passing-cons b x (drop_key k fs) in omega arith)
      ] (sym (find-cons k x fs) ∙ e)

  find-drop : (k q : ℕ) (fs : List (ℕ × X)) → q ≢ k → find nat_cmp q (drop_key k fs) ≡ find nat_cmp q fs
  unfolding drop_key
  find-drop k q [] n = refl
  find-drop k q (x ∷ fs) n =
      elim (eqb k x.0) as (λ c. eqb k x.0 ≡ c → find nat_cmp q (cond c fs (x ∷ drop_key k fs))
      ≡ find nat_cmp q (x ∷ fs)) [
        | true ↦ λ j. (let apart : eqb q x.0 ≡ false = (let s = eqb-true k x.0 j in grind (arith, nat_tests)) in
            sym (find-cons q x fs ∙ ap (λ c. cond c (Some x.1) (find nat_cmp q fs)) apart))
        | false ↦ λ j. find-cons q x (drop_key k fs) ∙ ap (λ o. cond (eqb q x.0) (Some x.1) o) (find-drop k q fs n)
            ∙ sym (find-cons q x fs)
      ] refl

  passing_le : (a b : X → Bool) (es fs : List (ℕ × X)) → T (is_sorted nat_cmp es)
      → ((q : ℕ) (x : X) → find nat_cmp q es ≡ Some x → a x ≡ true
      → (y : X) × (find nat_cmp q fs ≡ Some y) × (b y ≡ true)) → passing a es ≤ passing b fs
  passing_le a b [] fs s h = omega arith
  passing_le a b (e ∷ es) fs s h =
      let parts : T (below_all nat_cmp e.0 es) × T (is_sorted nat_cmp es) = both_true _ _ s in
      let later : (q : ℕ) (x : X) → find nat_cmp q es ≡ Some x
      → q ≢ e.0 = λ q x k same. (let l = above e.0 q x es parts.0 k in omega arith) in
      let there : (q : ℕ) (x : X) → find nat_cmp q es ≡ Some x → find nat_cmp q (e ∷ es) ≡ Some x =
      λ q x k. find-cons q e es ∙ ap (λ c. cond c (Some e.1) (find nat_cmp q es)) (apart q e.0 (later q x k)) ∙ k in
      elim (a e.1) as (λ c. a e.1 ≡ c → passing a (e ∷ es) ≤ passing b fs) [
        | true ↦ λ t.
            (let y =
            h e.0 e.1 (find-cons e.0 e es ∙ ap (λ c. cond c (Some e.1) (find nat_cmp e.0 es)) (eq-eqb e.0 e.0 refl))
            t in
            let rest =
            passing_le a b es (drop_key e.0 fs) parts.1
            (λ q x k j. let z = h q x (there q x k) j in (z.0, find-drop e.0 q fs (later q x k) ∙ z.1, z.2)) in
            let c = passing-cons a e es in
            let d = passing-drop b e.0 y.0 fs y.1 y.2 in
            let one = one_at (a e.1) t in omega arith)
        | false ↦ λ t.
            (let rest = passing_le a b es fs parts.1 (λ q x k j. h q x (there q x k) j) in
            let c = passing-cons a e es in
            let none = none_at (a e.1) t in omega arith)
      ] refl
    where
      apart : (q k : ℕ) → q ≢ k → eqb q k ≡ false
      apart q k n = grind (arith, nat_tests)

  passing_lt : (a b : X → Bool) (es fs : List (ℕ × X)) (k : ℕ) (y : X) → T (is_sorted nat_cmp es)
      → ((q : ℕ) (x : X) → find nat_cmp q es ≡ Some x → a x ≡ true
      → (q ≢ k) × ((z : X) × (find nat_cmp q fs ≡ Some z) × (b z ≡ true))) → find nat_cmp k fs ≡ Some y → b y ≡ true
      → passing a es + 1 ≤ passing b fs
  passing_lt a b es fs k y s h e t =
      let rest =
      passing_le a b es (drop_key k fs) s
      (λ q x j i. let z = h q x j i in (z.1.0, find-drop k q fs z.0 ∙ z.1.1, z.1.2)) in
      let d = passing-drop b k y fs e t in omega arith

  -- of maps
  abbrev pub count_of : (X → Bool) → FinMap nat_cmp X → ℕ
  count_of a m = passing a (finmap.entries m)

  pub count_le : (a b : X → Bool) (m n : FinMap nat_cmp X)
      → ((q : ℕ) (x : X) → finmap.get m q ≡ Some x → a x ≡ true → (y : X) × (finmap.get n q ≡ Some y) × (b y ≡ true))
      → count_of a m ≤ count_of b n
  count_le a b m n h = passing_le a b (finmap.entries m) (finmap.entries n) (entries_sorted m)
      (λ q x k j. let z = h q x (get-entries m q ∙ k) j in (z.0, sym (get-entries n q) ∙ z.1, z.2))

  pub count_lt : (a b : X → Bool) (m n : FinMap nat_cmp X) (k : ℕ) (y : X)
      → ((q : ℕ) (x : X) → finmap.get m q ≡ Some x → a x ≡ true
      → (q ≢ k) × ((z : X) × (finmap.get n q ≡ Some z) × (b z ≡ true))) → finmap.get n k ≡ Some y → b y ≡ true
      → count_of a m + 1 ≤ count_of b n
  count_lt a b m n k y h e t = passing_lt a b (finmap.entries m) (finmap.entries n) k y (entries_sorted m)
      (λ q x j i. let z = h q x (get-entries m q ∙ j) i in (z.0, (z.1.0, sym (get-entries n q) ∙ z.1.1, z.1.2)))
      (sym (get-entries n k) ∙ e) t
