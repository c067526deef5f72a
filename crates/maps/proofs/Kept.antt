-- The numbers of a range that pass a test, in order, and each beside an element of another list.
use Rattle.std.proofs.Common.{◌≡◌, ℕ, zero, suc, ◌+◌, ◌-◌, ◌<◌, ◌≤◌, Bool, true, false, cond, eqb, eq-eqb, leb, ltb}
use Rattle.std.proofs.Common.{List, [], ◌∷◌, length, get_or, refl, ap, sym, ◌∙◌, arith, inl, inr, ◌&&◌, ◌⊎◌, Some, None}
use Rattle.std.proofs.Common.{Option, filter, nat_cmp}
use Rattle.std.specs.List.{range_with_len, zip}
use Rattle.std.specs.Cmp.{unsigned_tied}
use Rattle.std.specs.FinMap.{find}
use Rattle.std.proofs.lemmas.Bool.Decides.{nat_tests}

-- those of the n numbers from a on that pass
abbrev pub kept : (ℕ → Bool) → ℕ → ℕ → List ℕ
kept keep a n = filter keep (range_with_len a n)

-- how many numbers from a on and below q pass
abbrev pub kept_below : (ℕ → Bool) → ℕ → ℕ → ℕ
kept_below keep a q = length (kept keep a (q - a))

-- ---- each element

pub record IsKept (keep : ℕ → Bool) (a e x : ℕ) : Type 0 where
  pub passes : keep x ≡ true
  pub from : a ≤ x
  pub below : x < e

one_lower : (keep : ℕ → Bool) (a e x : ℕ) → IsKept keep (a + 1) e x → IsKept keep a e x
one_lower keep a e x i = record { passes = i.passes; from = let l = i.from in omega arith; below = i.below }

kept_step : (keep : ℕ → Bool) (a e : ℕ) (rest : List ℕ) → a < e
    → ((j : ℕ) → j < length rest → IsKept keep (a + 1) e (get_or rest j 0)) → (b : Bool) → keep a ≡ b → (k : ℕ)
    → k < length (cond b (a ∷ rest) rest) → IsKept keep a e (get_or (cond b (a ∷ rest) rest) k 0)
kept_step keep a e rest h each true t zero l = record { passes = t; from = omega arith; below = h }
kept_step keep a e rest h each true t (suc k) l = one_lower keep a e (get_or rest k 0) (each k (omega arith))
kept_step keep a e rest h each false t k l = one_lower keep a e (get_or rest k 0) (each k l)

-- each passes, and is in the range
pub kept_at : (keep : ℕ → Bool) (a n e : ℕ) → a + n ≡ e → (k : ℕ) → k < length (kept keep a n)
    → IsKept keep a e (get_or (kept keep a n) k 0)
kept_at keep a zero e s k h = absurd (omega arith)
kept_at keep a (suc n) e s k h = kept_step keep a e (kept keep (a + 1) n) (omega arith)
    (λ j l. kept_at keep (a + 1) n e (omega arith) j l) (keep a) refl k h

rise_step : (keep : ℕ → Bool) (a : ℕ) (rest : List ℕ) → ((j : ℕ) → j < length rest → a < get_or rest j 0)
    → ((j k : ℕ) → j < k → k < length rest → get_or rest j 0 < get_or rest k 0) → (b : Bool) → (j k : ℕ) → j < k
    → k < length (cond b (a ∷ rest) rest) → get_or (cond b (a ∷ rest) rest) j 0 < get_or (cond b (a ∷ rest) rest) k 0
rise_step keep a rest first each true j zero l h = absurd (omega arith)
rise_step keep a rest first each true zero (suc k) l h = first k (omega arith)
rise_step keep a rest first each true (suc j) (suc k) l h = each j k (omega arith) (omega arith)
rise_step keep a rest first each false j k l h = each j k l h

-- a later one is greater
pub kept_rise : (keep : ℕ → Bool) (a n j k : ℕ) → j < k → k < length (kept keep a n)
    → get_or (kept keep a n) j 0 < get_or (kept keep a n) k 0
kept_rise keep a zero j k l h = absurd (omega arith)
kept_rise keep a (suc n) j k l h =
    rise_step keep a (kept keep (a + 1) n) (λ i m. let f = (kept_at keep (a + 1) n (a + 1 + n) refl i m).from in
    omega arith) (λ i m p q. kept_rise keep (a + 1) n i m p q) (keep a) j k l h

-- ---- how many pass

length_cond : (b : Bool) (a : ℕ) (rest : List ℕ)
    → length (cond b (a ∷ rest) rest) ≡ cond b (suc (length rest)) (length rest)
length_cond true a rest = refl
length_cond false a rest = refl

below_next : (keep : ℕ → Bool) (a q : ℕ) → a < q
    → kept_below keep a q ≡ cond (keep a) (suc (kept_below keep (a + 1) q)) (kept_below keep (a + 1) q)
below_next keep a q h = ap (λ k. length (kept keep a k)) (let e : q - a ≡ suc (q - (a + 1)) = omega arith in e)
    ∙ length_cond (keep a) a (kept keep (a + 1) (q - (a + 1)))

none_below : (keep : ℕ → Bool) (a q : ℕ) → q ≤ a → kept_below keep a q ≡ 0
none_below keep a q h = ap (λ k. length (kept keep a k)) (let e : q - a ≡ 0 = omega arith in e)

still_less : (b : Bool) (x y u v : ℕ) → x ≡ cond b (suc u) u → y ≡ cond b (suc v) v → u < v → x < y
still_less true x y u v e k h = omega arith
still_less false x y u v e k h = omega arith

one_counts : (b : Bool) (y v : ℕ) → b ≡ true → y ≡ cond b (suc v) v → 0 < y
one_counts true y v t e = omega arith
one_counts false y v t e = absurd cc

more_by : (keep : ℕ → Bool) (d a p q : ℕ) → a + d ≡ p → p < q → keep p ≡ true
    → kept_below keep a p < kept_below keep a q
more_by keep zero a p q s l t =
    let none = none_below keep a p (omega arith) in
    let some = one_counts (keep a) _ _ (ap keep (let e : a ≡ p = omega arith in e) ∙ t)
    (below_next keep a q (omega arith)) in omega arith
more_by keep (suc d) a p q s l t = still_less (keep a) _ _ _ _ (below_next keep a p (omega arith))
    (below_next keep a q (omega arith)) (more_by keep d (a + 1) p q (omega arith) l t)

-- more pass below q than below a number p that is below q and passes
pub kept_more : (keep : ℕ → Bool) (a p q : ℕ) → a ≤ p → p < q → keep p ≡ true
    → kept_below keep a p < kept_below keep a q
kept_more keep a p q h l t = more_by keep (p - a) a p q (omega arith) l t

pub kept_within : (keep : ℕ → Bool) (a n q : ℕ) → a ≤ q → q < a + n → keep q ≡ true
    → kept_below keep a q < length (kept keep a n)
kept_within keep a n q h l t =
    let more = kept_more keep a q (a + n) h l t in
    let all = ap (λ k. length (kept keep a k)) (let e : a + n - a ≡ n = omega arith in e) in omega arith

-- ---- each that passes, beside its own element of another list

abbrev Found : (ℕ → Bool) → ℕ → ℕ → List ℕ → ℕ → Option ℕ
Found keep a e bs q = cond (leb a q && ltb q e && keep q) (Some (get_or bs (kept_below keep a q) 0)) None

find_first : (a q b : ℕ) (es : List (ℕ × ℕ))
    → find nat_cmp q ((a, b) ∷ es) ≡ cond (eqb q a) (Some b) (find nat_cmp q es)
find_first a q b es = ap (λ k. cond k (Some b) (find nat_cmp q es)) (unsigned_tied q a)

-- below, at and past the first number of the range
three_ways : (a q : ℕ) → (q < a) ⊎ ((q ≡ a) ⊎ (a < q))
three_ways a q = grind arith

nothing_below : (keep : ℕ → Bool) (a e q : ℕ) (bs : List ℕ) → q < a → Found keep a e bs q ≡ None
nothing_below keep a e q bs h = ap (λ b. cond b (Some (get_or bs (kept_below keep a q) 0)) None)
    (let r : (leb a q && ltb q e && keep q) ≡ false = grind (arith, nat_tests) in r)

same_test : (keep : ℕ → Bool) (a e q : ℕ) → a < q
    → (leb (a + 1) q && ltb q e && keep q) ≡ (leb a q && ltb q e && keep q)
same_test keep a e q h = grind (arith, nat_tests)

differs : (a q : ℕ) → (a < q) ⊎ (q < a) → eqb q a ≡ false
differs a q h = grind (arith, nat_tests)

shifted : (keep : ℕ → Bool) (a q b : ℕ) (bs : List ℕ) → a < q → keep a ≡ true
    → get_or bs (kept_below keep (a + 1) q) 0 ≡ get_or (b ∷ bs) (kept_below keep a q) 0
shifted keep a q b bs h t =
    sym (ap (λ k. get_or (b ∷ bs) k 0)
    (below_next keep a q h ∙ ap (λ k. cond k (suc (kept_below keep (a + 1) q)) (kept_below keep (a + 1) q)) t))

first_found : (keep : ℕ → Bool) (a e b : ℕ) (bs : List ℕ) → a < e → keep a ≡ true → Found keep a e (b ∷ bs) a ≡ Some b
first_found keep a e b bs l t =
    (λ i. cond (let r : (leb a a && ltb a e && keep a) ≡ true = grind (arith, nat_tests) in r i)
    (Some (get_or (b ∷ bs) (none_below keep a a (omega arith) i) 0)) None)

at_passing : (keep : ℕ → Bool) (a e q b : ℕ) (bs : List ℕ) → a < e → keep a ≡ true
    → cond (eqb q a) (Some b) (Found keep (a + 1) e bs q) ≡ Found keep a e (b ∷ bs) q
at_passing keep a e q b bs l t = elim (three_ways a q) [
  | inl h ↦ (λ i. cond (differs a q (inr h) i) (Some b) (nothing_below keep (a + 1) e q bs (omega arith) i))
      ∙ sym (nothing_below keep a e q (b ∷ bs) h)
  | inr k ↦ elim k [
    | inl h ↦ ap (λ k. cond k (Some b) (Found keep (a + 1) e bs q)) (eq-eqb q a h)
        ∙ sym (ap (Found keep a e (b ∷ bs)) h ∙ first_found keep a e b bs l t)
    | inr h ↦ ap (λ k. cond k (Some b) (Found keep (a + 1) e bs q)) (differs a q (inl h))
        ∙ (λ i. cond (same_test keep a e q h i) (Some (shifted keep a q b bs h t i)) None)
  ]
]

at_failing : (keep : ℕ → Bool) (a e q : ℕ) (bs : List ℕ) → a < e → keep a ≡ false
    → Found keep (a + 1) e bs q ≡ Found keep a e bs q
at_failing keep a e q bs l t = elim (three_ways a q) [
  | inl h ↦ nothing_below keep (a + 1) e q bs (omega arith) ∙ sym (nothing_below keep a e q bs h)
  | inr k ↦ elim k [
    | inl h ↦ nothing_below keep (a + 1) e q bs (omega arith)
        ∙ sym (ap (λ b. cond b (Some (get_or bs (kept_below keep a q) 0)) None) (fails q h))
    | inr h ↦ (λ i. cond (same_test keep a e q h i)
        (Some (get_or bs (sym (below_next keep a q h
        ∙ ap (λ k. cond k (suc (kept_below keep (a + 1) q)) (kept_below keep (a + 1) q)) t) i) 0)) None)
  ]
]
  where
    fails : (q : ℕ) → q ≡ a → (leb a q && ltb q e && keep q) ≡ false
    fails q h = let n : keep q ≡ false = ap keep h ∙ t in grind (arith, nat_tests)

pair_step : (keep : ℕ → Bool) (a e q : ℕ) (rest : List ℕ) → a < e
    → ((bs : List ℕ) → length rest ≤ length bs → find nat_cmp q (zip rest bs) ≡ Found keep (a + 1) e bs q) → (k : Bool)
    → keep a ≡ k → (bs : List ℕ) → length (cond k (a ∷ rest) rest) ≤ length bs
    → find nat_cmp q (zip (cond k (a ∷ rest) rest) bs) ≡ Found keep a e bs q
pair_step keep a e q rest l each true t [] h = absurd (omega arith)
pair_step keep a e q rest l each true t (b ∷ bs) h = find_first a q b (zip rest bs)
    ∙ ap (cond (eqb q a) (Some b)) (each bs (omega arith)) ∙ at_passing keep a e q b bs l t
pair_step keep a e q rest l each false t bs h = each bs h ∙ at_failing keep a e q bs l t

pub find_kept : (keep : ℕ → Bool) (a n e q : ℕ) → a + n ≡ e → (bs : List ℕ) → length (kept keep a n) ≤ length bs
    → find nat_cmp q (zip (kept keep a n) bs) ≡ cond (leb a q && ltb q e && keep q)
    (Some (get_or bs (kept_below keep a q) 0)) None
find_kept keep a zero e q s bs h =
    sym (ap (λ b. cond b (Some (get_or bs (kept_below keep a q) 0)) None)
    (let r : (leb a q && ltb q e && keep q) ≡ false = grind (arith, nat_tests) in r))
find_kept keep a (suc n) e q s bs h = pair_step keep a e q (kept keep (a + 1) n) (omega arith)
    (λ cs l. find_kept keep (a + 1) n e q (omega arith) cs l) (keep a) refl bs h

-- ---- where all numbers from m on pass, and none below

kept_all : (keep : ℕ → Bool) (a n e : ℕ) → a + n ≡ e → ((b : ℕ) → a ≤ b → b < e → keep b ≡ true)
    → kept keep a n ≡ range_with_len a n
kept_all keep a zero e s h = refl
kept_all keep a (suc n) e s h = ap (λ b. cond b (a ∷ kept keep (a + 1) n) (kept keep (a + 1) n))
    (h a (omega arith) (omega arith))
    ∙ ap (λ (xs : List ℕ). a ∷ xs) (kept_all keep (a + 1) n e (omega arith) (λ b l m. h b (omega arith) m))

pub kept_from : (keep : ℕ → Bool) (m a n e : ℕ) → a + n ≡ e → a ≤ m → m ≤ e → ((b : ℕ) → b < e → keep b ≡ leb m b)
    → kept keep a n ≡ range_with_len m (e - m)
kept_from keep m a zero e s l k h = ap (range_with_len m) (let r : 0 ≡ e - m = omega arith in r)
kept_from keep m a (suc n) e s l k h = elim (three_ways m a) [
  | inl i ↦ ap (λ b. cond b (a ∷ kept keep (a + 1) n) (kept keep (a + 1) n))
      (h a (omega arith) ∙ (let r : leb m a ≡ false = grind (arith, nat_tests) in r))
      ∙ kept_from keep m (a + 1) n e (omega arith) (omega arith) k h
  | inr j ↦ (let i : a ≡ m = at_most m a l j in
      kept_all keep a (suc n) e s (λ b u v. h b v ∙ (let r : leb m b ≡ true = grind (arith, nat_tests) in r))
      ∙ (λ t. range_with_len (i t) (let r : suc n ≡ e - m = omega arith in r t)))
]
  where
    at_most : (m a : ℕ) → a ≤ m → (a ≡ m) ⊎ (m < a) → a ≡ m
    at_most m a l j = grind arith
