-- Pages that are accessed one after the other.
use Rattle.std.proofs.Common.{◌≡◌, ℕ, zero, suc, ◌+◌, ◌-◌, ◌<◌, ◌≤◌, Bool, true, false, cond, List, [], ◌∷◌, ◌++◌}
use Rattle.std.proofs.Common.{length, refl, ap, sym, ◌∙◌, arith}
use Rattle.std.specs.Prelude.{◌&&◌, filter, nat_lt, take, slice_index_or}
use Rattle.std.specs.List.{range_with_len}
use Rattle.std.proofs.lemmas.Bool.Decides.{nat_tests}
use Rattle.machine.specs.PageLists.{PageLists, accessed, each_accessed, flagged}

pub each_accessed-append : (f : ℕ) (ps qs : List ℕ) (l : PageLists)
    → each_accessed f (ps ++ qs) l ≡ each_accessed f qs (each_accessed f ps l)
each_accessed-append f [] qs l = refl
each_accessed-append f (p ∷ ps) qs l = each_accessed-append f ps qs (accessed f p l)

-- one page more
range_more : (a n : ℕ) → range_with_len a (suc n) ≡ range_with_len a n ++ (a + n) ∷ []
range_more a zero = let same : a ≡ a + 0 = omega arith in ap (λ k. k ∷ []) same
range_more a (suc n) = let same : a + 1 + n ≡ a + suc n = omega arith in
    ap (λ ps. a ∷ ps) (range_more (a + 1) n ∙ ap (λ k. range_with_len (a + 1) n ++ k ∷ []) same)

pub accessed_next : (f a p : ℕ) (l : PageLists) → a ≤ p → accessed f p (each_accessed f (range_with_len a (p - a)) l)
    ≡ each_accessed f (range_with_len a (p + 1 - a)) l
accessed_next f a p l low =
    let one : p + 1 - a ≡ suc (p - a) = omega arith in
    let here : a + (p - a) ≡ p = omega arith in
    sym (ap (λ n. each_accessed f (range_with_len a n) l) one ∙ ap (λ ps. each_accessed f ps l) (range_more a (p - a))
    ∙ each_accessed-append f (range_with_len a (p - a)) ((a + (p - a)) ∷ []) l
    ∙ ap (λ q. accessed f q (each_accessed f (range_with_len a (p - a)) l)) here)

pub accessed_none : (f a : ℕ) (l : PageLists) → each_accessed f (range_with_len a (a - a)) l ≡ l
accessed_none f a l = let none : a - a ≡ 0 = omega arith in ap (λ n. each_accessed f (range_with_len a n) l) none

-- ---- pages whose flag is set

flagged_more : (n k : ℕ) (flags : List Bool) → k < length flags
    → flagged n (take (suc k) flags) ≡ flagged n (take k flags) ++ cond (slice_index_or flags k false) ((n + k) ∷ []) []
flagged_more n k [] h = absurd (omega arith)
flagged_more n zero (flag ∷ flags) h = let same : n ≡ n + 0 = omega arith in ap (λ m. cond flag (m ∷ []) []) same
flagged_more n (suc k) (flag ∷ flags) h =
    let same : n + 1 + k ≡ n + suc k = omega arith in
    let rest : flagged (n + 1) (take (suc k) flags) ≡ flagged (n + 1) (take k flags)
    ++ cond (slice_index_or flags k false) ((n + suc k) ∷ []) [] =
    flagged_more (n + 1) k flags (omega (arith, h))
    ∙ ap (λ m. flagged (n + 1) (take k flags) ++ cond (slice_index_or flags k false) (m ∷ []) []) same in
    elim flag as (λ b. cond b (n ∷ flagged (n + 1) (take (suc k) flags)) (flagged (n + 1) (take (suc k) flags))
    ≡ cond b (n ∷ flagged (n + 1) (take k flags)) (flagged (n + 1) (take k flags))
    ++ cond (slice_index_or flags k false) ((n + suc k) ∷ []) []) [
      | true ↦ ap (λ ps. n ∷ ps) rest
      | false ↦ rest
    ]

module _ (f n k : ℕ) (flags : List Bool) (l : PageLists) (within : k < length flags) where
  pub flagged_next : (flag : Bool) → slice_index_or flags k false ≡ flag
      → each_accessed f (flagged n (take (k + 1) flags)) l
      ≡ cond flag (accessed f (n + k) (each_accessed f (flagged n (take k flags)) l))
      (each_accessed f (flagged n (take k flags)) l)
  flagged_next flag is =
      let one : k + 1 ≡ suc k = omega arith in
      ap (λ m. each_accessed f (flagged n (take m flags)) l) one
      ∙ ap (λ ps. each_accessed f ps l)
      (flagged_more n k flags within ∙ ap (λ b. flagged n (take k flags) ++ cond b ((n + k) ∷ []) []) is)
      ∙ each_accessed-append f (flagged n (take k flags)) (cond flag ((n + k) ∷ []) []) l
      ∙ elim flag as (λ b. each_accessed f (cond b ((n + k) ∷ []) []) (each_accessed f (flagged n (take k flags)) l)
      ≡ cond b (accessed f (n + k) (each_accessed f (flagged n (take k flags)) l))
      (each_accessed f (flagged n (take k flags)) l)) [ true ↦ refl | false ↦ refl ]

-- flags of the first numbers that pass a test
pub flagged_filter : (flags : List Bool) (n count : ℕ) (test : ℕ → Bool) → count ≤ length flags
    → ((k : ℕ) → slice_index_or flags k false ≡ (nat_lt k count && test (n + k)))
    → flagged n flags ≡ filter test (range_with_len n count)
flagged_filter [] n zero test fits h = refl
flagged_filter [] n (suc count) test fits h = absurd (omega arith)
flagged_filter (flag ∷ flags) n zero test fits h =
    let here : flag ≡ false = h 0 in
    ap (λ b. cond b (n ∷ flagged (n + 1) flags) (flagged (n + 1) flags)) here
    ∙ flagged_filter flags (n + 1) zero test (omega arith) (λ k. let same : n + suc k ≡ n + 1 + k = omega arith in
    let none : nat_lt (suc k) 0 ≡ nat_lt k 0 = grind (arith, nat_tests) in h (suc k)
    ∙ (λ i. none i && test (same i)))
flagged_filter (flag ∷ flags) n (suc count) test fits h =
    let zeroth : n + 0 ≡ n = omega arith in
    let first : nat_lt 0 (suc count) ≡ true = grind (arith, nat_tests) in
    let here : flag ≡ test n = h 0 ∙ (λ i. first i && test (zeroth i)) in
    let rest : flagged (n + 1) flags ≡ filter test (range_with_len (n + 1) count) =
    flagged_filter flags (n + 1) count test (omega (arith, fits))
    (λ k. let same : n + suc k ≡ n + 1 + k = omega arith in let next : nat_lt (suc k) (suc count) ≡ nat_lt k count =
    grind (arith, nat_tests) in h (suc k) ∙ (λ i. next i && test (same i))) in
    λ i. cond (here i) (n ∷ rest i) (rest i)
