-- Flags that tell which pages of a file are cached.
use Rattle.std.proofs.Common.{◌≡◌, ℕ, ◌+◌, ◌-◌, ◌<◌, ◌≤◌, suc, Bool, true, false, List, [], ◌∷◌, length, refl, ap, sym, ◌∙◌, arith}
use Rattle.std.specs.Prelude.{◌&&◌, count_by, drop, filter, is_some, nat_lt, not, slice_index_or}
use Rattle.std.specs.List.{range_with_len}
use Rattle.std.specs.FinMap as finmap
use Rattle.std.proofs.lemmas.Bool.Decides.{nat_tests}
use Rattle.machine.specs.PageLists.{flagged}
use Rattle.machine.specs.State.{File, no_file}
use Rattle.pagestore.specs.Ranges.{AreFlags}
use Rattle.pagestore.proofs.Accesses.{flagged_filter}
use Rattle.pagestore.proofs.RangeLemmas.{count-within}

abbrev has : List File → ℕ → ℕ → Bool
has files f p = is_some (finmap.get (slice_index_or files f no_file).pages p)

flag_inside : (first p end : ℕ) → first ≤ p → p < end → nat_lt (p - first) (end - first) ≡ true
flag_inside first p end from before = grind (arith, nat_tests)

module _ (flags : List Bool) (files : List File) (f first end : ℕ) (a : AreFlags flags files f first end) where
  -- the flag of one of the pages
  pub flag_of : (p : ℕ) → first ≤ p → p < end → slice_index_or flags (p - first) false ≡ has files f p
  flag_of p from before =
      let inside = flag_inside first p end from before in
      let same : first + (p - first) ≡ p = omega arith in
      a.each (p - first) ∙ (λ i. inside i && has files f (same i))

  -- of the first
  pub flag_first : first < end → slice_index_or flags 0 false ≡ has files f first
  flag_first some =
      let none : first - first ≡ 0 = omega arith in
      ap (λ k. slice_index_or flags k false) (sym none) ∙ flag_of first (omega arith) some

  -- those that are set, and how many are not
  pub flags_set : flagged first flags ≡ filter (has files f) (range_with_len first (end - first))
  flags_set = flagged_filter flags first (end - first) (has files f) a.long a.each

  pub flags_unset : count_by (λ p. not (slice_index_or flags (p - first) false)) (range_with_len first (end - first))
      ≡ count_by (λ p. not (has files f p)) (range_with_len first (end - first))
  flags_unset = count-within _ _ first (end - first) (λ p from before. ap not (flag_of p from (omega arith)))

  -- those of the pages after the first, in files that have the same pages there
  pub flags_after : (rest : List Bool) (now : List File) → rest ≡ drop 1 flags → first < end
      → ((p : ℕ) → first + 1 ≤ p → has now f p ≡ has files f p) → AreFlags rest now f (first + 1) end
  flags_after rest now is some same = record {
    long = omega (arith, a.long, ap length is, dropped flags);
    each = λ k.
        let next : suc k ≡ k + 1 = omega arith in
        let inside : nat_lt (suc k) (end - first) ≡ nat_lt k (end - (first + 1)) = grind (arith, nat_tests) in
        let place : first + suc k ≡ first + 1 + k = omega arith in
        ap (λ r. slice_index_or r k false) is ∙ later flags k ∙ a.each (suc k)
        ∙ (λ i. inside i && has files f (place i))
        ∙ ap (λ b. nat_lt k (end - (first + 1)) && b) (sym (same (first + 1 + k) (omega arith)));
  }
    where
      dropped : (xs : List Bool) → length xs ≤ length (drop 1 xs) + 1
      dropped [] = omega arith
      dropped (x ∷ xs) = omega arith

      later : (xs : List Bool) (k : ℕ) → slice_index_or (drop 1 xs) k false ≡ slice_index_or xs (suc k) false
      later [] k = refl
      later (x ∷ xs) k = refl
