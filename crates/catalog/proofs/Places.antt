-- Which pages an extent has, and which blocks.
use Rattle.std.proofs.Common.{◌≡◌, ℕ, ◌+◌, ◌<◌, ◌≤◌, ◌||◌, Bool, true, false, eqb, List, [], ◌∷◌, zero, suc, is_some, refl, sym, ap, ◌∙◌, arith, inl, inr}
use Rattle.std.specs.Prelude.{nat_le}
use Rattle.std.specs.List.{list_any, range_with_len}
use Rattle.std.specs.Ordering.{eq_by_cmp}
use Rattle.std.specs.FinMap as map
use Rattle.std.proofs.lemmas.Bool.{and_from, and_parts, eq-eqb, eqb-true, false_from_ne_true, false≢true, le-leb, leb-true, or_cases, or_left, or_right}
use Rattle.pc_types.specs.Spots.{place_cmp}
use Rattle.blockmap.specs.Blocks.{Spots, is_from}
use Rattle.blockmap.specs.Keys.{NoneFrom}
use Rattle.blockmap.proofs.MapLemmas.{any_key, same_tie}
use Rattle.catalog.specs.Extents.{has_from}

-- ---- whether a page from one on has a block

key_some : (m : Spots) (f : ℕ × ℕ → Bool) (xs : List (ℕ × ℕ)) → ((x : ℕ × ℕ) → list_any (eq_by_cmp place_cmp x) xs ≡ true → is_some (map.get m x) ≡ true) → list_any f xs ≡ true → (x : ℕ × ℕ) × (is_some (map.get m x) ≡ true) × (f x ≡ true)
key_some m f [] there h = absurd (false≢true h)
key_some m f (x ∷ xs) there h = elim (or_cases (f x) (list_any f xs) h) [
  | inl here ↦ (x, there x (or_left (eq_by_cmp place_cmp x x) (list_any (eq_by_cmp place_cmp x) xs) (same_tie x x refl)), here)
  | inr later ↦ key_some m f xs (λ y t. there y (or_right (eq_by_cmp place_cmp y x) (list_any (eq_by_cmp place_cmp y) xs) t)) later
]

pub from_some : (m : Spots) (f p q : ℕ) → p ≤ q → is_some (map.get m (f, q)) ≡ true → has_from m f p ≡ true
from_some m f p q low there = any_key m (is_from f p) (f, q) there (and_from (eqb f f) (nat_le p q) (eq-eqb f f refl) (le-leb p q low))

pub from_none : (m : Spots) (f p : ℕ) → NoneFrom m f p → has_from m f p ≡ false
from_none m f p none = false_from_ne_true (has_from m f p) (λ t.
    let h = key_some m (is_from f p) (map.keys m) (λ x s. map.contains_key-keys m x ∙ s) t in
    let parts = and_parts (eqb h.0.0 f) (nat_le p h.0.1) h.2 in
    let gone = none.each h.0.1 (leb-true p h.0.1 parts.1) in
    false≢true (sym (ap is_some (ap (λ g. map.get m (g, h.0.1)) (eqb-true h.0.0 f parts.0) ∙ gone)) ∙ h.1))

-- ---- whether one of some blocks is a page's

pub any_range : (f : ℕ → Bool) (a n k : ℕ) → k < n → f (a + k) ≡ true → list_any f (range_with_len a n) ≡ true
any_range f a zero k low h = absurd (omega arith)
any_range f a (suc n) zero low h = or_left (f a) (list_any f (range_with_len (a + 1) n)) (ap f (let e : a ≡ a + 0 = omega arith in e) ∙ h)
any_range f a (suc n) (suc k) low h = or_right (f a) (list_any f (range_with_len (a + 1) n)) (any_range f (a + 1) n k (omega arith) (ap f (let e : a + 1 + k ≡ a + suc k = omega arith in e) ∙ h))

pub none_range : (f : ℕ → Bool) (a n : ℕ) → ((k : ℕ) → k < n → f (a + k) ≡ false) → list_any f (range_with_len a n) ≡ false
none_range f a zero none = refl
none_range f a (suc n) none =
    λ i. (ap f (let e : a ≡ a + 0 = omega arith in e) ∙ none 0 (omega arith)) i
    || none_range f (a + 1) n (λ k low. ap f (let e : a + 1 + k ≡ a + suc k = omega arith in e) ∙ none (suc k) (omega arith)) i
