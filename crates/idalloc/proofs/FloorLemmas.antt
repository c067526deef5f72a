-- The floor, after each change of the numbers in use.
use Rattle.std.proofs.Common.{◌≡◌, ℕ, ◌+◌, ◌<◌, ◌≤◌, Bool, true, false, not, ◌&&◌, ◌||◌, eqb, max, min, refl, sym, ap, ◌∙◌, arith, inl, inr}
use Rattle.std.specs.Ordering.{nat_cmp}
use Rattle.std.specs.Cmp.{nat_cmp_total, unsigned_tied}
use Rattle.std.specs.FinSet as set
use Rattle.std.proofs.lemmas.Bool.{cases_eq, cases_lt, eq-eqb, ne_eqb}
use Rattle.idalloc.specs.Floor.{IsFloor}
use Rattle.idalloc.specs.Ids.{AllUsed, IsLowestUnused}

-- ---- what a number more or less leaves

contains_more : (used : set.FinSet nat_cmp) (n k : ℕ) → set.contains (set.insert used n) k ≡ (eqb k n || set.contains used k)
contains_more used n k = set.contains-insert nat_cmp_total used n k ∙ ap (λ b. b || set.contains used k) (unsigned_tied k n)

contains_less : (used : set.FinSet nat_cmp) (n k : ℕ) → set.contains (set.remove used n) k ≡ (not (eqb k n) && set.contains used k)
contains_less used n k = set.contains-remove nat_cmp_total used n k ∙ ap (λ b. not b && set.contains used k) (unsigned_tied k n)

or_true : (a : Bool) → (a || true) ≡ true
or_true true = refl
or_true false = refl

still_used : (used : set.FinSet nat_cmp) (n k : ℕ) → set.contains used k ≡ true → set.contains (set.insert used n) k ≡ true
still_used used n k h = contains_more used n k ∙ ap (λ b. eqb k n || b) h ∙ or_true (eqb k n)

now_used : (used : set.FinSet nat_cmp) (n k : ℕ) → k ≡ n → set.contains (set.insert used n) k ≡ true
now_used used n k e = contains_more used n k ∙ ap (λ b. b || set.contains used k) (eq-eqb k n e)

-- ---- searches

pub above_floor : (used : set.FinSet nat_cmp) (floor from to n : ℕ) → IsFloor used floor → IsLowestUnused used (max from floor) to n → IsLowestUnused used from to n
above_floor used floor from to n below found = record {
  low = omega (arith, found.low);
  high = found.high;
  unused = found.unused;
  lowest = λ k above under. elim (cases_lt k floor) [
    | inl low ↦ below.each k low
    | inr high ↦ found.lowest k (omega arith) under
  ];
}

pub none_above_floor : (used : set.FinSet nat_cmp) (floor from to : ℕ) → IsFloor used floor → AllUsed used (max from floor) to → AllUsed used from to
none_above_floor used floor from to below all = record {
  each = λ k above upto. elim (cases_lt k floor) [
    | inl low ↦ below.each k low
    | inr high ↦ all.each k (omega arith) upto
  ];
}

-- ---- changes

pub floor-empty : IsFloor set.empty 0
floor-empty = record { each = λ k low. absurd (omega arith) }

pub floor-insert : (used : set.FinSet nat_cmp) (floor n : ℕ) → IsFloor used floor → IsFloor (set.insert used n) floor
floor-insert used floor n below = record { each = λ k low. still_used used n k (below.each k low) }

pub floor-raised : (used : set.FinSet nat_cmp) (floor from to n above : ℕ) → IsFloor used floor → from ≤ floor → IsLowestUnused used from to n → above ≤ n + 1 → IsFloor (set.insert used n) above
floor-raised used floor from to n above below low found upto = record {
  each = λ k under. elim (cases_eq k n) [
    | inl e ↦ now_used used n k e
    | inr differs ↦ elim (cases_lt k from) [
      | inl early ↦ still_used used n k (below.each k (omega arith))
      | inr late ↦ still_used used n k (found.lowest k late (omega arith))
    ]
  ];
}

pub floor-remove : (used : set.FinSet nat_cmp) (floor n : ℕ) → IsFloor used floor → IsFloor (set.remove used n) (min floor n)
floor-remove used floor n below = record {
  each = λ k low. contains_less used n k ∙ ap (λ b. not b && set.contains used k) (ne_eqb k n (λ e. omega arith)) ∙ below.each k (omega arith);
}
