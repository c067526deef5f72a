-- What the set of the numbers of some bitmaps contains.
use Rattle.std.proofs.Common.{◌≡◌, ℕ, ◌*◌, ◌/◌, ◌%◌, ◌<◌, Bool, true, false, cond, not, ◌&&◌, ◌||◌, eqb, get_or, List, [], ◌∷◌, filter, Option, Some, None, is_some, refl, sym, ap, ◌∙◌, arith, inl, inr}
use Rattle.std.specs.Int.{bit_at}
use Rattle.std.specs.List.{range_with_len, list_any, flat_map}
use Rattle.std.specs.Ordering.{nat_cmp, eq_by_cmp}
use Rattle.std.specs.Cmp.{nat_cmp_total, unsigned_tied}
use Rattle.std.specs.Prelude.{◌==◌}
use Rattle.std.specs.FinMap as map
use Rattle.std.specs.FinSet as set
use Rattle.std.proofs.lemmas.Bool.{cases_eq, eqb-true, ne_eqb}
use Rattle.std.proofs.lemmas.Bool.Decides.{nat_tests}
use Rattle.std.proofs.lemmas.List.Folds.{list_any-append, list_any_at}
use Rattle.std.proofs.lemmas.List.FromFn.{get_or-range_with_len, length-range_with_len}
use Rattle.std.proofs.lemmas.Map.Views.{any-filter_same}
use Rattle.idalloc.specs.Bitmaps.{Bitmaps, has_bit, has_number, numbers}

or_true : (a : Bool) → (a || true) ≡ true
or_true true = refl
or_true false = refl

has_bit-cond : (b : Bool) (bits : ℕ) (o : Option ℕ) (k : ℕ) → has_bit (cond b (Some bits) o) k ≡ cond b (bit_at bits k == 1) (has_bit o k)
has_bit-cond true bits o k = refl
has_bit-cond false bits o k = refl

has_none-cond : (b : Bool) (o : Option ℕ) (k : ℕ) → has_bit (cond b None o) k ≡ cond b false (has_bit o k)
has_none-cond true o k = refl
has_none-cond false o k = refl

-- the numbers of index i are found among its 32
pub in_block : (n i : ℕ) → n / 32 ≡ i → list_any (λ y. eqb y n) (range_with_len (32 * i) 32) ≡ true
in_block n i e =
    let k : ℕ = n % 32 in
    let below : k < 32 = omega arith in
    let at : get_or (range_with_len (32 * i) 32) k 0 ≡ n = get_or-range_with_len (32 * i) 32 k 0 below ∙ omega arith in
    list_any_at (λ y. eqb y n) (range_with_len (32 * i) 32) k 0 (rw length-range_with_len below) (rw at (grind (arith, nat_tests)))

pub in_blocks : (n : ℕ) (is : List ℕ) → list_any (eq_by_cmp nat_cmp (n / 32)) is ≡ true → list_any (λ y. eqb y n) (flat_map (λ i. range_with_len (32 * i) 32) is) ≡ true
in_blocks n [] h = h
in_blocks n (i ∷ is) h =
    list_any-append (λ y. eqb y n) (range_with_len (32 * i) 32) (flat_map (λ i. range_with_len (32 * i) 32) is)
    ∙ elim (cases_eq (n / 32) i) [
      | inl e ↦ ap (λ b. b || list_any (λ y. eqb y n) (flat_map (λ i. range_with_len (32 * i) 32) is)) (in_block n i e)
      | inr differs ↦
          let rest : list_any (eq_by_cmp nat_cmp (n / 32)) is ≡ true = ap (λ b. b || list_any (eq_by_cmp nat_cmp (n / 32)) is) (sym (unsigned_tied (n / 32) i ∙ ne_eqb (n / 32) i differs)) ∙ h in
          ap (λ b. list_any (λ y. eqb y n) (range_with_len (32 * i) 32) || b) (in_blocks n is rest) ∙ or_true _
    ]

has_key : (o : Option ℕ) (k : ℕ) → has_bit o k ≡ true → is_some o ≡ true
has_key None k h = h
has_key (Some bits) k h = refl

both : (a b : Bool) → (a ≡ true → b ≡ true) → (a && b) ≡ a
both true b h = h refl
both false b h = refl

pub contains-numbers : (m : Bitmaps) (n : ℕ) → set.contains (numbers m) n ≡ has_number m n
contains-numbers m n =
    let all : List ℕ = flat_map (λ i. range_with_len (32 * i) 32) (map.keys m) in
    set.contains-from_list_nat (filter (has_number m) all) n
    ∙ any-filter_same (λ y. eqb y n) (has_number m) (has_number m n) (λ y h. ap (has_number m) (eqb-true y n h)) all
    ∙ both (has_number m n) (list_any (λ y. eqb y n) all) (λ h. in_blocks n (map.keys m) (sym (map.contains_key-keys m (n / 32)) ∙ has_key (map.get m (n / 32)) (n % 32) h))

-- the numbers after one is used, after one is not used any more, and where each is as it was
pub numbers-used : (old new : Bitmaps) (n : ℕ) → ((q : ℕ) → has_number new q ≡ (eqb q n || has_number old q)) → numbers new ≡ set.insert (numbers old) n
numbers-used old new n each = set.same_set nat_cmp_total map.nat_cmp-IsAntisymmetric _ _ (λ q.
    contains-numbers new q ∙ each q ∙ sym (set.contains-insert nat_cmp_total (numbers old) n q ∙ ap (λ b. b || set.contains (numbers old) q) (unsigned_tied q n) ∙ ap (λ b. eqb q n || b) (contains-numbers old q)))

pub numbers-unused : (old new : Bitmaps) (n : ℕ) → ((q : ℕ) → has_number new q ≡ (not (eqb q n) && has_number old q)) → numbers new ≡ set.remove (numbers old) n
numbers-unused old new n each = set.same_set nat_cmp_total map.nat_cmp-IsAntisymmetric _ _ (λ q.
    contains-numbers new q ∙ each q ∙ sym (set.contains-remove nat_cmp_total (numbers old) n q ∙ ap (λ b. not b && set.contains (numbers old) q) (unsigned_tied q n) ∙ ap (λ b. not (eqb q n) && b) (contains-numbers old q)))

pub numbers-same : (old new : Bitmaps) → ((q : ℕ) → has_number new q ≡ has_number old q) → numbers new ≡ numbers old
numbers-same old new each = set.same_set nat_cmp_total map.nat_cmp-IsAntisymmetric _ _ (λ q. contains-numbers new q ∙ each q ∙ sym (contains-numbers old q))

-- ---- one bitmap

pub has_number-insert : (m : Bitmaps) (i bits q : ℕ) → has_number (map.insert m i bits) q ≡ cond (eqb (q / 32) i) (bit_at bits (q % 32) == 1) (has_number m q)
has_number-insert m i bits q = ap (λ o. has_bit o (q % 32)) (map.get-insert nat_cmp_total m i bits (q / 32) ∙ ap (λ b. cond b (Some bits) (map.get m (q / 32))) (unsigned_tied (q / 32) i)) ∙ has_bit-cond (eqb (q / 32) i) bits (map.get m (q / 32)) (q % 32)

pub has_number-remove : (m : Bitmaps) (i q : ℕ) → has_number (map.remove m i) q ≡ cond (eqb (q / 32) i) false (has_number m q)
has_number-remove m i q = ap (λ o. has_bit o (q % 32)) (map.get-remove nat_cmp_total m i (q / 32) ∙ ap (λ b. cond b None (map.get m (q / 32))) (unsigned_tied (q / 32) i)) ∙ has_none-cond (eqb (q / 32) i) (map.get m (q / 32)) (q % 32)

pub numbers-empty : numbers map.empty ≡ set.empty
numbers-empty = set.same_set nat_cmp_total map.nat_cmp-IsAntisymmetric _ _ (λ q.
    contains-numbers map.empty q ∙ ap (λ o. has_bit o (q % 32)) (map.get-empty nat_cmp (q / 32)) ∙ sym (set.contains-empty nat_cmp q))

pub no_numbers : (m : Bitmaps) → numbers m ≡ set.empty → (q : ℕ) → has_number m q ≡ false
no_numbers m h q = sym (contains-numbers m q) ∙ ap (λ s. set.contains s q) h ∙ set.contains-empty nat_cmp q
