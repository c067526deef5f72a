-- What setting and clearing one of the three bits does to the set that they stand for.
use Rattle.std.proofs.Common.{◌≡◌, ℕ, ◌*◌, ◌<◌, true, false, eqb, refl, ap, ◌∙◌, arith, min, max, zero, suc}
use Rattle.std.specs.Int.{bit_at}
use Rattle.std.specs.Prelude.{bit_and, bit_or}
use Rattle.std.proofs.lemmas.Nat.Bits.{bit_at_or, bit_at_and, bit_at-lt, and_pow}
use Rattle.std.proofs.lemmas.Bool.Decides.{nat_tests}
use Rattle.pc_types.specs.TagBits.{set_of_bits}
use Rattle.pc_types.specs.Tags.{TagSet, no_tags}

least : (x : ℕ) → x < 2 → max x 0 ≡ x
least x h = omega arith

most : (x : ℕ) → x < 2 → max x 1 ≡ 1
most x h = omega arith

kept : (x : ℕ) → x < 2 → min x 1 ≡ x
kept x h = omega arith

gone : (x : ℕ) → min x 0 ≡ 0
gone x = omega arith

set_bit : (n m i : ℕ) → bit_at m i ≡ 1 → bit_at (bit_or n m) i ≡ 1
set_bit n m i e = bit_at_or n m i ∙ ap (max (bit_at n i)) e ∙ most (bit_at n i) (bit_at-lt n i)

set_other : (n m i : ℕ) → bit_at m i ≡ 0 → bit_at (bit_or n m) i ≡ bit_at n i
set_other n m i e = bit_at_or n m i ∙ ap (max (bit_at n i)) e ∙ least (bit_at n i) (bit_at-lt n i)

clear_bit : (n m i : ℕ) → bit_at m i ≡ 0 → bit_at (bit_and n m) i ≡ 0
clear_bit n m i e = bit_at_and n m i ∙ ap (min (bit_at n i)) e ∙ gone (bit_at n i)

clear_other : (n m i : ℕ) → bit_at m i ≡ 1 → bit_at (bit_and n m) i ≡ bit_at n i
clear_other n m i e = bit_at_and n m i ∙ ap (min (bit_at n i)) e ∙ kept (bit_at n i) (bit_at-lt n i)

same : (a b c d e f : ℕ) → a ≡ d → b ≡ e → c ≡ f → ◌≡◌ {A = TagSet} (record { dirty = eqb a 1; writeback = eqb b 1; towrite = eqb c 1 }) (record { dirty = eqb d 1; writeback = eqb e 1; towrite = eqb f 1 })
same a b c d e f p q r = λ i. record { dirty = eqb (p i) 1; writeback = eqb (q i) 1; towrite = eqb (r i) 1 }

pub set_of_bits_or-1 : (n : ℕ) → set_of_bits (bit_or n 1) ≡ record (set_of_bits n) { dirty = true }
unfolding set_of_bits
set_of_bits_or-1 n = same _ _ _ 1 _ _ (set_bit n 1 0 refl) (set_other n 1 1 refl) (set_other n 1 2 refl)

pub set_of_bits_or-2 : (n : ℕ) → set_of_bits (bit_or n 2) ≡ record (set_of_bits n) { writeback = true }
unfolding set_of_bits
set_of_bits_or-2 n = same _ _ _ _ 1 _ (set_other n 2 0 refl) (set_bit n 2 1 refl) (set_other n 2 2 refl)

pub set_of_bits_or-4 : (n : ℕ) → set_of_bits (bit_or n 4) ≡ record (set_of_bits n) { towrite = true }
unfolding set_of_bits
set_of_bits_or-4 n = same _ _ _ _ _ 1 (set_other n 4 0 refl) (set_other n 4 1 refl) (set_bit n 4 2 refl)

pub set_of_bits_and-254 : (n : ℕ) → set_of_bits (bit_and n 254) ≡ record (set_of_bits n) { dirty = false }
unfolding set_of_bits
set_of_bits_and-254 n = same _ _ _ 0 _ _ (clear_bit n 254 0 refl) (clear_other n 254 1 refl) (clear_other n 254 2 refl)

pub set_of_bits_and-253 : (n : ℕ) → set_of_bits (bit_and n 253) ≡ record (set_of_bits n) { writeback = false }
unfolding set_of_bits
set_of_bits_and-253 n = same _ _ _ _ 0 _ (clear_other n 253 0 refl) (clear_bit n 253 1 refl) (clear_other n 253 2 refl)

pub set_of_bits_and-251 : (n : ℕ) → set_of_bits (bit_and n 251) ≡ record (set_of_bits n) { towrite = false }
unfolding set_of_bits
set_of_bits_and-251 n = same _ _ _ _ _ 0 (clear_other n 251 0 refl) (clear_other n 251 1 refl) (clear_bit n 251 2 refl)

-- a number below two times k is k exactly where it is one
scaled : (x k : ℕ) → x < 2 → 0 < k → eqb (x * k) k ≡ eqb x 1
scaled zero k h p = grind (arith, nat_tests)
scaled (suc zero) k h p = grind (arith, nat_tests)
scaled (suc (suc x)) k h p = absurd (omega arith)

pub is_dirty_bit : (n : ℕ) → eqb (bit_and n 1) 1 ≡ (set_of_bits n).dirty
unfolding set_of_bits
is_dirty_bit n = ap (λ (x : ℕ). eqb x 1) (and_pow n 0) ∙ scaled (bit_at n 0) 1 (bit_at-lt n 0) (omega arith)

pub is_writeback_bit : (n : ℕ) → eqb (bit_and n 2) 2 ≡ (set_of_bits n).writeback
unfolding set_of_bits
is_writeback_bit n = ap (λ (x : ℕ). eqb x 2) (and_pow n 1) ∙ scaled (bit_at n 1) 2 (bit_at-lt n 1) (omega arith)

pub is_towrite_bit : (n : ℕ) → eqb (bit_and n 4) 4 ≡ (set_of_bits n).towrite
unfolding set_of_bits
is_towrite_bit n = ap (λ (x : ℕ). eqb x 4) (and_pow n 2) ∙ scaled (bit_at n 2) 4 (bit_at-lt n 2) (omega arith)

pub zero_set : set_of_bits 0 ≡ no_tags
unfolding set_of_bits
zero_set = refl

pub ruleset tag_bits = (set_of_bits_or-1, set_of_bits_or-2, set_of_bits_or-4, set_of_bits_and-254, set_of_bits_and-253, set_of_bits_and-251, is_dirty_bit, is_writeback_bit, is_towrite_bit, zero_set)
