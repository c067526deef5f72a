-- The masks of an error word, as numbers.
use Rattle.std.proofs.Common.{◌≡◌, ℕ, zero, suc, ◌+◌, ◌*◌, ◌/◌, ◌%◌, ◌<◌, false, nat_eq, bit_and, bit_or, refl, ap, ◌∙◌, arith}
use Rattle.std.specs.Prelude.{if◌then◌else◌, ◌==◌}
use Rattle.std.specs.Int.Bits.{or_add_and}
use Rattle.std.proofs.lemmas.Nat.Bits.{and_pow}
use Rattle.std.proofs.lemmas.Nat.{or_shifted}
use Rattle.errseq.specs.Word.{is_seen, with_seen, word}

-- bit 12, as the mask leaves it
seen_and : (w : ℕ) → bit_and w 4096 ≡ w / 4096 % 2 * 4096
seen_and w = and_pow w 12

flag : (b : ℕ) → b < 2 → mathlib.Core.Bool.not (nat_eq (b * 4096) 0) ≡ (b == 1)
flag zero h = refl
flag (suc zero) h = refl
flag (suc (suc b)) h = absurd (omega arith)

pub is_seen_and : (w : ℕ) → mathlib.Core.Bool.not (nat_eq (bit_and w 4096) 0) ≡ is_seen w
is_seen_and w = ap (λ (n : ℕ). mathlib.Core.Bool.not (nat_eq n 0)) (seen_and w) ∙ flag (w / 4096 % 2) (let b : ℕ = w / 4096 in omega arith)

with_flag : (w b : ℕ) → b < 2 → bit_and w 4096 ≡ b * 4096 → bit_or w 4096 ≡ (if b == 1 then w else w + 4096)
with_flag w zero h e = let both = or_add_and w 4096 in omega arith
with_flag w (suc zero) h e = let both = or_add_and w 4096 in omega arith
with_flag w (suc (suc b)) h e = absurd (omega arith)

pub with_seen_or : (w : ℕ) → bit_or w 4096 ≡ with_seen w
with_seen_or w = with_flag w (w / 4096 % 2) (let b : ℕ = w / 4096 in omega arith) (seen_and w)

-- the counter with a code in the bits below it
pub word_or : (a b n c : ℕ) → a ≡ n * 8192 → b ≡ c → c < 4096 → bit_or a b ≡ word n false c
word_or a b n c is same h = (λ i. bit_or (is i) (same i)) ∙ or_shifted n 13 c (omega arith) ∙ (let e : n * 8192 + c ≡ n * 8192 + 0 + c = omega arith in e)
