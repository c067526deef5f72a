-- A device beside two others, block by block.
use Rattle.std.proofs.Common.{◌≡◌, ◌≢◌, ℕ, ◌+◌, ◌<◌, ◌≤◌, min, true, List, [], sym, subst, ◌∙◌, arith, inl, inr}
use Rattle.std.proofs.lemmas.Bool.{cases_lt}
use Rattle.std.specs.Prelude.{◌^◌, Option, Some, None, IfSome, is_some, unwrap_or}
use Rattle.blockdev.specs.Blocks.{block_at}
use Rattle.blockdev.specs.Device.{Told}
use Rattle.playback.specs.Playing.{AreAlike, IsAlike, blocks_of}

-- the bytes that a device tells of a block
told_bytes : (o : Option (List (List ℕ))) (b : ℕ) (bytes : List ℕ) → is_some o ≡ true
    → IfSome o (λ blocks. bytes ≡ block_at blocks b) → bytes ≡ block_at (unwrap_or o []) b
told_bytes None b bytes s h = absurd cc
told_bytes (Some blocks) b bytes s h = h

read_same : (o : Option (List (List ℕ))) (b : ℕ) (bytes same : List ℕ) → bytes ≡ same
    → IfSome o (λ blocks. bytes ≡ block_at blocks b) → IfSome o (λ blocks. block_at blocks b ≡ same)
read_same None b bytes same e h = tt
read_same (Some blocks) b bytes same e h = sym h ∙ e

-- what is read of a block is what both others tell of it
pub alike_read : (d one other : Told) (b : ℕ) (bytes read : List ℕ) → is_some one.contents ≡ true
    → IfSome one.contents (λ blocks. bytes ≡ block_at blocks b) → IfSome d.contents (λ blocks. read ≡ block_at blocks b)
    → read ≡ bytes → IsAlike d one other b
alike_read d one other b bytes read s h got same = λ _.
    read_same d.contents b read (block_at (blocks_of one) b) (same ∙ told_bytes one.contents b bytes s h) got

-- the others differ in it
pub passed_over : (d one other : Told) (b : ℕ) (bytes more : List ℕ) → is_some one.contents ≡ true
    → is_some other.contents ≡ true → IfSome one.contents (λ blocks. bytes ≡ block_at blocks b)
    → IfSome other.contents (λ blocks. more ≡ block_at blocks b) → bytes ≢ more → IsAlike d one other b
passed_over d one other b bytes more s t h k n = λ e.
    absurd (n (told_bytes one.contents b bytes s h ∙ e ∙ sym (told_bytes other.contents b more t k)))

-- ---- block by block

abbrev pub Before : Told → Told → Told → ℕ → Type 0
Before d one other n = AreAlike d one other (Some n)

pub none_before : (d one other : Told) → Before d one other 0
none_before d one other b l = absurd (omega (arith, l))

still : (old new : Option (List (List ℕ))) (b : ℕ) (bytes : List ℕ) → new ≡ old
    → IfSome new (λ blocks. block_at blocks b ≡ bytes) → IfSome old (λ blocks. block_at blocks b ≡ bytes)
still old new b bytes same h = subst (λ o. IfSome o (λ blocks. block_at blocks b ≡ bytes)) same h

-- the device tells what it told before
pub alike_next : (d now one other : Told) (n : ℕ) → now.contents ≡ d.contents → Before d one other n
    → IsAlike now one other n → Before d one other (n + 1)
alike_next d now one other n same before is b l = elim (cases_lt b n) [
  | inl less ↦ before b less
  | inr more ↦ subst (IsAlike d one other) (omega (arith, l, more))
      (λ e. still d.contents now.contents n (block_at (blocks_of one) n) same (is e))
]

pub all_alike : (d one other : Told) (n : ℕ) → Before d one other n → min d.count (2 ^ 32) ≤ n
    → AreAlike d one other None
all_alike d one other n before past b l small = before b (omega (arith, past, l, small))
