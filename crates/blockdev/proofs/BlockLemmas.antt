-- Bytes cut into blocks: a block read, and a block written.
use Rattle.std.proofs.Common.{◌≡◌, ◌∙◌, sym, ap, refl, ℕ, zero, suc, ◌+◌, ◌*◌, ◌-◌, ◌<◌, ◌≤◌, List, ◌∷◌, ◌++◌, length, take, drop, replicate, slice_set, All, arith, length-append, length-drop}
use Rattle.std.proofs.lemmas.List.{drop-drop, drop-take, drop-append-le, take-append-le, take-take, take_at, drop_at, take-replicate, drop-replicate, length-take-le}
use Rattle.std.proofs.lemmas.Nat.{row_fits}
use Rattle.std.proofs.lemmas.Grind.{common_steps}
use borrow.Rule.Slice.PartMut.{put_mid}
use Rattle.blockdev.specs.Blocks.{block_at, blocks_of, zero_blocks}

pub length-blocks_of : (s n : ℕ) (bytes : List ℕ) → length (blocks_of s n bytes) ≡ n
length-blocks_of s zero bytes = refl
length-blocks_of s (suc n) bytes = ap suc (length-blocks_of s n (drop s bytes))

pub All-blocks_of : (s n : ℕ) (bytes : List ℕ) → n * s ≤ length bytes → All (λ x. length x ≡ s) (blocks_of s n bytes)
All-blocks_of s zero bytes e k d h = absurd (omega arith)
All-blocks_of s (suc n) bytes e zero d h =
    let more : suc n * s ≡ s + n * s = omega arith in
    length-take-le s bytes (omega arith)
All-blocks_of s (suc n) bytes e (suc k) d h =
    let more : suc n * s ≡ s + n * s = omega arith in
    All-blocks_of s n (drop s bytes) (omega (arith, length-drop s bytes)) k d (omega arith)

pub block_at-blocks_of : (s n : ℕ) (bytes : List ℕ) (b : ℕ) → b < n → block_at (blocks_of s n bytes) b ≡ take s (drop (b * s) bytes)
block_at-blocks_of s zero bytes b h = absurd (omega arith)
block_at-blocks_of s (suc n) bytes zero h = grind (arith, common_steps)
block_at-blocks_of s (suc n) bytes (suc b) h =
    let here : s + b * s ≡ suc b * s = omega arith in
    let rest = block_at-blocks_of s n (drop s bytes) b (omega arith) in
    rest ∙ ap (take s) (drop-drop (b * s) s bytes ∙ ap (λ (k : ℕ). drop k bytes) here)

-- the bytes with others in place from k on
abbrev pub placed : List ℕ → ℕ → List ℕ → ℕ → List ℕ
placed bytes k these s = take k bytes ++ (these ++ drop (k + s) bytes)

take-placed : (s k : ℕ) (bytes these : List ℕ) → s + k ≤ length bytes → take s (placed bytes (s + k) these s) ≡ take s bytes
take-placed s k bytes these h =
    let within : s ≤ length (take (s + k) bytes) = omega (arith, length-take-le (s + k) bytes h) in
    take-append-le s (take (s + k) bytes) _ within ∙ take-take s (s + k) bytes (omega arith)

drop-placed : (s k : ℕ) (bytes these : List ℕ) → s + k ≤ length bytes → drop s (placed bytes (s + k) these s) ≡ placed (drop s bytes) k these s
drop-placed s k bytes these h =
    let within : s ≤ length (take (s + k) bytes) = omega (arith, length-take-le (s + k) bytes h) in
    let front = drop-append-le s (take (s + k) bytes) (these ++ drop (s + k + s) bytes) within in
    let kept : drop (s + k + s) bytes ≡ drop (k + s) (drop s bytes) = sym (drop-drop (k + s) s bytes ∙ ap (λ (n : ℕ). drop n bytes) (omega arith)) in
    front ∙ ap (λ (xs : List ℕ). xs ++ (these ++ drop (s + k + s) bytes)) (drop-take s k bytes) ∙ ap (λ (xs : List ℕ). take k (drop s bytes) ++ (these ++ xs)) kept

take-placed_first : (s : ℕ) (bytes these : List ℕ) → length these ≡ s → take s (placed bytes 0 these s) ≡ these
take-placed_first s bytes these e = take_at these (drop (0 + s) bytes) s e

drop-placed_first : (s : ℕ) (bytes these : List ℕ) → length these ≡ s → drop s (placed bytes 0 these s) ≡ drop s bytes
drop-placed_first s bytes these e = drop_at these (drop (0 + s) bytes) s e ∙ ap (λ (n : ℕ). drop n bytes) (omega arith)

-- a block's bytes written over are that block changed
pub blocks_of-placed : (s n : ℕ) (bytes : List ℕ) (b : ℕ) (these : List ℕ) → b < n → n * s ≤ length bytes → length these ≡ s → blocks_of s n (placed bytes (b * s) these s) ≡ slice_set (blocks_of s n bytes) b these
blocks_of-placed s zero bytes b these h len size = absurd (omega arith)
blocks_of-placed s (suc n) bytes zero these h len size =
    let first : zero * s ≡ 0 = omega arith in
    ap (λ (k : ℕ). blocks_of s (suc n) (placed bytes k these s)) first
    ∙ ap (λ (x : List ℕ). x ∷ blocks_of s n (drop s (placed bytes 0 these s))) (take-placed_first s bytes these size)
    ∙ ap (λ (xs : List ℕ). these ∷ blocks_of s n xs) (drop-placed_first s bytes these size)
blocks_of-placed s (suc n) bytes (suc b) these h len size =
    let next : suc b * s ≡ s + b * s = omega arith in
    let within : s + b * s ≤ length bytes = (let below : b < n = omega arith in let fits = row_fits b s n s below (omega arith) in omega arith) in
    let rest : n * s ≤ length (drop s bytes) = omega (arith, length-drop s bytes) in
    ap (λ (k : ℕ). blocks_of s (suc n) (placed bytes k these s)) next
    ∙ ap (λ (x : List ℕ). x ∷ blocks_of s n (drop s (placed bytes (s + b * s) these s))) (take-placed s (b * s) bytes these within)
    ∙ ap (λ (xs : List ℕ). take s bytes ∷ blocks_of s n xs) (drop-placed s (b * s) bytes these within)
    ∙ ap (λ (xs : List (List ℕ)). take s bytes ∷ xs) (blocks_of-placed s n (drop s bytes) b these (omega arith) rest size)

pub blocks_of-zeros : (s n : ℕ) → blocks_of s n (replicate (n * s) 0) ≡ zero_blocks s n
blocks_of-zeros s zero = refl
blocks_of-zeros s (suc n) =
    let more : suc n * s ≡ s + n * s = omega arith in
    let rest : s + n * s - s ≡ n * s = omega arith in
    ap (λ (k : ℕ). blocks_of s (suc n) (replicate k 0)) more
    ∙ ap (λ (x : List ℕ). x ∷ blocks_of s n (drop s (replicate (s + n * s) 0))) (take-replicate s (s + n * s) 0 (omega arith))
    ∙ ap (λ (xs : List ℕ). replicate s 0 ∷ blocks_of s n xs) (drop-replicate s (s + n * s) 0 ∙ ap (λ (k : ℕ). replicate k 0) rest)
    ∙ ap (λ (xs : List (List ℕ)). replicate s 0 ∷ xs) (blocks_of-zeros s n)

-- the end of a block lies within the bytes
pub block_end : (s n b : ℕ) (bytes : List ℕ) → b < length (blocks_of s n bytes) → length bytes ≡ n * s → b * s + s ≤ length bytes
block_end s n b bytes h len =
    let below : b < n = omega (arith, length-blocks_of s n bytes) in
    let fits = row_fits b s n s below (omega arith) in
    omega arith

pub length-placed : (s k : ℕ) (bytes these : List ℕ) → k + s ≤ length bytes → length these ≡ s → length (placed bytes k these s) ≡ length bytes
length-placed s k bytes these h e =
    let front : length (take k bytes) ≡ k = length-take-le k bytes (omega arith) in
    simp length-append (omega (arith, length-drop (k + s) bytes, front))

-- what a vector holds after a write to one block of it
pub blocks_of-put : (s n b k len : ℕ) (bytes now these : List ℕ) → b < n → length bytes ≡ n * s → length these ≡ s → now ≡ bytes → k ≡ s → len ≡ length bytes → blocks_of s n (take len (put_mid (b * s) k now these ++ drop (length (put_mid (b * s) k now these)) bytes)) ≡ slice_set (blocks_of s n bytes) b these
blocks_of-put s n b k len bytes now these h total size same_now same_k same_len =
    let fits = row_fits b s n s h (omega arith) in
    let as_placed : put_mid (b * s) k now these ≡ placed bytes (b * s) these s =
    ap (λ (xs : List ℕ). put_mid (b * s) k xs these) same_now
    ∙ ap (λ (j : ℕ). put_mid (b * s) j bytes these) same_k
    ∙ ap (λ (xs : List ℕ). take (b * s) bytes ++ (these ++ xs)) (drop-drop s (b * s) bytes)
    in
    let whole = ap (λ (xs : List ℕ). length xs) as_placed ∙ length-placed s (b * s) bytes these (omega arith) size ∙ sym same_len in
    ap (blocks_of s n) (take_at (put_mid (b * s) k now these) (drop (length (put_mid (b * s) k now these)) bytes) len whole ∙ as_placed)
    ∙ blocks_of-placed s n bytes b these h (omega arith) size
