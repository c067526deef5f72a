-- Reads and writes of plain files in parts.
use Rattle.std.proofs.Common.{◌≡◌, ℕ, ◌+◌, ◌-◌, ◌≤◌, suc, max, List, [], ◌∷◌, ◌++◌, length, get_or, refl, sym, ap, arith, length-append}
use Rattle.std.proofs.lemmas.Bool.Decides.{nat_tests}
use Rattle.std.proofs.lemmas.List.{append-nil, get_or_past}
use Rattle.pc_types.specs.Files.{pread, pwrite}
use Rattle.pc_types.proofs.FileLaws.{byte-append, byte-pread, byte-pwrite, length-pread, length-pwrite}

-- lists of the same bytes are the same
pub same_bytes : (f g : List ℕ) → length f ≡ length g → ((k : ℕ) → get_or f k 0 ≡ get_or g k 0) → f ≡ g
same_bytes [] [] n h = refl
same_bytes [] (y ∷ g) n h = absurd (omega (arith, n))
same_bytes (x ∷ f) [] n h = absurd (omega (arith, n))
same_bytes (x ∷ f) (y ∷ g) n h = (λ i. h 0 i ∷ same_bytes f g (omega (arith, n)) (λ k. h (suc k)) i)

-- a write, and another from its end on, are one write
pub pwrite_on : (f : List ℕ) (o : ℕ) (a b : List ℕ) → pwrite (pwrite f o a) (o + length a) b ≡ pwrite f o (a ++ b)
pwrite_on f o [] b = ap (λ n. pwrite f n b) (omega arith)
pwrite_on f o (x ∷ a) [] = ap (pwrite f o) (sym (append-nil (x ∷ a)))
pwrite_on f o (x ∷ a) (y ∷ b) = same_bytes _ _ lengths bytes
  where
    n : length ((x ∷ a) ++ (y ∷ b)) ≡ length (x ∷ a) + length (y ∷ b)
    n = length-append (x ∷ a) (y ∷ b)

    lengths : length (pwrite (pwrite f o (x ∷ a)) (o + length (x ∷ a)) (y ∷ b)) ≡ length (pwrite f o ((x ∷ a) ++ (y ∷ b)))
    lengths = omega (arith, n, length-pwrite f o (x ∷ a) (omega arith), length-pwrite f o ((x ∷ a) ++ (y ∷ b)) (omega (arith, n)), length-pwrite (pwrite f o (x ∷ a)) (o + length (x ∷ a)) (y ∷ b) (omega arith))

    bytes : (k : ℕ) → get_or (pwrite (pwrite f o (x ∷ a)) (o + length (x ∷ a)) (y ∷ b)) k 0 ≡ get_or (pwrite f o ((x ∷ a) ++ (y ∷ b))) k 0
    bytes k =
        let outer = byte-pwrite (pwrite f o (x ∷ a)) (o + length (x ∷ a)) (y ∷ b) k in
        let inner = byte-pwrite f o (x ∷ a) k in
        let whole = byte-pwrite f o ((x ∷ a) ++ (y ∷ b)) k in
        let both = byte-append (x ∷ a) (y ∷ b) (k - o) in
        let m = n in
        let apart : k - (o + length (x ∷ a)) ≡ (k - o) - length (x ∷ a) = omega arith in
        grind (arith, nat_tests)

-- so are two reads
pub pread_on : (f : List ℕ) (o a b : ℕ) → a ≤ length f - o → pread f o a ++ pread f (o + a) b ≡ pread f o (a + b)
pread_on f o a b h = same_bytes _ _ lengths bytes
  where
    lengths : length (pread f o a ++ pread f (o + a) b) ≡ length (pread f o (a + b))
    lengths = omega (arith, h, length-append (pread f o a) (pread f (o + a) b), length-pread f o a, length-pread f (o + a) b, length-pread f o (a + b))

    bytes : (k : ℕ) → get_or (pread f o a ++ pread f (o + a) b) k 0 ≡ get_or (pread f o (a + b)) k 0
    bytes k =
        let both = byte-append (pread f o a) (pread f (o + a) b) k in
        let n = length-pread f o a in
        let m = length-pread f (o + a) b in
        let all = length-pread f o (a + b) in
        let past = get_or_past (pread f o (a + b)) k 0 in
        let past2 = get_or_past (pread f (o + a) b) (k - a) 0 in
        let front = byte-pread f o a k in
        let back = byte-pread f (o + a) b (k - a) in
        let whole = byte-pread f o (a + b) k in
        let same : o + a + (k - a) ≡ max (o + k) (o + a) = omega arith in
        grind (arith, nat_tests)

-- a read that reaches the end of the file, and a longer one, give the same
pub pread_end : (f : List ℕ) (o a b : ℕ) → length f - o ≤ a → a ≤ b → pread f o a ≡ pread f o b
pread_end f o a b h l = same_bytes _ _ (omega (arith, h, l, length-pread f o a, length-pread f o b)) (λ k.
    let n = length-pread f o a in
    let m = length-pread f o b in
    let past = get_or_past (pread f o a) k 0 in
    let past2 = get_or_past (pread f o b) k 0 in
    let front = byte-pread f o a k in
    let whole = byte-pread f o b k in
    grind (arith, nat_tests))
