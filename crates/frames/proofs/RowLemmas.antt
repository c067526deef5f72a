-- Bytes cut into rows: a row read, and a row written.
use Rattle.std.proofs.Common.{◌≡◌, ◌∙◌, sym, ap, refl, ℕ, zero, suc, ◌+◌, ◌*◌, ◌-◌, ◌<◌, ◌≤◌, List, [], ◌∷◌, ◌++◌, length, take, drop, replicate, slice_set, All, arith, length-append, length-drop}
use Rattle.std.proofs.lemmas.List.{length-replicate, drop-drop, drop-take, drop-append-le, take-append-le, take-take, take_at, drop_at, take-replicate, drop-replicate, length-take-le, take-append-drop, nil_from_length}
use Rattle.std.proofs.lemmas.Nat.{row_fits}
use Rattle.std.proofs.lemmas.Grind.{common_steps}
use Rattle.frames.specs.Rows.{row_at, rows_of, zero_rows, joined, with_row, laid}

pub length-rows_of : (s n : ℕ) (bytes : List ℕ) → length (rows_of s n bytes) ≡ n
length-rows_of s zero bytes = refl
length-rows_of s (suc n) bytes = ap suc (length-rows_of s n (drop s bytes))

pub All-rows_of : (s n : ℕ) (bytes : List ℕ) → length bytes ≡ n * s → All (λ x. length x ≡ s) (rows_of s n bytes)
All-rows_of s zero bytes e k d h = absurd (omega arith)
All-rows_of s (suc n) bytes e zero d h =
    let more : suc n * s ≡ s + n * s = omega arith in
    length-take-le s bytes (omega arith)
All-rows_of s (suc n) bytes e (suc k) d h =
    let more : suc n * s ≡ s + n * s = omega arith in
    All-rows_of s n (drop s bytes) (omega (arith, length-drop s bytes)) k d (omega arith)

pub row_at-rows_of : (s n : ℕ) (bytes : List ℕ) (b : ℕ) → b < n → row_at (rows_of s n bytes) b ≡ take s (drop (b * s) bytes)
row_at-rows_of s zero bytes b h = absurd (omega arith)
row_at-rows_of s (suc n) bytes zero h = grind (arith, common_steps)
row_at-rows_of s (suc n) bytes (suc b) h =
    let here : s + b * s ≡ suc b * s = omega arith in
    let rest = row_at-rows_of s n (drop s bytes) b (omega arith) in
    rest ∙ ap (take s) (drop-drop (b * s) s bytes ∙ ap (λ (k : ℕ). drop k bytes) here)

-- the bytes with others in place from k on
abbrev placed : List ℕ → ℕ → List ℕ → ℕ → List ℕ
placed bytes k these s = take k bytes ++ (these ++ drop (k + s) bytes)

take-placed : (s k : ℕ) (bytes these : List ℕ) → s + k ≤ length bytes → take s (placed bytes (s + k) these s) ≡ take s bytes
take-placed s k bytes these h =
    let within : s ≤ length (take (s + k) bytes) = omega (arith, length-take-le (s + k) bytes h) in
    take-append-le s (take (s + k) bytes) _ within ∙ take-take s (s + k) bytes (omega arith)

drop-placed : (s k : ℕ) (bytes these : List ℕ) → s + k ≤ length bytes → drop s (placed bytes (s + k) these s) ≡ placed (drop s bytes) k these s
drop-placed s k bytes these h =
    let within : s ≤ length (take (s + k) bytes) = omega (arith, length-take-le (s + k) bytes h) in
    let front = drop-append-le s (take (s + k) bytes) (these ++ drop (s + k + s) bytes) within in
    let kept : drop (s + k + s) bytes ≡ drop (k + s) (drop s bytes) = sym (drop-drop (k + s) s bytes ∙ ap (λ (n : ℕ). drop n bytes) (omega arith)) in
    front ∙ ap (λ (xs : List ℕ). xs ++ (these ++ drop (s + k + s) bytes)) (drop-take s k bytes) ∙ ap (λ (xs : List ℕ). take k (drop s bytes) ++ (these ++ xs)) kept

take-placed_first : (s : ℕ) (bytes these : List ℕ) → length these ≡ s → take s (placed bytes 0 these s) ≡ these
take-placed_first s bytes these e = take_at these (drop (0 + s) bytes) s e

drop-placed_first : (s : ℕ) (bytes these : List ℕ) → length these ≡ s → drop s (placed bytes 0 these s) ≡ drop s bytes
drop-placed_first s bytes these e = drop_at these (drop (0 + s) bytes) s e ∙ ap (λ (n : ℕ). drop n bytes) (omega arith)

-- a row's bytes written over are that row changed
pub rows_of-placed : (s n : ℕ) (bytes : List ℕ) (b : ℕ) (these : List ℕ) → b < n → length bytes ≡ n * s → length these ≡ s → rows_of s n (placed bytes (b * s) these s) ≡ slice_set (rows_of s n bytes) b these
rows_of-placed s zero bytes b these h len size = absurd (omega arith)
rows_of-placed s (suc n) bytes zero these h len size =
    let first : zero * s ≡ 0 = omega arith in
    ap (λ (k : ℕ). rows_of s (suc n) (placed bytes k these s)) first
    ∙ ap (λ (x : List ℕ). x ∷ rows_of s n (drop s (placed bytes 0 these s))) (take-placed_first s bytes these size)
    ∙ ap (λ (xs : List ℕ). these ∷ rows_of s n xs) (drop-placed_first s bytes these size)
rows_of-placed s (suc n) bytes (suc b) these h len size =
    let next : suc b * s ≡ s + b * s = omega arith in
    let within : s + b * s ≤ length bytes = (let below : b < n = omega arith in let fits = row_fits b s n s below (omega arith) in omega arith) in
    let rest : length (drop s bytes) ≡ n * s = omega (arith, length-drop s bytes) in
    ap (λ (k : ℕ). rows_of s (suc n) (placed bytes k these s)) next
    ∙ ap (λ (x : List ℕ). x ∷ rows_of s n (drop s (placed bytes (s + b * s) these s))) (take-placed s (b * s) bytes these within)
    ∙ ap (λ (xs : List ℕ). take s bytes ∷ rows_of s n xs) (drop-placed s (b * s) bytes these within)
    ∙ ap (λ (xs : List (List ℕ)). take s bytes ∷ xs) (rows_of-placed s n (drop s bytes) b these (omega arith) rest size)

pub rows_of-zeros : (s n : ℕ) → rows_of s n (replicate (n * s) 0) ≡ zero_rows s n
rows_of-zeros s zero = refl
rows_of-zeros s (suc n) =
    let more : suc n * s ≡ s + n * s = omega arith in
    let rest : s + n * s - s ≡ n * s = omega arith in
    ap (λ (k : ℕ). rows_of s (suc n) (replicate k 0)) more
    ∙ ap (λ (x : List ℕ). x ∷ rows_of s n (drop s (replicate (s + n * s) 0))) (take-replicate s (s + n * s) 0 (omega arith))
    ∙ ap (λ (xs : List ℕ). replicate s 0 ∷ rows_of s n xs) (drop-replicate s (s + n * s) 0 ∙ ap (λ (k : ℕ). replicate k 0) rest)
    ∙ ap (λ (xs : List (List ℕ)). replicate s 0 ∷ xs) (rows_of-zeros s n)

-- the end of a row lies within the bytes
pub row_end : (s n b : ℕ) (bytes : List ℕ) → b < length (rows_of s n bytes) → length bytes ≡ n * s → b * s + s ≤ length bytes
row_end s n b bytes h len =
    let below : b < n = omega (arith, length-rows_of s n bytes) in
    let fits = row_fits b s n s below (omega arith) in
    omega arith

-- what lies past the rows does not matter
rows_of-front : (s n : ℕ) (front rest : List ℕ) → n * s ≤ length front → rows_of s n (front ++ rest) ≡ rows_of s n front
rows_of-front s zero front rest h = refl
rows_of-front s (suc n) front rest h =
    let more : suc n * s ≡ s + n * s = omega arith in
    let within : s ≤ length front = omega arith in
    let below : n * s ≤ length (drop s front) = omega (arith, length-drop s front) in
    ap (λ (x : List ℕ). x ∷ rows_of s n (drop s (front ++ rest))) (take-append-le s front rest within)
    ∙ ap (λ (xs : List ℕ). take s front ∷ rows_of s n xs) (drop-append-le s front rest within)
    ∙ ap (λ (xs : List (List ℕ)). take s front ∷ xs) (rows_of-front s n (drop s front) rest below)

rows_of-take : (s n len : ℕ) (front rest : List ℕ) → len ≡ n * s → len ≤ length front → rows_of s n (take len (front ++ rest)) ≡ rows_of s n front
rows_of-take s n len front rest total within =
    let long : n * s ≤ length (take len front) = omega (arith, length-take-le len front within) in
    ap (rows_of s n) (take-append-le len front rest within)
    ∙ sym (rows_of-front s n (take len front) (drop len front) long)
    ∙ ap (rows_of s n) (take-append-drop len front)

pub joined-rows_of : (s n : ℕ) (bytes : List ℕ) → length bytes ≡ n * s → joined (rows_of s n bytes) ≡ bytes
joined-rows_of s zero bytes e = sym (nil_from_length bytes (omega arith))
joined-rows_of s (suc n) bytes e =
    let more : suc n * s ≡ s + n * s = omega arith in
    ap (λ (xs : List ℕ). take s bytes ++ xs) (joined-rows_of s n (drop s bytes) (omega (arith, length-drop s bytes)))
    ∙ take-append-drop s bytes

-- bytes written over others from k on
abbrev over : List ℕ → ℕ → List ℕ → List ℕ
over bytes k these = take k bytes ++ (these ++ drop (length these) (drop k bytes))

length-over : (bytes : List ℕ) (k : ℕ) (these : List ℕ) → k ≤ length bytes → length bytes ≤ length (over bytes k these)
length-over bytes k these h =
    simp length-append (omega (arith, length-take-le k bytes h, length-drop (length these) (drop k bytes), length-drop k bytes))

-- what is left of a loan of the bytes from row f on
pub rows_of-lent : (s n f len : ℕ) (bytes these : List ℕ) → f < n → length bytes ≡ n * s → len ≡ length bytes → rows_of s n (take len (over bytes (f * s) these ++ drop (length (over bytes (f * s) these)) bytes)) ≡ with_row s (rows_of s n bytes) f these
rows_of-lent s n f len bytes these h total same =
    let fits = row_fits f s n s h (omega arith) in
    let long = length-over bytes (f * s) these (omega arith) in
    rows_of-take s n len (over bytes (f * s) these) (drop (length (over bytes (f * s) these)) bytes) (omega arith) (omega arith)
    ∙ ap (λ (xs : List ℕ). rows_of s n (over xs (f * s) these)) (sym (joined-rows_of s n bytes total))
    ∙ ap (λ (k : ℕ). rows_of s k (over (joined (rows_of s n bytes)) (f * s) these)) (sym (length-rows_of s n bytes))

rows_of-joined : (s : ℕ) (rows : List (List ℕ)) → All (λ row. length row ≡ s) rows → rows_of s (length rows) (joined rows) ≡ rows
rows_of-joined s [] all = refl
rows_of-joined s (row ∷ rows) all =
    let here : length row ≡ s = all 0 [] (omega arith) in
    ap (λ (x : List ℕ). x ∷ rows_of s (length rows) (drop s (row ++ joined rows))) (take_at row (joined rows) s here)
    ∙ ap (λ (xs : List ℕ). row ∷ rows_of s (length rows) xs) (drop_at row (joined rows) s here)
    ∙ ap (λ (xs : List (List ℕ)). row ∷ xs) (rows_of-joined s rows (λ k d below. all (suc k) d (omega arith)))

length-joined : (s : ℕ) (rows : List (List ℕ)) → All (λ row. length row ≡ s) rows → length (joined rows) ≡ length rows * s
length-joined s [] all = omega arith
length-joined s (row ∷ rows) all =
    let here : length row ≡ s = all 0 [] (omega arith) in
    let rest = length-joined s rows (λ k d below. all (suc k) d (omega arith)) in
    let more : suc (length rows) * s ≡ s + length rows * s = omega arith in
    omega (arith, length-append row (joined rows))

-- a slice that was lent keeps its length, so it changed its own row
pub with_row-whole : (s : ℕ) (rows : List (List ℕ)) (f : ℕ) (bytes : List ℕ) → All (λ row. length row ≡ s) rows → f < length rows → length bytes ≡ s → with_row s rows f bytes ≡ slice_set rows f bytes
with_row-whole s rows f bytes all h e =
    let past : drop (length bytes) (drop (f * s) (joined rows)) ≡ drop (f * s + s) (joined rows) = drop-drop (length bytes) (f * s) (joined rows) ∙ ap (λ (k : ℕ). drop (f * s + k) (joined rows)) e in
    ap (λ (xs : List ℕ). rows_of s (length rows) (take (f * s) (joined rows) ++ (bytes ++ xs))) past
    ∙ rows_of-placed s (length rows) (joined rows) f bytes h (length-joined s rows all) e
    ∙ ap (λ (xs : List (List ℕ)). slice_set xs f bytes) (rows_of-joined s rows all)

-- bytes with zeros around them fill a row
pub length-laid : (s at : ℕ) (bytes : List ℕ) → at + length bytes ≤ s → length (laid s at bytes) ≡ s
length-laid s at bytes h =
    simp length-append (omega (arith, length-replicate {A = ℕ} at 0, length-replicate {A = ℕ} (s - (at + length bytes)) 0))
