-- Bytes in a row of a list of bytes, and bytes put among them.
use Rattle.std.proofs.Common.{◌≡◌, ◌∙◌, sym, ap, ℕ, ◌+◌, ◌-◌, ◌≤◌, List, ◌++◌, length, take, drop, arith, length-drop}
use Rattle.std.proofs.Math.Seq.{take-append-add, drop-append-add}
use Rattle.std.proofs.lemmas.List.{drop-drop, drop-take, drop-append-le, take-append-le, take-take, length-take-le}
use Rattle.blockdev.specs.Files.{bytes_at}
use Rattle.blockdev.proofs.BlockLemmas.{placed}

-- what is before the bytes put in stays
pub take-put : (f o n : ℕ) (all these : List ℕ) → f + o ≤ length all → take f (placed all (f + o) these n) ≡ take f all
take-put f o n all these h =
    let front : f ≤ length (take (f + o) all) = omega (arith, length-take-le (f + o) all h) in
    take-append-le f (take (f + o) all) _ front ∙ take-take f (f + o) all (omega arith)

-- and the rest has them nearer to its beginning
drop-put : (f o n : ℕ) (all these : List ℕ) → f + o ≤ length all → drop f (placed all (f + o) these n) ≡ placed (drop f all) o these n
drop-put f o n all these h =
    let front : f ≤ length (take (f + o) all) = omega (arith, length-take-le (f + o) all h) in
    let behind : drop (f + o + n) all ≡ drop (o + n) (drop f all) = sym (drop-drop (o + n) f all ∙ ap (λ (k : ℕ). drop k all) (omega arith)) in
    drop-append-le f (take (f + o) all) (these ++ drop (f + o + n) all) front
    ∙ ap (λ (xs : List ℕ). xs ++ (these ++ drop (f + o + n) all)) (drop-take f o all)
    ∙ ap (λ (xs : List ℕ). take o (drop f all) ++ (these ++ xs)) behind

-- more than what is put in, from the beginning on
take-past_put : (l o n : ℕ) (xs these : List ℕ) → length these ≡ n → o + n ≤ l → l ≤ length xs → take l (placed xs o these n) ≡ placed (take l xs) o these n
take-past_put l o n xs these e h len =
    let m = l - (o + n) in
    let front : length (take o xs) ≡ o = length-take-le o xs (omega arith) in
    let first : l ≡ length (take o xs) + (n + m) = omega arith in
    let second : n + m ≡ length these + m = omega arith in
    let whole : l ≡ o + n + m = omega arith in
    ap (λ (k : ℕ). take k (placed xs o these n)) first
    ∙ take-append-add (take o xs) (these ++ drop (o + n) xs) (n + m)
    ∙ ap (λ (k : ℕ). take o xs ++ take k (these ++ drop (o + n) xs)) second
    ∙ ap (λ (ys : List ℕ). take o xs ++ ys) (take-append-add these (drop (o + n) xs) m)
    ∙ ap (λ (ys : List ℕ). take o xs ++ (these ++ ys)) (sym (drop-take (o + n) m xs) ∙ ap (λ (k : ℕ). drop (o + n) (take k xs)) (sym whole))
    ∙ ap (λ (ys : List ℕ). ys ++ (these ++ drop (o + n) (take l xs))) (sym (take-take o l xs (omega arith)))

-- bytes put into a part are put into all, at their place there
pub bytes_at-put : (f l o n : ℕ) (all these : List ℕ) → length these ≡ n → o + n ≤ l → f + l ≤ length all → bytes_at (placed all (f + o) these n) f l ≡ placed (bytes_at all f l) o these n
bytes_at-put f l o n all these e h len =
    ap (take l) (drop-put f o n all these (omega arith)) ∙ take-past_put l o n (drop f all) these e h (omega (arith, length-drop f all))

-- what is behind the bytes put in stays
pub drop-past_put : (k p n : ℕ) (all these : List ℕ) → length these ≡ n → p + n ≤ k → p ≤ length all → drop k (placed all p these n) ≡ drop k all
drop-past_put k p n all these e h len =
    let m = k - (p + n) in
    let front : length (take p all) ≡ p = length-take-le p all len in
    let first : k ≡ length (take p all) + (n + m) = omega arith in
    let second : n + m ≡ length these + m = omega arith in
    ap (λ (j : ℕ). drop j (placed all p these n)) first
    ∙ drop-append-add (take p all) (these ++ drop (p + n) all) (n + m)
    ∙ ap (λ (j : ℕ). drop j (these ++ drop (p + n) all)) second
    ∙ drop-append-add these (drop (p + n) all) m
    ∙ drop-drop m (p + n) all
    ∙ ap (λ (j : ℕ). drop j all) (omega arith)
