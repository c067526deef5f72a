-- Lists that a loop has changed up to a place.
use Rattle.std.proofs.Common.{◌≡◌, ◌<◌, ◌≤◌, ◌+◌, ◌++◌, ◌∷◌, [], ◌∙◌, ℕ, zero, suc, List, length, refl, slice_index_or, slice_set, sym, ap, arith}
use Rattle.std.specs.Prelude.{map, take}
use Rattle.std.proofs.lemmas.List.{length-append}
use Rattle.std.proofs.Math.Seq.{get_or-append_seam, take-append_seam}

-- the first i are changed
abbrev pub half : {X : Type 0} → (X → X) → ℕ → List X → List X
half f zero xs = xs
half f (suc i) [] = []
half f (suc i) (x ∷ xs) = f x ∷ half f i xs

-- what was made of the first i
abbrev pub front : {X Y : Type 0} → (X → Y) → ℕ → List X → List Y
front g zero xs = []
front g (suc i) [] = []
front g (suc i) (x ∷ xs) = g x ∷ front g i xs

pub half_at : {X : Type 0} (f : X → X) (i : ℕ) (xs : List X) (d : X) → slice_index_or (half f i xs) i d ≡ slice_index_or xs i d
half_at f zero xs d = refl
half_at f (suc i) [] d = refl
half_at f (suc i) (x ∷ xs) d = half_at f i xs d

pub half_length : {X : Type 0} (f : X → X) (i : ℕ) (xs : List X) → length (half f i xs) ≡ length xs
half_length f zero xs = refl
half_length f (suc i) [] = refl
half_length f (suc i) (x ∷ xs) = ap suc (half_length f i xs)

half_next : {X : Type 0} (f : X → X) (i : ℕ) (xs : List X) (d : X) → i < length xs
    → slice_set (half f i xs) i (f (slice_index_or xs i d)) ≡ half f (suc i) xs
half_next f zero [] d less = absurd (omega (arith, less))
half_next f zero (x ∷ xs) d less = refl
half_next f (suc i) [] d less = absurd (omega (arith, less))
half_next f (suc i) (x ∷ xs) d less = ap (λ ys. f x ∷ ys) (half_next f i xs d (omega (arith, less)))

pub half_step : {X : Type 0} (f : X → X) (i : ℕ) (xs : List X) (d : X) → i < length xs
    → slice_set (half f i xs) i (f (slice_index_or xs i d)) ≡ half f (i + 1) xs
half_step f i xs d less = let next : suc i ≡ i + 1 = omega arith in half_next f i xs d less ∙ ap (λ n. half f n xs) next

pub half_all : {X : Type 0} (f : X → X) (i : ℕ) (xs : List X) → length xs ≤ i → half f i xs ≡ map f xs
half_all f zero [] over = refl
half_all f zero (x ∷ xs) over = absurd (omega (arith, over))
half_all f (suc i) [] over = refl
half_all f (suc i) (x ∷ xs) over = ap (λ ys. f x ∷ ys) (half_all f i xs (omega (arith, over)))

front_next : {X Y : Type 0} (g : X → Y) (i : ℕ) (xs : List X) (d : X) → i < length xs
    → front g i xs ++ g (slice_index_or xs i d) ∷ [] ≡ front g (suc i) xs
front_next g zero [] d less = absurd (omega (arith, less))
front_next g zero (x ∷ xs) d less = refl
front_next g (suc i) [] d less = absurd (omega (arith, less))
front_next g (suc i) (x ∷ xs) d less = ap (λ ys. g x ∷ ys) (front_next g i xs d (omega (arith, less)))

pub front_step : {X Y : Type 0} (g : X → Y) (i : ℕ) (xs : List X) (d : X) → i < length xs
    → front g i xs ++ g (slice_index_or xs i d) ∷ [] ≡ front g (i + 1) xs
front_step g i xs d less = let next : suc i ≡ i + 1 = omega arith in front_next g i xs d less ∙ ap (λ n. front g n xs) next

pub front_all : {X Y : Type 0} (g : X → Y) (i : ℕ) (xs : List X) → length xs ≤ i → front g i xs ≡ map g xs
front_all g zero [] over = refl
front_all g zero (x ∷ xs) over = absurd (omega (arith, over))
front_all g (suc i) [] over = refl
front_all g (suc i) (x ∷ xs) over = ap (λ ys. g x ∷ ys) (front_all g i xs (omega (arith, over)))

-- the element at the place that comes next is as it was
pub next_is : {X : Type 0} (f : X → X) (i : ℕ) (old now : List X) (x : X) → now ≡ half f i old → x ≡ slice_index_or now i x
    → x ≡ slice_index_or old i x
next_is f i old now x is at = at ∙ ap (λ xs. slice_index_or xs i x) is ∙ half_at f i old x

-- what a pop leaves, and what it takes
pub rest_is : {X : Type 0} (k : ℕ) (xs ys : List X) (x : X) → length xs ≡ k + 1 → xs ≡ ys ++ x ∷ [] → take k xs ≡ ys
rest_is k xs ys x long is =
    let count : length ys ≡ k = omega (arith, sym long ∙ ap length is ∙ length-append ys (x ∷ [])) in
    ap (take k) is ∙ ap (λ n. take n (ys ++ x ∷ [])) (sym count) ∙ take-append_seam ys (x ∷ [])

pub last_is : {X : Type 0} (k : ℕ) (xs ys : List X) (x d : X) → length xs ≡ k + 1 → xs ≡ ys ++ x ∷ []
    → slice_index_or xs k d ≡ x
last_is k xs ys x d long is =
    let count : length ys ≡ k = omega (arith, sym long ∙ ap length is ∙ length-append ys (x ∷ [])) in
    ap (λ zs. slice_index_or zs k d) is ∙ ap (λ n. slice_index_or (ys ++ x ∷ []) n d) (sym count) ∙ get_or-append_seam ys x [] d
