-- Blocks of a window, by their numbers on the device.
use Rattle.std.proofs.Common.{◌≡◌, ◌≢◌, ◌∙◌, sym, ap, refl, ℕ, zero, suc, ◌+◌, ◌<◌, ◌≤◌, List, [], ◌∷◌, take, drop, Option, Some, None, option_map, slice_get, slice_set, arith, length-drop}
use Rattle.std.proofs.Math.Seq.{take-set-lt}
use Rattle.std.proofs.lemmas.List.{drop-set-add, get_or-drop, get_or-take, length-take-le}
use Rattle.std.proofs.lemmas.Grind.{common_steps}
use Rattle.blockdev.specs.Blocks.{block_at}
use Rattle.blockdev.specs.Device.{Told, IsSized, told_at, with_block}
use Rattle.window.specs.Windows.{slice_of, window_of}

get-drop : (n : ℕ) (xs : List (List ℕ)) (b : ℕ) → slice_get (drop n xs) b ≡ slice_get xs (n + b)
get-drop zero xs b = ap (λ (k : ℕ). slice_get xs k) (omega arith)
get-drop (suc n) [] b = refl
get-drop (suc n) (x ∷ xs) b =
    let next : suc (n + b) ≡ suc n + b = omega arith in
    get-drop n xs b ∙ ap (λ (k : ℕ). slice_get (x ∷ xs) k) next

get-take : (n : ℕ) (xs : List (List ℕ)) (b : ℕ) → b < n → slice_get (take n xs) b ≡ slice_get xs b
get-take zero xs b h = absurd (omega arith)
get-take (suc n) [] b h = refl
get-take (suc n) (x ∷ xs) zero h = refl
get-take (suc n) (x ∷ xs) (suc b) h = get-take n xs b (omega arith)

past-take : (n : ℕ) (xs : List (List ℕ)) (b : ℕ) → n ≤ b → slice_get (take n xs) b ≡ None
past-take zero xs b h = refl
past-take (suc n) [] b h = refl
past-take (suc n) (x ∷ xs) zero h = absurd (omega arith)
past-take (suc n) (x ∷ xs) (suc b) h = past-take n xs b (omega arith)

get-set : (xs : List (List ℕ)) (i b : ℕ) (x : List ℕ) → b ≢ i → slice_get (slice_set xs i x) b ≡ slice_get xs b
get-set [] i b x h = refl
get-set (y ∷ ys) zero zero x h = absurd (h refl)
get-set (y ∷ ys) zero (suc b) x h = refl
get-set (y ∷ ys) (suc i) zero x h = refl
get-set (y ∷ ys) (suc i) (suc b) x h = get-set ys i b x (λ e. h (ap suc e))

-- a block of the window
pub told_in : (f c : ℕ) (d : Option (List (List ℕ))) (b : ℕ) → b < c → told_at (option_map (slice_of f c) d) b ≡ told_at d (f + b)
told_in f c None b h = refl
told_in f c (Some xs) b h = ap Some (get-take c (drop f xs) b h ∙ get-drop f xs b)

-- and one past its end
pub told_past : (f c : ℕ) (d : Option (List (List ℕ))) (b : ℕ) → c ≤ b → told_at (option_map (slice_of f c) d) b ≡ option_map (λ (x : Option (List ℕ)). None) (told_at d b)
told_past f c None b h = refl
told_past f c (Some xs) b h = ap Some (past-take c (drop f xs) b h)

-- which is told as any block is, where blocks are told
pub told_past_at : (f c : ℕ) (d : Option (List (List ℕ))) (b i : ℕ) → c ≤ b → told_at (option_map (slice_of f c) d) b ≡ option_map (λ (x : Option (List ℕ)). None) (told_at d i)
told_past_at f c None b i h = refl
told_past_at f c (Some xs) b i h = told_past f c (Some xs) b h

-- a block that is not the one written
pub told_other : (d : Option (List (List ℕ))) (i b : ℕ) (bytes : List ℕ) → b ≢ i → told_at (with_block d i bytes) b ≡ told_at d b
told_other None i b bytes h = refl
told_other (Some xs) i b bytes h = ap Some (get-set xs i b bytes h)

-- the window after a block of it was written
pub with_in : (f c : ℕ) (d : Option (List (List ℕ))) (b : ℕ) (bytes : List ℕ) → b < c → option_map (slice_of f c) (with_block d (f + b) bytes) ≡ with_block (option_map (slice_of f c) d) b bytes
with_in f c None b bytes h = refl
with_in f c (Some xs) b bytes h = ap Some (ap (take c) (drop-set-add f xs b bytes) ∙ take-set-lt c (drop f xs) b bytes h)

-- a block read
pub block_in : (f c : ℕ) (xs : List (List ℕ)) (b : ℕ) → b < c → block_at xs (f + b) ≡ block_at (slice_of f c xs) b
block_in f c xs b h = sym (get_or-take c (drop f xs) b [] h ∙ get_or-drop f xs b [])

-- the window has blocks of the device's size, as many as it says
pub sized_in : (f c : ℕ) (d : Told) → f + c ≤ d.count → IsSized d → IsSized (window_of f c d)
sized_in f c d h s = sized d.contents s where
  sized : (o : Option (List (List ℕ))) → IsSized (record d { contents = o }) → IsSized (window_of f c (record d { contents = o }))
  sized None s = s
  sized (Some xs) s = (
    length-take-le c (drop f xs) (omega (arith, length-drop f xs, s.0)),
    grind (arith, common_steps, s.1),
  )
