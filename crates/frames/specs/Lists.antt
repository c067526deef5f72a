-- Lists of frames without doubles.
use Rattle.std.specs.Prelude.{◌≡◌, ℕ, Bool, true, false, ◌==◌, ◌||◌, List, [], ◌∷◌, Option, Some, None, ◌⊎◌, cond}

-- whether a frame is in the list
abbrev pub has : ℕ → List ℕ → Bool
has f [] = false
has f (x ∷ xs) = (x == f) || has f xs

-- the list without a frame
abbrev pub without : ℕ → List ℕ → List ℕ
without f [] = []
without f (x ∷ xs) = cond (x == f) (without f xs) (x ∷ without f xs)

-- no frame is in it twice
abbrev pub IsWithoutDoubles : List ℕ → Type 0
IsWithoutDoubles [] = Unit {0}
IsWithoutDoubles (x ∷ xs) = (has x xs ≡ false) × IsWithoutDoubles xs

-- the two lists of frames below a count, the head first
pub record Lists : Type 0 where
  pub count : ℕ
  pub active : List ℕ
  pub inactive : List ℕ

-- r is the first frame of the list that passes, where `answers f b` says that the test of frame f may answer b
abbrev pub IsFirstPassing : (ℕ → Bool → Type 0) → List ℕ → Option ℕ → Type 0
IsFirstPassing answers [] r = r ≡ None
IsFirstPassing answers (f ∷ fs) r = (answers f true × (r ≡ Some f)) ⊎ (answers f false × IsFirstPassing answers fs r)
