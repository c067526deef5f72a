-- The parts of a device.
use Rattle.std.proofs.Common.{◌≡◌, ◌≢◌, ◌∙◌, sym, ap, refl, ℕ, zero, suc, ◌+◌, ◌*◌, ◌<◌, ◌≤◌, ◌⊎◌, inl, inr, List, [], ◌∷◌, take, drop, None, slice_get, arith}
use Rattle.std.proofs.lemmas.Bool.{cases_lt}
use Rattle.std.proofs.lemmas.Nat.{row_fits}
use Rattle.std.proofs.lemmas.Option.{none-some, same_Some}

-- lists with the same elements
same_list : (xs ys : List (List ℕ)) → ((b : ℕ) → slice_get xs b ≡ slice_get ys b) → xs ≡ ys
same_list [] [] f = refl
same_list [] (y ∷ ys) f = absurd (none-some y (f 0))
same_list (x ∷ xs) [] f = absurd (none-some x (sym (f 0)))
same_list (x ∷ xs) (y ∷ ys) f =
    ap (λ (z : List ℕ). z ∷ xs) (same_Some x y (f 0)) ∙ ap (λ (zs : List (List ℕ)). y ∷ zs) (same_list xs ys (λ b. f (suc b)))

get-drop : (n : ℕ) (xs : List (List ℕ)) (b : ℕ) → slice_get (drop n xs) b ≡ slice_get xs (n + b)
get-drop zero xs b = ap (λ (k : ℕ). slice_get xs k) (omega arith)
get-drop (suc n) [] b = refl
get-drop (suc n) (x ∷ xs) b =
    let next : suc (n + b) ≡ suc n + b = omega arith in
    get-drop n xs b ∙ ap (λ (k : ℕ). slice_get (x ∷ xs) k) next

get-take : (n : ℕ) (xs : List (List ℕ)) (b : ℕ) → b < n → slice_get (take n xs) b ≡ slice_get xs b
get-take zero xs b h = absurd (omega arith)
get-take (suc n) [] b h = refl
get-take (suc n) (x ∷ xs) zero h = refl
get-take (suc n) (x ∷ xs) (suc b) h = get-take n xs b (omega arith)

past-take : (n : ℕ) (xs : List (List ℕ)) (b : ℕ) → n ≤ b → slice_get (take n xs) b ≡ None
past-take zero xs b h = refl
past-take (suc n) [] b h = refl
past-take (suc n) (x ∷ xs) zero h = absurd (omega arith)
past-take (suc n) (x ∷ xs) (suc b) h = past-take n xs b (omega arith)

-- a part of two devices that are alike there
pub same_part : (n size : ℕ) (old new : List (List ℕ))
    → ((b : ℕ) → b < size → slice_get new (n + b) ≡ slice_get old (n + b))
    → take size (drop n new) ≡ take size (drop n old)
same_part n size old new same = same_list _ _ (λ b. at b (cases_lt b size)) where
  at : (b : ℕ) → (b < size) ⊎ (size ≤ b) → slice_get (take size (drop n new)) b ≡ slice_get (take size (drop n old)) b
  at b (inl h) =
      get-take size (drop n new) b h ∙ get-drop n new b ∙ same b h ∙ sym (get-take size (drop n old) b h ∙ get-drop n old b)
  at b (inr h) = past-take size (drop n new) b h ∙ sym (past-take size (drop n old) b h)

-- a block of one part lies in no other
pub apart : (j k b size : ℕ) → j ≢ k → b < size → (j * size + b < k * size) ⊎ (k * size + size ≤ j * size + b)
apart j k b size other h = elim (cases_lt j k) [
  | inl below ↦ inl (let fits = row_fits j size k size below (omega arith) in omega arith)
  | inr above ↦ (
      let more : k < j = omega (arith, above, other) in
      let fits = row_fits k size j size more (omega arith) in
      inr (omega arith)
      )
]
