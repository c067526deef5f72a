-- What of a device is durable after a call.
use Rattle.std.proofs.Common.{◌≡◌, ◌∙◌, sym, ap, refl, ℕ, suc, inl, inr, List, [], ◌∷◌, Option, Some, None, slice_get}
use Rattle.std.proofs.lemmas.Option.{none-some, same_Some}
use Rattle.blockdev.specs.Device.{Told, Settles, told_at}

pub settles_kept : (old new : Told) → new.durable ≡ old.durable → Settles old new
settles_kept old new e = λ b. inl (ap (λ (d : Option (List (List ℕ))). told_at d b) e)

pub settles_held : (old new : Told) → new.durable ≡ new.contents → Settles old new
settles_held old new e = λ b. inr (inr (ap (λ (d : Option (List (List ℕ))). told_at d b) e))

-- lists with the same elements
same_list : (xs ys : List (List ℕ)) → ((b : ℕ) → slice_get xs b ≡ slice_get ys b) → xs ≡ ys
same_list [] [] f = refl
same_list [] (y ∷ ys) f = absurd (none-some y (f 0))
same_list (x ∷ xs) [] f = absurd (none-some x (sym (f 0)))
same_list (x ∷ xs) (y ∷ ys) f =
    ap (λ (z : List ℕ). z ∷ xs) (same_Some x y (f 0)) ∙ ap (λ (zs : List (List ℕ)). y ∷ zs) (same_list xs ys (λ b. f (suc b)))

same_told : (d e : Option (List (List ℕ))) → ((b : ℕ) → told_at d b ≡ told_at e b) → d ≡ e
same_told None None f = refl
same_told None (Some ys) f = absurd (none-some (slice_get ys 0) (f 0))
same_told (Some xs) None f = absurd (none-some (slice_get xs 0) (sym (f 0)))
same_told (Some xs) (Some ys) f = ap Some (same_list xs ys (λ b. same_Some (slice_get xs b) (slice_get ys b) (f b)))

-- where all was durable, and the contents stay, all is durable still
pub stays_durable : (old new : Told) → Settles old new → new.contents ≡ old.contents → old.durable ≡ old.contents → new.durable ≡ new.contents
stays_durable old new s same all =
    same_told new.durable new.contents (λ b.
    let at : Option (List (List ℕ)) → Option (Option (List ℕ)) = λ (d : Option (List (List ℕ))). told_at d b in
    elim (s b) [
      | inl was ↦ was ∙ ap at (all ∙ sym same)
      | inr held ↦ elim held [ inl had ↦ had ∙ ap at (sym same) | inr has ↦ has ]
    ])
