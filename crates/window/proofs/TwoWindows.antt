-- Windows of one device that share no block.
use Rattle.std.proofs.Common.{◌≡◌, ◌∙◌, sym, ap, refl, ℕ, suc, ◌+◌, ◌<◌, ◌≤◌, ◌⊎◌, inl, inr, List, [], ◌∷◌, Option, Some, None, option_map, slice_get, arith}
use Rattle.std.proofs.lemmas.Bool.{cases_lt}
use Rattle.std.proofs.lemmas.Option.{none-some, same_Some}
use Rattle.blockdev.specs.Device.{told_at}
use Rattle.window.specs.Windows.{IsOutside, OutsideGoesOn, AreApart, WindowsAreApart, slice_of}
use Rattle.window.proofs.Outsides.{outside_same, outside_then}
use Rattle.window.proofs.Slices.{told_in, told_past_at}
use Rattle.window.proofs.WindowCalls.{Contents}

-- lists with the same elements
same_list : (xs ys : List (List ℕ)) → ((b : ℕ) → slice_get xs b ≡ slice_get ys b) → xs ≡ ys
same_list [] [] f = refl
same_list [] (y ∷ ys) f = absurd (none-some y (f 0))
same_list (x ∷ xs) [] f = absurd (none-some x (sym (f 0)))
same_list (x ∷ xs) (y ∷ ys) f =
    ap (λ (z : List ℕ). z ∷ xs) (same_Some x y (f 0)) ∙ ap (λ (zs : List (List ℕ)). y ∷ zs) (same_list xs ys (λ b. f (suc b)))

same_told : (d e : Contents) → ((b : ℕ) → told_at d b ≡ told_at e b) → d ≡ e
same_told None None f = refl
same_told None (Some ys) f = absurd (none-some (slice_get ys 0) (f 0))
same_told (Some xs) None f = absurd (none-some (slice_get xs 0) (sym (f 0)))
same_told (Some xs) (Some ys) f = ap Some (same_list xs ys (λ b. same_Some (slice_get xs b) (slice_get ys b) (f b)))

-- block b of a window, as it is told
abbrev at : ℕ → ℕ → ℕ → Contents → Option (Option (List ℕ))
at g n b d = told_at (option_map (slice_of g n) d) b

-- a block of the other window lies outside the one
lies_outside : (f c g n b : ℕ) → AreApart f c g n → b < n → IsOutside f c (g + b)
lies_outside f c g n b apart h = elim apart [ inl below ↦ inl (omega arith) | inr above ↦ inr (omega arith) ]

-- two devices that are alike outside the one window are alike in the other
alike : (f c g n : ℕ) (x y : Contents) (b : ℕ) → AreApart f c g n → (b < n) ⊎ (n ≤ b)
    → ((i : ℕ) → IsOutside f c i → told_at x i ≡ told_at y i) → at g n b x ≡ at g n b y
alike f c g n x y b apart (inl h) same =
    told_in g n x b h ∙ same (g + b) (lies_outside f c g n b apart h) ∙ sym (told_in g n y b h)
alike f c g n x y b apart (inr h) same =
    told_past_at g n x b (f + c) h
    ∙ ap (option_map (λ (x : Option (List ℕ)). None)) (same (f + c) (inr (omega arith)))
    ∙ sym (told_past_at g n y b (f + c) h)

either : (f c g n : ℕ) (x y z : Contents) (b : ℕ) → AreApart f c g n → (b < n) ⊎ (n ≤ b)
    → ((i : ℕ) → IsOutside f c i → (told_at x i ≡ told_at y i) ⊎ (told_at x i ≡ told_at z i))
    → (at g n b x ≡ at g n b y) ⊎ (at g n b x ≡ at g n b z)
either f c g n x y z b apart (inl h) one = elim (one (g + b) (lies_outside f c g n b apart h)) [
  | inl e ↦ inl (told_in g n x b h ∙ e ∙ sym (told_in g n y b h))
  | inr e ↦ inr (told_in g n x b h ∙ e ∙ sym (told_in g n z b h))
]
either f c g n x y z b apart (inr h) one = elim (one (f + c) (inr (omega arith))) [
  | inl e ↦ inl (told_past_at g n x b (f + c) h ∙ ap (option_map (λ (x : Option (List ℕ)). None)) e ∙ sym (told_past_at g n y b (f + c) h))
  | inr e ↦ inr (told_past_at g n x b (f + c) h ∙ ap (option_map (λ (x : Option (List ℕ)). None)) e ∙ sym (told_past_at g n z b (f + c) h))
]

pub windows_are_apart : WindowsAreApart
windows_are_apart f c g n old new apart out = record {
  size = out.size;
  count = refl;
  contents = same_told _ _ (λ b. alike f c g n new.contents old.contents b apart (cases_lt b n) out.contents);
  durable = λ b. elim (either f c g n new.durable old.durable old.contents b apart (cases_lt b n) out.durable) [
    | inl was ↦ inl was
    | inr held ↦ inr (inl held)
  ];
}

pub outside_goes_on : OutsideGoesOn
outside_goes_on = record { none = outside_same; more = outside_then }
