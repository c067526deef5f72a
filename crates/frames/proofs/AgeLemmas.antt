-- One frame goes from the active tail to the inactive head.
use Rattle.std.proofs.Common.{◌≡◌, ◌∙◌, sym, ap, ℕ, ◌+◌, ◌-◌, ◌/◌, ◌<◌, ◌≤◌, min, Bool, false, List, ◌∷◌, ◌++◌, length, get_or, take, drop, slice_set, arith, length-append, length-drop}
use Rattle.std.proofs.lemmas.List.{take-take, get_or-take, drop_more, length-take-le}
use Rattle.frames.specs.Table.{cleared}

pub record IsAged (A I : List ℕ) (R : List Bool) (moved : ℕ) (active inactive : List ℕ) (referenced : List Bool) : Type 0 where
  pub counted : moved + length active ≡ length A
  pub border : min (length A) ((length A + length I) / 2) ≤ length active
  pub front : active ≡ take (length active) A
  pub back : inactive ≡ drop (length active) A ++ I
  pub flags : referenced ≡ cleared (drop (length active) A) R

pub aged_more : (A I : List ℕ) (R : List Bool) (moved : ℕ) (active inactive : List ℕ) (referenced : List Bool) (f : ℕ) (active' inactive' : List ℕ) → IsAged A I R moved active inactive referenced → length inactive < length active → f ≡ get_or active (length active - 1) 0 → active' ≡ take (length active - 1) active → inactive' ≡ f ∷ inactive → IsAged A I R (moved + 1) active' inactive' (slice_set referenced f false)
aged_more A I R moved active inactive referenced f active' inactive' h longer last shorter pushed =
    let k = length active - 1 in
    let whole : k + 1 ≡ length active = omega arith in
    let size : length active' ≡ k = ap (λ (xs : List ℕ). length xs) shorter ∙ length-take-le k active (omega arith) in
    let below : k < length A = omega (arith, h.counted) in
    let front : active' ≡ take k A = shorter ∙ ap (λ (xs : List ℕ). take k xs) h.front ∙ take-take k (length active) A (omega arith) in
    let frame : f ≡ get_or A k 0 = last ∙ ap (λ (xs : List ℕ). get_or xs k 0) h.front ∙ get_or-take (length active) A k 0 (omega arith) in
    let rest : drop k A ≡ f ∷ drop (length active) A =
    drop_more A k 0 below ∙ ap (λ (x : ℕ). x ∷ drop (k + 1) A) (sym frame) ∙ ap (λ (n : ℕ). f ∷ drop n A) whole
    in
    let here : drop (length active') A ≡ f ∷ drop (length active) A = ap (λ (n : ℕ). drop n A) size ∙ rest in
    let total : length inactive + length active ≡ length A + length I = omega (arith, ap (λ (xs : List ℕ). length xs) h.back, length-append (drop (length active) A) I, length-drop (length active) A, h.counted) in
    record {
      counted = omega (arith, h.counted);
      border = omega arith;
      front = front ∙ ap (λ (n : ℕ). take n A) (sym size);
      back = pushed ∙ ap (λ (xs : List ℕ). f ∷ xs) h.back ∙ ap (λ (xs : List ℕ). xs ++ I) (sym here);
      flags = ap (λ (bs : List Bool). slice_set bs f false) h.flags ∙ ap (λ (xs : List ℕ). cleared xs R) (sym here);
    }
