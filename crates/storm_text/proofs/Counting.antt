-- What is printed of refusals, number by number.
use Rattle.std.proofs.Common.{◌≡◌, ℕ, ◌+◌, ◌<◌, List, [], ◌∷◌, ◌++◌, length, take, get_or, refl, ap, sym, ◌∙◌, arith}
use Rattle.std.proofs.lemmas.List.{append-nil, append_assoc, length-take-le, take_more}
use Rattle.storm_text.specs.Told.{counted, counted_from}

counted_last : (times : List ℕ) (n t : ℕ)
    → counted_from n (times ++ t ∷ []) ≡ counted_from n times ++ counted (n + length times) t
counted_last [] n t = append-nil (counted n t) ∙ ap (λ m. counted m t) (omega arith)
counted_last (x ∷ times) n t =
    ap (λ text. counted n x ++ text) (counted_last times (n + 1) t)
    ∙ sym (append_assoc (counted n x) (counted_from (n + 1) times) (counted (n + 1 + length times) t))
    ∙ ap (λ m. (counted n x ++ counted_from (n + 1) times) ++ counted m t) (omega arith)

-- one number more
pub counted_more : (times : List ℕ) (k d : ℕ) → k < length times
    → counted_from 1 (take k times) ++ counted (k + 1) (get_or times k d) ≡ counted_from 1 (take (k + 1) times)
counted_more times k d below =
    sym (
    ap (counted_from 1) (take_more times k d below)
    ∙ counted_last (take k times) 1 (get_or times k d)
    ∙ ap (λ m. counted_from 1 (take k times) ++ counted m (get_or times k d))
    (let e = length-take-le k times (omega (arith, below)) in omega (arith, e))
    )
