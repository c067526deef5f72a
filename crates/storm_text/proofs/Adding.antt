-- Two counts, added place by place.
use Rattle.std.proofs.Common.{◌≡◌, ℕ, ◌+◌, ◌-◌, ◌<◌, ◌≤◌, min, List, get_or, length, set, refl, ap, sym, subst, ◌∙◌, arith, inl, inr}
use Rattle.std.proofs.lemmas.Bool.{cases_lt}
use Rattle.std.proofs.lemmas.List.{get_or-set_other, get_or-set_same}
use Rattle.std.specs.Prelude.{◌^◌}
use Rattle.storm_text.specs.Told.{AreAdded}

-- the places before this one are added, and those from it on are as they were
abbrev pub AddedBefore : ℕ → List ℕ → List ℕ → List ℕ → Type 0
AddedBefore n one other now =
    ((p : ℕ) → p < n → get_or now p 0 ≡ min (get_or one p 0 + get_or other p 0) (2 ^ 64 - 1))
    × ((p : ℕ) → n ≤ p → get_or now p 0 ≡ get_or one p 0)

pub none_added : (one other : List ℕ) → AddedBefore 0 one other one
none_added one other = (λ p l. absurd (omega (arith, l)), λ p l. refl)

pub added_next : (n sum : ℕ) (one other now : List ℕ) → n < length now
    → sum ≡ min (get_or now n 0 + get_or other n 0) (2 ^ 64 - 1) → AddedBefore n one other now
    → AddedBefore (n + 1) one other (set now n sum)
added_next n sum one other now below is h = (
  λ p l. elim (cases_lt p n) [
    | inl less ↦ get_or-set_other now n p sum 0 (λ e. omega (arith, e, less)) ∙ h.0 p less
    | inr more ↦
        let same : p ≡ n = omega (arith, l, more) in
        subst (λ q. get_or (set now n sum) q 0 ≡ min (get_or one q 0 + get_or other q 0) (2 ^ 64 - 1)) (sym same)
        (get_or-set_same now n sum 0 below ∙ is
        ∙ ap (λ x. min (x + get_or other n 0) (2 ^ 64 - 1)) (h.1 n (omega arith)))
  ],
  λ p l. get_or-set_other now n p sum 0 (λ e. omega (arith, e, l)) ∙ h.1 p (omega (arith, l)),
)

pub all_added : (n : ℕ) (one other now : List ℕ) → AddedBefore n one other now → 24 ≤ n → AreAdded one other now
all_added n one other now h past = λ p below. h.0 p (omega (arith, below, past))
