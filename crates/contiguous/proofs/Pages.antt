-- How many pages a file has, as it grows.
use Rattle.std.proofs.Common.{◌≡◌, ℕ, ◌+◌, ◌-◌, ◌/◌, ◌<◌, ◌≤◌, ◌⊎◌, ap, sym, ◌∙◌, arith, inl, inr, max}
use Rattle.std.proofs.Math.Nat.{add-div_left, div-mul-le_self}
use Rattle.std.proofs.lemmas.Nat.{le-div}
use Rattle.machine.specs.State.{page_count}

pub div_grows : (P y z : ℕ) → 0 < P → y ≤ z → y / P ≤ z / P
div_grows P y z pos h = le-div (y / P) z P pos (let low = div-mul-le_self y P in omega arith)

-- the pages up to the last byte of a file that ends at e
pub pages_to : (P e : ℕ) → 0 < P → 0 < e → (e - 1) / P + 1 ≡ page_count P e
pages_to P e pos some = sym (add-div_left (e - 1) pos)
    ∙ ap (λ k. k / P) (let same : P + (e - 1) ≡ e + (P - 1) = omega arith in same)

-- a longer file has no fewer pages
pub pages_grow : (P y z : ℕ) → 0 < P → y ≤ z → page_count P y ≤ page_count P z
pages_grow P y z pos h = div_grows P (y + (P - 1)) (z + (P - 1)) pos (omega arith)

-- the page that a file's end is in is its last, or the one behind it
pub end_page : (P z : ℕ) → 0 < P → z / P ≤ page_count P z
end_page P z pos = div_grows P z (z + (P - 1)) pos (omega arith)

pub max_pages : (P y z : ℕ) → 0 < P → max (page_count P y) (page_count P z) ≡ page_count P (max y z)
max_pages P y z pos = elim (either y z) [
  | inl h ↦ (let more = pages_grow P y z pos h in
      let most : max (page_count P y) (page_count P z) ≡ page_count P z = omega arith in
      most ∙ ap (page_count P) (let e : z ≡ max y z = omega arith in e))
  | inr h ↦ (let more = pages_grow P z y pos h in
      let most : max (page_count P y) (page_count P z) ≡ page_count P y = omega arith in
      most ∙ ap (page_count P) (let e : y ≡ max y z = omega arith in e))
]
  where
    either : (y z : ℕ) → (y ≤ z) ⊎ (z ≤ y)
    either y z = grind arith
