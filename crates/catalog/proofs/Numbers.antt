-- Pages and their bytes, as numbers.
use Rattle.std.proofs.Common.{ℕ, ◌+◌, ◌-◌, ◌*◌, ◌/◌, ◌^◌, ◌<◌, ◌≤◌, arith}
use Rattle.std.proofs.Math.Nat.{div-mul-le_self, mul-le-mul_left, mul-le-mul_right}
use Rattle.std.proofs.lemmas.Nat.{le-div}
use Rattle.machine.specs.State.{page_count}

-- page k has one of the bytes exactly where it is one of their pages
pub page_counted : (P z k : ℕ) → 0 < P → k * P < z → k < page_count P z
page_counted P z k some inside = let h : k + 1 ≤ (z + (P - 1)) / P = le-div (k + 1) (z + (P - 1)) P some (omega arith) in omega arith

pub counted_page : (P z k : ℕ) → 0 < P → k < page_count P z → k * P < z
counted_page P z k some low =
    let q : ℕ = (z + (P - 1)) / P in
    let most : q * P ≤ z + (P - 1) = div-mul-le_self (z + (P - 1)) P in
    let more : (k + 1) * P ≤ q * P = mul-le-mul_right P (let h : k + 1 ≤ q = omega arith in h) in
    omega arith

-- where bytes end within a file, so do their pages
pub page_within : (P first k bytes z : ℕ) → 16 ≤ P → first * P + bytes ≤ z → z ≤ 2 ^ 40 → k * P < bytes → first + k < 2 ^ 36
page_within P first k bytes z least in_file most inside =
    let e : (first + k) * 16 ≤ (first + k) * P = mul-le-mul_left (first + k) least in
    omega arith

pub first_within : (P first bytes z : ℕ) → 16 ≤ P → first * P + bytes ≤ z → z ≤ 2 ^ 40 → first ≤ 2 ^ 36
first_within P first bytes z least in_file most =
    let e : first * 16 ≤ first * P = mul-le-mul_left first least in
    omega arith

-- a page that has a valid byte of a file is one of its first 2 ^ 36
pub spot_within : (P p valid z : ℕ) → 16 ≤ P → p * P + valid ≤ z → 0 < valid → z ≤ 2 ^ 40 → p < 2 ^ 36
spot_within P p valid z least in_file some most =
    let e : p * 16 ≤ p * P = mul-le-mul_left p least in
    omega arith

pub pages_within : (P first bytes z : ℕ) → 16 ≤ P → first * P + bytes ≤ z → z ≤ 2 ^ 40 → 0 < bytes → first + page_count P bytes ≤ 2 ^ 36
pages_within P first bytes z least in_file most some =
    let q : ℕ = (bytes + (P - 1)) / P in
    let least_one : 0 < q = page_counted P bytes 0 (omega arith) (omega arith) in
    let inside : (q - 1) * P < bytes = counted_page P bytes (q - 1) (omega arith) (omega arith) in
    let low : first + (q - 1) < 2 ^ 36 = page_within P first (q - 1) bytes z least in_file most inside in
    omega arith
