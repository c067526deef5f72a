-- How many pages a range of bytes touches.
use Rattle.std.proofs.Common.{◌≡◌, ℕ, true, false, suc, ◌+◌, ◌-◌, ◌*◌, ◌/◌, ◌%◌, ◌<◌, ◌≤◌, ap, sym, ◌∙◌, arith}
use Rattle.std.proofs.Math.Nat.{add-mul, le-div_iff_mul-le, div-mul-le_self, mul-le-mul_left}
use Rattle.std.specs.Prelude.{nat_lt}
use Rattle.std.proofs.lemmas.Bool.Decides.{nat_tests}
use Rattle.std.proofs.lemmas.Nat.{div-mul-add, mod_below}
use Rattle.pc_types.specs.declared.limits.TheConstants.{MAX_FILE_SIZE, MIN_PAGE_SIZE}
use Rattle.mapping.specs.declared.mapping.TheConstants.{MAX_PAGES}
use Rattle.machine.specs.State.{page_count, touched_count}

-- whole pages before x count on their own
pages_before : (P q x : ℕ) → 0 < P → (q * P + x) / P ≡ q + x / P
pages_before P q x positive =
    let sum : (q + x / P) * P + x % P ≡ q * P + x = omega (arith, add-mul q (x / P) P) in
    ap (λ n. n / P) (sym sum) ∙ div-mul-add (q + x / P) P (x % P) (mod_below x P positive)

-- counted from the start of the first page
pub touched_count_is : (P o n : ℕ) → 0 < P → 0 < n → touched_count P o n ≡ (o % P + n - 1) / P + 1
touched_count_is P o n positive some =
    let sum : o + n - 1 ≡ o / P * P + (o % P + n - 1) = omega arith in
    let last : (o + n - 1) / P ≡ o / P + (o % P + n - 1) / P = ap (λ x. x / P) sum
    ∙ pages_before P (o / P) (o % P + n - 1) positive in
    omega arith

-- the last page is not before the first one
pub in_order : (P o n : ℕ) → 0 < P → 0 < n → o / P ≤ (o + n - 1) / P
in_order P o n positive some = (le-div_iff_mul-le positive).1 (let start = div-mul-le_self o P in omega arith)

-- ---- the numbers of pages stay below what a file has at most

pub last_below : (P x : ℕ) → MIN_PAGE_SIZE ≤ P → x < MAX_FILE_SIZE → x / P + 1 ≤ MAX_PAGES
last_below P x least small =
    let start : x / P * P ≤ x = div-mul-le_self x P in
    let more : x / P * MIN_PAGE_SIZE ≤ x / P * P = mul-le-mul_left (x / P) least in
    omega (arith, start, more)

pub page_below : (P size p : ℕ) → MIN_PAGE_SIZE ≤ P → size ≤ MAX_FILE_SIZE → p < page_count P size → p < MAX_PAGES
page_below P size p least small below =
    let positive : 0 < P = omega (arith, least) in
    let first : suc p ≤ (size + (P - 1)) / P = omega (arith, below) in
    let whole : suc p * P ≤ size + (P - 1) = (le-div_iff_mul-le positive).0 first in
    let product : suc p * P ≡ p * P + P = omega arith in
    let more : p * MIN_PAGE_SIZE ≤ p * P = mul-le-mul_left p least in
    omega (arith, whole, product, more)

pub not_less : (m k : ℕ) → nat_lt m k ≡ false → k ≤ m
not_less m k e = grind (arith, nat_tests)

pub is_less : (m k : ℕ) → nat_lt m k ≡ true → m < k
is_less m k e = grind (arith, nat_tests)
