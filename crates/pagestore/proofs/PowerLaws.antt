-- A power of two is the greatest power of two that is not above it.
use Rattle.std.proofs.Common.{◌≡◌, ℕ, ◌+◌, ◌-◌, ◌*◌, ◌^◌, ◌<◌, ◌≤◌, Bool, true, false, refl, ap, arith}
use Rattle.std.specs.Prelude.{◌&&◌, IsTrue, count_ones}
use Rattle.std.specs.Int.{is_power_of_two}
use Rattle.std.specs.Int.Count.{ones_step}
use Rattle.std.proofs.lemmas.Bool.Decides.{nat_tests}
use Rattle.pc_types.specs.Limits.{Sizes, is_geometry}
use Rattle.std.proofs.lemmas.Nat.{ones_cat, ones_le_self, zero_from_ones}

one_of_one : count_ones 1 ≡ 1
one_of_one = omega (arith, ones_step 1, ones_le_self 0)

pub power_is : (n k : ℕ) → IsTrue (is_power_of_two n) → 2 ^ k ≤ n → n < 2 * 2 ^ k → n ≡ 2 ^ k
power_is n k power low high =
    let one : count_ones n ≡ 1 = grind (arith, nat_tests) in
    let parts : n ≡ 1 * 2 ^ k + (n - 2 ^ k) = omega (arith, low) in
    let rest : count_ones (n - 2 ^ k) ≡ 0 =
    omega (arith, one, ap count_ones parts, ones_cat k 1 (n - 2 ^ k) (omega (arith, low, high)), one_of_one) in
    omega (arith, low, zero_from_ones (n - 2 ^ k) rest)

left : (a b : Bool) → IsTrue (a && b) → IsTrue a
left true b h = refl
left false b h = h

pub page_power : (g : Sizes) → IsTrue (is_geometry g) → IsTrue (is_power_of_two g.page)
page_power g h = left _ _ (left _ _ (left _ _ (left _ _ (left _ _ (left _ _ (left _ _ (left _ _ h)))))))
