-- The part of a write that falls into one page.
use Rattle.std.proofs.Common.{◌≡◌, ℕ, ◌+◌, ◌-◌, ◌*◌, ◌/◌, ◌<◌, ◌≤◌, min, cond, ltb, List, [], ◌∷◌, ◌++◌, length, get_or}
use Rattle.std.proofs.Common.{take, drop, ap, sym, ◌∙◌, arith, length-drop}
use Rattle.std.specs.Prelude.{slice_range}
use Rattle.std.proofs.Math.Nat.{le-div_iff_mul-le, mul-le-mul_left}
use Rattle.std.proofs.lemmas.Grind.{same_number_lists}
use Rattle.std.proofs.lemmas.Bool.Decides.{nat_tests}
use Rattle.std.proofs.lemmas.List.{length-take, take-append-le}
use Rattle.pc_types.specs.Files.{pwrite}
use Rattle.pc_types.proofs.FileLaws.{byte-pwrite, length-pwrite, byte-take}

-- in place within a file is a write of it
pasted : (f : List ℕ) (a : ℕ) (w : List ℕ) → a ≤ length f → 0 < length w
    → take a f ++ w ++ drop (a + length w) f ≡ pwrite f a w
pasted f a [] h k = absurd (omega arith)
pasted f a (x ∷ w) h k = ap (λ t. t ++ (x ∷ w) ++ drop (a + length (x ∷ w)) f) (sym (take-append-le a f _ h))

inside : (k n x : ℕ) → k < n → cond (ltb k n) x 0 ≡ x
inside k n x h = grind (arith, nat_tests)

module _ (P o s : ℕ) (b bytes : List ℕ) (size : length bytes ≡ P) (above : o < s + P) (below : s < o + length b)
    (some : 0 < length b) (positive : 0 < P) where
  abbrev to : ℕ
  to = min (length b) (s + P - o)

  abbrev part : List ℕ
  part = slice_range b (s - o) to

  abbrev rest : List ℕ
  rest = drop (s - o) b

  length-part : length part ≡ to - (s - o)
  length-part = omega (arith, length-take (to - (s - o)) rest, length-drop (s - o) b)

  same_byte : (k : ℕ) → k < P → get_or (pwrite bytes (o - s) part) k 0 ≡ get_or (pwrite bytes (o - s) rest) k 0
  same_byte k h =
      let left = byte-pwrite bytes (o - s) part k in
      let right = byte-pwrite bytes (o - s) rest k in
      let inner = byte-take (to - (s - o)) rest (k - (o - s)) in
      let size_part = length-part in
      let size_rest = length-drop (s - o) b in
      grind (arith, nat_tests)

  pub overlay_part : take (o - s) bytes ++ part ++ drop (o - s + length part) bytes ≡ take P (pwrite bytes (o - s) rest)
  overlay_part =
      let full : 0 < length part = omega (arith, length-part) in
      let full_rest : 0 < length rest = omega (arith, length-drop (s - o) b) in
      let long = length-pwrite bytes (o - s) part full in
      let long_rest = length-pwrite bytes (o - s) rest full_rest in
      pasted bytes (o - s) part (omega arith) full
      ∙ same_number_lists _ _ (omega (arith, length-part, length-take P (pwrite bytes (o - s) rest)))
      (λ k h. same_byte k (omega (arith, length-part))
      ∙ sym (byte-take P (pwrite bytes (o - s) rest) k ∙ inside k P _ (omega (arith, length-part))))

-- ---- the pages that a range touches

pub touched_above : (P o p : ℕ) → 0 < P → o / P ≤ p → o < p * P + P
touched_above P o p h t = omega (arith, mul-le-mul_left P t)

pub touched_below : (P x p : ℕ) → 0 < P → p ≤ x / P → p * P ≤ x
touched_below P x p h t = (le-div_iff_mul-le h).0 t
