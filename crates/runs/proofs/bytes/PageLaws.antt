-- What a write does to the pages of a plain file.
use Rattle.std.proofs.Common.{◌≡◌, ℕ, ◌+◌, ◌-◌, ◌*◌, ◌/◌, ◌%◌, ◌<◌, ◌≤◌, false, cond, ltb, leb, List, length, get_or, take}
use Rattle.std.proofs.Common.{drop, sym, ◌∙◌, arith, length-drop, ◌&&◌, le-div_iff_mul-le, get_or-drop}
use Rattle.std.proofs.lemmas.Grind.{same_number_lists}
use Rattle.std.proofs.lemmas.Bool.Decides.{nat_tests}
use Rattle.pc_types.specs.Files.{pwrite, page_of}
use Rattle.pc_types.proofs.FileLaws.{byte-pwrite, byte-take, byte-page, length-cut}
use Rattle.machine.specs.Changes.{overlay}
use Rattle.machine.proofs.changes.StateLaws.{touches}
use Rattle.machine.proofs.changes.WriteLengths.{length-overlay}

-- where a byte stands: in a page, and there
pub byte_place : (P x : ℕ) → 0 < P → (x % P < P) × (x / P * P + x % P ≡ x)
byte_place P x h = (omega arith, let m : x / P * P ≡ P * (x / P) = grind arith in omega arith)

pub length-page : (P : ℕ) (f : List ℕ) (p : ℕ) → length (page_of P f p) ≡ P
length-page P f p = length-cut (drop (p * P) f) P

-- a write into a page of the file gives the page of the file that is written
pub overlay-page : (P o p : ℕ) (b f : List ℕ) → overlay P o b p (page_of P f p) ≡ page_of P (pwrite f o b) p
overlay-page P o p b f =
    same_number_lists _ _ (length-overlay P o p b _ (length-page P f p) ∙ sym (length-page P (pwrite f o b) p)) (λ k h.
    let small : k < P = omega (arith, length-overlay P o p b (page_of P f p) (length-page P f p)) in
    byte_in P o (p * P) b f (page_of P f p) k small (byte-page P f p k small)
    ∙ sym (byte-page P (pwrite f o b) p k small))
  where
    byte_in : (P o s : ℕ) (b f page : List ℕ) (k : ℕ) → k < P → get_or page k 0 ≡ get_or f (s + k) 0
        → get_or (take P (pwrite page (o - s) (drop (s - o) b))) k 0 ≡ get_or (pwrite f o b) (s + k) 0
    byte_in P o s b f page k h e =
        let cutting = byte-take P (pwrite page (o - s) (drop (s - o) b)) k in
        let left = byte-pwrite page (o - s) (drop (s - o) b) k in
        let right = byte-pwrite f o b (s + k) in
        let size = length-drop (s - o) b in
        let from = get_or-drop (s - o) b (k - (o - s)) 0 in
        grind (arith, nat_tests)

low_page : (P o p k : ℕ) → 0 < P → k < P → o ≤ p * P + k → o / P ≤ p
low_page P o p k pos h l =
    let not_more : p + 1 ≤ o / P → (p + 1) * P ≤ o = (le-div_iff_mul-le pos).0 in
    grind arith

-- a page that the write doesn't touch
pub untouched_page : (P o p : ℕ) (b f : List ℕ) → 0 < P → 0 < length b → touches P o (length b) p ≡ false
    → page_of P (pwrite f o b) p ≡ page_of P f p
untouched_page P o p b f pos full out = same_number_lists _ _ (length-page P (pwrite f o b) p ∙ sym (length-page P f p))
    (λ k h.
    let small : k < P = omega (arith, length-page P (pwrite f o b) p) in
    byte-page P (pwrite f o b) p k small ∙ byte-pwrite f o b (p * P + k) ∙ outside k small
    ∙ sym (byte-page P f p k small))
  where
    outside : (k : ℕ) → k < P → cond (leb o (p * P + k) && ltb (p * P + k) (o + length b)) (get_or b (p * P + k - o) 0)
        (get_or f (p * P + k) 0) ≡ get_or f (p * P + k) 0
    outside k h =
        let low : o ≤ p * P + k → o / P ≤ p = λ l. low_page P o p k pos h l in
        let high : p * P + k < o + length b → p ≤ (o + length b - 1) / P =
        λ l. (le-div_iff_mul-le pos).1 (omega (arith, l)) in
        grind (arith, nat_tests)
