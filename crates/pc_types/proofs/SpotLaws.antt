-- What a block shows of its page, byte by byte.
use Rattle.std.proofs.Common.{◌≡◌, ℕ, ◌<◌, ◌≤◌, cond, ltb, List, length, get_or, take, ap, sym, ◌∙◌, arith}
use Rattle.std.proofs.lemmas.Bool.Decides.{nat_tests}
use Rattle.std.proofs.lemmas.Grind.{same_number_lists}
use Rattle.pc_types.specs.Spots.{shown}
use Rattle.pc_types.proofs.FileLaws.{byte-cut, byte-take, length-cut}

pub length-shown : (P valid : ℕ) (b : List ℕ) → length (shown P valid b) ≡ P
length-shown P valid b = length-cut (take valid b) P

pub byte-shown : (P valid : ℕ) (b : List ℕ) (k : ℕ) → get_or (shown P valid b) k 0
    ≡ cond (ltb k P) (cond (ltb k valid) (get_or b k 0) 0) 0
byte-shown P valid b k = byte-cut (take valid b) P k ∙ ap (λ (x : ℕ). cond (ltb k P) x 0) (byte-take valid b k)

-- a block of a page's bytes shows them all, where all are valid
pub shown_whole : (P valid : ℕ) (b : List ℕ) → length b ≡ P → P ≤ valid → shown P valid b ≡ b
shown_whole P valid b size all = same_number_lists _ _ (length-shown P valid b ∙ sym size) (λ k h.
    let small : k < P = omega (arith, length-shown P valid b) in
    byte-shown P valid b k ∙ grind (arith, nat_tests))
