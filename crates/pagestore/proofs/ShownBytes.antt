-- What a block shows of its page, as a part of the block with zeros behind it.
use Rattle.std.proofs.Common.{◌≡◌, ℕ, ◌+◌, ◌-◌, ◌++◌, List, length, get_or, take, sym, ◌∙◌, arith, min, replicate, length-append}
use Rattle.std.proofs.lemmas.Bool.Decides.{nat_tests}
use Rattle.std.proofs.lemmas.Grind.{same_number_lists}
use Rattle.std.proofs.lemmas.List.{get_or_past, length-take, length-replicate}
use Rattle.pc_types.specs.Spots.{shown}
use Rattle.pc_types.proofs.FileLaws.{byte-append, byte-take, byte-zeros}
use Rattle.pc_types.proofs.SpotLaws.{byte-shown, length-shown}
use Rattle.frames.specs.Rows.{laid}

-- of a block's first bytes, where they are no more than it has
pub laid-shown : (P valid n : ℕ) (b : List ℕ) → length b ≡ P → n ≡ min valid (length b) → laid P 0 (take n b) ≡ shown P valid b
laid-shown P valid n b size is = same_number_lists _ _ (long ∙ sym (length-shown P valid b)) (λ k h. byte k)
  where
    part : List ℕ
    part = take n b

    len : length part ≡ min valid P
    len = omega (arith, length-take n b, size, is)

    rest : ℕ
    rest = P - (0 + length part)

    long : length (part ++ replicate rest 0) ≡ P
    long = omega (arith, length-append part (replicate rest 0), length-replicate {A = ℕ} rest 0, len)

    byte : (k : ℕ) → get_or (part ++ replicate rest 0) k 0 ≡ get_or (shown P valid b) k 0
    byte k =
        let joined = byte-append part (replicate rest 0) k in
        let front = byte-take n b k in
        let first = is in
        let back = byte-zeros rest (k - length part) in
        let whole = byte-shown P valid b k in
        let many = len in
        let past = get_or_past b k 0 in
        grind (arith, nat_tests)
