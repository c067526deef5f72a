-- The bytes of a page whose tail is filled with zeros.
use Rattle.std.proofs.Common.{◌≡◌, ℕ, ◌+◌, ◌-◌, ◌<◌, ◌%◌, true, List, [], ◌++◌, length, replicate, take, ap, sym, ◌∙◌}
use Rattle.std.proofs.Common.{arith, length-append}
use Rattle.std.specs.Prelude.{drop}
use Rattle.std.proofs.Math.ListN.{drop_of_length-le}
use Rattle.std.proofs.Math.Nat.{mod-eq_of_lt}
use Rattle.std.proofs.lemmas.List.{append-nil, length-replicate, length-take-le, take_all}
use Rattle.pc_types.specs.Files.{cut}
use Rattle.machine.specs.Changes.{cut_page}
use Rattle.machine.specs.State.{Page}
use Rattle.pagestore.specs.Ranges.{with_part}
use Rattle.pagestore.proofs.StoreFacts.{row_with}

tail_zeros : (P from : ℕ) (row : List ℕ) → length row ≡ P → from < P
    → row_with row from (replicate (P - from) 0) ≡ cut (take (from % P) row) P
tail_zeros P from row size inside =
    let zeros = replicate (P - from) 0 in
    let taken : length (take from row) ≡ from = length-take-le from row (omega (arith, size, inside)) in
    let many : length zeros ≡ P - from = length-replicate (P - from) 0 in
    let past : drop (from + length zeros) row ≡ [] = drop_of_length-le row (omega (arith, size, many, inside)) in
    let whole : cut (take from row) P ≡ take from row ++ zeros =
    ap (λ n. take P (take from row ++ replicate (P - n) 0)) taken
    ∙ take_all P (take from row ++ zeros)
    (omega (arith, length-append (take from row) zeros, taken, many, inside)) in
    ap (λ (xs : List ℕ). take from row ++ zeros ++ xs) past ∙ append-nil (take from row ++ zeros) ∙ sym whole
    ∙ ap (λ n. cut (take n row) P) (sym (mod-eq_of_lt inside))

-- the page after
pub cut_is : (P from : ℕ) (page : Page) → length page.bytes ≡ P → from < P
    → with_part page from (replicate (P - from) 0) ≡ cut_page P from true page
cut_is P from page size inside =
    λ i. record { bytes = tail_zeros P from page.bytes size inside i; tags = record page.tags { dirty = true } }
