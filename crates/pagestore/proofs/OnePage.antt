-- A range of bytes within one page.
use Rattle.std.proofs.Common.{◌≡◌, ℕ, ◌+◌, ◌-◌, ◌*◌, ◌/◌, ◌%◌, ◌<◌, ◌≤◌, Bool, cond, List, [], ◌∷◌, length, get_or}
use Rattle.std.proofs.Common.{drop, ap, sym, ◌∙◌, arith}
use Rattle.std.specs.Prelude.{Some, None, find, slice_range}
use Rattle.std.specs.List.{range_with_len}
use Rattle.std.specs.Ordering.{nat_cmp}
use Rattle.std.specs.FinMap as finmap
use Rattle.std.specs.FinMap.{FinMap}
use Rattle.std.proofs.Math.Nat.{div-mul-le_self}
use Rattle.std.proofs.lemmas.Bool.Decides.{nat_tests}
use Rattle.std.proofs.lemmas.Nat.{div-mul-add}
use Rattle.std.proofs.lemmas.List.{get_or-drop}
use Rattle.pc_types.proofs.FileLaws.{byte-take}
use Rattle.machine.specs.PageLists.{PageLists, accessed, each_accessed}
use Rattle.pagestore.specs.Ranges.{AreRead, page_byte}
use Rattle.machine.specs.State.{Page, touched, touched_count}
use Rattle.pagestore.proofs.ReadLemmas.{place_in}

-- n bytes at o, all in the page of the first of them
module _ (P o n : ℕ) (positive : 0 < P) (some : 0 < n) (fits : o - o / P * P + n ≤ P) where
  pub one_last : (o + n - 1) / P ≡ o / P
  one_last =
      let start : o / P * P ≤ o = div-mul-le_self o P in
      let sum : o + n - 1 ≡ o / P * P + (o - o / P * P + n - 1) = omega (arith, start, some) in
      ap (λ x. x / P) sum ∙ div-mul-add (o / P) P (o - o / P * P + n - 1) (omega (arith, fits, some))

  pub one_count : (o + n - 1) / P + 1 - o / P ≡ 1
  one_count = omega (arith, one_last)

  pub one_touched_count : touched_count P o n ≡ 1
  one_touched_count = one_count

  pub one_range : range_with_len (o / P) ((o + n - 1) / P + 1 - o / P) ≡ o / P ∷ []
  one_range = ap (range_with_len (o / P)) one_count

  pub one_touched : touched P o n ≡ o / P ∷ []
  one_touched = one_range

  pub one_accessed : (f : ℕ) (l : PageLists) → each_accessed f (touched P o n) l ≡ accessed f (o / P) l
  one_accessed f l = ap (λ ps. each_accessed f ps l) one_touched

  -- the first of its pages that passes a test
  pub one_found : (test : ℕ → Bool) → find test (range_with_len (o / P) ((o + n - 1) / P + 1 - o / P))
      ≡ cond (test (o / P)) (Some (o / P)) None
  one_found test = ap (find test) one_range

  -- the bytes of the page from the place of o on are those that are read
  pub one_read : (pages : FinMap nat_cmp Page) (page : Page) (out : List ℕ) → Some page ≡ finmap.get pages (o / P)
      → length out ≡ n → out ≡ slice_range page.bytes (o - o / P * P) (o - o / P * P + n)
      → AreRead P o pages (length out) out
  one_read pages page out found long is = record {
    each = λ i h k.
        let start : o / P * P ≤ o = div-mul-le_self o P in
        let at = o - o / P * P in
        let place = place_in P (o / P) (o + i) (omega (arith, start)) (omega (arith, start, fits, long, h)) in
        let index : at + i ≡ (o + i) % P = omega (arith, start, place.1) in
        let front = byte-take (at + n - at) (drop at page.bytes) i in
        let back = get_or-drop at page.bytes i 0 in
        let inside : i < at + n - at = omega (arith, long, h) in
        let byte : get_or (slice_range page.bytes at (at + n)) i 0 ≡ get_or page.bytes (at + i) 0 =
        grind (arith, nat_tests) in
        ap (λ l. get_or l i 0) is ∙ byte ∙ ap (λ j. get_or page.bytes j 0) index
        ∙ ap (λ x. page_byte x ((o + i) % P)) (found ∙ ap (finmap.get pages) (sym place.0));
  }
