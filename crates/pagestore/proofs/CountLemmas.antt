-- A count of a range that ends early.
use Rattle.std.proofs.Common.{◌≡◌, ◌∙◌, sym, ap, ℕ, ◌+◌, ◌-◌, ◌<◌, ◌≤◌, ◌⊎◌, inl, inr, Bool, true, false, cond, arith}
use Rattle.std.specs.Prelude.{count_by, nat_lt}
use Rattle.std.specs.List.{range_with_len}
use Rattle.std.proofs.lemmas.Bool.Decides.{nat_tests}
use Rattle.std.proofs.lemmas.List.FromFn.{length-range_with_len}
use Rattle.std.proofs.lemmas.List.Sums.{count_by-le-length}
use Rattle.pagestore.proofs.RangeLemmas.{count-first}

tells_yes : (m n : ℕ) → m < n → nat_lt m n ≡ true
tells_yes m n h = grind (arith, nat_tests)

tells_no : (m n : ℕ) → n ≤ m → nat_lt m n ≡ false
tells_no m n h = grind (arith, nat_tests)

-- of `page` up to `end`
abbrev pub passing : (ℕ → Bool) → ℕ → ℕ → ℕ
passing passes page end = count_by passes (range_with_len page (end - page))

module _ (passes : ℕ → Bool) (page end : ℕ) (in_end : page < end) where
  pub counted_yes : true ≡ passes page → passing passes page end ≡ 1 + passing passes (page + 1) end
  counted_yes e = count-first passes page end in_end ∙ ap (λ b. cond b 1 0 + passing passes (page + 1) end) (sym e)

  pub counted_no : false ≡ passes page → passing passes page end ≡ passing passes (page + 1) end
  counted_no e =
      let all = count-first passes page end in_end ∙ ap (λ b. cond b 1 0 + passing passes (page + 1) end) (sym e) in
      omega (arith, all)

-- the pages that are left fit where as many may pass
pub rest_fits : (passes : ℕ → Bool) (first page end room spare : ℕ) → end - page ≤ spare
    → room + passing passes page end ≡ spare + passing passes first end → false ≡ nat_lt room (passing passes first end)
rest_fits passes first page end room spare few counted =
    let most = count_by-le-length passes (range_with_len page (end - page)) in
    let len = length-range_with_len page (end - page) in
    sym (tells_no room (passing passes first end) (omega (arith, most, len, few, counted)))

-- one passes where none may any more
pub one_more : (passes : ℕ → Bool) (first page end room : ℕ) → page < end → true ≡ passes page
    → room + passing passes page end ≡ passing passes first end → true ≡ nat_lt room (passing passes first end)
one_more passes first page end room in_end e counted =
    let here = counted_yes passes page end in_end e in
    sym (tells_yes room (passing passes first end) (omega (arith, here, counted)))

-- the pages that are left fit where as many may pass, so those that do not fit are counted
pub over_counted : (passes : ℕ → Bool) (first page end room over spare : ℕ) → end - page ≤ spare → (over ≡ 0) ⊎ (spare ≡ 0)
    → room + over + passing passes page end ≡ spare + passing passes first end → over ≡ passing passes first end - room
over_counted passes first page end room over spare few one counted =
    let most = count_by-le-length passes (range_with_len page (end - page)) in
    let len = length-range_with_len page (end - page) in
    elim one [
      | inl none ↦ omega (arith, most, len, few, counted, none)
      | inr full ↦ omega (arith, most, len, few, counted, full)
    ]
