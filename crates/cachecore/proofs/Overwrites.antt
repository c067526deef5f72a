-- Bytes written into one page that is DIRTY: the steps of a write, of which only the last two do anything.
use Rattle.std.proofs.Common.{◌≡◌, ℕ, ◌+◌, ◌-◌, ◌*◌, ◌/◌, ◌<◌, ◌≤◌, max, Bool, true, false, cond, not, List, [], ◌∷◌, length}
use Rattle.std.proofs.Common.{refl, ap, sym, subst, ◌∙◌, arith}
use Rattle.std.specs.Prelude.{count_by, filter, is_some, slice_range, slice_set}
use Rattle.std.specs.List.{range_with_len}
use Rattle.std.specs.FinMap as finmap
use Rattle.std.proofs.Math.Nat.{div-mul-le_self}
use Rattle.std.proofs.lemmas.List.{take_all}
use Rattle.blockmap.specs.Blocks.{Blocks}
use Rattle.machine.specs.State.{State, is_cached, touched_count}
use Rattle.pagestore.specs.Store.{the_page, Store, stored_at, stored_page, with_lists, with_pages}
use Rattle.machine.specs.ListChanges.{lists_written}
use Rattle.pagestore.specs.Ranges.{AreSized, IsLaid, with_part}
use Rattle.machine.specs.PageLists.{PageLists, accessed, each_entered}
use Rattle.cachecore.specs.Placing.{is_bare, with_placed}
use Rattle.pagestore.proofs.OnePage.{one_count, one_last, one_range}
use Rattle.pagestore.proofs.Overlay.{touched_above}
use Rattle.pagestore.proofs.PairLemmas.{part_by_code}
use Rattle.cachecore.proofs.PlaceLemmas.{placed_none, placed_past}
use Rattle.pagestore.proofs.RangeLemmas.{laid_none, pages-with}
use Rattle.cachecore.proofs.WriteMoves.{written_lists}
use Rattle.cachecore.proofs.WriteSteps.{WriteSteps}

whole_slice : (b : List ℕ) → slice_range b 0 (length b) ≡ b
whole_slice b = take_all (length b - 0) b (omega arith)

module _ (P o : ℕ) (b : List ℕ) (positive : 0 < P) (some : 0 < length b) (fits : o - o / P * P + length b ≤ P) where
  abbrev page : ℕ
  page = o / P

  abbrev end : ℕ
  end = (o + length b - 1) / P + 1

  end_is : page + 1 ≡ end
  end_is = ap (λ n. n + 1) (sym (one_last P o (length b) positive some fits))

  -- the page has its block
  pub placed_same : (blocks : Blocks) (f : ℕ) → is_bare blocks f page ≡ false
      → with_placed blocks f (range_with_len page (touched_count P o (length b))) ≡ blocks
  placed_same blocks f there =
      let one : touched_count P o (length b) ≡ page + 1 - page =
      omega (arith, one_count P o (length b) positive some fits) in
      ap (λ n. with_placed blocks f (range_with_len page n)) one
      ∙ sym (placed_past blocks f page (page + 1) (omega arith) there) ∙ placed_none blocks f (page + 1)

  module _ (f : ℕ) (store : Store) (here : f < length store.files)
      (cached : is_some (stored_page store f page) ≡ true) where
    abbrev part : Store
    part = with_pages store f (finmap.insert (stored_at store f).pages page
        (with_part (the_page (stored_at store f).pages page) (o - page * P) b)) store.free

    module _ (n : ℕ) (laid final : Store) (laid_is : laid ≡ with_lists part (accessed f page store.lists))
        (grown : final ≡ record laid { files = slice_set laid.files f (record (stored_at laid f) { size = n }) })
        (size_is : n ≡ max (stored_at laid f).size (o + length b)) (sized : AreSized P (stored_at store f).pages) where
      laid_pages : (stored_at laid f).pages ≡ finmap.insert (stored_at store f).pages page
          (with_part (the_page (stored_at store f).pages page) (o - page * P) b)
      laid_pages = ap (λ (s : Store). (stored_at s f).pages) laid_is ∙ pages-with store f here _ store.free

      lays : IsLaid P o b page end (stored_at store f).pages (stored_at laid f).pages
      lays =
          let start : page * P ≤ o = div-mul-le_self o P in
          let whole : with_part (the_page (stored_at store f).pages page) (o - page * P) (slice_range b 0 (length b))
          ≡ with_part (the_page (stored_at store f).pages page) (o - page * P) b =
          ap (with_part (the_page (stored_at store f).pages page) (o - page * P)) (whole_slice b) in
          let put = part_by_code P o page (o - page * P) 0 (length b) b page (stored_at store f).pages
          (stored_at store f).pages refl (omega (arith, start)) (omega (arith, start, fits)) (omega arith)
          (laid_none P o b page (stored_at store f).pages) cached (sized.each page cached)
          (touched_above P o page positive (omega arith)) (omega (arith, start, some)) some positive in
          subst (λ k. IsLaid P o b page k (stored_at store f).pages (stored_at laid f).pages) end_is
          (subst (IsLaid P o b page (page + 1) (stored_at store f).pages)
          (sym (laid_pages ∙ ap (finmap.insert (stored_at store f).pages page) (sym whole))) put)

      -- no page is made
      none_made : count_by (λ p. not (is_some (stored_page store f p))) (range_with_len page (end - page)) ≡ 0
      none_made =
          let absent : ℕ → Bool = λ p. not (is_some (stored_page store f p)) in
          ap (λ n. count_by absent (range_with_len page (n - page))) (sym end_is)
          ∙ ap (λ n. count_by absent (range_with_len page n)) (let one : page + 1 - page ≡ 1 = omega arith in one)
          ∙ ap (λ b. count_by (λ t. t) (b ∷ [])) (ap not cached)

      pub put_steps : WriteSteps P o b f n store laid final
      put_steps = record {
        here = here;
        pages = lays;
        rest = laid_is ∙ (λ i. with_lists (with_pages store f (sym laid_pages i)
            (sym (ap (λ (s : Store). s.free) laid_is) i)) (sym (ap (λ (s : Store). s.lists) laid_is) i));
        fewer = omega (arith, ap (λ (s : Store). s.free) laid_is, none_made);
        size = size_is;
        grown = grown;
      }

-- and the page was accessed
pub put_lists : (s : State) (f o n P : ℕ) (old new : PageLists) → P ≡ s.sizes.page → 0 < P → 0 < n
    → o - o / P * P + n ≤ P → is_cached s f (o / P) ≡ true → new ≡ accessed f (o / P) old
    → new ≡ lists_written s f o n old
put_lists s f o n P old new size positive some fits cached new_is =
    let p = o / P in
    let range = one_range P o n positive some fits in
    written_lists s f o n old P (p ∷ []) old new size some
    (sym (ap (filter (is_cached s f)) range ∙ ap (λ b. cond b (p ∷ []) []) cached))
    (sym (ap (λ ps. each_entered f (filter (λ q. not (is_cached s f q)) ps) old) range
    ∙ ap (λ b. each_entered f (cond (not b) (p ∷ []) []) old) cached))
    new_is
