-- An absent page that is entered and then cached, and the bytes that it is made of.
use Rattle.std.proofs.Common.{◌≡◌, ℕ, ◌+◌, ◌-◌, ◌<◌, ◌≤◌, true, false, List, [], ◌++◌, length, ap, sym, refl, ◌∙◌, arith, replicate}
use Rattle.std.proofs.Common.{◌&&◌, cond, eq-eqb}
use Rattle.std.specs.Prelude.{Some, is_some, take, drop, unwrap_or}
use Rattle.std.specs.FinMap as finmap
use Rattle.std.specs.FinMap.{FinMap}
use Rattle.std.specs.FinSet as set
use Rattle.std.specs.Ordering.{nat_cmp}
use Rattle.std.proofs.lemmas.List.{drop-replicate, take-replicate}
use Rattle.pc_types.specs.Files.{cut}
use Rattle.pc_types.specs.Tags.{no_tags}
use Rattle.frames.specs.Rows.{laid}
use Rattle.machine.specs.PageLists.{entered}
use Rattle.machine.specs.State.{Page}
use Rattle.maps.proofs.Maps.{get-insert_nat}
use Rattle.pagestore.specs.Ranges.{dirtied, with_part}
use Rattle.pagestore.specs.Store.{Store, blank, is_awaited, stored_at, stored_page, the_page, with_lists, with_pages}
use Rattle.pagestore.proofs.RangeLemmas.{length-with, pages-with, with-with}
use Rattle.pagestore.proofs.StoreEntries.{contains-put_in, insert-twice, put_in-again}

-- ---- bytes, with zeros around them

zeros_cut : (n : ℕ) → cut [] n ≡ replicate n 0
zeros_cut n = take-replicate n (n - 0) 0 (omega arith)

pub laid-none : (n : ℕ) → laid n 0 [] ≡ cut [] n
laid-none n = let all : n - 0 ≡ n = omega arith in ap (λ k. replicate k 0) all ∙ sym (zeros_cut n)

pub laid-part : (n at : ℕ) (b : List ℕ) → at + length b ≤ n
    → laid n at b ≡ take at (cut [] n) ++ b ++ drop (at + length b) (cut [] n)
laid-part n at b h =
    let front : take at (cut [] n) ≡ replicate at 0 = ap (take at) (zeros_cut n) ∙ take-replicate at n 0 (omega arith) in
    let back : drop (at + length b) (cut [] n) ≡ replicate (n - (at + length b)) 0 =
    ap (drop (at + length b)) (zeros_cut n) ∙ drop-replicate (at + length b) n 0 in
    λ i. sym front i ++ b ++ sym back i

-- ---- the steps of a page that is made

abbrev page_with : List ℕ → Page
page_with row = record { bytes = row; tags = no_tags }

module _ (old mid : Store) (f p : ℕ) (is : mid ≡ record old
    { filling = set.insert old.filling (f, p); free = old.free - 1; lists = entered f p old.lists }) where
  pub entered_here : f < length old.files → f < length mid.files
  entered_here here = omega (arith, here, ap (λ (s : Store). length s.files) is)

  pub entered_size : mid.page ≡ old.page
  entered_size = ap (λ (s : Store). s.page) is

  pub entered_awaited : is_awaited mid f p ≡ true
  entered_awaited = ap (λ (s : Store). is_awaited s f p) is ∙ contains-put_in old.filling f p true f p
      ∙ (λ i. cond (eq-eqb f f refl i && eq-eqb p p refl i) true (set.contains old.filling (f, p)))

  -- it is cached
  module _ (idle : is_awaited old f p ≡ false) (row : ℕ → List ℕ) (new : Store) (done : new ≡ record (with_pages mid f
      (finmap.insert (stored_at mid f).pages p (page_with (row mid.page))) mid.free)
      { filling = set.remove mid.filling (f, p) }) where
    pub finished : new ≡ with_lists (with_pages old f
        (finmap.insert (stored_at old f).pages p (page_with (row old.page))) (old.free - 1)) (entered f p old.lists)
    finished =
        done
        ∙ ap (λ (s : Store). let u : Store = record (with_pages s f
        (finmap.insert (stored_at s f).pages p (page_with (row s.page))) s.free)
        { filling = set.remove s.filling (f, p) } in u) is
        ∙ (λ i. record (with_lists (with_pages old f
        (finmap.insert (stored_at old f).pages p (page_with (row old.page))) (old.free - 1)) (entered f p old.lists))
        { filling = put_in-again old.filling f p idle i })

    module _ (here : f < length old.files) where
      abbrev pages : FinMap nat_cmp Page
      pages = finmap.insert (stored_at old f).pages p (page_with (row old.page))

      pages_now : (stored_at new f).pages ≡ pages
      pages_now = ap (λ (s : Store). (stored_at s f).pages) finished ∙ pages-with old f here pages (old.free - 1)

      pub finished_here : f < length new.files
      finished_here = omega (
        arith,
        here,
        ap (λ (s : Store). length s.files) finished,
        length-with old f pages (old.free - 1),
      )

      page_now : finmap.get (stored_at new f).pages p ≡ Some (page_with (row old.page))
      page_now = ap (λ (m : FinMap nat_cmp Page). finmap.get m p) pages_now
          ∙ get-insert_nat (stored_at old f).pages p (page_with (row old.page)) p
          ∙ ap (λ b. cond b (Some (page_with (row old.page))) (finmap.get (stored_at old f).pages p)) (eq-eqb p p refl)

      pub finished_cached : is_some (stored_page new f p) ≡ true
      finished_cached = ap is_some page_now

      -- and DIRTY
      pub finished_dirty : (last : Store) → last ≡ with_pages new f
          (finmap.insert (stored_at new f).pages p (dirtied (the_page (stored_at new f).pages p))) new.free
          → last ≡ with_lists (with_pages old f
          (finmap.insert (stored_at old f).pages p (dirtied (page_with (row old.page)))) (old.free - 1))
          (entered f p old.lists)
      finished_dirty last e =
          let again : finmap.insert (stored_at new f).pages p (dirtied (the_page (stored_at new f).pages p))
          ≡ finmap.insert (stored_at old f).pages p (dirtied (page_with (row old.page))) =
          (λ i. finmap.insert (pages_now i) p
          (dirtied (unwrap_or {T = Page} (page_now i) (record { bytes = []; tags = no_tags }))))
          ∙ insert-twice (stored_at old f).pages p (page_with (row old.page)) (dirtied (page_with (row old.page))) in
          e
          ∙ (λ i. with_pages (finished i) f (again i) (ap (λ (s : Store). s.free) finished i))
          ∙ ap (λ (s : Store). with_lists s (entered f p old.lists)) (with-with old f here pages
          (finmap.insert (stored_at old f).pages p (dirtied (page_with (row old.page)))) (old.free - 1) (old.free - 1))

-- a page that was made of these bytes is one of zeros with them in place
pub laid_page : (n at : ℕ) (b : List ℕ) → at + length b ≤ n → dirtied (page_with (laid n at b)) ≡ with_part (blank n) at b
laid_page n at b h = ap (λ row. dirtied (page_with row)) (laid-part n at b h)
