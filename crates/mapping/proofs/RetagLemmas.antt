-- Pages are tagged one after another, each the lowest from the last on that has the tag.
use Rattle.std.proofs.Common.{◌≡◌, ℕ, ◌+◌, ◌<◌, ◌≤◌, Bool, true, false, cond, leb, ltb, refl, ap, sym, subst, ◌∙◌, inl, inr, arith}
use Rattle.std.specs.Prelude.{◌&&◌, Option, Some, None, option_map, find}
use Rattle.std.specs.FinMap as finmap
use Rattle.std.proofs.lemmas.Bool.{cases_eq, cases_lt, cases_Bool, and_parts, and_right, le-leb, le-ltb, lt-ltb, leb-true}
use Rattle.std.proofs.lemmas.Bool.Decides.{nat_tests}
use Rattle.std.proofs.lemmas.Option.{none-some, same_Some}
use Rattle.pc_types.specs.declared.tags.Tag.{Tag}
use Rattle.pc_types.specs.Tags.{has}
use Rattle.maps.specs.Maps.{change_at}
use Rattle.mapping.specs.declared.page.FoundPage.{FoundPage}
use Rattle.mapping.specs.Pages.{IsNumbered, Mapped, Pages, FilePages, with_tag, is_tagged, lowest, count, tag_if, tag_each}
use Rattle.mapping.specs.Pages.{found as found_page}
use Rattle.mapping.proofs.MapLemmas.{same_nat_map, get-each, count_same, count_none, count_one_more, found, found_lowest, found_none}
use Rattle.mapping.proofs.PageLemmas.{change_here, change_there}

none_before : (from to q : ℕ) (h : Bool) → ((leb from q && leb q to && h) && ltb q from) ≡ false
none_before from to q h = grind (arith, nat_tests)

and_true : (b : Bool) → (b && true) ≡ b
and_true b = grind (arith, nat_tests)

up_to : (b : Bool) (q next : ℕ) → q < next → (b && ltb q next) ≡ b
up_to b q next l = ap (λ c. b && c) (lt-ltb q next l) ∙ and_true b

past : (b : Bool) (q next : ℕ) → next ≤ q → (b && ltb q next) ≡ false
past b q next l = and_right b (ltb q next) (le-ltb q next l)

lower_from : (from next to q : ℕ) (h : Bool) → from ≤ next → next ≤ q → (leb next q && leb q to && h) ≡ (leb from q && leb q to && h)
lower_from from next to q h low l = ap (λ b. b && leb q to && h) (le-leb next q l ∙ sym (le-leb from q (omega (arith, low, l))))

get-tag_each : (test : ℕ × Mapped → Bool) (other : Tag) (pages : Pages) (q : ℕ) → finmap.get (tag_each test other pages) q ≡ option_map (λ page. tag_if test other (q, page)) (finmap.get pages q)
get-tag_each test other pages q = get-each (tag_if test other) pages q

-- where two tests answer alike they tag the same pages
tag_alike : (p t : ℕ × Mapped → Bool) (other : Tag) (pages : Pages) → ((q : ℕ) (page : Mapped) → finmap.get pages q ≡ Some page → p (q, page) ≡ t (q, page)) → tag_each p other pages ≡ tag_each t other pages
tag_alike p t other pages alike = same_nat_map _ _ (λ q. get-tag_each p other pages q ∙ go q (finmap.get pages q) refl ∙ sym (get-tag_each t other pages q))
  where
    go : (q : ℕ) (o : Option Mapped) → finmap.get pages q ≡ o → option_map (λ page. tag_if p other (q, page)) o ≡ option_map (λ page. tag_if t other (q, page)) o
    go q None e = refl
    go q (Some page) e = ap (λ b. Some (cond b (with_tag other true page) page)) (alike q page e)

-- the pages with the tag before the next that is looked at
abbrev pub before_next : Tag → ℕ → ℕ → ℕ → ℕ × Mapped → Bool
before_next tag from to next e = is_tagged tag from to e && ltb e.0 next

abbrev pub tagged_before : Tag → Tag → ℕ → ℕ → Pages → ℕ → Pages
tagged_before tag other from to pages next = tag_each (before_next tag from to next) other pages

module _ (tag other : Tag) (from to : ℕ) (pages : Pages) where
  abbrev so_far : ℕ → ℕ × Mapped → Bool
  so_far next = before_next tag from to next

  abbrev done : ℕ → Pages
  done next = tagged_before tag other from to pages next

  pub start_pages : done from ≡ pages
  start_pages = same_nat_map _ _ (λ q. get-tag_each (so_far from) other pages q ∙ go q (finmap.get pages q))
    where
      go : (q : ℕ) (o : Option Mapped) → option_map (λ page. tag_if (so_far from) other (q, page)) o ≡ o
      go q None = refl
      go q (Some page) = ap (λ b. Some (cond b (with_tag other true page) page)) (none_before from to q (has page.tags tag))

  pub start_count : count (so_far from) pages ≡ 0
  start_count = count_none (so_far from) pages (λ q page at. none_before from to q (has page.tags tag))

  module _ (next : ℕ) (low : from ≤ next) where
    -- a page from the next on is as it was
    untouched : (q : ℕ) → next ≤ q → finmap.get (done next) q ≡ finmap.get pages q
    untouched q l = get-tag_each (so_far next) other pages q ∙ go (finmap.get pages q)
      where
        go : (o : Option Mapped) → option_map (λ page. tag_if (so_far next) other (q, page)) o ≡ o
        go None = refl
        go (Some page) = ap (λ b. Some (cond b (with_tag other true page) page)) (past (is_tagged tag from to (q, page)) q next l)

    module _ (k : ℕ) (page : Mapped) (hit : find (is_tagged tag next to) (finmap.entries (done next)) ≡ Some (k, page)) where
      it : (is_tagged tag next to (k, page) ≡ true) × (finmap.get (done next) k ≡ Some page)
      it = found (done next) (is_tagged tag next to) (k, page) hit

      pub reached : next ≤ k
      reached = leb-true next k (and_parts (leb next k) (leb k to) (and_parts (leb next k && leb k to) (has page.tags tag) it.0).0).0

      pub there : finmap.get pages k ≡ Some page
      there = sym (untouched k reached) ∙ it.1

      passes : is_tagged tag from to (k, page) ≡ true
      passes = sym (lower_from from next to k (has page.tags tag) low reached) ∙ it.0

      others : (q : ℕ) (x : Mapped) → (q ≡ k → ⊥) → finmap.get pages q ≡ Some x → so_far next (q, x) ≡ so_far (k + 1) (q, x)
      others q x differs at = elim (cases_lt q next) [
        | inl before ↦ up_to (is_tagged tag from to (q, x)) q next before ∙ sym (up_to (is_tagged tag from to (q, x)) q (k + 1) (let l = reached in omega (arith, l, before)))
        | inr after ↦ past (is_tagged tag from to (q, x)) q next after ∙ elim (cases_lt q k) [
          | inl between ↦ elim (cases_Bool (is_tagged tag from to (q, x))) [
            | inl is ↦ absurd (let l = found_lowest (done next) (is_tagged tag next to) (k, page) hit q x (untouched q after ∙ at) (lower_from from next to q (has x.tags tag) low after ∙ is) in omega (arith, l, between))
            | inr isnt ↦ sym (ap (λ b. b && ltb q (k + 1)) isnt)
          ]
          | inr above ↦ sym (past (is_tagged tag from to (q, x)) q (k + 1) (omega (arith, above, differs)))
        ]
      ]

      pub step_pages : change_at k (with_tag other true) (done next) ≡ done (k + 1)
      step_pages = same_nat_map _ _ (λ q. elim (cases_eq q k) [
        | inl same ↦ change_here k (with_tag other true) (done next) q same ∙ ap (λ z. option_map (with_tag other true) (finmap.get (done next) z)) same ∙ ap (option_map (with_tag other true)) it.1
            ∙ sym (ap (finmap.get (done (k + 1))) same ∙ get-tag_each (so_far (k + 1)) other pages k ∙ ap (option_map (λ x. tag_if (so_far (k + 1)) other (k, x))) there ∙ ap (λ b. Some (cond b (with_tag other true page) page)) (up_to (is_tagged tag from to (k, page)) k (k + 1) (omega arith) ∙ passes))
        | inr differs ↦ change_there k (with_tag other true) (done next) q differs ∙ get-tag_each (so_far next) other pages q ∙ go q differs (finmap.get pages q) refl ∙ sym (get-tag_each (so_far (k + 1)) other pages q)
      ])
        where
          go : (q : ℕ) → (q ≡ k → ⊥) → (o : Option Mapped) → finmap.get pages q ≡ o → option_map (λ x. tag_if (so_far next) other (q, x)) o ≡ option_map (λ x. tag_if (so_far (k + 1)) other (q, x)) o
          go q differs None e = refl
          go q differs (Some x) e = ap (λ b. Some (cond b (with_tag other true x) x)) (others q x differs e)

      pub step_count : count (so_far (k + 1)) pages ≡ count (so_far next) pages + 1
      step_count = count_one_more (so_far next) (so_far (k + 1)) pages k page there (past (is_tagged tag from to (k, page)) k next reached) (up_to (is_tagged tag from to (k, page)) k (k + 1) (omega arith) ∙ passes) others

    module _ (miss : find (is_tagged tag next to) (finmap.entries (done next)) ≡ None) where
      all_done : (q : ℕ) (x : Mapped) → finmap.get pages q ≡ Some x → so_far next (q, x) ≡ is_tagged tag from to (q, x)
      all_done q x at = elim (cases_lt q next) [
        | inl before ↦ up_to (is_tagged tag from to (q, x)) q next before
        | inr after ↦ past (is_tagged tag from to (q, x)) q next after ∙ sym (sym (lower_from from next to q (has x.tags tag) low after) ∙ found_none (done next) (is_tagged tag next to) miss q x (untouched q after ∙ at))
      ]

      pub end_pages : done next ≡ tag_each (is_tagged tag from to) other pages
      end_pages = tag_alike (so_far next) (is_tagged tag from to) other pages all_done

      pub end_count : count (so_far next) pages ≡ count (is_tagged tag from to) pages
      end_count = count_same (so_far next) (is_tagged tag from to) pages all_done

-- ---- a step of the walk, and its end

found_some : (o : Option (ℕ × Mapped)) (f : FoundPage) → Some f ≡ option_map found_page o → (e : ℕ × Mapped) × ((o ≡ Some e) × (found_page e ≡ f))
found_some None f is = absurd (none-some f (sym is))
found_some (Some e) f is = (e, (refl, same_Some (found_page e) f (sym is)))

found_nothing : (o : Option (ℕ × Mapped)) → None ≡ option_map found_page o → o ≡ None
found_nothing None is = refl
found_nothing (Some e) is = absurd (none-some (found_page e) is)

module _ (tag other : Tag) (from to : ℕ) (now : FilePages) (next : ℕ) (low : from ≤ next) (file : FilePages) (is : file ≡ record now { pages = tagged_before tag other from to now.pages next }) where
  pages_are : file.pages ≡ tagged_before tag other from to now.pages next
  pages_are = ap (λ (f : FilePages). f.pages) is

  -- the page that is found is tagged
  pub record IsStep (at : ℕ) : Type 0 where
    pub reached : next ≤ at
    pub pages : record file { pages = change_at at (with_tag other true) file.pages } ≡ record now { pages = tagged_before tag other from to now.pages (at + 1) }
    pub counts : count (before_next tag from to (at + 1)) now.pages ≡ count (before_next tag from to next) now.pages + 1

  pub step : (f : FoundPage) → Some f ≡ lowest (is_tagged tag next to) file.pages → IsStep f.page.0
  step f told =
      let e = found_some (find (is_tagged tag next to) (finmap.entries file.pages)) f told in
      let hit = ap (λ pages. find (is_tagged tag next to) (finmap.entries pages)) (sym pages_are) ∙ e.1.0 in
      let at : e.0.0 ≡ f.page.0 = ap (λ (f : FoundPage). f.page.0) e.1.1 in
      subst IsStep at (record {
        reached = reached tag other from to now.pages next low e.0.0 e.0.1 hit;
        pages = ap (λ (f : FilePages). record f { pages = change_at e.0.0 (with_tag other true) f.pages }) is ∙ ap (λ pages. record now { pages = pages }) (step_pages tag other from to now.pages next low e.0.0 e.0.1 hit);
        counts = step_count tag other from to now.pages next low e.0.0 e.0.1 hit;
      })

  pub ends : None ≡ lowest (is_tagged tag next to) file.pages → (file ≡ record now { pages = tag_each (is_tagged tag from to) other now.pages }) × (count (before_next tag from to next) now.pages ≡ count (is_tagged tag from to) now.pages)
  ends told =
      let miss = ap (λ pages. find (is_tagged tag next to) (finmap.entries pages)) (sym pages_are) ∙ found_nothing (find (is_tagged tag next to) (finmap.entries file.pages)) told in
      (is ∙ ap (λ pages. record now { pages = pages }) (end_pages tag other from to now.pages next low miss), end_count tag other from to now.pages next low miss)

  -- the pages have the numbers that they had
  pub were_numbered : IsNumbered file.pages → IsNumbered now.pages
  were_numbered numbered = record {
    each = λ p page at.
        let test : ℕ × Mapped → Bool = before_next tag from to next in
        numbered.each p (tag_if test other (p, page)) (ap (λ m. finmap.get m p) pages_are ∙ get-tag_each test other now.pages p ∙ ap (option_map (λ page. tag_if test other (p, page))) at);
  }
